-- Configurations whose variables have any numbers, and the same with their variables numbered by first occurrence.
use Rattle.std.specs.Prelude.{ℕ, nat_eq, [], map}
use Rattle.pp_algebra.specs.Terms.{Tree, variable, Trees, put_all, variables_all}
use Rattle.pp_algebra.specs.Rows.{domain_at}
use Rattle.pp_algebra.specs.Covers.{IsIn}
use Rattle.pp_algebra.specs.Canon.{firsts, place}
use Rattle.pp_sld.specs.Goals.{Config, put_goal, with_goals}

-- the goals and the columns side by side
abbrev pub terms_of : Config → Trees ℕ
terms_of c = with_goals c.goals c.columns

-- the number of a variable by its first occurrence
abbrev pub number_in : Config → ℕ → Tree ℕ
number_in c v = variable (place nat_eq (firsts nat_eq [] (variables_all (terms_of c))) v)

-- the variables numbered by first occurrence
abbrev pub numbered : Config → Config
numbered c = record {
  goals = map (put_goal (number_in c)) c.goals;
  columns = put_all (number_in c) c.columns;
  domains = map (domain_at c.domains) (firsts nat_eq [] (variables_all (terms_of c)));
  depth = c.depth;
}

-- the variables of these terms stand in the configuration
abbrev pub StandIn : Config → Trees ℕ → Type 0
StandIn c ts = (v : ℕ) → IsIn v (variables_all ts) → IsIn v (variables_all (terms_of c))
