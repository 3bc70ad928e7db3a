-- How many variables a clause has, and which clauses and queries are within the limits.
use Rattle.std.specs.Prelude.{◌≡◌, ℕ, ◌≤◌, Bool, true, false, nat_eq, List, [], ◌++◌, length, count_by}
use Rattle.std.specs.List.{flat_map}
use Rattle.pp_algebra.specs.Terms.{variables_all}
use Rattle.pp_algebra.specs.Canon.{firsts}
use Rattle.pp_sld.specs.Goals as goals
use Rattle.pp_term.specs.declared.clause.Clause.{Clause}
use Rattle.pp_term.specs.declared.query.Item.{Item}
use Rattle.pp_term.specs.declared.query.Item.TheVariants.{Equate, Member, Infer}
use Rattle.pp_term.specs.declared.query.Query.{Query}
use Rattle.pp_term.specs.Meanings.{clause_of}
use Rattle.pp_term.specs.WellFormed.{IsClause, IsQuery}

-- the variables of a clause, each as often as it stands there
abbrev pub variables_of : goals.Clause → List ℕ
variables_of c = variables_all c.head ++ flat_map (λ g. variables_all g.arguments) c.body

-- `vars` is the number of the clause's distinct variables
abbrev pub IsCounted : Clause → Type 0
IsCounted c = c.vars ≡ length (firsts nat_eq [] (variables_of (clause_of c).1))

abbrev pub is_annotated : Item → Bool
is_annotated (Equate a b) = false
is_annotated (Member t d) = false
is_annotated (Infer s ts m) = true

-- a clause as it is read
pub record IsReadClause (c : Clause) : Type 0 where
  pub formed : IsClause c
  pub counted : IsCounted c
  pub few_variables : c.vars ≤ 255

-- the query as it is read
pub record IsReadQuery (q : Query) : Type 0 where
  pub formed : IsQuery q
  pub few_variables : q.vars ≤ 10000
  pub few_goals : count_by is_annotated q.items ≤ 1000
