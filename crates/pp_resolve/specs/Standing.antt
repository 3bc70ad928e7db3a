-- Goals and columns over the variables of the bindings, and the configuration that they are with all bindings in place.
use Rattle.std.specs.Prelude.{ℕ, ◌+◌, List, map}
use Rattle.pp_algebra.specs.Terms.{Tree, variable, Trees, put_all}
use Rattle.pp_algebra.specs.Rows.{Row}
use Rattle.pp_sld.specs.Goals.{Goal, Config, put_goal}
use Rattle.pp_moves.specs.Numbered.{numbered}
use Rattle.pp_unify.specs.States.{value_in}

-- the variables of a clause, counted from a first one
abbrev pub counted : ℕ → ℕ → Tree ℕ
counted first v = variable (first + v)

-- the goals and columns with all bindings in place; its variables are those of the row
abbrev pub standing : Row → List (Goal ℕ) → Trees ℕ → ℕ → Config
standing r goals columns depth = record {
  goals = map (put_goal (value_in r)) goals;
  columns = put_all (value_in r) columns;
  domains = r.domains;
  depth = depth;
}

-- the configuration
abbrev pub config_in : Row → List (Goal ℕ) → Trees ℕ → ℕ → Config
config_in r goals columns depth = numbered (standing r goals columns depth)
