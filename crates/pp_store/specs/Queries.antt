-- What a query stands for in the definitions of runs, and its annotated goals by their numbers.
use Rattle.std.specs.Prelude.{◌≡◌, ℕ, ◌≤◌, List, [], map, length, Some}
use Rattle.pp_sld.specs.Goals.{Goal}
use Rattle.pp_language.specs.Programs as programs
use Rattle.pp_propagation.specs.Stores.{Asked, goals_of}
use Rattle.pp_propagation.specs.Turns.{goal_at}
use Rattle.pp_row.specs.Columns.{trees_of}
use Rattle.pp_term.specs.declared.query.Query.{Query}
use Rattle.pp_term.specs.Meanings.{shape_of, mode_of}
use Rattle.pp_term.specs.WellFormed.{AreArguments}
use Rattle.pp_query.specs.Meanings.{item_of}
use Rattle.pp_store.specs.declared.goals.Annotated.{Annotated}

-- how it runs doesn't lie in its variables' names
abbrev pub query_by : Query → programs.Query
query_by q = record { variables = q.vars; named = []; items = map item_of q.items }

-- the annotated goals in textual order
abbrev pub goals_in : Query → List Asked
goals_in q = goals_of (map item_of q.items)

-- goals are numbered from 1
abbrev pub IsGoalIn : Query → ℕ → Type 0
IsGoalIn q k = (1 ≤ k) × (k ≤ length (goals_in q))

abbrev pub IsGoalAt : Query → ℕ → Asked → Type 0
IsGoalAt q k a = goal_at (goals_in q) k ≡ Some a

-- whatever is asked of the goal of this number
abbrev pub AtGoal : Query → ℕ → (Goal ℕ → Type 0) → Type 0
AtGoal q k P = (a : Asked) → IsGoalAt q k a → P a.goal

abbrev pub asked_by : Annotated → Asked
asked_by a = record {
  goal = record { shape = shape_of a.shape; arguments = trees_of a.arguments.now };
  mode = mode_of a.mode;
}

-- as many terms over the query's variables as what it calls has arguments
abbrev pub AreArgumentsOf : Query → Annotated → Type 0
AreArgumentsOf q a = AreArguments q.vars a.shape a.arguments.now
