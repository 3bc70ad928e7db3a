-- What a text writes: its names, its clauses and its query.
use Rattle.std.specs.Prelude.{ℕ, List}
use Rattle.pp_algebra.specs.Solve.{Item}
use Rattle.pp_sld.specs.Goals.{Predicate, Goal, Clause}
use Rattle.pp_sld.specs.Verdicts.{Mode}
use Rattle.pp_language.specs.Texts.{Text}

-- an item of a query is solved before the run, or it is an annotated goal
pub data QueryItem : Type 0 where
  solves : Item ℕ → QueryItem
  infers : Goal ℕ → Mode → QueryItem

-- the variables are numbered from 0, and the first of them have these names
pub record Query : Type 0 where
  pub variables : ℕ
  pub named : List Text
  pub items : List QueryItem

-- an atom is numbered by its place among the names
pub record Written : Type 0 where
  pub names : List Text
  pub clauses : List (Predicate × Clause)
  pub query : Query
