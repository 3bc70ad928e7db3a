-- The laws of the end of a run, as statements.
use Rattle.std.specs.Prelude.{◌≡◌, ◌≢◌, ℕ, ◌<◌, List, length, All}
use Rattle.pp_algebra.specs.Rows.{Row, IsRow}
use Rattle.pp_sld.specs.Goals.{Program}
use Rattle.pp_sld.specs.Verdicts.{narrow}
use Rattle.pp_language.specs.Told.{sum_of_sizes}
use Rattle.pp_propagation.specs.Stores.{Asked, face, apply}
use Rattle.pp_propagation.specs.Histories.{unfinished_goals}
use Rattle.pp_propagation.specs.Runs.{Run, yes, stopped, IsRunFrom}
use Rattle.pp_fixpoint.specs.Fixpoints.{HasVerdictUnder, IsFixpoint, IsFinite, AreEnoughTurns}

-- a goal that narrows has another face then, so it is woken itself
abbrev pub NarrowingChangesFace : Type 0
NarrowingChangesFace = (clauses : Program) (depth : ℕ) (store : Row) (a : Asked) (given : Row)
    → HasVerdictUnder clauses depth store a (narrow given) → face (apply store a.goal given) a.goal ≢ face store a.goal

-- where no goal waits any more, the store is a fixpoint, and the unfinished goals are those whose last verdict was that
abbrev pub RunsEndAtFixpoints : Type 0
RunsEndAtFixpoints = (clauses : Program) (goals : List Asked) (depth turns : ℕ) (store : Row) (r : Run)
    → IsRunFrom clauses goals depth turns store r → r.end ≡ yes
    → IsFixpoint clauses goals depth r.store (unfinished_goals (length goals) r.history)

-- a store of finite domains has smaller ones where a goal narrows: a merged variable is counted once
abbrev pub NarrowingShrinks : Type 0
NarrowingShrinks = (clauses : Program) (depth : ℕ) (store : Row) (a : Asked) (given : Row) → IsRow store
    → All IsFinite store.domains → HasVerdictUnder clauses depth store a (narrow given)
    → All IsFinite (apply store a.goal given).domains
    × (sum_of_sizes (apply store a.goal given).domains < sum_of_sizes store.domains)

-- so a run of enough turns isn't stopped
abbrev pub TurnsAreEnough : Type 0
TurnsAreEnough = (clauses : Program) (goals : List Asked) (depth turns : ℕ) (store : Row) (r : Run)
    → IsRunFrom clauses goals depth turns store r → AreEnoughTurns goals store turns → r.end ≢ stopped
