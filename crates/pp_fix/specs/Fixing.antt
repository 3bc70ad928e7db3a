-- What the run of a query's goals from a store that is lent comes to.
use Rattle.std.specs.Prelude.{◌≡◌, ℕ, ◌≤◌, List, length}
use Rattle.pp_algebra.specs.Rows.{Row}
use Rattle.pp_sld.specs.Goals.{Program}
use Rattle.pp_propagation.specs.Stores.{Asked}
use Rattle.pp_propagation.specs.Turns.{State}
use Rattle.pp_propagation.specs.Histories.{unfinished_goals, changes}
use Rattle.pp_propagation.specs.Watchers.{Watcher, after}
use Rattle.pp_propagation.specs.Runs.{Run, yes, no, stopped, opening, Turns, HaveNoted, IsRunFrom}
use Rattle.pp_propagation.specs.Runs as runs
use Rattle.pp_fix.specs.declared.fix.End.{End}
use Rattle.pp_fix.specs.declared.fix.End.TheVariants.{Yes, No, Stopped}
use Rattle.pp_fix.specs.declared.fix.Fixed.{Fixed}

abbrev pub end_by : End → runs.End
end_by Yes = yes
end_by No = no
end_by Stopped = stopped

-- from this store there is a run that ends so, in that store, and the watchers have noted its changes
pub record IsFixed (clauses : Program) (goals : List Asked) (depth turns : ℕ) (begun last : Row)
    (old new : List Watcher) (f : Fixed) : Type 0 where
  pub run : Run
  pub is_run : IsRunFrom clauses goals depth turns begun run
  pub ends : run.end ≡ end_by f.end
  pub has_store : run.store ≡ last
  pub made : length run.history ≡ f.turns
  pub unfinished : f.unfinished ≡ unfinished_goals (length goals) run.history
  pub watched : new ≡ after old (changes run.history)

-- so many whole turns at most lead from one store to the other, and the watchers have noted their changes, or some of
-- them that of
-- the next turn too
pub record IsBetweenTurns (clauses : Program) (goals : List Asked) (depth turns : ℕ) (begun last : Row)
    (old new : List Watcher) : Type 0 where
  pub made : ℕ
  pub within : made ≤ turns
  pub state : State
  pub leads : Turns clauses goals depth made (opening goals begun) state
  pub has_store : state.store ≡ last
  pub noted : HaveNoted clauses goals depth state old new
