use Rattle.std.proofs.Common.{◌≡◌, length, map}
use Rattle.pp_term.specs.Meanings.{program}
use Rattle.pp_store.specs.Kept.{IsStoreOf}
use Rattle.pp_store.specs.Queries.{goals_in}
use Rattle.pp_fix.proofs.Turning.{Between}
use Rattle.pp_fix.proofs.fix.run.Given as goal

abbrev pub invariant-loop-turn : goal.invariant-loop-turn
invariant-loop-turn g l = record {
  between : Between (program l.clauses) (goals_in l.goals) l.depth l.fn.store.row
      (map (λ w. (goal.Watcher-dyn g (w.vtable, w.value)).state w.value) l.fn.watchers.items) l.turn l.store.row l.progress.wake.waiting l.progress.unfinished.items
      (map (λ w. (goal.Watcher-dyn g (w.vtable, w.value)).state w.value) l.watchers.items);
  of_query : IsStoreOf l.goals l.store;
  goals : l.progress.wake.goals ≡ length (goals_in l.goals);
}
