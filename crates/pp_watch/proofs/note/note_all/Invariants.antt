use Rattle.std.proofs.Common.{◌-◌, vec_len, map}
use Rattle.pp_watch.specs.Watching.{change_by}
use Rattle.pp_watch.proofs.Noting.{Noted}
use Rattle.pp_watch.proofs.note.note_all.Given as goal

abbrev pub invariant-loop-at : goal.invariant-loop-at
invariant-loop-at g l =
    Noted (change_by l.fn.change) l.at (map (λ w. (goal.Watcher-dyn g (w.vtable, w.value)).state w.value) l.watchers.items)
    (map (λ w. (goal.Watcher-dyn g (w.vtable, w.value)).state w.value) l.fn.watchers.items)

abbrev pub decreases-loop-at : goal.decreases-loop-at
decreases-loop-at g l = vec_len l.watchers - l.at
