use Rattle.std.proofs.Common.{◌≡◌, ◌++◌, map, drop}
use Rattle.pp_propagation.specs.Watchers.{told}
use Rattle.pp_watch.proofs.note.tell_all.Given as goal

abbrev pub invariant-loop-watcher : goal.invariant-loop-watcher
invariant-loop-watcher g l =
    l.out.items ++ told l.names (map (λ w. (goal.Watcher-dyn g (w.vtable, w.value)).state w.value) (drop l.watcher-index l.watchers))
    ≡ told l.names (map (λ w. (goal.Watcher-dyn g (w.vtable, w.value)).state w.value) l.watchers)
