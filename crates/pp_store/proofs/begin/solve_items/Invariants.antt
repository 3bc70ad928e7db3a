use Rattle.std.proofs.Common.{drop}
use Rattle.pp_unify.specs.States.{present}
use Rattle.pp_store.proofs.Solving.{IsLeft}
use Rattle.pp_store.proofs.begin.solve_items.Given as goal

abbrev pub invariant-loop-item : goal.invariant-loop-item
invariant-loop-item l = IsLeft (present l.fn.bindings) l.items (present l.bindings) (drop l.item-index l.items)
