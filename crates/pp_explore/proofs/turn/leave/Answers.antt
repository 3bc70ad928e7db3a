use Rattle.std.proofs.Common.{◌≤◌, length, subst, sym, refl}
use Rattle.pp_explore.proofs.Arriving.{next_has_level}
use Rattle.pp_explore.proofs.turn.leave.Goals as goal

pub overflow_sub-depth : goal.overflow_sub-depth
overflow_sub-depth g c =
    subst (λ x. 1 ≤ length x) (sym c.path.ensures) (next_has_level (g.M.SearchMachine.clauses c.args.walker.now.machine) c.args.work.now c.next.new.self c.next.ensures.next (c.if-not-next.ensures.left.0 refl))
