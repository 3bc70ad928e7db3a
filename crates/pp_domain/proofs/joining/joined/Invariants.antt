use Rattle.std.proofs.Common.{◌+◌, ◌-◌, length}
use Rattle.pp_domain.proofs.Union.{Gathers}
use Rattle.pp_domain.proofs.joining.joined.Given as goal

abbrev pub invariant-loop-i : goal.invariant-loop-i
invariant-loop-i l = Gathers l.a l.b l.i l.j l.done.items l.last

abbrev pub decreases-loop-i : goal.decreases-loop-i
decreases-loop-i l = (length l.a - l.i) + (length l.b - l.j)
