use Rattle.std.proofs.Common.{◌≤◌, ◌+◌, ◌-◌, length, drop}
use Rattle.std.specs.Prelude.{◌↔◌}
use Rattle.pp_domain.proofs.Canonical.{AllLie}
use Rattle.pp_domain.proofs.inclusion.all_lie.Given as goal

abbrev pub invariant-loop-i : goal.invariant-loop-i
invariant-loop-i l = record {
  i_bound : l.i ≤ length l.a;
  j_bound : l.j ≤ length l.b;
  same : AllLie l.a l.b ↔ AllLie (drop l.i l.a) (drop l.j l.b);
}

abbrev pub decreases-loop-i : goal.decreases-loop-i
decreases-loop-i l = (length l.a - l.i) + (length l.b - l.j)
