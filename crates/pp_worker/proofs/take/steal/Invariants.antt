use Rattle.std.proofs.Common.{◌≡◌, vec_len}
use Rattle.pp_worker.specs.Peeks.{AreSamePeeks, StoleNothing}
use Rattle.pp_worker.proofs.take.steal.Given as goal

abbrev pub invariant-loop-i : goal.invariant-loop-i
invariant-loop-i g l = record {
  same : AreSamePeeks l.initial.peeks.items l.peeks.items;
  none : StoleNothing l.initial.peeks.items l.peeks.items;
  count : vec_len l.peeks ≡ vec_len l.initial.peeks;
}
