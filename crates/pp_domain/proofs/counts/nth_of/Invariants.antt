use Rattle.std.proofs.Common.{◌≡◌, drop}
use Rattle.std.specs.Prelude.{slice_get}
use Rattle.pp_domain.specs.Intervals.{integers}
use Rattle.pp_domain.proofs.counts.nth_of.Given as goal

abbrev pub invariant-loop-low : goal.invariant-loop-low
invariant-loop-low l = slice_get (integers (drop l.low-index l.intervals)) l.left ≡ slice_get (integers l.intervals) l.fn.place
