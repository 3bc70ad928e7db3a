use Rattle.std.proofs.Common.{◌≡◌, ◌+◌, length, drop}
use Rattle.pp_domain.specs.Intervals.{integers}
use Rattle.pp_domain.proofs.counts.total.Given as goal

abbrev pub invariant-loop-low : goal.invariant-loop-low
invariant-loop-low l = l.total + length (integers (drop l.low-index l.intervals)) ≡ length (integers l.intervals)
