use Rattle.std.proofs.Common.{◌<ℤ◌, ◌≤ℤ◌, ◌≤◌, ◌-◌, length}
use Rattle.std.specs.List.{AllWithin}
use Rattle.pp_domain.proofs.places.ended_below.Given as goal

abbrev pub invariant-loop-low : goal.invariant-loop-low
invariant-loop-low l = record {
  order : l.low ≤ l.high;
  bound : l.high ≤ length l.intervals;
  before : AllWithin (λ p. p.1 <ℤ l.value) l.intervals 0 l.low;
  after : AllWithin (λ p. l.value ≤ℤ p.1) l.intervals l.high (length l.intervals);
}

abbrev pub decreases-loop-low : goal.decreases-loop-low
decreases-loop-low l = l.high - l.low
