use Rattle.std.proofs.Common.{◌≡◌, ◌-◌, ◌≤◌}
use Rattle.pp_propagation.specs.Histories.{numbers_from}
use Rattle.pp_store.proofs.numbers.fresh.Given as goal

abbrev pub invariant-loop-number : goal.invariant-loop-number
invariant-loop-number l = record {
  from : l.first ≤ l.number;
  numbers : l.numbers.items ≡ numbers_from l.first (l.number - l.first);
}
