use Rattle.std.proofs.Common.{ℕ, ◌<◌, ◌≤◌, take}
use Rattle.pp_algebra.specs.Covers.{IsIn}
use Rattle.pp_store.proofs.numbers.end_of.Given as goal

abbrev pub invariant-loop-number : goal.invariant-loop-number
invariant-loop-number l = record {
  first : l.first ≤ l.end;
  above : (x : ℕ) → IsIn x (take l.number-index l.numbers) → x < l.end;
}
