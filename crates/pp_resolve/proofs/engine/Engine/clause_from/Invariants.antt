use Rattle.std.proofs.Common.{ℕ, ◌-◌, ◌<◌, ◌≤◌, ◌^◌}
use Rattle.pp_term.specs.Meanings.{program}
use Rattle.pp_walk.specs.Moves.{HasChoice, IsDeadAt}
use Rattle.pp_resolve.specs.Engines.{place_of}
use Rattle.pp_resolve.proofs.engine.Engine.clause_from.Given as goal

abbrev pub invariant-loop-place : goal.invariant-loop-place
invariant-loop-place l = record {
  later : l.fn.from ≤ l.next;
  passed : (k : ℕ) → l.fn.from ≤ k → k < l.next → HasChoice (program l.fn.self.clauses.now) (place_of l.fn.self).here k → IsDeadAt (program l.fn.self.clauses.now) (place_of l.fn.self).here k;
}

abbrev pub decreases-loop-place : goal.decreases-loop-place
decreases-loop-place l = 2 ^ 32 - l.next
