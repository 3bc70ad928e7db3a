use Rattle.std.proofs.Common.{◌<◌, ◌≤◌, ◌-◌}
use Rattle.pp_resolve.specs.Engines.{WaitBefore}
use Rattle.pp_resolve.proofs.engine.Engine.still_waiting.Given as goal

abbrev pub invariant-loop-low : goal.invariant-loop-low
invariant-loop-low l = record {
  order : l.low ≤ l.high;
  upto : l.high ≤ l.fn.self.front.waits.upto;
  above : l.low < l.high → l.low < l.next;
  within : l.low < l.high → l.next ≤ l.high;
  wait : WaitBefore l.fn.self l.low;
}

abbrev pub decreases-loop-low : goal.decreases-loop-low
decreases-loop-low l = l.high - l.low
