use Rattle.std.proofs.Common.{◌-◌, ◌≤◌, length}
use Rattle.pp_store.specs.Patterns.{AreLonger}
use Rattle.pp_store.proofs.pattern.grow_domains.Given as goal

abbrev pub invariant-loop-domains : goal.invariant-loop-domains
invariant-loop-domains l = record {
  longer : AreLonger l.initial.domains.items l.domains.items;
  least : length l.initial.domains.items ≤ l.count → length l.domains.items ≤ l.count;
}

abbrev pub decreases-loop-domains : goal.decreases-loop-domains
decreases-loop-domains l = l.count - length l.domains.items
