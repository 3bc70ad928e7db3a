use Rattle.std.proofs.Common.{◌≡◌, take}
use Rattle.pp_heap.proofs.state.State.copy.Given as goal

abbrev pub invariant-loop-domain : goal.invariant-loop-domain
invariant-loop-domain l = l.domains.items ≡ take l.domain-index l.self.domains.items
