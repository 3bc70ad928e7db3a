use Rattle.std.proofs.Common.{◌≡◌, map}
use Rattle.pp_row.specs.Columns.{sets_of}
use Rattle.pp_heap.specs.Values.{slot_at, slot_domain}
use Rattle.pp_unify.proofs.terms.domains_of.Given as goal

abbrev pub invariant-loop-number : goal.invariant-loop-number
invariant-loop-number l = sets_of l.domains.items ≡ map (λ v. slot_domain l.state.domains.items (slot_at l.state.slots.items v)) (map (λ b. b.now) l.yielded)
