use Rattle.std.proofs.Common.{◌≡◌, take}
use Rattle.pp_store.proofs.rows.domain_copies.Given as goal

abbrev pub invariant-loop-domain : goal.invariant-loop-domain
invariant-loop-domain l = l.copies.items ≡ take l.domain-index l.domains
