use Rattle.pp_domain.specs.Sets.{set_of}
use Rattle.pp_heap.proofs.Words.{word}
use Rattle.pp_heap.proofs.Members.{one_meets}
use Rattle.pp_heap.proofs.state.State.settle.Goals as goal

pub returns-in-Some-only_member-clause-settled : goal.returns-in-Some-only_member-clause-settled
returns-in-Some-only_member-clause-settled c =
    let h = c.in-Some-only_member.ensures in
    rw (word c.in-Some-only_member.value h.integer, c.in-Some.is) (one_meets c.args.self.now.domains.items (set_of c.in-Some.domain) c.in-Some-only_member.value h)
