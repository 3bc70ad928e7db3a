use Rattle.std.proofs.Common.{subst, Some}
use Rattle.std.proofs.lemmas.Result.{IfOk-weaker}
use Rattle.pp_domain.specs.Sets.{set_of}
use Rattle.pp_heap.specs.Soundness.{IsPlace}
use Rattle.pp_heap.specs.Outcomes.{IsMeeting, IsSettled}
use Rattle.pp_heap.proofs.Members.{meet_meets, domain_read}
use Rattle.pp_heap.proofs.state.State.meet_places.Goals as goal

pub returns-in_ok-common-in-Some-Some-clause-meeting : goal.returns-in_ok-common-in-Some-Some-clause-meeting
returns-in_ok-common-in-Some-Some-clause-meeting c =
    let ds = c.args.self.now.domains.items in
    let p = subst (IsPlace ds) c.in-Some-Some.is-0 c.requires.one in
    let q = subst (IsPlace ds) c.in-Some-Some.is-1 c.requires.other in
    rw (c.in-Some-Some.is-0, c.in-Some-Some.is-1, domain_read ds c.in-Some-Some.one c.index.result.now c.index.ensures p, domain_read ds c.in-Some-Some.other c.index-in-Some-Some.result.now c.index-in-Some-Some.ensures q) (
    IfOk-weaker c.settle.result (IsSettled c.settle.new.self.domains.items c.in_ok-common-in-Some-Some.common) (IsMeeting c.settle.new.self.domains.items (Some (set_of c.index.result.now)) (Some (set_of c.index-in-Some-Some.result.now)))
    (λ m h. meet_meets c.settle.new.self.domains.items (set_of c.index.result.now) (set_of c.index-in-Some-Some.result.now) c.in_ok-common-in-Some-Some.common m c.in_ok-common-in-Some-Some.ensures h)
    c.settle.ensures.settled)
