use Rattle.std.proofs.Common.{subst, ap, Some, ◌∙◌}
use Rattle.std.proofs.lemmas.Result.{IfOk-weaker}
use Rattle.pp_domain.specs.Sets.{set_of}
use Rattle.pp_heap.specs.Values.{domain_by}
use Rattle.pp_heap.specs.Soundness.{IsPlace}
use Rattle.pp_heap.specs.Outcomes.{IsMeeting, IsSettled}
use Rattle.pp_heap.proofs.Members.{meet_meets, domain_read}
use Rattle.pp_heap.proofs.state.State.meet_domain.Goals as goal
use Rattle.pp_heap.proofs.state.State.meet_domain.Goals.{in-None+in_ok-copy-in-None, in-Some+in_ok-common-in-Some}

pub returns-clause-meeting : goal.returns-clause-meeting
returns-clause-meeting c =
    let now = c.settle.new.self.domains.items in
    IfOk-weaker c.settle.result (IsSettled now c.match-place.common) (IsMeeting now (domain_by c.args.self.now.domains.items c.args.place) (Some (set_of c.args.domain.now)))
    (λ m h. elim c.match-place.branch [
      | in-None+in_ok-copy-in-None w ↦ rw w.in-None.is (subst (λ x. IsSettled now x m) (w.common-is ∙ ap Some w.in_ok-copy-in-None.ensures) h)
      | in-Some+in_ok-common-in-Some w ↦ (
          let ds = c.args.self.now.domains.items in
          let p = subst (IsPlace ds) w.in-Some.is c.requires.place in
          rw (w.in-Some.is, domain_read ds w.in-Some.place w.index.result.now w.index.ensures p) (meet_meets now (set_of w.index.result.now) (set_of c.args.domain.now) w.in_ok-common-in-Some.common m w.in_ok-common-in-Some.ensures (subst (λ x. IsSettled now x m) w.common-is h)))
    ])
    c.settle.ensures.settled
