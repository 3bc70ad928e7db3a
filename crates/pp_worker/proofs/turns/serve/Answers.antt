use Rattle.std.proofs.Common.{◌≡◌, ◌∙◌, ◌++◌, ◌∷◌, [], ap, append_assoc}
use Rattle.pp_cell.specs.Entries.{entry, act_of}
use Rattle.pp_cell.specs.Passes.{own_entries, pass_number}
use Rattle.pp_deal.specs.Hands.{offered, taken}
use Rattle.pp_worker.specs.Turns.{looks_if, offers_if}
use Rattle.pp_worker.proofs.Peeks.{taken_then}
use Rattle.pp_worker.proofs.turns.serve.Goals as goal

pub returns-clause-turned : goal.returns-clause-turned
returns-clause-turned g c =
    let d = c.args.desk.now in
    let r = c.in_ok-report.field-0.report in
    let a = c.in_ok-accepted.accepted in
    let same = c.explore.ensures.pass in
    let sent : own_entries c.send.new.desk.pass ≡ own_entries d.pass ++ entry (pass_number d.pass) (act_of a r) ∷ [] =
    c.in_ok-accepted.ensures.own ∙ ap (λ z. own_entries z ++ entry (pass_number z) (act_of a r) ∷ []) same in
    let number : pass_number c.send.new.desk.pass ≡ pass_number d.pass = c.send.ensures.pass.number ∙ ap (λ z. pass_number z) same in
    let rest : c.in_ok-report.field-0.offers.items ≡ r.rest = c.in_ok-report.ensures.offers in
    let hand : offered c.send.new.desk.hand ≡ offered d.hand = ap (λ h. offered h) c.send.ensures.hand ∙ (ap (λ h. offered h) c.explore.ensures.hand ∙ c.next_task.ensures.hand.1) in
    let taken : taken c.look_if_settled.new.desk.hand ≡ taken c.next_task.new.hand =
    ap (λ h. taken h) c.look_if_settled.ensures.hand ∙ (c.offer_if_taken.ensures.hand.1 ∙ (ap (λ h. taken h) c.send.ensures.hand ∙ ap (λ h. taken h) c.explore.ensures.hand)) in
    let peeks : c.look_if_settled.new.desk.peeks.items ≡ c.next_task.new.peeks.items =
    ap (λ v. v.items) (c.look_if_settled.ensures.peeks ∙ (c.send.ensures.peeks ∙ c.explore.ensures.peeks)) in
    record {
      report = r;
      accepted = a;
      task = taken_then _ r.task d.hand c.next_task.new.hand c.look_if_settled.new.desk.hand d.peeks.items c.next_task.new.peeks.items c.look_if_settled.new.desk.peeks.items c.in_ok-report.ensures.task taken peeks c.in-Some.ensures.taken;
      own = c.in_ok-look_if_settled.ensures.own ∙ ((λ i. sent i ++ looks_if (number i) a) ∙ append_assoc (own_entries d.pass) (entry (pass_number d.pass) (act_of a r) ∷ []) (looks_if (pass_number d.pass) a));
      offers = ap (λ h. offered h) c.look_if_settled.ensures.hand ∙ (c.in_ok-offer_if_taken.ensures.offered ∙ (λ i. hand i ++ offers_if a (rest i)));
      settled = c.in_ok-look_if_settled.ensures.settled;
    }
