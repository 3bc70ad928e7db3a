use Rattle.std.proofs.Common.{rules, ◌≡◌, ◌<◌, ◌++◌, ◌∷◌, [], ◌∙◌, length, remove, sym, ap, append_assoc, append-nil}
use Rattle.std.proofs.lemmas.List.{nil_from_length}
use Rattle.pp_cell.proofs.Rows.{front}
use Rattle.pp_deal.specs.Hands.{offered}
use Rattle.pp_worker.proofs.offer.offer_all.Goals as goal

pub loop-hand-preserved : goal.loop-hand-preserved
loop-hand-preserved g c =
    let inv = c.loop-hand.invariant in
    let t = c.remove.result in
    let some : 0 < length c.loop-hand.tasks.items = search rules in
    let first : c.loop-hand.tasks.items ≡ t ∷ remove c.loop-hand.tasks.items 0 = front c.loop-hand.tasks.items t some c.remove.ensures.value in
    let more : offered c.offer.new.self ≡ offered c.loop-hand.hand ++ t ∷ [] = search rules in
    record {
      hand = record { deque = c.offer.ensures.hand.0.deque ∙ inv.hand.deque; peeks = c.offer.ensures.hand.0.peeks ∙ inv.hand.peeks };
      taken = c.offer.ensures.hand.1 ∙ inv.taken;
      offered = ap (λ l. offered c.offer.new.self ++ l) c.remove.ensures.items ∙ (ap (λ l. l ++ remove c.loop-hand.tasks.items 0) more ∙ (append_assoc (offered c.loop-hand.hand) (t ∷ []) (remove c.loop-hand.tasks.items 0) ∙ (ap (λ l. offered c.loop-hand.hand ++ l) (sym first) ∙ inv.offered)));
    }

pub returns-clause-offered : goal.returns-clause-offered
returns-clause-offered g c =
    let zero : length c.loop-hand.tasks.items ≡ 0 = search rules in
    sym (append-nil (offered c.loop-hand.hand)) ∙ (ap (λ l. offered c.loop-hand.hand ++ l) (sym (nil_from_length c.loop-hand.tasks.items zero)) ∙ c.loop-hand.invariant.offered)
