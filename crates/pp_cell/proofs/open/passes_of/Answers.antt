use Rattle.std.proofs.Common.{rules, ◌≡◌, ◌<◌, ◌++◌, ◌∷◌, [], ◌∙◌, Some, map, slice_get, length, remove, sym, ap, subst, arith}
use Rattle.std.proofs.lemmas.List.{length-map, map_push, nil_from_length}
use Rattle.pp_turn.specs.Seats.{Rests}
use Rattle.pp_turn.proofs.Lists.{append_nil, by_place_snoc}
use Rattle.pp_cell.proofs.Rows.{at_join, front, shift}
use Rattle.pp_cell.proofs.open.passes_of.Goals as goal

pub pass_of-requires-clause-seat : goal.pass_of-requires-clause-seat
pass_of-requires-clause-seat g c κs within =
    let inv = c.loop-seats.invariant in
    let r = c.remove-seat.result in
    let q = c.requires.seats in
    let some : 0 < length c.loop-seats.seats.items = search rules in
    let first : c.loop-seats.seats.items ≡ r ∷ remove c.loop-seats.seats.items 0 = front c.loop-seats.seats.items r some c.remove-seat.ensures.value in
    let n : c.loop-seats.number ≡ length c.loop-seats.all.items = search rules in
    let at : slice_get c.args.seats.items c.loop-seats.number ≡ Some r =
    ap (λ l. slice_get l c.loop-seats.number) (sym inv.seats ∙ ap (λ l. map (λ p. p.seat) c.loop-seats.all.items ++ l) first)
    ∙ (ap (slice_get (map (λ p. p.seat) c.loop-seats.all.items ++ r ∷ remove c.loop-seats.seats.items 0)) (n ∙ sym (length-map c.loop-seats.all.items (λ p. p.seat)))
    ∙ at_join (map (λ p. p.seat) c.loop-seats.all.items) (remove c.loop-seats.seats.items 0) r) in
    (q.0, subst (λ t. Rests q.0 (Some (record { space = c.args.space.now; root = t })) c.loop-seats.number 1 [] r) (sym c.in_ok-begun.ensures) (q.1 c.loop-seats.number r at))

pub loop-seats-preserved : goal.loop-seats-preserved
loop-seats-preserved g c =
    let inv = c.loop-seats.invariant in
    let r = c.remove-seat.result in
    let some : 0 < length c.loop-seats.seats.items = search rules in
    let first : c.loop-seats.seats.items ≡ r ∷ remove c.loop-seats.seats.items 0 = front c.loop-seats.seats.items r some c.remove-seat.ensures.value in
    let rest = c.remove-seat.ensures.items in
    let now = c.push_reserved.ensures.items in
    let n : c.loop-seats.number ≡ length c.loop-seats.all.items = search rules in
    record {
      number = omega arith;
      room = omega arith;
      count = omega arith;
      seats =
          ap (λ l. map (λ p. p.seat) l ++ c.remove-seat.new.self.items) now
          ∙ (ap (λ l. l ++ c.remove-seat.new.self.items) (map_push (λ p. p.seat) c.loop-seats.all.items c.pass_of.result)
          ∙ (ap (λ x. (map (λ p. p.seat) c.loop-seats.all.items ++ x ∷ []) ++ c.remove-seat.new.self.items) c.pass_of.ensures.seat
          ∙ (sym (shift (map (λ p. p.seat) c.loop-seats.all.items) c.remove-seat.new.self.items r)
          ∙ (ap (λ l. map (λ p. p.seat) c.loop-seats.all.items ++ r ∷ l) rest ∙ (ap (λ l. map (λ p. p.seat) c.loop-seats.all.items ++ l) (sym first) ∙ inv.seats)))));
      passes = rw now (by_place_snoc (λ i p. (p.space.now ≡ c.args.space.now) × (p.root ≡ c.args.root.now) × (p.number ≡ i)) c.loop-seats.all.items c.pass_of.result inv.passes (c.pass_of.ensures.space, c.pass_of.ensures.root ∙ c.in_ok-begun.ensures, c.pass_of.ensures.number ∙ n));
    }

pub returns-clause-seats : goal.returns-clause-seats
returns-clause-seats g c =
    let inv = c.loop-seats.invariant in
    let zero : length c.loop-seats.seats.items ≡ 0 = search rules in
    let none : c.loop-seats.seats.items ≡ [] = nil_from_length c.loop-seats.seats.items zero in
    sym (append_nil (map (λ p. p.seat) c.loop-seats.all.items)) ∙ (ap (λ l. map (λ p. p.seat) c.loop-seats.all.items ++ l) (sym none) ∙ inv.seats)
