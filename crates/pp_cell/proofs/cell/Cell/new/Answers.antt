use Rattle.std.proofs.Common.{rules, ◌≡◌, ◌∙◌, slice_get, length, sym, ap, subst}
use Rattle.std.proofs.lemmas.List.{length-map}
use Rattle.pp_turn.specs.Seats.{AreSeats}
use Rattle.pp_cell.proofs.Rows.{map_at}
use Rattle.pp_cell.proofs.cell.Cell.new.Goals as goal

pub passes_of-requires-clause-seats : goal.passes_of-requires-clause-seats
passes_of-requires-clause-seats g c κs within =
    let b = c.in_ok-book.ensures in
    let root : c.in_ok-book.book.core.root ≡ c.args.root = b.root ∙ search rules in
    (c.in-Ok.turn, (subst (λ o. AreSeats c.in-Ok.turn o c.in-Ok.rights.items) (λ k. record { space = b.space k; root = root k }) c.in-Ok.ensures.seats))

pub returns-in-Ok-clause-passes : goal.returns-in-Ok-clause-passes
returns-in-Ok-clause-passes g c =
    let rights : length c.in-Ok.rights.items ≡ c.args.seats = search rules in
    let count : length c.in_ok-passes-in-Ok.passes.items ≡ length c.in-Ok.rights.items = sym (length-map c.in_ok-passes-in-Ok.passes.items (λ p. p.seat)) ∙ ap length c.in_ok-passes-in-Ok.ensures.seats in (
      count ∙ (rights ∙ sym c.in-Ok.ensures.count.1),
      (λ i p at.
          let r = c.in-Ok.ensures.seats i p.seat (ap (λ l. slice_get l i) (sym c.in_ok-passes-in-Ok.ensures.seats) ∙ map_at (λ p. p.seat) c.in_ok-passes-in-Ok.passes.items i p at) in
          (r.turn, (c.in_ok-passes-in-Ok.ensures.passes i p at).2)),
    )

pub returns-in-Ok-clause-begun : goal.returns-in-Ok-clause-begun
returns-in-Ok-clause-begun g c i p at =
    let r = c.in-Ok.ensures.seats i p.seat (ap (λ l. slice_get l i) (sym c.in_ok-passes-in-Ok.ensures.seats) ∙ map_at (λ p. p.seat) c.in_ok-passes-in-Ok.passes.items i p at) in
    let q = c.in_ok-passes-in-Ok.ensures.passes i p at in
    (q.0, q.1, r.seen)
