use Rattle.std.proofs.Common.{rules, ◌≡◌, ◌<◌, ◌∷◌, ◌∙◌, length, remove, sym, ap, subst, All}
use Rattle.pp_stop.specs.Seats.{IsSeatOf}
use Rattle.pp_cell.specs.Passes.{IsPassOf, pass_space}
use Rattle.pp_cell.proofs.Rows.{front}
use Rattle.pp_team.specs.Places.{SitsAt}
use Rattle.pp_team.proofs.Lists.{all-front}
use Rattle.pp_team.proofs.begin.begin.Goals as goal

pub returns-clause-first : goal.returns-clause-first
returns-clause-first g c =
    let old = c.in_ok-cell.passes.items in
    let x = c.remove-pass.result in
    let some : 0 < length old = search rules in
    let e : old ≡ x ∷ c.remove-pass.new.self.items = front old x some c.remove-pass.ensures.value ∙ ap (λ l. x ∷ l) (sym c.remove-pass.ensures.items) in
    let h = (all-front (λ p. (c.args.space.now ≡ pass_space p) × IsPassOf c.in_ok-cell.cell p) old c.remove-pass.new.self.items x e c.in_ok-cell.ensures.passes).1 in
    let olds = c.in_ok-stop.seats.items in
    let y = c.remove-seat.result in
    let any : 0 < length olds = search rules in
    let f : olds ≡ y ∷ c.remove-seat.new.self.items = front olds y any c.remove-seat.ensures.value ∙ ap (λ l. y ∷ l) (sym c.remove-seat.ensures.items) in
    let k = (all-front (λ s. IsSeatOf c.in_ok-stop.stop s) olds c.remove-seat.new.self.items y f (λ i d within. (c.in_ok-stop.ensures.seats i d within).0)).1 in
    let one = subst (λ p. SitsAt c.args.space.now c.in_ok-cell.cell c.in_ok-stop.stop p y) (sym c.in_ok-desk.ensures.pass) (h.0, h.1, k) in
    let two = subst (λ s. SitsAt c.args.space.now c.in_ok-cell.cell c.in_ok-stop.stop c.in_ok-desk.desk.pass s) (sym c.in_ok-desk.ensures.seat) one in
    subst (λ d. SitsAt c.args.space.now c.in_ok-cell.cell c.in_ok-stop.stop d.pass d.seat) (sym c.in_ok-first.ensures.ok) two

pub returns-clause-passes : goal.returns-clause-passes
returns-clause-passes g c =
    let old = c.in_ok-cell.passes.items in
    let x = c.remove-pass.result in
    let some : 0 < length old = search rules in
    let e : old ≡ x ∷ c.remove-pass.new.self.items = front old x some c.remove-pass.ensures.value ∙ ap (λ l. x ∷ l) (sym c.remove-pass.ensures.items) in
    (all-front (λ p. (c.args.space.now ≡ pass_space p) × IsPassOf c.in_ok-cell.cell p) old c.remove-pass.new.self.items x e c.in_ok-cell.ensures.passes).0

pub returns-clause-seats : goal.returns-clause-seats
returns-clause-seats g c =
    let old = c.in_ok-stop.seats.items in
    let x = c.remove-seat.result in
    let some : 0 < length old = search rules in
    let e : old ≡ x ∷ c.remove-seat.new.self.items = front old x some c.remove-seat.ensures.value ∙ ap (λ l. x ∷ l) (sym c.remove-seat.ensures.items) in
    (all-front (λ s. IsSeatOf c.in_ok-stop.stop s) old c.remove-seat.new.self.items x e (λ k d within. (c.in_ok-stop.ensures.seats k d within).0)).0
