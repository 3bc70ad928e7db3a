use Rattle.std.proofs.Common.{◌≡◌, sym, ap, ◌∙◌, Some}
use mathlib.Core.Option.{some-injective}
use Rattle.pp_turn.proofs.Keeps.{closes}
use Rattle.pp_turn.proofs.seat.Turn.close.Goals as goal

pub unreachable-requires : goal.unreachable-requires
unreachable-requires g c =
    let k = closes g.T.Kept.log g.T.Kept.bearer g.T.Kept.base c.self.inside.table.shared.key.seats c.args.seat.seat.id c.args.seat.seat.me.0 _ _ (c.requires.all ∙ sym (ap (λ p. p.1) c.self.view_is)) c.args.seat.some_number c.requires.seat.1 c.close_with-closed.ensures.values.2 in
    c.in_default.not-Some k.0 (some-injective _ _ (sym c.take-value.ensures.value ∙ k.1))

pub returns-clause-base : goal.returns-clause-base
returns-clause-base g c =
    let k = closes g.T.Kept.log g.T.Kept.bearer g.T.Kept.base c.self.inside.table.shared.key.seats c.args.seat.seat.id c.args.seat.seat.me.0 _ _ (c.requires.all ∙ sym (ap (λ p. p.1) c.self.view_is)) c.args.seat.some_number c.requires.seat.1 c.close_with-closed.ensures.values.2 in
    let is : Some k.0 ≡ Some c.in-Some.value = sym (some-injective _ _ (sym c.take-value.ensures.value ∙ k.1)) ∙ c.in-Some.is in
    let same : k.0 ≡ c.in-Some.value = cc in
    ap (λ x. Some (g.T.Kept.base x)) (sym same) ∙ k.2

pub returns-clause-log : goal.returns-clause-log
returns-clause-log g c =
    let k = closes g.T.Kept.log g.T.Kept.bearer g.T.Kept.base c.self.inside.table.shared.key.seats c.args.seat.seat.id c.args.seat.seat.me.0 _ _ (c.requires.all ∙ sym (ap (λ p. p.1) c.self.view_is)) c.args.seat.some_number c.requires.seat.1 c.close_with-closed.ensures.values.2 in
    let is : Some k.0 ≡ Some c.in-Some.value = sym (some-injective _ _ (sym c.take-value.ensures.value ∙ k.1)) ∙ c.in-Some.is in
    let same : k.0 ≡ c.in-Some.value = cc in
    ap g.T.Kept.log (sym same) ∙ k.3
