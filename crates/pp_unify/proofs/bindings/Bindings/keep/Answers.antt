use Rattle.std.proofs.Common.{◌≡◌, length, refl, sym, ap, ◌∙◌, subst}
use Rattle.std.proofs.lemmas.Result.{IfOk-weaker}
use Rattle.pp_algebra.specs.Terms.{count}
use Rattle.pp_heap.specs.Outcomes.{IsAddedAs}
use Rattle.pp_unify.specs.States.{present, states_of, in_place, with_value, IsLonger}
use Rattle.pp_algebra.specs.Numbered.{counted_from}
use Rattle.pp_unify.specs.Tops.{IsAmong}
use Rattle.pp_heap.proofs.Keeping.{kept_through}
use Rattle.pp_unify.proofs.Kept.{kept_longer}
use Rattle.pp_unify.proofs.Verdicts.{present_row, count_present, over_among}
use Rattle.pp_unify.proofs.Equations.{grown_row}
use Rattle.pp_unify.proofs.AddedBound.{kept_row}
use Rattle.pp_unify.proofs.bindings.Bindings.keep.Goals as goal

pub entered-requires-clause-among : goal.entered-requires-clause-among
entered-requires-clause-among c = over_among c.self.inside.state c.args.self.now (counted_from c.args.first c.args.term.now) c.self.view_is c.requires.over

pub returns-in_err-value-clause-kept : goal.returns-in_err-value-clause-kept
returns-in_err-value-clause-kept c = subst (λ rs. IsLonger rs (states_of c.entered.new.state)) c.self.view_is (kept_longer c.self.inside.state c.entered.new.state c.entered.ensures.grown.kept)

pub returns-clause-number : goal.returns-clause-number
returns-clause-number c =
    let old = c.self.inside.state in
    let mid = c.entered.new.state in
    let n = count_present old c.args.self.now c.self.view_is in
    IfOk-weaker c.add_bound.result (λ v. v ≡ length mid.slots.items) (λ v. v ≡ count (present c.args.self.now).columns) (λ v e. e ∙ ap length c.entered.ensures.grown.slots ∙ sym n) c.add_bound.ensures.number

pub returns-clause-kept_term : goal.returns-clause-kept_term
returns-clause-kept_term c =
    let old = c.self.inside.state in
    let mid = c.entered.new.state in
    let new = c.add_bound.new.state in
    let was = c.args.self.now in
    let t = counted_from c.args.first c.args.term.now in
    let grown = c.entered.ensures.grown in
    let among = subst (λ ss. IsAmong ss t) (sym grown.slots) (over_among old was t c.self.view_is c.requires.over) in
    let row = grown_row old mid grown ∙ present_row old was c.self.view_is in
    IfOk-weaker c.add_bound.result (λ _. IsAddedAs mid new c.in_ok-value.value) (λ _. present (states_of new) ≡ with_value (present was) (in_place (present was) t))
    (λ v a. sym (present_row new (states_of new) refl) ∙ kept_row mid new t c.in_ok-value.value grown.good among c.in_ok-value.ensures.value a ∙ ap (λ r. with_value r (in_place r t)) row)
    c.add_bound.ensures.added

pub returns-clause-kept : goal.returns-clause-kept
returns-clause-kept c =
    let kept = kept_through c.self.inside.state c.entered.new.state c.add_bound.new.state c.entered.ensures.grown.kept c.add_bound.ensures.kept in
    subst (λ rs. IsLonger rs (states_of c.add_bound.new.state)) c.self.view_is (kept_longer c.self.inside.state c.add_bound.new.state kept)
