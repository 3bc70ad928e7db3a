use Rattle.std.proofs.Common.{◌≡◌, length, refl, sym, ap, ◌∙◌, subst}
use Rattle.std.proofs.lemmas.Result.{IfOk-weaker}
use Rattle.pp_algebra.specs.Terms.{count}
use Rattle.pp_row.specs.Columns.{set_by}
use Rattle.pp_heap.specs.Outcomes.{IsAdded}
use Rattle.pp_unify.specs.States.{present, states_of, with_new, IsLonger}
use Rattle.pp_unify.proofs.Kept.{kept_longer}
use Rattle.pp_unify.proofs.Verdicts.{present_row, count_present}
use Rattle.pp_unify.proofs.Adding.{added_row}
use Rattle.pp_unify.proofs.bindings.Bindings.add.Goals as goal

pub returns-clause-number : goal.returns-clause-number
returns-clause-number c =
    let n = count_present c.self.inside.state c.args.self.now c.self.view_is in
    IfOk-weaker c.add.result (λ v. v ≡ length c.self.inside.state.slots.items) (λ v. v ≡ count (present c.args.self.now).columns) (λ v e. e ∙ sym n) c.add.ensures.number

pub returns-clause-added : goal.returns-clause-added
returns-clause-added c =
    let old = c.self.inside.state in
    let new = c.add.new.self in
    let d = set_by c.args.domain in
    IfOk-weaker c.add.result (λ _. IsAdded old new d) (λ _. present (states_of new) ≡ with_new (present c.args.self.now) d)
    (λ v a. sym (present_row new (states_of new) refl) ∙ added_row old new d c.self.invariant c.add.ensures.good a ∙ ap (λ r. with_new r d) (present_row old c.args.self.now c.self.view_is))
    c.add.ensures.added

pub returns-clause-kept : goal.returns-clause-kept
returns-clause-kept c = subst (λ rs. IsLonger rs (states_of c.add.new.self)) c.self.view_is (kept_longer c.self.inside.state c.add.new.self c.add.ensures.kept)
