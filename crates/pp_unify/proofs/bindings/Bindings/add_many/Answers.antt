use Rattle.std.proofs.Common.{◌≡◌, ◌++◌, length, None, refl, sym, ap, ◌∙◌, subst, replicate}
use Rattle.std.proofs.lemmas.Result.{IfOk-weaker}
use Rattle.pp_algebra.specs.Terms.{count}
use Rattle.pp_heap.specs.declared.state.Slot.TheVariants.{Free}
use Rattle.pp_unify.specs.States.{present, states_of, with_many, IsLonger}
use Rattle.pp_unify.proofs.Kept.{kept_longer}
use Rattle.pp_unify.proofs.Verdicts.{present_row, count_present}
use Rattle.pp_unify.proofs.AddedMany.{many_row}
use Rattle.pp_unify.proofs.bindings.Bindings.add_many.Goals as goal

pub returns-clause-number : goal.returns-clause-number
returns-clause-number c =
    let n = count_present c.self.inside.state c.args.self.now c.self.view_is in
    IfOk-weaker c.add_many.result (λ v. v ≡ length c.self.inside.state.slots.items) (λ v. v ≡ count (present c.args.self.now).columns) (λ v e. e ∙ sym n) c.add_many.ensures.number

pub returns-clause-added : goal.returns-clause-added
returns-clause-added c =
    let old = c.self.inside.state in
    let new = c.add_many.new.self in
    let k = c.args.amount in
    IfOk-weaker c.add_many.result (λ _. new.slots.items ≡ old.slots.items ++ replicate k (Free None)) (λ _. present (states_of new) ≡ with_many (present c.args.self.now) k)
    (λ v a. sym (present_row new (states_of new) refl) ∙ many_row old new k c.self.invariant a c.add_many.ensures.domains c.add_many.ensures.same ∙ ap (λ r. with_many r k) (present_row old c.args.self.now c.self.view_is))
    c.add_many.ensures.slots

pub returns-clause-kept : goal.returns-clause-kept
returns-clause-kept c = subst (λ rs. IsLonger rs (states_of c.add_many.new.self)) c.self.view_is (kept_longer c.self.inside.state c.add_many.new.self c.add_many.ensures.kept)
