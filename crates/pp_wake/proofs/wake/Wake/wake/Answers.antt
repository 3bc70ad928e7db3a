use Rattle.std.proofs.Common.{refl, sym, ◌∙◌, subst, arith, false}
use Rattle.std.proofs.lemmas.List.{get_or_read}
use Rattle.pp_wake.specs.Waiting.{Waiting, IsGoalOf}
use Rattle.pp_wake.proofs.Queues.{has_room, woken_agree}
use Rattle.pp_wake.proofs.wake.Wake.wake.Goals as goal

pub push_back_reserved-requires : goal.push_back_reserved-requires
push_back_reserved-requires c =
    let is = subst (λ (w : Waiting). IsGoalOf w.goals c.args.goal) (sym c.self.view_is) c.requires.goal in
    let down = sym (get_or_read c.self.inside.flags.items _ _ (omega (arith, is.0, is.1)) c.index.ensures false) ∙ c.if-index.false in
    has_room c.self.inside.flags.items c.self.inside.queue.items _ _ c.args.goal c.self.invariant is down

pub invariant_of-self : goal.invariant_of-self
invariant_of-self c =
    let is = subst (λ (w : Waiting). IsGoalOf w.goals c.args.goal) (sym c.self.view_is) c.requires.goal in
    let down = sym (get_or_read c.self.inside.flags.items _ _ (omega (arith, is.0, is.1)) c.index.ensures false) ∙ c.if-index.false in
    woken_agree c.self.inside.flags.items _ c.self.inside.queue.items c.push_back_reserved.new.self.items c.args.goal _ _ _ _ c.self.invariant is down refl c.push_back_reserved.ensures.items c.push_back_reserved.ensures.len c.push_back_reserved.ensures.capacity
