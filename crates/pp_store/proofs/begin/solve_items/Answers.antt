use Rattle.std.proofs.Common.{◌∷◌, [], subst}
use Rattle.pp_unify.specs.States.{present}
use Rattle.pp_unify.specs.Forests.{AreDecided}
use Rattle.pp_store.proofs.Solving.{items_in, left_next}
use Rattle.pp_store.proofs.begin.solve_items.Goals as goal

pub loop-item-preserved : goal.loop-item-preserved
loop-item-preserved c =
    let decided = subst (λ b. AreDecided (present c.loop-item.bindings) (items_in (c.item-item.result ∷ [])) b (present c.solve_item.new.bindings)) c.if-not-branch.false c.in_ok-solve_item.ensures.decided in
    left_next (present c.args.bindings.now) c.args.items.now c.loop-item.item-index c.item-item.result _ c.loop-item-test.true c.item-item.is (present c.loop-item.bindings) (present c.solve_item.new.bindings) c.loop-item.invariant decided
