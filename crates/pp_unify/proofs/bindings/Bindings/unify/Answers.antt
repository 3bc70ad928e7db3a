use Rattle.std.proofs.Common.{sym, subst}
use Rattle.std.specs.Prelude.{IfOk}
use Rattle.pp_algebra.specs.Solve.{equation}
use Rattle.pp_unify.specs.States.{present, in_place, IsOver, IsSolvedBy}
use Rattle.pp_algebra.specs.Numbered.{counted_from}
use Rattle.pp_unify.proofs.Grown.{counted-zero}
use Rattle.pp_unify.proofs.bindings.Bindings.unify.Goals as goal

pub unify_from-requires-clause-left : goal.unify_from-requires-clause-left
unify_from-requires-clause-left c = subst (IsOver (present c.args.self.now)) (sym (counted-zero c.args.a.now)) c.requires.left

pub unify_from-requires-clause-right : goal.unify_from-requires-clause-right
unify_from-requires-clause-right c = subst (IsOver (present c.args.self.now)) (sym (counted-zero c.args.b.now)) c.requires.right

pub returns-clause-solved : goal.returns-clause-solved
returns-clause-solved c =
    let r = present c.args.self.now in
    let a = c.args.a.now in
    let b = c.args.b.now in
    let q = present c.unify_from.new.self in
    subst (λ t. IfOk c.unify_from.result (λ x. IsSolvedBy r (equation (in_place r a) (in_place r t)) x q)) (counted-zero b)
    (subst (λ t. IfOk c.unify_from.result (λ x. IsSolvedBy r (equation (in_place r t) (in_place r (counted_from 0 b))) x q)) (counted-zero a) c.unify_from.ensures.solved)
