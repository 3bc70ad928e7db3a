use Rattle.std.proofs.Common.{sym, subst}
use Rattle.std.specs.Prelude.{IfOk}
use Rattle.pp_algebra.specs.Solve.{equation}
use Rattle.pp_unify.specs.States.{present, in_place, IsOver, IsSolvedBy}
use Rattle.pp_algebra.specs.Numbered.{counted_from}
use Rattle.pp_unify.proofs.Grown.{counted-zero}
use Rattle.pp_unify.proofs.bindings.Bindings.unify_head.Goals as goal

pub unify_from-requires-clause-left : goal.unify_from-requires-clause-left
unify_from-requires-clause-left c = subst (IsOver (present c.args.self.now)) (sym (counted-zero c.args.goal.now)) c.requires.goal

pub returns-clause-solved : goal.returns-clause-solved
returns-clause-solved c =
    let r = present c.args.self.now in
    let q = present c.unify_from.new.self in
    let u = in_place r (counted_from c.args.first c.args.head.now) in
    subst (λ t. IfOk c.unify_from.result (λ x. IsSolvedBy r (equation (in_place r t) u) x q)) (counted-zero c.args.goal.now) c.unify_from.ensures.solved
