use Rattle.std.proofs.lemmas.Result.{IfOk-weaker}
use Rattle.pp_heap.specs.Values.{term_at, value_term}
use Rattle.pp_unify.specs.Equating.{HasMet}
use Rattle.pp_unify.proofs.Meeting.{met_same}
use Rattle.pp_unify.proofs.unify.meet.Goals as goal

pub returns-clause-met : goal.returns-clause-met
returns-clause-met c =
    let a = c.args.state.now in
    let b = c.equate.new.state in
    let h = a.heap.items in
    let t = term_at h c.args.left in
    let u = term_at h c.args.right in
    let t' = value_term h c.look-one.result in
    let u' = value_term h c.look-other.result in
    IfOk-weaker c.equate.result (HasMet a b t' u') (HasMet a b t u) (λ m k. met_same a b t u t' u' m c.requires.good c.look-one.ensures.same c.look-other.ensures.same k) c.equate.ensures.met
