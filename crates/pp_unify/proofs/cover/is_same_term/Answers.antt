use Rattle.std.proofs.Common.{◌≡◌, true}
use Rattle.std.proofs.lemmas.Result.{IfOk-weaker}
use Rattle.pp_algebra.specs.Terms.{put}
use Rattle.pp_heap.specs.Values.{term_at, value_term}
use Rattle.pp_heap.specs.Stores.{solution}
use Rattle.pp_unify.specs.Covering.{now_term}
use Rattle.pp_unify.proofs.Covering.{open_same}
use Rattle.pp_unify.proofs.cover.is_same_term.Goals as goal

pub returns-in-Open : goal.returns-in-Open
returns-in-Open c =
    let t = c.args.state.now in
    let h = t.heap.items in
    let p = c.in-Open.left in
    let q = c.in-Open.right in
    IfOk-weaker c.are_same.result (λ is. is ≡ true → put (solution t) (term_at h p) ≡ put (solution t) (term_at h q)) (λ is. is ≡ true → now_term t c.args.one ≡ now_term t c.args.other)
    (λ is k e. open_same t (value_term h c.args.one) (value_term h c.args.other) p q c.requires.good c.in-Open.ensures (k e))
    c.are_same.ensures
