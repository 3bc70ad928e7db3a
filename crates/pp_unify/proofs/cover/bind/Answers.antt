use Rattle.std.proofs.Common.{◌≡◌, ◌<◌, true, length, rules, sym, ◌∙◌, subst}
use Rattle.std.proofs.lemmas.Result.{IfOk-weaker}
use Rattle.pp_algebra.specs.Rows.{domain_at}
use Rattle.pp_row.specs.Columns.{sets_of}
use Rattle.pp_unify.specs.Covering.{now_term, IsBound}
use Rattle.pp_unify.proofs.Covering.{bound_again, bound_push, bound_read}
use Rattle.pp_unify.proofs.cover.bind.Goals as goal

pub returns-then-place-len-clause-bound : goal.returns-then-place-len-clause-bound
returns-then-place-len-clause-bound c =
    let t = c.args.state.now in
    let ds = domain_at (sets_of c.args.domains.now) in
    let cs = c.args.cover.now.bound.items in
    let v = c.args.variable in
    let l : v < length cs = search rules in
    IfOk-weaker c.is_same_term.result (λ is. is ≡ true → now_term t c.index.result.now ≡ now_term t c.args.value) (λ is. is ≡ true → IsBound t ds cs cs v c.args.value)
    (λ is k e. bound_again t ds cs v c.args.value c.requires.bound l (bound_read t cs v c.index.result.now l c.index.ensures ∙ k e))
    c.is_same_term.ensures

pub returns-clause-bound : goal.returns-clause-bound
returns-clause-bound c = λ _.
    let t = c.args.state.now in
    let ds = domain_at (sets_of c.args.domains.now) in
    let cs = c.args.cover.now.bound.items in
    let v = c.args.variable in
    let e : v ≡ length cs = search rules in
    subst (λ xs. IsBound t ds cs xs v c.args.value) (sym c.in_ok-push.ensures.items) (bound_push t ds cs v c.args.value c.requires.bound c.requires.now e (c.may_go.ensures c.if-not-may_go.false))
