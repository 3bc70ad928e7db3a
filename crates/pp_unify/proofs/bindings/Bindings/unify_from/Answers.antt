use Rattle.std.proofs.Common.{sym, ap, ◌∙◌}
use Rattle.std.proofs.lemmas.Result.{IfOk-weaker}
use Rattle.pp_algebra.specs.Terms.{Trees, count}
use Rattle.pp_algebra.specs.Numbered.{counted_from}
use Rattle.pp_algebra.specs.Solve.{equation}
use Rattle.pp_row.specs.Reading.{forest}
use Rattle.pp_unify.specs.States.{present, in_place, IsSolvedBy}
use Rattle.pp_unify.specs.Forests.{pairs, AreDecided}
use Rattle.pp_unify.proofs.Whole.{whole_forest, whole_one, whole_over, whole_decided}
use Rattle.pp_unify.proofs.bindings.Bindings.unify_from.Goals as goal

pub unify_spans-requires-clause-left_whole : goal.unify_spans-requires-clause-left_whole
unify_spans-requires-clause-left_whole c = whole_forest c.args.a.now c.cells.result.now c.cells.ensures.cells c.cells.ensures.term

pub unify_spans-requires-clause-right_whole : goal.unify_spans-requires-clause-right_whole
unify_spans-requires-clause-right_whole c = whole_forest c.args.b.now c.cells-2.result.now c.cells-2.ensures.cells c.cells-2.ensures.term

pub unify_spans-requires-clause-width : goal.unify_spans-requires-clause-width
unify_spans-requires-clause-width c = ap (λ (ts : Trees _). count ts) (whole_one c.args.b.now c.cells-2.result.now c.cells-2.ensures.cells) ∙ sym (ap (λ (ts : Trees _). count ts) (whole_one c.args.a.now c.cells.result.now c.cells.ensures.cells))

pub unify_spans-requires-clause-left : goal.unify_spans-requires-clause-left
unify_spans-requires-clause-left c = whole_over (present c.args.self.now) c.args.a.now c.cells.result.now c.args.a_first c.cells.ensures.cells c.requires.left

pub unify_spans-requires-clause-right : goal.unify_spans-requires-clause-right
unify_spans-requires-clause-right c = whole_over (present c.args.self.now) c.args.b.now c.cells-2.result.now c.args.b_first c.cells-2.ensures.cells c.requires.right

pub returns-clause-solved : goal.returns-clause-solved
returns-clause-solved c =
    let r = present c.args.self.now in
    let q = present c.unify_spans.new.self in
    let n = c.args.a_first in
    let m = c.args.b_first in
    let a = c.args.a.now in
    let b = c.args.b.now in
    let cs = c.cells.result.now in
    let ds = c.cells-2.result.now in
    IfOk-weaker c.unify_spans.result (λ o. AreDecided r (pairs n (forest cs) m (forest ds)) o q) (λ o. IsSolvedBy r (equation (in_place r (counted_from n a)) (in_place r (counted_from m b))) o q)
    (λ o h. whole_decided r q a b cs ds n m o c.cells.ensures.cells c.cells-2.ensures.cells h)
    c.unify_spans.ensures.decided
