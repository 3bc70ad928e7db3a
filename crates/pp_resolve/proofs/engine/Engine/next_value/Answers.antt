use Rattle.std.proofs.Common.{length, ap, sym, ◌∙◌, arith}
use Rattle.pp_algebra.specs.Terms.{count, put_all}
use Rattle.pp_sld.specs.Goals.{put_goal}
use Rattle.pp_sld.specs.Ways.{values_of}
use Rattle.pp_unify.specs.States.{value_in}
use Rattle.pp_unify.specs.Forests.{counted_all}
use Rattle.pp_resolve.specs.Standing.{counted}
use Rattle.pp_resolve.specs.Engines.{goal_of, row_of}
use Rattle.pp_resolve.specs.Selected.{all_goals}
use Rattle.pp_resolve.proofs.Linked.{goal_there}
use Rattle.pp_resolve.proofs.Overs.{among}
use Rattle.pp_resolve.proofs.Peeking.{so_split}
use Rattle.pp_resolve.proofs.engine.Engine.next_value.Goals as goal

pub goal-requires-clause-over : goal.goal-requires-clause-over
goal-requires-clause-over c g at =
    let e = c.args.self.now in
    let s = c.requires.selected.stands g at in
    among (row_of e) (all_goals e) s.0 (put_goal (counted c.args.rest.first) g) s.1 e.columns.columns s.2 c.requires.good.here.over

pub split_count-count-requires-clause-one : goal.split_count-count-requires-clause-one
split_count-count-requires-clause-one c =
    let e = c.args.self.now in
    let g = goal_there e.clauses.now (goal_of e) (length e.history.links.items) c.args.rest c.requires.selected.rest c.requires.selected.some in
    ap count (c.goal.ensures.shown g.0 g.1).arguments ∙ (c.requires.selected.looks g.0 g.1).1

pub returns-then-from-count : goal.returns-then-from-count
returns-then-from-count c k a h =
    let e = c.args.self.now in
    let g = goal_there e.clauses.now (goal_of e) (length e.history.links.items) c.args.rest c.requires.selected.rest c.requires.selected.some in
    let raw = put_goal (counted c.args.rest.first) g.0 in
    let size = c.split_count-count.ensures ∙ ap (λ ts. length (values_of (row_of e).domains (put_all (value_in (row_of e)) (counted_all c.args.rest.first ts)))) (c.goal.ensures.shown g.0 g.1).arguments in
    let n = so_split e c.requires.good raw (c.requires.selected.stands g.0 g.1) (c.requires.selected.looks g.0 g.1).0 h.0 h.1 ∙ sym size in
    absurd (omega (arith, n, a, h.2, c.if-from-count.true))

pub returns-then-from-count-2 : goal.returns-then-from-count-2
returns-then-from-count-2 c =
    let e = c.args.self.now in
    let g = goal_there e.clauses.now (goal_of e) (length e.history.links.items) c.args.rest c.requires.selected.rest c.requires.selected.some in
    let raw = put_goal (counted c.args.rest.first) g.0 in
    let size = c.split_count-count.ensures ∙ ap (λ ts. length (values_of (row_of e).domains (put_all (value_in (row_of e)) (counted_all c.args.rest.first ts)))) (c.goal.ensures.shown g.0 g.1).arguments in
    let n = so_split e c.requires.good raw (c.requires.selected.stands g.0 g.1) (c.requires.selected.looks g.0 g.1).0 c.requires.choice.0 c.requires.choice.1 ∙ sym size in (
      (omega arith, (c.requires.choice.0, c.requires.choice.1, omega (arith, n, c.if-from-count.false)), λ k a b. absurd (omega (arith, a, b))),
      λ k a h. (let m = so_split e c.requires.good raw (c.requires.selected.stands g.0 g.1) (c.requires.selected.looks g.0 g.1).0 h.0 h.1 ∙ sym size in absurd (omega (arith, m, a, h.2, c.if-from-count-2.true))),
    )

pub returns-else-from-count-2 : goal.returns-else-from-count-2
returns-else-from-count-2 c =
    let e = c.args.self.now in
    let g = goal_there e.clauses.now (goal_of e) (length e.history.links.items) c.args.rest c.requires.selected.rest c.requires.selected.some in
    let raw = put_goal (counted c.args.rest.first) g.0 in
    let size = c.split_count-count.ensures ∙ ap (λ ts. length (values_of (row_of e).domains (put_all (value_in (row_of e)) (counted_all c.args.rest.first ts)))) (c.goal.ensures.shown g.0 g.1).arguments in
    let n = so_split e c.requires.good raw (c.requires.selected.stands g.0 g.1) (c.requires.selected.looks g.0 g.1).0 c.requires.choice.0 c.requires.choice.1 ∙ sym size in
    (omega arith, (c.requires.choice.0, c.requires.choice.1, omega (arith, n, c.if-from-count.false)), λ k a b. absurd (omega (arith, a, b)))
