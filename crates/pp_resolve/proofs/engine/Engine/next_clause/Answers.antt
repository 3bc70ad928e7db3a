use Rattle.std.proofs.Common.{length, ap, ◌∙◌, arith}
use Rattle.std.proofs.lemmas.Option.{slice_get_within}
use Rattle.pp_algebra.specs.Terms.{put_all}
use Rattle.pp_sld.specs.Goals.{put_goal}
use Rattle.pp_term.specs.Meanings.{predicate_of, program}
use Rattle.pp_clause.specs.Firsts.{first_of}
use Rattle.pp_unify.specs.States.{value_in}
use Rattle.pp_unify.specs.Forests.{counted_all}
use Rattle.pp_resolve.specs.Standing.{counted}
use Rattle.pp_resolve.specs.Engines.{goal_of, row_of}
use Rattle.pp_resolve.specs.Selected.{all_goals}
use Rattle.pp_resolve.proofs.Linked.{goal_there}
use Rattle.pp_resolve.proofs.Overs.{among}
use Rattle.pp_resolve.proofs.Peeking.{so_called, so_left_out}
use Rattle.pp_resolve.proofs.engine.Engine.next_clause.Goals as goal

pub returns-then-from-count_at : goal.returns-then-from-count_at
returns-then-from-count_at c k a h =
    let e = c.args.self.now in
    let g = goal_there e.clauses.now (goal_of e) (length e.history.links.items) c.args.rest c.requires.selected.rest c.requires.selected.some in
    let p = (c.requires.selected.looks g.0 g.1).0 in
    let n = so_called e c.requires.good (put_goal (counted c.args.rest.first) g.0) (c.requires.selected.stands g.0 g.1) (predicate_of p.0) p.2 h.0 h.1 in
    absurd (omega (arith, n, a, h.2, c.count_at.ensures p.0 p.1, c.if-from-count_at.true))

pub goal-goal-requires-clause-over : goal.goal-goal-requires-clause-over
goal-goal-requires-clause-over c g at =
    let e = c.args.self.now in
    let s = c.requires.selected.stands g at in
    among (row_of e) (all_goals e) s.0 (put_goal (counted c.args.rest.first) g) s.1 e.columns.columns s.2 c.requires.good.here.over

pub clause_from-requires-clause-first : goal.clause_from-requires-clause-first
clause_from-requires-clause-first c g at = c.first_argument-first.ensures ∙ ap (λ ts. first_of (put_all (value_in (row_of c.args.self.now)) (counted_all c.args.rest.first ts))) (c.goal-goal.ensures.shown g at).arguments

pub returns-then-is_end : goal.returns-then-is_end
returns-then-is_end c =
    let e = c.args.self.now in
    let g = goal_there e.clauses.now (goal_of e) (length e.history.links.items) c.args.rest c.requires.selected.rest c.requires.selected.some in
    let raw = put_goal (counted c.args.rest.first) g.0 in
    let p = (c.requires.selected.looks g.0 g.1).0 in
    let s = c.requires.selected.stands g.0 g.1 in
    let cs = program e.clauses.now (predicate_of p.0) in
    let top = c.first_argument-first.ensures ∙ ap (λ ts. first_of (put_all (value_in (row_of e)) (counted_all c.args.rest.first ts))) (c.goal-goal.ensures.shown g.0 g.1).arguments in
    let out = c.is_end.ensures c.if-is_end.true p.0 p.1 in
    (c.in-Some.ensures.next, λ k a h. so_left_out e c.requires.good raw s (predicate_of p.0) p.2 c.first_argument-first.result top k h (λ cl at. out k cl a (slice_get_within cs k cl at) at))
