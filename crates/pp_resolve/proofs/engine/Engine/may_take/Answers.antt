use Rattle.std.proofs.Common.{◌≡◌, length, Some, ap, sym, ◌∙◌, subst, arith}
use Rattle.std.specs.List.{slice_get}
use Rattle.pp_algebra.specs.Terms.{put_all}
use Rattle.pp_sld.specs.Goals as goals
use Rattle.pp_sld.specs.Goals.{put_goal}
use Rattle.pp_term.specs.Meanings.{predicate_of, program, clause_of}
use Rattle.pp_row.specs.Columns.{trees_of}
use Rattle.pp_unify.specs.States.{value_in}
use Rattle.pp_unify.specs.Forests.{counted_all}
use Rattle.pp_goal.specs.Apart.{AreApart}
use Rattle.pp_goal.specs.Arguments.{terms_in}
use Rattle.pp_resolve.specs.Standing.{counted}
use Rattle.pp_resolve.specs.Acts.{placed}
use Rattle.pp_resolve.specs.Engines.{goal_of, row_of}
use Rattle.pp_resolve.proofs.Linked.{goal_there}
use Rattle.pp_resolve.proofs.Peeking.{so_called, so_apart}
use Rattle.pp_resolve.proofs.engine.Engine.may_take.Goals as goal

pub number-requires : goal.number-requires
number-requires c =
    let e = c.args.self.now in
    let g = goal_there e.clauses.now (goal_of e) (length e.history.links.items) c.args.rest c.requires.selected.rest c.requires.selected.some in
    let p = (c.requires.selected.looks g.0 g.1).0 in
    let n = so_called e c.requires.good (put_goal (counted c.args.rest.first) g.0) (c.requires.selected.stands g.0 g.1) (predicate_of p.0) p.2 c.requires.choice.0 c.requires.choice.1 in
    (p.0, p.1, omega (arith, n, c.requires.choice.2))

pub returns-in_default : goal.returns-in_default
returns-in_default c out =
    let e = c.args.self.now in
    let g = goal_there e.clauses.now (goal_of e) (length e.history.links.items) c.args.rest c.requires.selected.rest c.requires.selected.some in
    let p = (c.requires.selected.looks g.0 g.1).0 in
    let raw = put_goal (counted c.args.rest.first) g.0 in
    let at = c.number.ensures.clause p.0 p.1 in
    let arguments : terms_in (row_of e) c.args.goal.now c.args.rest.first ≡ (placed (row_of e) raw).arguments = ap (λ ts. put_all (value_in (row_of e)) (counted_all c.args.rest.first ts)) (c.requires.shown g.0 g.1).arguments in
    let head = c.head-head.ensures.head at.0 at.1.at in
    let apart = subst (λ ts. AreApart ts (trees_of at.0.head)) arguments (subst (AreApart (terms_in (row_of e) c.args.goal.now c.args.rest.first)) head (c.may_match.ensures out)) in
    let this : (cl : goals.Clause) → slice_get (program e.clauses.now (predicate_of p.0)) c.args.place ≡ Some cl → AreApart (placed (row_of e) raw).arguments cl.head =
    λ cl is. let same : (clause_of at.0).1 ≡ cl = cc (sym at.1.nth ∙ is) in subst (λ k. AreApart (placed (row_of e) raw).arguments k.head) same apart in
    so_apart e c.requires.good raw (c.requires.selected.stands g.0 g.1) (predicate_of p.0) p.2 c.args.place c.requires.choice this
