use Rattle.std.proofs.Common.{rules, ◌≡◌, length, subst}
use Rattle.pp_sld.specs.Goals.{put_goal}
use Rattle.pp_goal.specs.declared.acts.Act.TheVariants.{Wait}
use Rattle.pp_resolve.specs.Standing.{counted}
use Rattle.pp_resolve.specs.Acts.{ActsAs}
use Rattle.pp_resolve.specs.Engines.{goal_of, row_of}
use Rattle.pp_resolve.proofs.Linked.{goal_there, stepped_rest}
use Rattle.pp_resolve.proofs.Woken.{left_over, left_fewer, left_stands, passed_on, passed_all}
use Rattle.pp_resolve.proofs.engine.Engine.ready.Goals as goal

pub look-act-requires-clause-over : goal.look-act-requires-clause-over
look-act-requires-clause-over c g at =
    let one = c.first_left-one in
    left_over c.args.self.now c.requires.good c.loop-rest.rest one.result c.loop-rest.invariant.passed one.ensures.rest one.ensures.some one.ensures.same g at

pub returns-then-ne : goal.returns-then-ne
returns-then-ne c =
    let one = c.first_left-one in
    let no : c.look-act.result ≡ Wait → ⊥ = search rules in
    record {
      rest = one.ensures.rest;
      some = one.ensures.some;
      looks = c.look-act.ensures;
      ready = no;
      stands = λ g at. left_stands c.args.self.now c.requires.good c.loop-rest.rest one.result c.loop-rest.invariant.passed one.ensures.rest one.ensures.some one.ensures.same g at c.requires.wait;
    }

pub loop-rest-preserved : goal.loop-rest-preserved
loop-rest-preserved c =
    let e = c.args.self.now in
    let one = c.first_left-one in
    let is : c.look-act.result ≡ Wait = search rules in
    let g = goal_there e.clauses.now (goal_of e) (length e.history.links.items) one.result one.ensures.rest one.ensures.some in
    let n = subst (ActsAs e.clauses.now (row_of e) (put_goal (counted one.result.first) g.0)) is (c.look-act.ensures g.0 g.1).0 in
    record {
      rest = stepped_rest e.clauses.now (goal_of e) (length e.history.links.items) one.result one.ensures.rest one.ensures.some;
      passed = passed_on e c.requires.good c.loop-rest.rest one.result c.loop-rest.invariant.passed one.ensures.rest one.ensures.some one.ensures.same g.0 g.1 n;
    }

pub loop-rest-smaller : goal.loop-rest-smaller
loop-rest-smaller c =
    let e = c.args.self.now in
    let one = c.first_left-one in
    let g = goal_there e.clauses.now (goal_of e) (length e.history.links.items) one.result one.ensures.rest one.ensures.some in
    left_fewer e c.requires.good c.loop-rest.rest one.result c.loop-rest.invariant.passed one.ensures.rest one.ensures.some one.ensures.same g.0 g.1

pub returns : goal.returns
returns c =
    let f = c.loop-rest-test.ensures in
    passed_all c.args.self.now c.loop-rest.rest c.loop-rest.invariant.rest.from (c.has_goals.ensures.done c.loop-rest-test.false) (c.has_goals.ensures.none c.loop-rest-test.false) c.requires.wait c.loop-rest.invariant.passed
