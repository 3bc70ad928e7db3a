use Rattle.std.proofs.Common.{◌≡◌, ◌<◌, ℕ, length, subst, arith}
use Rattle.std.proofs.lemmas.Option.{slice_get_within}
use Rattle.pp_sld.specs.Goals.{put_goal}
use Rattle.pp_term.specs.Meanings.{predicate_of, program}
use Rattle.pp_walk.specs.Moves.{HasChoice, IsDeadAt}
use Rattle.pp_resolve.specs.Standing.{counted}
use Rattle.pp_resolve.specs.Engines.{goal_of, place_of}
use Rattle.pp_resolve.proofs.Linked.{goal_there}
use Rattle.pp_resolve.proofs.Peeking.{by_place, so_called, so_left_out}
use Rattle.pp_resolve.proofs.engine.Engine.clause_from.Goals as goal

-- the place is one of the choice's
pub may_take-requires-clause-choice : goal.may_take-requires-clause-choice
may_take-requires-clause-choice c =
    let e = c.args.self.now in
    let g = goal_there e.clauses.now (goal_of e) (length e.history.links.items) c.args.rest c.requires.selected.rest c.requires.selected.some in
    let p = (c.requires.selected.looks g.0 g.1).0 in
    let out = c.in-Some.ensures.place p.0 p.1 in
    let n = so_called e c.requires.good (put_goal (counted c.args.rest.first) g.0) (c.requires.selected.stands g.0 g.1) (predicate_of p.0) p.2 c.requires.choice.0 c.requires.choice.1 in
    (c.requires.choice.0, c.requires.choice.1, omega (arith, n, out.within))

pub returns-then-may_take-clause-next : goal.returns-then-may_take-clause-next
returns-then-may_take-clause-next c =
    let e = c.args.self.now in
    let g = goal_there e.clauses.now (goal_of e) (length e.history.links.items) c.args.rest c.requires.selected.rest c.requires.selected.some in
    let raw = put_goal (counted c.args.rest.first) g.0 in
    let p = (c.requires.selected.looks g.0 g.1).0 in
    let s = c.requires.selected.stands g.0 g.1 in
    let out = c.in-Some.ensures.place p.0 p.1 in
    let n = so_called e c.requires.good raw s (predicate_of p.0) p.2 c.requires.choice.0 c.requires.choice.1 in
    let later = out.later in
    let there : (k : ℕ) → k < c.in-Some.place → HasChoice (program e.clauses.now) (place_of e).here k = λ k b. (c.requires.choice.0, c.requires.choice.1, omega (arith, n, out.within, b)) in (
      omega (arith, c.loop-place.invariant.later, later),
      (c.requires.choice.0, c.requires.choice.1, omega (arith, n, out.within)),
      λ k a b. by_place (IsDeadAt (program e.clauses.now) (place_of e).here) c.loop-place.next k (λ h. c.loop-place.invariant.passed k a h (there k b)) (λ h. so_left_out e c.requires.good raw s (predicate_of p.0) p.2 c.args.first (c.requires.first g.0 g.1) k (there k b) (λ cl at. out.passed k cl h b at)),
    )

pub loop-place-smaller : goal.loop-place-smaller
loop-place-smaller c =
    let e = c.args.self.now in
    let g = goal_there e.clauses.now (goal_of e) (length e.history.links.items) c.args.rest c.requires.selected.rest c.requires.selected.some in
    let p = (c.requires.selected.looks g.0 g.1).0 in
    omega (arith, (c.in-Some.ensures.place p.0 p.1).later, c.in-Some.ensures.small)

pub loop-place-preserved : goal.loop-place-preserved
loop-place-preserved c =
    let e = c.args.self.now in
    let g = goal_there e.clauses.now (goal_of e) (length e.history.links.items) c.args.rest c.requires.selected.rest c.requires.selected.some in
    let raw = put_goal (counted c.args.rest.first) g.0 in
    let p = (c.requires.selected.looks g.0 g.1).0 in
    let s = c.requires.selected.stands g.0 g.1 in
    let out = c.in-Some.ensures.place p.0 p.1 in
    let later = out.later in
    let dead = IsDeadAt (program e.clauses.now) (place_of e).here in
    let here : dead c.in-Some.place = c.may_take.ensures c.if-may_take.false in
    record {
      later = omega (arith, c.loop-place.invariant.later, later);
      passed = λ k a b h. by_place dead c.loop-place.next k (λ l. c.loop-place.invariant.passed k a l h)
          (λ l. by_place dead c.in-Some.place k (λ m. so_left_out e c.requires.good raw s (predicate_of p.0) p.2 c.args.first (c.requires.first g.0 g.1) k h (λ cl at. out.passed k cl l m at))
          (λ m. let same : c.in-Some.place ≡ k = omega (arith, m, b) in subst dead same here));
    }

pub returns-clause-next : goal.returns-clause-next
returns-clause-next c k a h =
    let e = c.args.self.now in
    let g = goal_there e.clauses.now (goal_of e) (length e.history.links.items) c.args.rest c.requires.selected.rest c.requires.selected.some in
    let raw = put_goal (counted c.args.rest.first) g.0 in
    let p = (c.requires.selected.looks g.0 g.1).0 in
    let s = c.requires.selected.stands g.0 g.1 in
    let cs = program e.clauses.now (predicate_of p.0) in
    let out = c.in_default.ensures.place p.0 p.1 in
    by_place (IsDeadAt (program e.clauses.now) (place_of e).here) c.loop-place.next k (λ l. c.loop-place.invariant.passed k a l h)
    (λ l. so_left_out e c.requires.good raw s (predicate_of p.0) p.2 c.args.first (c.requires.first g.0 g.1) k h (λ cl at. out k cl l (slice_get_within cs k cl at) at))
