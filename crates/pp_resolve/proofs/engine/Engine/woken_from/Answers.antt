use Rattle.std.proofs.Common.{rules, ◌≡◌, ◌<◌, true, false, true≢false, None, length, Some, sym, ◌∙◌, subst, refl, arith}
use Rattle.std.specs.List.{slice_get}
use Rattle.pp_goal.specs.declared.acts.Act.TheVariants.{Wait}
use Rattle.pp_resolve.specs.Standing.{counted}
use Rattle.pp_resolve.specs.Suspensions.{is_among}
use Rattle.pp_sld.specs.Goals.{put_goal}
use Rattle.pp_resolve.specs.Links.{body_of}
use Rattle.pp_resolve.specs.Acts.{does, ActsAs}
use Rattle.pp_resolve.specs.Engines.{goal_of, row_of}
use Rattle.pp_resolve.proofs.Linked.{goal_there}
use Rattle.pp_resolve.proofs.Moving.{goal_over_at, rest_at_place}
use Rattle.pp_resolve.proofs.Open.{get_slice}
use Rattle.pp_resolve.proofs.Woken.{met_at, wait_on, one_waits}
use Rattle.pp_resolve.proofs.engine.Engine.woken_from.Goals as goal
use Rattle.pp_resolve.proofs.engine.Engine.woken_from.Goals.{then-not-is_done+else-ne, else-not-is_done}

pub look-act-requires-clause-rest : goal.look-act-requires-clause-rest
look-act-requires-clause-rest c =
    let e = c.args.self.now in
    let s = c.index.result.now in
    let w : c.loop-at.at < length e.history.suspended.goals.items = search rules in
    let o : is_among c.loop-at.at e.history.suspended.done.items ≡ false = search rules in
    (rest_at_place e (Some c.loop-at.at) s.rest c.requires.good (w, o) (s, get_slice e.history.suspended.goals.items c.loop-at.at s w c.index.ensures, refl)).0

pub look-act-requires-clause-some : goal.look-act-requires-clause-some
look-act-requires-clause-some c =
    let e = c.args.self.now in
    let s = c.index.result.now in
    let w : c.loop-at.at < length e.history.suspended.goals.items = search rules in
    let o : is_among c.loop-at.at e.history.suspended.done.items ≡ false = search rules in
    (rest_at_place e (Some c.loop-at.at) s.rest c.requires.good (w, o) (s, get_slice e.history.suspended.goals.items c.loop-at.at s w c.index.ensures, refl)).1

pub look-act-requires-clause-over : goal.look-act-requires-clause-over
look-act-requires-clause-over c g at =
    let e = c.args.self.now in
    let s = c.index.result.now in
    let w : c.loop-at.at < length e.history.suspended.goals.items = search rules in
    let o : is_among c.loop-at.at e.history.suspended.done.items ≡ false = search rules in
    goal_over_at e (Some c.loop-at.at) s.rest g c.requires.good (w, o) (s, get_slice e.history.suspended.goals.items c.loop-at.at s w c.index.ensures, refl) at

pub returns-then-ne : goal.returns-then-ne
returns-then-ne c =
    let e = c.args.self.now in
    let w : c.loop-at.at < length e.history.suspended.goals.items = search rules in
    let o : is_among c.loop-at.at e.history.suspended.done.items ≡ false = search rules in
    let no : c.look-act.result ≡ Wait → ⊥ = search rules in
    met_at e c.requires.good c.loop-at.at c.index.result.now c.look-act.result w c.index.ensures o c.loop-at.invariant c.look-act.ensures no

pub loop-at-preserved : goal.loop-at-preserved
loop-at-preserved c =
    let e = c.args.self.now in
    let i = c.loop-at.at in
    let ss = e.history.suspended.goals.items in
    let w : i < length ss = search rules in
    elim c.if-not-is_done.branch [
      | then-not-is_done+else-ne b ↦
          let l = b.index.result.now in
          let is : b.look-act.result ≡ Wait = search rules in
          wait_on e i c.loop-at.invariant (λ s at o.
          let here = get_slice ss i l w b.index.ensures in
          let same : l ≡ s = cc (sym here ∙ at) in
          let there = rest_at_place e (Some i) l.rest c.requires.good (w, o) (l, here, refl) in
          let g = goal_there e.clauses.now (goal_of e) (length e.history.links.items) l.rest there.0 there.1 in
          let n = subst (ActsAs e.clauses.now (row_of e) (put_goal (counted l.rest.first) g.0)) is (b.look-act.ensures g.0 g.1).0 in
          one_waits e s.rest g.0 (subst (λ x. slice_get (body_of e.clauses.now (goal_of e) x.rest.body) x.rest.from ≡ Some g.0) same g.1) (subst (λ x. does (row_of e) (put_goal (counted x.rest.first) g.0) ≡ None) same n))
      | else-not-is_done b ↦
          let done : is_among i e.history.suspended.done.items ≡ true = search rules in
          wait_on e i c.loop-at.invariant (λ s at o. absurd (true≢false (sym done ∙ o)))
    ]

pub returns : goal.returns
returns c j s is l o =
    let e = c.args.self.now in
    c.loop-at.invariant j s is (omega (arith, l, c.len-at-end.ensures, c.loop-at-test.false)) o
