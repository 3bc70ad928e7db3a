use Rattle.std.proofs.Common.{◌≡◌, ◌+◌, ◌-◌, ◌<◌, length, None, refl, arith}
use Rattle.pp_resolve.specs.declared.history.Front.{Front}
use Rattle.pp_resolve.specs.Engines.{goal_of}
use Rattle.pp_resolve.proofs.Linked.{link_is, link_some}
use Rattle.pp_resolve.proofs.Moving.{same_goals, settled_left, nothing_left}
use Rattle.pp_resolve.proofs.engine.Engine.settle.Goals as goal
use Rattle.pp_resolve.proofs.engine.Engine.settle.Goals.{else-rest-via-then-rest+else-rest-gt0, else-rest-via-else-rest}

pub returns-then-rest-gt0-clause-left : goal.returns-then-rest-gt0-clause-left
returns-then-rest-gt0-clause-left c =
    let e = c.args.self.now in
    let here = c.requires.good.here in
    let i = e.front.rest.next - 1 in
    let up : e.front.rest.next ≡ i + 1 = omega (arith, c.if-rest-gt0.true) in
    let w : i < length e.history.links.items = omega (arith, here.rest.next, c.if-rest-gt0.true) in
    settled_left e.clauses.now (goal_of e) e.history.links.items e.front.rest c.index.result.now i c.if-rest.true up w c.index.ensures here.links

pub returns-then-rest-gt0-clause-same : goal.returns-then-rest-gt0-clause-same
returns-then-rest-gt0-clause-same c =
    let e = c.args.self.now in
    let here = c.requires.good.here in
    let i = e.front.rest.next - 1 in
    let up : e.front.rest.next ≡ i + 1 = omega (arith, c.if-rest-gt0.true) in
    let w : i < length e.history.links.items = omega (arith, here.rest.next, c.if-rest-gt0.true) in
    let f : Front = record { waiting = e.front.waiting; waits = e.front.waits; rest = c.index.result.now; depth = e.front.depth; selected = None } in
    same_goals e f c.requires.good
    (settled_left e.clauses.now (goal_of e) e.history.links.items e.front.rest c.index.result.now i c.if-rest.true up w c.index.ensures here.links)
    refl refl (link_is e.clauses.now (goal_of e) e.history.links.items i c.index.result.now w c.index.ensures here.links) here.waits tt

pub returns-then-rest-gt0-clause-last : goal.returns-then-rest-gt0-clause-last
returns-then-rest-gt0-clause-last c d =
    let e = c.args.self.now in
    let here = c.requires.good.here in
    let i = e.front.rest.next - 1 in
    let w : i < length e.history.links.items = omega (arith, here.rest.next, c.if-rest-gt0.true) in
    let s = link_some e.clauses.now (goal_of e) e.history.links.items i c.index.result.now w c.index.ensures here.links in
    absurd (omega (arith, d, s))

pub returns-else-rest-clause-last : goal.returns-else-rest-clause-last
returns-else-rest-clause-last c d =
    let e = c.args.self.now in
    elim c.else-rest.branch [
      | else-rest-via-then-rest+else-rest-gt0 w ↦ nothing_left e.clauses.now (goal_of e) e.history.links.items e.front.rest d (omega (arith, w.if-rest-gt0.false))
      | else-rest-via-else-rest w ↦ absurd (w.if-rest.false d)
    ]
