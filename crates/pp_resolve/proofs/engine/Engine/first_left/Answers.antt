use Rattle.std.proofs.Common.{◌-◌, ◌<◌, length, arith}
use Rattle.pp_resolve.specs.Engines.{goal_of}
use Rattle.pp_resolve.proofs.Linked.{link_is, link_some}
use Rattle.pp_resolve.proofs.Moving.{settled_left}
use Rattle.pp_resolve.proofs.engine.Engine.first_left.Goals as goal

pub returns-then-rest-clause-same : goal.returns-then-rest-clause-same
returns-then-rest-clause-same c =
    let e = c.args.self.now in
    let p = c.requires.some c.if-rest.true in
    let w : c.args.rest.next - 1 < length e.history.links.items = omega (arith, c.requires.rest.next, p) in
    settled_left e.clauses.now (goal_of e) e.history.links.items c.args.rest c.index.result.now (c.args.rest.next - 1) c.if-rest.true (omega (arith, p)) w c.index.ensures c.requires.good.here.links

pub returns-then-rest-clause-rest : goal.returns-then-rest-clause-rest
returns-then-rest-clause-rest c =
    let e = c.args.self.now in
    let p = c.requires.some c.if-rest.true in
    let w : c.args.rest.next - 1 < length e.history.links.items = omega (arith, c.requires.rest.next, p) in
    link_is e.clauses.now (goal_of e) e.history.links.items (c.args.rest.next - 1) c.index.result.now w c.index.ensures c.requires.good.here.links

pub returns-then-rest-clause-some : goal.returns-then-rest-clause-some
returns-then-rest-clause-some c =
    let e = c.args.self.now in
    let p = c.requires.some c.if-rest.true in
    let w : c.args.rest.next - 1 < length e.history.links.items = omega (arith, c.requires.rest.next, p) in
    link_some e.clauses.now (goal_of e) e.history.links.items (c.args.rest.next - 1) c.index.result.now w c.index.ensures c.requires.good.here.links
