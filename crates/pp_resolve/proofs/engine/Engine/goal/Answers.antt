use Rattle.pp_resolve.specs.Engines.{goal_of, row_of}
use Rattle.pp_resolve.proofs.Linked.{goal_there}
use Rattle.pp_resolve.proofs.Showing.{shown_lent}
use Rattle.std.proofs.Common.{length}
use Rattle.pp_resolve.proofs.engine.Engine.goal.Goals as goal

pub returns-clause-lent : goal.returns-clause-lent
returns-clause-lent c =
    let e = c.args.self.now in
    let there = goal_there e.clauses.now (goal_of e) (length e.history.links.items) c.args.rest c.requires.rest c.requires.some in
    shown_lent e.clauses.now (row_of e) there.0 c.goal_at.result c.args.rest.first (c.goal_at.ensures there.0 there.1) (c.requires.over there.0 there.1)
