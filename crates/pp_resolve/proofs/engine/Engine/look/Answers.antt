use Rattle.pp_resolve.specs.Engines.{row_of}
use Rattle.pp_resolve.proofs.Acting.{acts_as, ready_of}
use Rattle.pp_resolve.proofs.engine.Engine.look.Goals as goal

pub returns : goal.returns
returns c g at =
    let e = c.args.self.now in
    let s = c.goal.ensures.shown g at in (
      acts_as e.clauses.now (row_of e) g c.goal.result c.args.rest.first s c.act_on.result c.act_on.ensures.act,
      ready_of e.clauses.now (row_of e) g c.goal.result c.args.rest.first s c.act_on.result c.act_on.ensures.ready,
    )
