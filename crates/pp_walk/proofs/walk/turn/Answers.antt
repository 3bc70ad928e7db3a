use Rattle.std.proofs.Common.{reverse}
use Rattle.pp_walk.proofs.Marks.{on_err, map_err}
use Rattle.pp_walk.proofs.Turns.{enter_under}
use Rattle.pp_walk.proofs.walk.turn.Goals as goal

pub enter-requires : goal.enter-requires
enter-requires g c =
    enter_under (g.M.SearchMachine.clauses c.args.machine.now) (g.G.Gatherer.mode c.args.gathered.now) (g.G.Gatherer.call c.args.gathered.now) c.args.stage (g.M.SearchMachine.place c.args.machine.now) (reverse c.args.levels.now.items) c.in-Enter.is c.requires

pub returns-in_ok-attempt-in-Try-clause-turns : goal.returns-in_ok-attempt-in-Try-clause-turns
returns-in_ok-attempt-in-Try-clause-turns g c =
    rw c.in-Try.is (c.in_ok-attempt-in-Try.ensures.goes (g.G.Gatherer.mode c.args.gathered.now) (g.G.Gatherer.call c.args.gathered.now) (g.G.Gatherer.finding c.args.gathered.now) (rw c.in-Try.is at c.requires))

pub returns-in-Enter-clause-costs : goal.returns-in-Enter-clause-costs
returns-in-Enter-clause-costs g c =
    rw c.in-Enter.is (map_err c.enter.result (λ h. h (reverse c.args.levels.now.items)) c.enter.ensures.costs)

pub returns-in_err-attempt-in-Try-clause-costs : goal.returns-in_err-attempt-in-Try-clause-costs
returns-in_err-attempt-in-Try-clause-costs g c =
    rw c.in-Try.is (on_err c.from_residual.result (c.in_err-attempt-in-Try.ensures.costs (g.G.Gatherer.mode c.args.gathered.now) (g.G.Gatherer.call c.args.gathered.now) (g.G.Gatherer.finding c.args.gathered.now)))
