use Rattle.std.proofs.Common.{arith}
use Rattle.pp_path.specs.Works.{work_by}
use Rattle.pp_explore.proofs.Turns.{dead_before}
use Rattle.pp_explore.proofs.turn.attempt.Goals as goal

pub returns-then-at-from-clause-tries : goal.returns-then-at-from-clause-tries
returns-then-at-from-clause-tries g c = λ m call f r.
    let dead = dead_before (g.M.SearchMachine.clauses c.args.walker.now.machine) m call (g.M.SearchMachine.place c.args.walker.now.machine) c.args.walker.now.path.items (work_by c.args.work.now) c.args.from c.last_level-at.result.now c.last_level-at.ensures.place c.requires in
    c.pass_over.ensures.passes m call c.args.from c.last_level-at.result.now f r c.last_level-at.ensures.place dead (dead c.last_level-at.result.now (omega arith) (omega (arith, c.if-at-from.true)))

pub returns-else-next-at-clause-tries : goal.returns-else-next-at-clause-tries
returns-else-next-at-clause-tries g c = λ m call f r.
    c.pass_over-else-next-at.ensures.passes m call c.args.from c.last_level-at.result.now f r c.last_level-at.ensures.place
    (λ k i j o. c.in-Some.ensures.2 k i j) (λ o. c.in-Some.ensures.2 c.last_level-at.result.now (omega arith) (omega (arith, c.in-Some.ensures.0, c.if-next-at.false)))

pub returns-in-None-clause-tries : goal.returns-in-None-clause-tries
returns-in-None-clause-tries g c = λ m call f r.
    c.pass_over-in-None.ensures.passes m call c.args.from c.last_level-at.result.now f r c.last_level-at.ensures.place
    (λ k i j o. c.in-None.ensures k i o) (λ o. c.in-None.ensures c.last_level-at.result.now (omega arith) o)
