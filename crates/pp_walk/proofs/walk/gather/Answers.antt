use Rattle.std.proofs.Common.{refl}
use Rattle.pp_walk.proofs.Turns.{starts_ready, starts_walked, found, counted}
use Rattle.pp_walk.proofs.walk.gather.Goals as goal

pub loop-levels-init : goal.loop-levels-init
loop-levels-init g c =
    rw c.new-levels.ensures.items
    (record {
      clauses = refl;
      mode = refl;
      call = refl;
      ready = starts_ready (g.M.SearchMachine.clauses c.args.machine.now) (g.G.Gatherer.mode c.args.gathered.now) (g.G.Gatherer.call c.args.gathered.now) (g.M.SearchMachine.place c.args.machine.now) c.requires.root c.requires.under;
      walked = starts_walked (g.M.SearchMachine.clauses c.args.machine.now) (g.G.Gatherer.mode c.args.gathered.now) (g.G.Gatherer.call c.args.gathered.now) (g.M.SearchMachine.place c.args.machine.now) c.requires.root (g.G.Gatherer.finding c.args.gathered.now) c.args.steps.now c.requires.empty;
    })

pub returns-in_err-next-clause-steps : goal.returns-in_err-next-clause-steps
returns-in_err-next-clause-steps g c = λ t h.
    counted (g.M.SearchMachine.clauses c.args.machine.now) (g.G.Gatherer.mode c.args.gathered.now) (g.G.Gatherer.call c.args.gathered.now) (g.M.SearchMachine.place c.args.machine.now).here t c.args.steps.now c.turn.new.steps h
    ((rw c.loop-levels.invariant.call at (rw c.loop-levels.invariant.mode at (rw c.loop-levels.invariant.clauses at c.in_err-next.ensures.costs))) (g.M.SearchMachine.place c.args.machine.now).here c.args.steps.now c.loop-levels.invariant.walked)

pub returns-in-None-clause-finding : goal.returns-in-None-clause-finding
returns-in-None-clause-finding g c = λ t h.
    found (g.M.SearchMachine.clauses c.args.machine.now) (g.G.Gatherer.mode c.args.gathered.now) (g.G.Gatherer.call c.args.gathered.now) (g.M.SearchMachine.place c.args.machine.now).here t (g.G.Gatherer.finding c.turn.new.gathered) h
    ((rw c.loop-levels.invariant.call at (rw c.loop-levels.invariant.mode at (rw c.loop-levels.invariant.clauses at (rw c.in-None.is at c.in_ok-next.ensures.turns)))) (g.M.SearchMachine.place c.args.machine.now).here c.args.steps.now c.loop-levels.invariant.walked).0

pub returns-in-None-clause-steps : goal.returns-in-None-clause-steps
returns-in-None-clause-steps g c = λ t h.
    counted (g.M.SearchMachine.clauses c.args.machine.now) (g.G.Gatherer.mode c.args.gathered.now) (g.G.Gatherer.call c.args.gathered.now) (g.M.SearchMachine.place c.args.machine.now).here t c.args.steps.now c.turn.new.steps h
    ((rw c.loop-levels.invariant.call at (rw c.loop-levels.invariant.mode at (rw c.loop-levels.invariant.clauses at (rw c.in-None.is at c.in_ok-next.ensures.turns)))) (g.M.SearchMachine.place c.args.machine.now).here c.args.steps.now c.loop-levels.invariant.walked).1
