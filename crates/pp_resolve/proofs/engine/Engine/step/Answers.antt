use Rattle.std.proofs.Common.{sym, ap, ◌∙◌, arith}
use Rattle.std.proofs.lemmas.Result.{IfOk-weaker}
use Rattle.pp_term.specs.Meanings.{program}
use Rattle.pp_walk.specs.Moves.{Stepped, step_cost}
use Rattle.pp_resolve.specs.Engines.{place_of}
use Rattle.pp_resolve.proofs.Stepping.{stepped_from, follows_same}
use Rattle.pp_resolve.proofs.engine.Engine.step.Goals as goal

pub returns-in-None-clause-steps : goal.returns-in-None-clause-steps
returns-in-None-clause-steps g c =
    let cost = ap step_cost (sym (follows_same c.args.self.now c.select.new.self c.select.ensures.same)) ∙ c.finish.ensures.cost in
    omega (arith, cost)

pub returns-in-Some-clause-stepped : goal.returns-in-Some-clause-stepped
returns-in-Some-clause-stepped g c =
    let old = c.args.self.now in
    let mid = c.select.new.self in
    let new = c.meet.new.self in
    IfOk-weaker _ (λ e. Stepped (program mid.clauses.now) (place_of mid) e (place_of new)) _ (λ e h. stepped_from old mid (place_of new) e c.select.ensures.same h) c.meet.ensures.stepped
