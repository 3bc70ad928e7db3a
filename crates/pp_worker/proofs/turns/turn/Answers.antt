use Rattle.pp_worker.proofs.Peeks.{same_all}
use Rattle.pp_worker.proofs.Cases.{each_case}
use Rattle.pp_worker.proofs.turns.turn.Goals as goal

pub returns-then-is_stopped-clause-peeks : goal.returns-then-is_stopped-clause-peeks
returns-then-is_stopped-clause-peeks g c = same_all c.args.desk.now.peeks.items

pub returns-clause-turned : goal.returns-clause-turned
returns-clause-turned g c =
    each_case _ _ _ _ _ _ (λ x. record { report = x.report; accepted = x.accepted; task = x.task; own = x.own; offers = x.offers; settled = x.settled }) (λ x. absurd x) (λ x. x.0) c.serve.result c.serve.ensures.turned
