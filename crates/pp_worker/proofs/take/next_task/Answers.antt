use Rattle.pp_worker.proofs.Peeks.{same_all}
use Rattle.pp_worker.proofs.take.next_task.Goals as goal

pub returns-in-Some-clause-peeks : goal.returns-in-Some-clause-peeks
returns-in-Some-clause-peeks g c = same_all c.args.peeks.now.items
