use Rattle.std.proofs.Common.{◌∷◌, []}
use Rattle.pp_cell.specs.Passes.{own_entries, pass_number}
use Rattle.pp_worker.proofs.Peeks.{same_all}
use Rattle.pp_worker.proofs.Cases.{worked}
use Rattle.pp_worker.proofs.Written.{written_one}
use Rattle.pp_worker.proofs.working.step.Goals as goal

pub returns-in-Settled-clause-peeks : goal.returns-in-Settled-clause-peeks
returns-in-Settled-clause-peeks g c = same_all c.args.desk.now.peeks.items

pub returns-in-Dry-clause-peeks : goal.returns-in-Dry-clause-peeks
returns-in-Dry-clause-peeks g c = same_all c.args.desk.now.peeks.items

pub returns-in-Worked-clause-own : goal.returns-in-Worked-clause-own
returns-in-Worked-clause-own g c =
    let x = worked _ _ _ c.in_ok-serve-in-No.field-0 c.in-Worked.is c.in_ok-serve-in-No.ensures.turned in
    let p = c.args.desk.now.pass in
    record { turns = (x.accepted, x.report) ∷ []; own = written_one (pass_number p) (own_entries p) (own_entries c.serve.new.desk.pass) x.accepted x.report x.own }
