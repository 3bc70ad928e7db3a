use Rattle.std.proofs.lemmas.Option.{slice_get-get_or}
use Rattle.pp_team.proofs.open.cell_of.Goals as goal

pub returns-clause-passes : goal.returns-clause-passes
returns-clause-passes g c k d within =
    let at = slice_get-get_or c.in_ok-cell.passes.items k d within in
    ((c.in_ok-cell.ensures.passes.1 k _ at).0, (c.in_ok-cell.ensures.begun k _ at).0, (c.in_ok-cell.ensures.begun k _ at).1)
