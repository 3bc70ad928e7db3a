use Rattle.pp_sld.proofs.CallCovers.{leaf_row_covers, leaves_under_call, leaves_of_width}
use Rattle.pp_sld.proofs.WideRows.{leaves_are_rows, call_is_row}
use Rattle.pp_sld.proofs.laws.call_covers_what_is_found.Goals as goal

pub returns-clause-below : goal.returns-clause-below
returns-clause-below c = leaf_row_covers

pub returns-clause-covers : goal.returns-clause-covers
returns-clause-covers c = leaves_under_call

pub returns-clause-width : goal.returns-clause-width
returns-clause-width c = leaves_of_width

pub returns-clause-rows : goal.returns-clause-rows
returns-clause-rows c = leaves_are_rows

pub returns-clause-call : goal.returns-clause-call
returns-clause-call c = call_is_row
