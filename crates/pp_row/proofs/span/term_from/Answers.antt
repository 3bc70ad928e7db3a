use Rattle.std.proofs.Common.{pos}
use Rattle.pp_row.specs.declared.cell.Cell.TheVariants.{Int}
use Rattle.pp_row.proofs.InStep.{one_piece}
use Rattle.pp_row.proofs.span.term_from.Goals as goal

pub returns-clause-whole : goal.returns-clause-whole
returns-clause-whole c = (one_piece c.args.cells.now c.args.start c.end_of.result (Int (pos 0)) c.requires.whole c.requires.within c.end_of.ensures.ends c.end_of.ensures.later c.end_of.ensures.within).0

pub returns-clause-term : goal.returns-clause-term
returns-clause-term c = (one_piece c.args.cells.now c.args.start c.end_of.result (Int (pos 0)) c.requires.whole c.requires.within c.end_of.ensures.ends c.end_of.ensures.later c.end_of.ensures.within).1
