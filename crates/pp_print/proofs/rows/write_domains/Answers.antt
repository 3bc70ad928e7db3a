use Rattle.pp_print.proofs.RowTexts.{domains_end}
use Rattle.pp_print.proofs.rows.write_domains.Goals as goal

pub returns : goal.returns
returns c = domains_end c.args.domains.now c.loop-variable.variable c.loop-variable.variable _ _ c.loop-variable.out.items _ c.loop-variable-test.false c.as_slice-separator.ensures c.loop-variable.invariant
