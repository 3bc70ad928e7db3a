use Rattle.std.proofs.Common.{◌-◌, ap, arith, option_map, pos}
use Rattle.pp_row.specs.declared.cell.Cell.TheVariants.{Int}
use Rattle.pp_algebra.specs.Terms.{count}
use Rattle.pp_row.proofs.Stack.{stops, grows}
use Rattle.pp_row.proofs.term.complete_terms.Goals as goal

pub returns-then-complete-arity : goal.returns-then-complete-arity
returns-then-complete-arity c =
    ap (option_map count) (stops c.args.cells.now (c.loop-i.i - 1) c.loop-i.i c.loop-i.complete (Int (pos 0)) (omega arith) (omega arith) c.loop-i.invariant.counted (rw (← c.arity-arity.ensures) c.if-complete-arity.true))

pub loop-i-preserved : goal.loop-i-preserved
loop-i-preserved c = record {
  within = omega arith;
  few = omega arith;
  counted = rw c.arity-arity.ensures (grows c.args.cells.now (c.loop-i.i - 1) c.loop-i.i c.loop-i.complete (Int (pos 0)) (omega arith) (omega arith) c.loop-i.invariant.counted (rw (← c.arity-arity.ensures) c.if-complete-arity.false));
}
