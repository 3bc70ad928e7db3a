use Rattle.std.proofs.Common.{◌≡◌, length}
use Rattle.pp_algebra.specs.Rows.{Row}
use Rattle.pp_find.specs.Common.{common, AreUnder, AreUnderOne}
use Rattle.pp_find.proofs.levels.join_rows.Given as goal

abbrev pub invariant-loop-alloc : goal.invariant-loop-alloc
invariant-loop-alloc l = record {
  same : common l.rows.items ≡ common l.fn.rows.items;
  under : (call : Row) → AreUnder call l.fn.rows.items → AreUnder call l.rows.items;
  some : AreUnderOne l.rows.items;
}

abbrev pub decreases-loop-alloc : goal.decreases-loop-alloc
decreases-loop-alloc l = length l.rows.items
