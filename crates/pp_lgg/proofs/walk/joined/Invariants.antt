use Rattle.std.proofs.Common.{◌≡◌, ◌≤◌, ◌-◌, length, All, [], ◌∷◌}
use Rattle.pp_algebra.specs.Terms.{more, none, count}
use Rattle.pp_algebra.specs.Least.{least_tree}
use Rattle.pp_row.specs.Cells.{IsLegalCell}
use Rattle.pp_row.specs.Reading.{from}
use Rattle.pp_lgg.specs.Pairs.{IsPair, names}
use Rattle.pp_lgg.proofs.Walked.{Walked}
use Rattle.pp_lgg.proofs.walk.joined.Given as goal
use Rattle.pp_algebra.proofs.WideLeast.{common}

abbrev pub invariant-loop-i : goal.invariant-loop-i
invariant-loop-i l = record {
  left : l.i ≤ length l.left;
  right : l.j ≤ length l.right;
  same : count (from l.left l.i) ≡ count (from l.right l.j);
  legal : All IsLegalCell l.cells.items;
  pairs : All IsPair l.pairs.keys;
  walked : Walked (names l.fn.pairs.keys) (more (least_tree l.fn.a (l.fn.b ∷ [])) none) (common (from l.left l.i) (from l.right l.j)) (names l.pairs.keys) l.cells.items;
}

abbrev pub decreases-loop-i : goal.decreases-loop-i
decreases-loop-i l = length l.left - l.i
