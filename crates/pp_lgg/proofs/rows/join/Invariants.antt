use Rattle.std.proofs.Common.{take, All}
use Rattle.pp_lgg.specs.Pairs.{IsPair, names}
use Rattle.pp_lgg.proofs.Columns.{Joined}
use Rattle.pp_lgg.proofs.rows.join.Given as goal

abbrev pub invariant-loop-k : goal.invariant-loop-k
invariant-loop-k l = record {
  pairs : All IsPair l.pairs.keys;
  joined : Joined (take l.k l.left) (take l.k l.right) (names l.pairs.keys) l.columns.items;
}
