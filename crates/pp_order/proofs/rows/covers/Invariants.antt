use Rattle.std.proofs.Common.{[], drop}
use Rattle.pp_algebra.specs.Rows.{domain_at}
use Rattle.pp_row.specs.Columns.{sets_of, trees_of}
use Rattle.pp_order.specs.Bindings.{AreBound, terms}
use Rattle.pp_order.proofs.Walking.{Walked}
use Rattle.pp_order.proofs.rows.covers.Given as goal

abbrev pub invariant-loop-k : goal.invariant-loop-k
invariant-loop-k l = record {
  bound : AreBound (domain_at (sets_of l.general_domains)) (domain_at (sets_of l.special_domains)) l.bound.items;
  walked : Walked (domain_at (sets_of l.general_domains)) (domain_at (sets_of l.special_domains)) [] (trees_of l.left) (trees_of l.right) (trees_of (drop l.k l.left)) (trees_of (drop l.k l.right)) (terms l.bound.items);
}
