use Rattle.std.proofs.Common.{◌≡◌, ◌≤◌, length}
use Rattle.pp_algebra.specs.Terms.{more, none, count}
use Rattle.pp_algebra.specs.Rows.{domain_at}
use Rattle.pp_row.specs.Columns.{sets_of}
use Rattle.pp_row.specs.Reading.{from}
use Rattle.pp_order.specs.Bindings.{AreBound, terms}
use Rattle.pp_order.proofs.Walking.{Walked}
use Rattle.pp_order.proofs.walk.covers_term.Given as goal

abbrev pub invariant-loop-i : goal.invariant-loop-i
invariant-loop-i l = record {
  right : l.j ≤ length l.right;
  same : count (from l.left l.i) ≡ count (from l.right l.j);
  bound : AreBound (domain_at (sets_of l.general)) (domain_at (sets_of l.special)) l.bound.items;
  walked : Walked (domain_at (sets_of l.general)) (domain_at (sets_of l.special)) (terms l.fn.bound.items) (more l.fn.a none) (more l.fn.b none) (from l.left l.i) (from l.right l.j) (terms l.bound.items);
}
