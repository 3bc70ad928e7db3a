use Rattle.pp_algebra.specs.Rows.{AreWide}
use Rattle.pp_row.specs.Columns.{sets_of}
use Rattle.pp_find.proofs.bound.domains_at.Given as goal

abbrev pub invariant-loop : goal.invariant-loop
invariant-loop l = AreWide (sets_of l.domains.items)
