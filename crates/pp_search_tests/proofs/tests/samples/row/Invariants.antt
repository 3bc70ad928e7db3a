use Rattle.pp_algebra.specs.Rows.{AreWide}
use Rattle.pp_row.specs.Columns.{sets_of}
use Rattle.pp_search_tests.proofs.tests.samples.row.Given as goal

abbrev pub invariant-loop-range : goal.invariant-loop-range
invariant-loop-range g l = AreWide (sets_of l.domains.items)
