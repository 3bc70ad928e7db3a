use Rattle.std.proofs.Common.{◌≡◌, map, drop}
use Rattle.pp_sld.specs.BuiltIns.{has_other}
use Rattle.pp_row.specs.Givens.{given_of}
use Rattle.pp_tests.proofs.table.has_other.Given as goal

abbrev pub invariant-loop-value : goal.invariant-loop-value
invariant-loop-value l = has_other (map given_of l.values) ≡ has_other (map given_of (drop l.value-index l.values))
