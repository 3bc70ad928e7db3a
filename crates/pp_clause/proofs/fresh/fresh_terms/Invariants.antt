use Rattle.std.proofs.Common.{◌≡◌, map, take}
use Rattle.pp_algebra.specs.Numbered.{counted_from}
use Rattle.pp_clause.proofs.fresh.fresh_terms.Given as goal

abbrev pub invariant-loop-term : goal.invariant-loop-term
invariant-loop-term l = l.fresh.items ≡ map (counted_from l.from) (take l.term-index l.terms)
