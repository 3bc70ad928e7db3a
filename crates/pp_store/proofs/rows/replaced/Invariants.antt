use Rattle.std.proofs.Common.{◌≡◌, map, take}
use Rattle.pp_algebra.specs.Terms.{put}
use Rattle.pp_row.specs.Substitution.{term_at}
use Rattle.pp_store.proofs.rows.replaced.Given as goal

abbrev pub invariant-loop-column : goal.invariant-loop-column
invariant-loop-column l = l.replaced.items ≡ map (put (term_at l.terms)) (take l.column-index l.columns)
