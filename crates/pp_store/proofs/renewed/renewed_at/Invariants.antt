use Rattle.std.proofs.Common.{◌≡◌, map, take, get_or, pos}
use Rattle.pp_algebra.specs.Terms.{int, put}
use Rattle.pp_row.specs.Columns.{trees_of}
use Rattle.pp_store.specs.Replacing.{replacement}
use Rattle.pp_store.proofs.renewed.renewed_at.Given as goal

abbrev pub invariant-loop-place : goal.invariant-loop-place
invariant-loop-place l = l.terms.items ≡ map (λ k. put (replacement l.by.names.keys (trees_of l.by.terms.items)) (get_or l.columns k (int (pos 0)))) (take l.place-index l.places)
