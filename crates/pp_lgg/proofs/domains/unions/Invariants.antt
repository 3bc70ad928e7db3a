use Rattle.std.proofs.Common.{◌≡◌, ◌∷◌, [], map}
use Rattle.pp_algebra.specs.Rows.{domain_at}
use Rattle.pp_algebra.specs.Least.{union_of}
use Rattle.pp_row.specs.Columns.{sets_of}
use Rattle.pp_lgg.specs.Pairs.{names}
use Rattle.pp_lgg.proofs.domains.unions.Given as goal

abbrev pub invariant-loop-pair : goal.invariant-loop-pair
invariant-loop-pair l = sets_of l.domains.items ≡ map (union_of (domain_at (sets_of l.a) ∷ domain_at (sets_of l.b) ∷ [])) (names (map (λ p. p.now) l.yielded))
