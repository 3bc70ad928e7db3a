-- The sets of bounds that the code finds.
use Rattle.std.specs.Prelude.{◌≡◌, ℤ, List, [], ◌∷◌}
use Rattle.std.specs.FinSet as set
use Rattle.pp_algebra.specs.Rows.{Domain}
use Rattle.pp_algebra.specs.Members.{IsInteger}
use Rattle.pp_domain.specs.Sets.{set_of}
use Rattle.pp_language.specs.Statements.{Bounds}
use Rattle.pp_language.specs.Meanings.{integers_between, bounds_set}
use Rattle.pp_parse.specs.declared.sets.Ends.{Ends}

-- the two integers are of the language, and the bounds are those of the integers between them
pub record AreEnds (b : Bounds) (ends : Ends) : Type 0 where
  pub low : IsInteger ends.low
  pub high : IsInteger ends.high
  pub set : bounds_set b ≡ integers_between ends.low ends.high

-- the integers of any of these domains
abbrev pub united : List (List (ℤ × ℤ)) → Domain
united [] = set.empty
united (d ∷ ds) = set.union (set_of d) (united ds)
