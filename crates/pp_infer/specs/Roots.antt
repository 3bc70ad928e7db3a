-- Where a search of a goal begins.
use Rattle.std.specs.Prelude.{◌≡◌, ℕ, []}
use Rattle.pp_algebra.specs.Rows.{Row}
use Rattle.pp_algebra.specs.Numbered.{call}
use Rattle.pp_sld.specs.Goals.{Shape}
use Rattle.pp_sld.specs.Leaves.{root}
use Rattle.pp_walk.specs.Places.{Place}

-- at the root of the search of this goal, under this face, with this depth
abbrev pub IsAtRoot : Place → Shape → Row → ℕ → Type 0
IsAtRoot p shape face depth = (p.above ≡ []) × (p.here ≡ root shape face depth)

-- at the root of the search of a goal with this call
abbrev pub IsAtSomeRoot : Place → Row → Type 0
IsAtSomeRoot p c = (shape : Shape) × (face : Row) × (depth : ℕ) × IsAtRoot p shape face depth × (c ≡ call face)
