-- What the code finds at a place among parts.
use Rattle.std.specs.Prelude.{◌≡◌, ℕ, ◌<◌, ◌≤◌, List, length, drop, Option, Some, None}
use Rattle.pp_language.specs.Phrases.{Part}
use Rattle.pp_language.specs.Fronts.{Front}

-- what stands at the place, and the place behind it; or nothing stands there
abbrev pub FoundAt : {I R : Type 0} → (List Part → Front I) → (I → R → Type 0) → List Part → ℕ → Option (R × ℕ) → Type 0
FoundAt read Is qs at None = read (drop at qs) ≡ None
FoundAt {I} read Is qs at (Some r) = (i : I) × (read (drop at qs) ≡ Some (i, drop r.1 qs)) × Is i r.0 × (at < r.1) × (r.1 ≤ length qs)
