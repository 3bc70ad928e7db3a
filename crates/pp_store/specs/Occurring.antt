-- Of each variable, what it stands in, be it columns or goals.
use Rattle.std.specs.Prelude.{◌≡◌, ℕ, ◌≤◌, ◌⊎◌, true, nat_eq, List, [], length, get_or}
use Rattle.pp_algebra.specs.Covers.{IsIn}
use Rattle.pp_algebra.specs.Canon.{has, Distinct}

-- variable v stands in the one with this number
abbrev pub Stands : List (List ℕ) → ℕ → ℕ → Type 0
Stands sets v k = has nat_eq (get_or sets v []) k ≡ true

-- variables were taken in that stand nowhere
pub record IsLonger (old new : List (List ℕ)) : Type 0 where
  pub count : length old ≤ length new
  pub same : (v : ℕ) → get_or new v [] ≡ get_or old v []

-- variables may stand in those with these numbers too
pub record HasMore (numbers : List ℕ) (old new : List (List ℕ)) : Type 0 where
  pub count : length new ≡ length old
  pub stays : (v k : ℕ) → Stands old v k → Stands new v k
  pub only : (v k : ℕ) → Stands new v k → Stands old v k ⊎ IsIn k numbers

-- exactly what one of these variables stands in, each once
pub record AreGathered (sets : List (List ℕ)) (variables numbers : List ℕ) : Type 0 where
  pub distinct : Distinct nat_eq numbers
  pub all : (v k : ℕ) → IsIn v variables → Stands sets v k → has nat_eq numbers k ≡ true
  pub only : (k : ℕ) → has nat_eq numbers k ≡ true → (v : ℕ) × Stands sets v k
