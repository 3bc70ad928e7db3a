-- The numbers that the variables of a row get that is applied.
use Rattle.std.specs.Prelude.{◌≡◌, ℕ, ◌+◌, ◌<◌, true, nat_eq, List, length}
use Rattle.pp_algebra.specs.Canon.{has, Distinct}

-- `count` numbers, each another one: names that were taken, or numbers from `first` on
pub record AreNumbers (first count : ℕ) (taken numbers : List ℕ) : Type 0 where
  pub many : length numbers ≡ count
  pub distinct : Distinct nat_eq numbers
  pub old : (v : ℕ) → has nat_eq numbers v ≡ true → v < first → has nat_eq taken v ≡ true
  pub below : (v : ℕ) → has nat_eq numbers v ≡ true → v < first + count
