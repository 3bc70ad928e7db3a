-- The test of texts tells equal ones.
use Rattle.std.proofs.Common.{◌≡◌, ℕ, true, List, refl}
use Rattle.std.proofs.lemmas.Slice.Eq.{bytes_eq-Decides}
use Rattle.pp_algebra.specs.Texts.{same_text}
use Rattle.pp_algebra.proofs.CanonLemmas.{IsSame}

pub same_text-itself : (x : List ℕ) → same_text x x ≡ true
same_text-itself x = (bytes_eq-Decides x x).1 refl

pub same_text-is : (x y : List ℕ) → same_text x y ≡ true → x ≡ y
same_text-is x y = (bytes_eq-Decides x y).0

pub same_text-IsSame : IsSame same_text
same_text-IsSame = record { itself = same_text-itself; is = same_text-is }
