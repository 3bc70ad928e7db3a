-- The test of keys tells equal ones.
use Rattle.std.proofs.Common.{◌≡◌, true, ap}
use Rattle.pp_algebra.proofs.CanonLemmas.{IsSame, nat_eq-IsSame}
use Rattle.pp_algebra.proofs.SameText.{same_text-IsSame}
use Rattle.pp_language.specs.Keys.{Key, named, unnamed, same_key}

pub same_key-itself : (k : Key) → same_key k k ≡ true
same_key-itself (named x) = same_text-IsSame.itself x
same_key-itself (unnamed i) = nat_eq-IsSame.itself i

pub same_key-is : (k h : Key) → same_key k h ≡ true → k ≡ h
same_key-is (named x) (named y) e = ap named (same_text-IsSame.is x y e)
same_key-is (named x) (unnamed j) e = absurd (cc)
same_key-is (unnamed i) (named y) e = absurd (cc)
same_key-is (unnamed i) (unnamed j) e = ap unnamed (nat_eq-IsSame.is i j e)

pub same_key-IsSame : IsSame same_key
same_key-IsSame = record { itself = same_key-itself; is = same_key-is }
