-- Integers of the language fit a signed word of 64 bits.
use Rattle.std.proofs.Common.{◌≡◌, ℤ, pos, negsuc, ◌≤ℤ◌, ◌<ℤ◌, false, arith, to_z, of_z, w64}
use Rattle.std.specs.Prelude.{int_lt, int_le}
use Rattle.std.specs.Bool.{Decides}
use Rattle.std.proofs.lemmas.Int.{ints, to_z-of_z}
use mir.Val.{SFits}

pub fits : (z : ℤ) → negsuc 1_000_000_000_000 <ℤ z → z <ℤ pos 1_000_000_000_001 → SFits w64 z
fits (pos n) h k = record { sfits = omega (arith, ints) }
fits (negsuc n) h k = record { sfits = omega (arith, ints) }

pub word_is : (z : ℤ) → negsuc 1_000_000_000_000 <ℤ z → z <ℤ pos 1_000_000_000_001 → to_z w64 (of_z w64 z) ≡ z
word_is z h k = to_z-of_z w64 z (fits z h k)

pub Decides-int_lt : (x y : ℤ) → Decides (int_lt x y) (x <ℤ y)
Decides-int_lt x y = (λ h. grind (arith, ints), λ h. grind (arith, ints))

pub Decides-int_le : (x y : ℤ) → Decides (int_le x y) (x ≤ℤ y)
Decides-int_le x y = (λ h. grind (arith, ints), λ h. grind (arith, ints))

pub not_less : (x y : ℤ) → int_lt x y ≡ false → y ≤ℤ x
not_less x y h = grind (arith, ints)
