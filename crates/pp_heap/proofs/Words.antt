-- Integers of the language fit a signed word of 64 bits.
use Rattle.std.proofs.Common.{◌≡◌, ℤ, pos, negsuc, arith, to_z, of_z, w64}
use Rattle.std.proofs.lemmas.Int.{ints, to_z-of_z}
use mir.Val.{SFits}
use Rattle.pp_algebra.specs.Members.{IsInteger}

fits : (z : ℤ) → IsInteger z → SFits w64 z
fits (pos n) h = record { sfits = omega (arith, ints, h.at_least, h.at_most) }
fits (negsuc n) h = record { sfits = omega (arith, ints, h.at_least, h.at_most) }

pub word : (z : ℤ) → IsInteger z → to_z w64 (of_z w64 z) ≡ z
word z h = to_z-of_z w64 z (fits z h)
