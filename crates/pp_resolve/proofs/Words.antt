-- An integer of the language is the word that it is kept in.
use Rattle.std.proofs.Common.{◌≡◌, ℤ, arith, to_z, of_z, w64}
use Rattle.std.proofs.lemmas.Int.{ints}
use Rattle.pp_algebra.specs.Members.{IsInteger}
use Rattle.pp_domain.proofs.Words.{word_is}

pub value_back : (n : ℤ) → IsInteger n → to_z w64 (of_z w64 n) ≡ n
value_back n i = word_is n (omega (arith, ints, i.at_least)) (omega (arith, ints, i.at_most))
