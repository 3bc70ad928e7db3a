-- Words that are spelled as their kinds, and the integers that they write.
use Rattle.std.proofs.Common.{◌≡◌, ℕ, pos, ◌≤◌, true, false, cond, arith, nat_eq, nat_le, List, [], ◌∷◌, ◌++◌}
use Rattle.std.specs.Prelude.{All, IsTrue, ◌-ℤ◌}
use Rattle.std.proofs.lemmas.Bool.{and_parts, leb-true}
use Rattle.std.proofs.lemmas.Int.{ints}
use Rattle.std.proofs.lemmas.List.Elements.{All-head, All-tail}
use Rattle.pp_algebra.specs.Members.{IsInteger}
use Rattle.pp_language.specs.Texts.{Text}
use Rattle.pp_language.specs.Kinds.{value_of, digits_of, is_number_text, is_integer_text, greatest_size, spells}
use Rattle.pp_language.specs.Words.{Word}
use Rattle.pp_language.specs.Meanings.{integer_of}
use Rattle.pp_language.proofs.PartsSpelled.{AreSpelled}

pub spelled_first : (ws vs : List Word) → AreSpelled (ws ++ vs) → AreSpelled ws
spelled_first [] vs h = tt
spelled_first (w ∷ ws) vs h = (h.0, spelled_first ws vs h.1)

pub spelled_second : (ws vs : List Word) → AreSpelled (ws ++ vs) → AreSpelled vs
spelled_second [] vs h = h
spelled_second (w ∷ ws) vs h = spelled_second ws vs h.1

pub spelled_all : (ws : List Word) → All (λ w. IsTrue (spells w.kind w.text)) ws → AreSpelled ws
spelled_all [] h = tt
spelled_all (w ∷ ws) h = (All-head (λ v. IsTrue (spells v.kind v.text)) w ws h, spelled_all ws (All-tail (λ v. IsTrue (spells v.kind v.text)) w ws h))

within : (v : ℕ) → v ≤ greatest_size → IsInteger (pos v) × IsInteger (pos 0 -ℤ pos v)
within v h = (record { at_least = omega (arith, ints); at_most = omega (arith, ints) }, record { at_least = omega (arith, ints); at_most = omega (arith, ints) })

pub integer_legal : (bs : Text) → is_integer_text bs ≡ true → IsInteger (integer_of bs)
integer_legal [] h = absurd (cc)
integer_legal (b ∷ bs) h =
    elim (nat_eq b 45) as (λ t. value_of 0 (cond t bs (b ∷ bs)) ≤ greatest_size → IsInteger (cond t (pos 0 -ℤ pos (value_of 0 bs)) (pos (value_of 0 (b ∷ bs))))) [
      | true ↦ λ l. (within (value_of 0 bs) l).1
      | false ↦ λ l. (within (value_of 0 (b ∷ bs)) l).0
    ] (leb-true _ _ (and_parts (is_number_text (b ∷ bs)) (nat_le (value_of 0 (digits_of (b ∷ bs))) greatest_size) h).1)
