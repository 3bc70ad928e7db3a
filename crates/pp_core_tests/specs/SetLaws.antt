-- Laws of sets as bits.
use Rattle.std.specs.Prelude.{◌≡◌, ℕ, zero, suc, ◌≤◌, max, true, cond, bit_or, nat_eq, List, [], ◌∷◌, get_or}
use Rattle.std.proofs.Common.{ap, sym, ◌∙◌, lit<, subst, eqb→eq, arith}
use Rattle.std.proofs.Math.Nat.{le_trans}
use Rattle.std.proofs.lemmas.Nat.{or_of_8, le_or_l}
use Rattle.std.specs.Int.{bit_at}
use Rattle.std.proofs.lemmas.Nat.Bits.{bit_at_or, same_from_bits}
use Rattle.std.proofs.lemmas.Bool.{leb-true, le-leb}
use Rattle.std.specs.Bool.{passes}
use Rattle.pp_core_tests.specs.Sets.{IsSet, table, worth_of, is_settled, outcome_of}

pub none_is_set : IsSet 0
none_is_set = lit< tt

pub or_is_set : (a b : ℕ) → IsSet a → IsSet b → IsSet (bit_or a b)
or_is_set = or_of_8

pub or_grouped : (a b c : ℕ) → bit_or (bit_or a b) c ≡ bit_or a (bit_or b c)
or_grouped a b c = same_from_bits _ _ (λ i.
    let grouped : max (max (bit_at a i) (bit_at b i)) (bit_at c i) ≡ max (bit_at a i) (max (bit_at b i) (bit_at c i)) = omega arith in
    bit_at_or (bit_or a b) c i ∙ ap (λ n. max n (bit_at c i)) (bit_at_or a b i) ∙ grouped
    ∙ sym (bit_at_or a (bit_or b c) i ∙ ap (λ n. max (bit_at a i) n) (bit_at_or b c i)))

stays : (a b : ℕ) → bit_or a b ≡ b → is_settled a ≡ true → is_settled b ≡ true
stays a b below settled = le-leb 128 b (le_trans (leb-true 128 a settled) (subst (λ n. a ≤ n) below (le_or_l a b)))

pub settled_stays : (a b : ℕ) → bit_or a b ≡ b → is_settled a ≡ true → (is_settled b ≡ true) × (outcome_of a ≡ outcome_of b)
settled_stays a b below settled = (stays a b below settled, ap (λ c. cond c 255 a) settled ∙ sym (ap (λ c. cond c 255 b) (stays a b below settled)))

abbrev AreSets : List ℕ → Type 0
AreSets [] = Unit {0}
AreSets (x ∷ xs) = IsSet x × AreSets xs

one_of_sets : (xs : List ℕ) (i : ℕ) → AreSets xs → IsSet (get_or xs i 0)
one_of_sets [] i all = none_is_set
one_of_sets (x ∷ xs) zero all = all.0
one_of_sets (x ∷ xs) (suc i) all = one_of_sets xs i all.1

pub worth_is_set : (t : ℕ) → IsSet (worth_of t)
worth_is_set t = one_of_sets table t (lit< tt, (lit< tt, (lit< tt, (lit< tt, (lit< tt, (lit< tt, (lit< tt, (lit< tt, (lit< tt, (lit< tt, (lit< tt, (lit< tt, (lit< tt, (lit< tt, (lit< tt, (lit< tt, tt))))))))))))))))

pub same_worth : (t u : ℕ) → nat_eq t u ≡ true → worth_of t ≡ worth_of u
same_worth t u e = ap worth_of (eqb→eq t u (passes (nat_eq t u) e))
