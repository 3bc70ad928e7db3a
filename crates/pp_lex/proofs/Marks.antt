-- Tokens of one text each, by the first bytes.
use Rattle.std.proofs.Common.{◌≡◌, ℕ, zero, suc, ◌<◌, ◌≤◌, true, false, not, ◌&&◌, nat_eq, [], ◌∷◌, ◌++◌, length, take, get_or, sym, subst, arith}
use Rattle.std.proofs.lemmas.Bool.{both_ways, and_parts, or_parts, not-true}
use Rattle.pp_language.specs.declared.token.Kind.{Kind}
use Rattle.pp_language.specs.Texts.{Text, is_digit, is_lower}
use Rattle.pp_language.specs.Kinds.{spells, begins_number, begins_variable}
use Rattle.pp_language.proofs.Bytes.{begins_mark, Begins}
use Rattle.pp_language.proofs.Forms.{any_form, has_form-none, spells-any, form_of_other}
use Rattle.pp_lex.specs.Fronts.{IsFront, HasNoFront, begins_other}
use Rattle.pp_lex.proofs.Fronts.{no_front}

-- no token goes on behind these bytes, where the text goes on with d
abbrev pub Stops : Text → ℕ → Type 0
Stops bs d = (ds : Text) → any_form (bs ++ d ∷ ds) ≡ false

beyond1 : (b : ℕ) (r : Text) → Stops (b ∷ []) (get_or r 0 0) → (m : ℕ) → 1 < m → m ≤ length (b ∷ r) → any_form (take m (b ∷ r)) ≡ false
beyond1 b r s zero low high = absurd (omega arith)
beyond1 b r s (suc zero) low high = absurd (omega arith)
beyond1 b [] s (suc (suc m)) low high = absurd (omega arith)
beyond1 b (d ∷ r) s (suc (suc m)) low high = s (take m r)

beyond2 : (b c : ℕ) (r : Text) → Stops (b ∷ c ∷ []) (get_or r 0 0) → (m : ℕ) → 2 < m → m ≤ length (b ∷ c ∷ r) → any_form (take m (b ∷ c ∷ r)) ≡ false
beyond2 b c r s zero low high = absurd (omega arith)
beyond2 b c r s (suc zero) low high = absurd (omega arith)
beyond2 b c r s (suc (suc zero)) low high = absurd (omega arith)
beyond2 b c [] s (suc (suc (suc m))) low high = absurd (omega arith)
beyond2 b c (d ∷ r) s (suc (suc (suc m))) low high = s (take m r)

beyond3 : (b c e : ℕ) (r : Text) → Stops (b ∷ c ∷ e ∷ []) (get_or r 0 0) → (m : ℕ) → 3 < m → m ≤ length (b ∷ c ∷ e ∷ r) → any_form (take m (b ∷ c ∷ e ∷ r)) ≡ false
beyond3 b c e r s zero low high = absurd (omega arith)
beyond3 b c e r s (suc zero) low high = absurd (omega arith)
beyond3 b c e r s (suc (suc zero)) low high = absurd (omega arith)
beyond3 b c e r s (suc (suc (suc zero))) low high = absurd (omega arith)
beyond3 b c e [] s (suc (suc (suc (suc m)))) low high = absurd (omega arith)
beyond3 b c e (d ∷ r) s (suc (suc (suc (suc m)))) low high = s (take m r)

from_beyond : (text : Text) (k : Kind) (n : ℕ) → 0 < n → n ≤ length text → spells k (take n text) ≡ true → ((m : ℕ) → n < m → m ≤ length text → any_form (take m text) ≡ false) → IsFront text k n
from_beyond text k n some within spelled beyond = record {
  some = some;
  within = within;
  spelled = spelled;
  longest = λ h m low high. has_form-none h (take m text) (beyond m low high);
}

-- a token of one, two or three bytes
pub mark1 : (k : Kind) (b : ℕ) (text : Text) → 0 < b → get_or text 0 0 ≡ b → spells k (b ∷ []) ≡ true → Stops (b ∷ []) (get_or text 1 0) → IsFront text k 1
mark1 k b [] some e h s = absurd (omega arith)
mark1 k b (c ∷ r) some e h s = subst (λ x. IsFront (x ∷ r) k 1) (sym e) (from_beyond (b ∷ r) k 1 (omega arith) (omega arith) h (beyond1 b r s))

pub mark2 : (k : Kind) (b c : ℕ) (text : Text) → 0 < b → 0 < c → get_or text 0 0 ≡ b → get_or text 1 0 ≡ c → spells k (b ∷ c ∷ []) ≡ true → Stops (b ∷ c ∷ []) (get_or text 2 0) → IsFront text k 2
mark2 k b c [] some more e f h s = absurd (omega arith)
mark2 k b c (x ∷ []) some more e f h s = absurd (omega arith)
mark2 k b c (x ∷ y ∷ r) some more e f h s =
    subst (λ z. IsFront (z ∷ y ∷ r) k 2) (sym e)
    (subst (λ z. IsFront (b ∷ z ∷ r) k 2) (sym f) (from_beyond (b ∷ c ∷ r) k 2 (omega arith) (omega arith) h (beyond2 b c r s)))

pub mark3 : (k : Kind) (b c d : ℕ) (text : Text) → 0 < b → 0 < c → 0 < d → get_or text 0 0 ≡ b → get_or text 1 0 ≡ c → get_or text 2 0 ≡ d → spells k (b ∷ c ∷ d ∷ []) ≡ true → Stops (b ∷ c ∷ d ∷ []) (get_or text 3 0) → IsFront text k 3
mark3 k b c d [] some more most e f g h s = absurd (omega arith)
mark3 k b c d (x ∷ []) some more most e f g h s = absurd (omega arith)
mark3 k b c d (x ∷ y ∷ []) some more most e f g h s = absurd (omega arith)
mark3 k b c d (x ∷ y ∷ z ∷ r) some more most e f g h s =
    subst (λ v. IsFront (v ∷ y ∷ z ∷ r) k 3) (sym e)
    (subst (λ v. IsFront (b ∷ v ∷ z ∷ r) k 3) (sym f)
    (subst (λ v. IsFront (b ∷ c ∷ v ∷ r) k 3) (sym g) (from_beyond (b ∷ c ∷ d ∷ r) k 3 (omega arith) (omega arith) h (beyond3 b c d r s))))

no_token : (text : Text) → ((m : ℕ) → 0 < m → m ≤ length text → any_form (take m text) ≡ false) → HasNoFront text
no_token text none k n f = both_ways _ (none n f.some f.within) (spells-any k (take n text) f.spelled)

-- no token begins with one byte, or with two
pub no_mark1 : (b : ℕ) (text : Text) → 0 < b → get_or text 0 0 ≡ b → any_form (b ∷ []) ≡ false → Stops (b ∷ []) (get_or text 1 0) → HasNoFront text
no_mark1 b [] some e h s = absurd (omega arith)
no_mark1 b (x ∷ r) some e h s = subst (λ z. HasNoFront (z ∷ r)) (sym e) (no_token (b ∷ r) none)
  where
    none : (m : ℕ) → 0 < m → m ≤ length (b ∷ r) → any_form (take m (b ∷ r)) ≡ false
    none zero low high = absurd (omega arith)
    none (suc zero) low high = h
    none (suc (suc m)) low high = beyond1 b r s (suc (suc m)) (omega arith) high

pub no_mark2 : (b c : ℕ) (text : Text) → 0 < b → 0 < c → get_or text 0 0 ≡ b → get_or text 1 0 ≡ c → any_form (b ∷ []) ≡ false → any_form (b ∷ c ∷ []) ≡ false → Stops (b ∷ c ∷ []) (get_or text 2 0) → HasNoFront text
no_mark2 b c [] some more e f h i s = absurd (omega arith)
no_mark2 b c (x ∷ []) some more e f h i s = absurd (omega arith)
no_mark2 b c (x ∷ y ∷ r) some more e f h i s =
    subst (λ z. HasNoFront (z ∷ y ∷ r)) (sym e) (subst (λ z. HasNoFront (b ∷ z ∷ r)) (sym f) (no_token (b ∷ c ∷ r) none))
  where
    none : (m : ℕ) → 0 < m → m ≤ length (b ∷ c ∷ r) → any_form (take m (b ∷ c ∷ r)) ≡ false
    none zero low high = absurd (omega arith)
    none (suc zero) low high = h
    none (suc (suc zero)) low high = i
    none (suc (suc (suc m))) low high = beyond2 b c r s (suc (suc (suc m))) (omega arith) high

-- no token begins with a byte that begins none of any kind
other_begins : (b : ℕ) → begins_other b ≡ true → begins_mark b ≡ false → Begins false false false false false false b
other_begins b h m =
    let p = and_parts (not (begins_number b) && not (is_lower b) && not (begins_variable b)) (not (nat_eq b 39)) h in
    let q = and_parts (not (begins_number b) && not (is_lower b)) (not (begins_variable b)) p.0 in
    let r = and_parts (not (begins_number b)) (not (is_lower b)) q.0 in
    let n = or_parts (is_digit b) (nat_eq b 45) (not-true _ r.0) in
    record {
      number_is = n.0;
      minus_is = n.1;
      lower_is = not-true _ r.1;
      quote_is = not-true _ p.1;
      variable_is = not-true _ q.1;
      mark_is = m;
    }

pub no_mark_byte : (text : Text) → 0 < length text → begins_other (get_or text 0 0) ≡ true → begins_mark (get_or text 0 0) ≡ false → HasNoFront text
no_mark_byte [] l h m = absurd (omega arith)
no_mark_byte (b ∷ r) l h m = no_front b r (λ n high. form_of_other b (take n r) (other_begins b h m))
