-- Integers that a text begins with: the whole run of digits is one candidate.
use Rattle.std.proofs.Common.{◌≡◌, ℕ, zero, suc, ◌+◌, ◌<◌, ◌≤◌, Bool, true, false, ◌&&◌, nat_eq, nat_le, [], ◌∷◌, length, take, drop, get_or, refl, ap, sym, ◌∙◌, subst, ⊎_elim, arith, length-take-le}
use Rattle.std.specs.List.{list_all, prefix_len}
use Rattle.std.specs.Prelude.{Option, MatchOption}
use Rattle.std.specs.Bool.{then_some}
use mir.Val.{bool_byte}
use Rattle.std.proofs.lemmas.Bool.{and_from, and_parts, both_ways, or_left, or_right, or_cases, eqb-true, cases_order, cond-false}
use Rattle.pp_language.specs.declared.token.Kind.{Kind}
use Rattle.pp_language.specs.declared.token.Kind.TheVariants.{Integer}
use Rattle.pp_language.specs.Texts.{Text, is_digit}
use Rattle.pp_language.specs.Kinds.{value_of, greatest_size, is_number_text, are_digits, digits_of, spells, begins_number}
use Rattle.pp_language.proofs.Bytes.{digit_begins}
use Rattle.pp_language.proofs.Forms.{any_form, has_form-none, spells-any, form_of_digit, form_of_minus}
use Rattle.pp_language.proofs.OneKind.{number_kind}
use Rattle.pp_lex.specs.Fronts.{IsFront, HasNoFront}
use Rattle.pp_lex.proofs.Fronts.{no_front}
use Rattle.pp_lex.proofs.Runs.{prefix_len-yes, all_in_run, not_all_beyond, run-le}

-- the first n bytes of the text are a number with these digits, and nothing longer has a form
pub record IsRun (text : Text) (n : ℕ) (digits : Text) : Type 0 where
  pub some : 0 < n
  pub within : n ≤ length text
  pub number : is_number_text (take n text) ≡ true
  pub digits_are : digits_of (take n text) ≡ digits
  pub beyond : (m : ℕ) → n < m → m ≤ length text → any_form (take m text) ≡ false

module _ {text : Text} {n : ℕ} {digits : Text} (run : IsRun text n digits) where
  pub run_in_range : nat_le (value_of 0 digits) greatest_size ≡ true → IsFront text Integer n
  run_in_range h = record {
    some = run.some;
    within = run.within;
    spelled = and_from (is_number_text (take n text)) _ run.number (subst (λ ds. nat_le (value_of 0 ds) greatest_size ≡ true) (sym run.digits_are) h);
    longest = λ k m low high. has_form-none k (take m text) (run.beyond m low high);
  }

  spells_in_range : (k : Kind) → spells k (take n text) ≡ true → nat_le (value_of 0 digits) greatest_size ≡ true
  spells_in_range k h =
      let s : spells Integer (take n text) ≡ true = subst (λ j. spells j (take n text) ≡ true) (number_kind k (take n text) run.number h) h in
      subst (λ ds. nat_le (value_of 0 ds) greatest_size ≡ true) run.digits_are (and_parts (is_number_text (take n text)) _ s).1

  pub run_out_of_range : nat_le (value_of 0 digits) greatest_size ≡ false → HasNoFront text
  run_out_of_range h k m f = ⊎_elim
      (λ (e : m ≡ n). both_ways _ h (spells_in_range k (subst (λ i. spells k (take i text) ≡ true) e f.spelled)))
      (λ s. ⊎_elim
      (λ (l : m < n). both_ways _ (f.longest k n l run.within) (or_right (spells k (take n text)) (is_number_text (take n text)) run.number))
      (λ (l : n < m). both_ways _ (run.beyond m l f.within) (spells-any k (take m text) f.spelled))
      s)
      (cases_order m n)

-- a digit begins a run of digits
digit_run : (b : ℕ) (r : Text) → is_digit b ≡ true → IsRun (b ∷ r) (suc (prefix_len is_digit r)) (b ∷ take (prefix_len is_digit r) r)
digit_run b r h =
    let all = and_from (is_digit b) (list_all is_digit (take (prefix_len is_digit r) r)) h (all_in_run is_digit r) in
    record {
      some = omega arith;
      within = omega (arith, run-le is_digit r);
      number = or_left (is_digit b && list_all is_digit (take (prefix_len is_digit r) r)) _ all;
      digits_are = cond-false (nat_eq b 45) _ _ (digit_begins b h).minus_is;
      beyond = digit_beyond b r h;
    }
  where
    digit_beyond : (b : ℕ) (r : Text) → is_digit b ≡ true → (m : ℕ) → suc (prefix_len is_digit r) < m → m ≤ length (b ∷ r) → any_form (take m (b ∷ r)) ≡ false
    digit_beyond b r h zero low high = absurd (omega arith)
    digit_beyond b r h (suc m) low high = form_of_digit b (take m r) h ∙ not_all_beyond is_digit r m (omega arith) (omega arith)

are_digits-all : (bs : Text) → 0 < length bs → are_digits bs ≡ list_all is_digit bs
are_digits-all [] l = absurd (omega arith)
are_digits-all (b ∷ bs) l = refl

minus_beyond : (r : Text) (m : ℕ) → suc (prefix_len is_digit r) < m → m ≤ length (45 ∷ r) → any_form (take m (45 ∷ r)) ≡ false
minus_beyond r zero low high = absurd (omega arith)
minus_beyond r (suc m) low high =
    form_of_minus (take m r)
    ∙ are_digits-all (take m r) (omega (arith, length-take-le m r (omega arith)))
    ∙ not_all_beyond is_digit r m (omega arith) (omega arith)

-- a minus and digits begin one
minus_run : (r : Text) → 0 < prefix_len is_digit r → IsRun (45 ∷ r) (suc (prefix_len is_digit r)) (take (prefix_len is_digit r) r)
minus_run r l = record {
  some = omega arith;
  within = omega (arith, run-le is_digit r);
  number = are_digits-all (take (prefix_len is_digit r) r) (omega (arith, length-take-le (prefix_len is_digit r) r (run-le is_digit r))) ∙ all_in_run is_digit r;
  digits_are = refl;
  beyond = minus_beyond r;
}

minus_alone : (r : Text) → prefix_len is_digit r ≡ 0 → HasNoFront (45 ∷ r)
minus_alone r e = no_front 45 r (λ m high. form_of_minus (take m r) ∙ none m high)
  where
    none : (m : ℕ) → m ≤ length r → are_digits (take m r) ≡ false
    none zero high = refl
    none (suc m) high = are_digits-all (take (suc m) r) (omega (arith, length-take-le (suc m) r high)) ∙ not_all_beyond is_digit r (suc m) (omega arith) high

moved : (text : Text) (s n i k : ℕ) → s ≡ i → n ≡ k → IsRun text (i + k) (take k (drop i text)) → IsRun text (s + n) (take n (drop s text))
moved text s n i k e f h =
    subst (λ j. IsRun text (j + n) (take n (drop j text))) (sym e) (subst (λ j. IsRun text (i + j) (take j (drop i text))) (sym f) h)

-- the number whose sign takes s bytes and its digits n
pub number_run : (text : Text) (s n : ℕ) → 0 < length text → begins_number (get_or text 0 0) ≡ true → s ≡ bool_byte (nat_eq (get_or text 0 0) 45) → n ≡ prefix_len is_digit (drop s text) → 0 < n → IsRun text (s + n) (take n (drop s text))
number_run [] s n l h e f p = absurd (omega arith)
number_run (b ∷ r) s n l h e f p = ⊎_elim
    (λ (d : is_digit b ≡ true).
    let z : s ≡ 0 = e ∙ ap bool_byte (digit_begins b d).minus_is in
    let m : n ≡ suc (prefix_len is_digit r) = f ∙ ap (λ k. prefix_len is_digit (drop k (b ∷ r))) z ∙ prefix_len-yes is_digit b r d in
    let j : suc (prefix_len is_digit r) ≡ 0 + suc (prefix_len is_digit r) = omega arith in
    moved (b ∷ r) s n 0 (suc (prefix_len is_digit r)) z m (subst (λ k. IsRun (b ∷ r) k (b ∷ take (prefix_len is_digit r) r)) j (digit_run b r d)))
    (λ (d : nat_eq b 45 ≡ true).
    let z : s ≡ 1 = e ∙ ap bool_byte d in
    let m : n ≡ prefix_len is_digit r = f ∙ ap (λ k. prefix_len is_digit (drop k (b ∷ r))) z in
    let j : suc (prefix_len is_digit r) ≡ 1 + prefix_len is_digit r = omega arith in
    moved (b ∷ r) s n 1 (prefix_len is_digit r) z m
    (subst (λ c. IsRun (c ∷ r) (1 + prefix_len is_digit r) (take (prefix_len is_digit r) r)) (sym (eqb-true b 45 d))
    (subst (λ k. IsRun (45 ∷ r) k (take (prefix_len is_digit r) r)) j (minus_run r (omega arith)))))
    (or_cases (is_digit b) (nat_eq b 45) h)

pub number_none : (text : Text) (s : ℕ) → 0 < length text → begins_number (get_or text 0 0) ≡ true → s ≡ bool_byte (nat_eq (get_or text 0 0) 45) → prefix_len is_digit (drop s text) ≡ 0 → HasNoFront text
number_none [] s l h e f = absurd (omega arith)
number_none (b ∷ r) s l h e f = ⊎_elim
    (λ (d : is_digit b ≡ true).
    let z : s ≡ 0 = e ∙ ap bool_byte (digit_begins b d).minus_is in
    let m : 0 ≡ suc (prefix_len is_digit r) = sym f ∙ ap (λ k. prefix_len is_digit (drop k (b ∷ r))) z ∙ prefix_len-yes is_digit b r d in
    absurd (omega arith))
    (λ (d : nat_eq b 45 ≡ true).
    let z : s ≡ 1 = e ∙ ap bool_byte d in
    let m : prefix_len is_digit r ≡ 0 = sym (ap (λ k. prefix_len is_digit (drop k (b ∷ r))) z) ∙ f in
    subst (λ c. HasNoFront (c ∷ r)) (sym (eqb-true b 45 d)) (minus_alone r m))
    (or_cases (is_digit b) (nat_eq b 45) h)

-- what the code answers
pub integer_found : {text : Text} {n : ℕ} {digits : Text} (run : IsRun text n digits) (t : Bool) (r : Option ℕ) → t ≡ nat_le (value_of 0 digits) greatest_size → r ≡ then_some t n → MatchOption r (HasNoFront text) (IsFront text Integer)
integer_found {text} {n} run true r e f = subst (λ o. MatchOption o (HasNoFront text) (IsFront text Integer)) (sym f) (run_in_range run (sym e))
integer_found {text} {n} run false r e f = subst (λ o. MatchOption o (HasNoFront text) (IsFront text Integer)) (sym f) (run_out_of_range run (sym e))

pub integer_missing : (text : Text) (n : ℕ) (t : Bool) (r : Option ℕ) → t ≡ false → r ≡ then_some t n → HasNoFront text → MatchOption r (HasNoFront text) (IsFront text Integer)
integer_missing text n t r e f h = subst (λ o. MatchOption o (HasNoFront text) (IsFront text Integer)) (sym (f ∙ ap (λ b. then_some b n) e)) h
