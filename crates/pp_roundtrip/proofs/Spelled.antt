-- What is printed of an atom, an integer and a variable: it is one token, and what it writes.
use Rattle.std.proofs.Common.{◌≡◌, ℕ, suc, ℤ, pos, negsuc, ◌+◌, ◌-◌, ◌/◌, ◌%◌, ◌^◌, ◌<◌, ◌≤◌, Bool, true, false, not, ◌||◌, cond, nat_eq, nat_le, [], ◌∷◌, ◌++◌, length, refl, ap, sym, ◌∙◌, subst, ⊎_elim, arith, length-append}
use Rattle.std.specs.Fmt.{decimal, signed_decimal}
use Rattle.std.specs.List.{list_all}
use Rattle.std.proofs.lemmas.Bool.{and_from, and_left, and_parts, and_right, both_ways, cases_Bool, cond-true, cond-false, eqb-true, le-leb, not-true, or_cases, or_left, or_parts, or_right}
use Rattle.std.proofs.lemmas.Fmt.{decimal_by_steps_wide}
use Rattle.std.proofs.lemmas.Int.{ints}
use Rattle.std.proofs.lemmas.List.Folds.{list_all-append}
use Rattle.pp_algebra.specs.Members as members
use Rattle.pp_language.specs.declared.token.Kind.TheVariants.{Integer, Atom, Quoted, Variable}
use Rattle.pp_language.specs.Texts.{Text, is_digit, is_lower, is_upper, is_underscore, is_word}
use Rattle.pp_language.specs.Kinds.{value_of, are_digits, is_number_text, greatest_size, is_plain_atom, is_word_from, is_plain_byte, is_quoted_rest, is_after_quote, unquoted_rest, unquoted, spells}
use Rattle.pp_language.specs.Words.{Word, word, is_name_kind, atom_of}
use Rattle.pp_language.specs.Meanings.{integer_of}
use Rattle.pp_language.specs.Printing.{doubled, atom_text, variable_text}
use Rattle.pp_language.proofs.Bytes.{digit_begins}
use Rattle.pp_language.proofs.Forms.{any_form, form_of_digit, form_of_minus, form_of_lower, form_of_quote, form_of_variable}
use Rattle.pp_roundtrip.specs.Laws.{is_writable, ends_tokens}
use Rattle.pp_algebra.proofs.Bools.{left_alone}
use Rattle.pp_language.proofs.Digits.{value_of-append}

-- ===== digits

-- digits that write the number n
pub record Writes (n : ℕ) (ds : Text) : Type 0 where
  pub all : list_all is_digit ds ≡ true
  pub some : 0 < length ds
  pub value : value_of 0 ds ≡ n

digit_is : (n : ℕ) → n < 10 → is_digit (48 + n) ≡ true
digit_is n l = and_from (nat_le 48 (48 + n)) (nat_le (48 + n) 57) (le-leb 48 (48 + n) (omega arith)) (le-leb (48 + n) 57 (omega arith))

one_digit : (n : ℕ) → n < 10 → Writes n ((48 + n) ∷ [])
one_digit n l = record { all = and_from (is_digit (48 + n)) true (digit_is n l) refl; some = omega arith; value = omega arith }

more_digits : (n : ℕ) (ds : Text) → 10 ≤ n → Writes (n / 10) ds → Writes n (ds ++ ((48 + n % 10) ∷ []))
more_digits n ds l w = record {
  all = list_all-append is_digit ds ((48 + n % 10) ∷ []) ∙ and_from (list_all is_digit ds) _ w.all (and_from (is_digit (48 + n % 10)) true (digit_is (n % 10) (omega arith)) refl);
  some = omega (arith, w.some, length-append ds ((48 + n % 10) ∷ []));
  value = omega (arith, w.value, value_of-append 0 ds ((48 + n % 10) ∷ []));
}

pub decimal-writes : (n : ℕ) → n < 10 ^ 64 → Writes n (decimal n)
decimal-writes = decimal_by_steps_wide Writes one_digit more_digits

-- ===== what ends a token

abbrev pub ends : ℕ → Type 0
ends b = (is_word b ≡ false) × (nat_eq b 39 ≡ false)

pub ends-first : (b : ℕ) (bs : Text) → ends_tokens (b ∷ bs) ≡ true → ends b
ends-first b bs h = let p = and_parts (not (is_word b)) (not (nat_eq b 39)) h in (not-true _ p.0, not-true _ p.1)

no_digit : (b : ℕ) → is_word b ≡ false → is_digit b ≡ false
no_digit b h = (or_parts (is_lower b || is_upper b) (is_digit b) (or_parts (is_lower b || is_upper b || is_digit b) (is_underscore b) h).0).1

not_all : (p : ℕ → Bool) (ds bs : Text) (b : ℕ) → p b ≡ false → list_all p (ds ++ b ∷ bs) ≡ false
not_all p ds bs b h = list_all-append p ds (b ∷ bs) ∙ and_right (list_all p ds) (list_all p (b ∷ bs)) (and_left (p b) (list_all p bs) h)

-- no token begins with this text and goes on with a byte that ends tokens
abbrev pub Ends : Text → Type 0
Ends x = (b : ℕ) (bs : Text) → ends b → any_form (x ++ b ∷ bs) ≡ false

-- ===== integers

are_digits-all : (bs : Text) → list_all is_digit bs ≡ true → 0 < length bs → are_digits bs ≡ true
are_digits-all [] h l = absurd (omega arith)
are_digits-all (b ∷ bs) h l = h

are_digits-false : (bs : Text) → list_all is_digit bs ≡ false → are_digits bs ≡ false
are_digits-false [] h = refl
are_digits-false (b ∷ bs) h = h

-- a text that writes the integer n, and is a token
pub record IsInteger (n : ℤ) (x : Text) : Type 0 where
  pub spelled : spells Integer x ≡ true
  pub ends : Ends x
  pub value : integer_of x ≡ n

within : (n : ℕ) (ds : Text) → Writes n ds → n ≤ greatest_size → nat_le (value_of 0 ds) greatest_size ≡ true
within n ds w l = le-leb (value_of 0 ds) greatest_size (omega (arith, w.value))

positive : (n : ℕ) (ds : Text) → Writes n ds → n ≤ greatest_size → IsInteger (pos n) ds
positive n [] w l = absurd (omega (arith, w.some))
positive n (d ∷ ds) w l =
    let p = and_parts (is_digit d) (list_all is_digit ds) w.all in
    let m = (digit_begins d p.0).minus_is in
    record {
      spelled = and_from (is_number_text (d ∷ ds)) _ (or_left (are_digits (d ∷ ds)) _ w.all) (ap (λ x. nat_le (value_of 0 x) greatest_size) (cond-false (nat_eq d 45) ds (d ∷ ds) m) ∙ within n (d ∷ ds) w l);
      ends = λ b bs e. form_of_digit d (ds ++ b ∷ bs) p.0 ∙ not_all is_digit ds bs b (no_digit b e.0);
      value = cond-false (nat_eq d 45) _ _ m ∙ ap pos w.value;
    }

negative : (n : ℕ) (ds : Text) → Writes (suc n) ds → suc n ≤ greatest_size → IsInteger (negsuc n) (45 ∷ ds)
negative n ds w l = record {
  spelled = and_from (is_number_text (45 ∷ ds)) _ (are_digits-all ds w.all w.some) (within (suc n) ds w l);
  ends = λ b bs e. form_of_minus (ds ++ b ∷ bs) ∙ are_digits-false (ds ++ b ∷ bs) (not_all is_digit ds bs b (no_digit b e.0));
  value = omega (arith, ints, w.value);
}

pub integer-written : (n : ℤ) → members.IsInteger n → IsInteger n (signed_decimal n)
integer-written (pos n) l = positive n (decimal n) (decimal-writes n (omega (arith, ints, l.at_most))) (omega (arith, ints, l.at_most))
integer-written (negsuc n) l = negative n (decimal (suc n)) (decimal-writes (suc n) (omega (arith, ints, l.at_least))) (omega (arith, ints, l.at_least))

-- ===== variables

pub record IsVariable (x : Text) : Type 0 where
  pub spelled : spells Variable x ≡ true
  pub ends : Ends x

digits_are_words : (ds : Text) → list_all is_digit ds ≡ true → list_all is_word ds ≡ true
digits_are_words [] h = refl
digits_are_words (d ∷ ds) h =
    let p = and_parts (is_digit d) (list_all is_digit ds) h in
    and_from (is_word d) (list_all is_word ds) (or_left (is_lower d || is_upper d || is_digit d) (is_underscore d) (or_right (is_lower d || is_upper d) (is_digit d) p.0)) (digits_are_words ds p.1)

pub variable-written : (v : ℕ) → v < 10 ^ 64 → IsVariable (variable_text v)
variable-written v l = record {
  spelled = digits_are_words (decimal v) (decimal-writes v l).all;
  ends = λ b bs e. form_of_variable 95 (decimal v ++ b ∷ bs) refl ∙ not_all is_word (decimal v) bs b e.0;
}

-- ===== atoms

-- an atom in quotes
abbrev pub in_quotes : Text → Text
in_quotes bs = 39 ∷ doubled bs ++ 39 ∷ []

abbrev behind : Text → Text
behind bs = doubled bs ++ 39 ∷ []

behind-other : (b : ℕ) (bs : Text) → nat_eq b 39 ≡ false → behind (b ∷ bs) ≡ b ∷ behind bs
behind-other b bs h = ap (λ x. (x ++ doubled bs) ++ 39 ∷ []) (cond-false (nat_eq b 39) (39 ∷ 39 ∷ []) (b ∷ []) h)

rest-other : (b : ℕ) (bs : Text) → nat_eq b 39 ≡ false → is_plain_byte b ≡ true → is_quoted_rest (b ∷ bs) ≡ is_quoted_rest bs
rest-other b bs h p = left_alone _ _ (is_quoted_rest bs) (is_after_quote bs) p h

plain_or_quote : (b : ℕ) → (is_plain_byte b || nat_eq b 39) ≡ true → nat_eq b 39 ≡ false → is_plain_byte b ≡ true
plain_or_quote b h e = ⊎_elim (λ p. p) (λ q. absurd (both_ways _ e q)) (or_cases (is_plain_byte b) (nat_eq b 39) h)

-- the rest of a quoted atom, behind its first quote; it ends where the next byte is no quote
record IsRest (x : Text) : Type 0 where
  spelled : is_quoted_rest x ≡ true
  ends : (c : ℕ) (cs : Text) → nat_eq c 39 ≡ false → is_quoted_rest (x ++ c ∷ cs) ≡ false

rest_on : (b : ℕ) (bs : Text) → (is_plain_byte b || nat_eq b 39) ≡ true → IsRest (behind bs) → IsRest (behind (b ∷ bs))
rest_on b bs h r = ⊎_elim
    (λ (e : nat_eq b 39 ≡ true). subst (λ c. IsRest (behind (c ∷ bs))) (sym (eqb-true b 39 e)) (record { spelled = r.spelled; ends = r.ends }))
    (λ (e : nat_eq b 39 ≡ false).
    let q = plain_or_quote b h e in
    subst IsRest (sym (behind-other b bs e)) (record {
      spelled = rest-other b (behind bs) e q ∙ r.spelled;
      ends = λ c cs f. rest-other b (behind bs ++ c ∷ cs) e q ∙ r.ends c cs f;
    }))
    (cases_Bool (nat_eq b 39))

rest_written : (bs : Text) → is_writable bs ≡ true → IsRest (behind bs)
rest_written [] h = record { spelled = refl; ends = λ c cs e. and_left (nat_eq c 39) (is_quoted_rest cs) e }
rest_written (b ∷ bs) h = let p = and_parts (is_plain_byte b || nat_eq b 39) (is_writable bs) h in rest_on b bs p.0 (rest_written bs p.1)

pub unquoted-in_quotes : (bs : Text) → unquoted (in_quotes bs) ≡ bs
unquoted-in_quotes [] = refl
unquoted-in_quotes (b ∷ bs) = ⊎_elim
    (λ (e : nat_eq b 39 ≡ true). subst (λ c. unquoted_rest (behind (c ∷ bs)) ≡ c ∷ bs) (sym (eqb-true b 39 e)) (ap (λ x. 39 ∷ x) (unquoted-in_quotes bs)))
    (λ (e : nat_eq b 39 ≡ false). ap unquoted_rest (behind-other b bs e) ∙ cond-false (nat_eq b 39) _ _ e ∙ ap (λ x. b ∷ x) (unquoted-in_quotes bs))
    (cases_Bool (nat_eq b 39))

-- the word that is printed of an atom
pub record IsAtom (bs : Text) (w : Word) : Type 0 where
  pub text : w.text ≡ atom_text bs
  pub name : is_name_kind w.kind ≡ true
  pub spelled : spells w.kind w.text ≡ true
  pub ends : Ends w.text
  pub value : atom_of w.kind w.text ≡ bs

abbrev pub atom_word : Text → Word
atom_word bs = cond (is_plain_atom bs) (word Atom bs) (word Quoted (in_quotes bs))

plain_atom : (bs : Text) → is_plain_atom bs ≡ true → IsAtom bs (word Atom bs)
plain_atom [] h = absurd (cc)
plain_atom (b ∷ bs) h =
    let p = and_parts (is_word_from is_lower (b ∷ bs)) _ h in
    let l = (and_parts (is_lower b) (list_all is_word bs) p.0).0 in
    record {
      text = sym (cond-true (is_plain_atom (b ∷ bs)) _ _ h);
      name = refl;
      spelled = h;
      ends = λ c cs e. form_of_lower b (bs ++ c ∷ cs) l ∙ not_all is_word bs cs c e.0;
      value = refl;
    }

quoted_atom : (bs : Text) → is_plain_atom bs ≡ false → is_writable bs ≡ true → IsAtom bs (word Quoted (in_quotes bs))
quoted_atom bs h k =
    let r = rest_written bs k in
    record {
      text = sym (cond-false (is_plain_atom bs) _ _ h);
      name = refl;
      spelled = r.spelled;
      ends = λ c cs e. form_of_quote (behind bs ++ c ∷ cs) ∙ r.ends c cs e.1;
      value = unquoted-in_quotes bs;
    }

pub atom-written : (bs : Text) → is_writable bs ≡ true → IsAtom bs (atom_word bs)
atom-written bs k = ⊎_elim
    (λ (h : is_plain_atom bs ≡ true). subst (IsAtom bs) (sym (cond-true (is_plain_atom bs) _ _ h)) (plain_atom bs h))
    (λ (h : is_plain_atom bs ≡ false). subst (IsAtom bs) (sym (cond-false (is_plain_atom bs) _ _ h)) (quoted_atom bs h k))
    (cases_Bool (is_plain_atom bs))
