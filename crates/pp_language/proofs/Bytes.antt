-- The first bytes of tokens: what each class of them leaves out.
use Rattle.std.proofs.Common.{◌≡◌, ℕ, ◌<◌, ◌≤◌, Bool, true, false, ◌||◌, nat_eq, nat_le, List, [], ◌∷◌, ◌⊎◌, inl, inr, ⊎_elim, refl, arith}
use Rattle.std.specs.List.{list_any}
use Rattle.std.proofs.lemmas.Bool.{and_parts, and_left, and_right, or_cases, or_from, or_left, or_right, leb-true, lt-leb, eqb-true, ne_eqb}
use Rattle.pp_language.specs.Texts.{is_between, is_digit, is_lower, is_upper, is_underscore, is_word}
use Rattle.pp_language.specs.Kinds.{begins_variable}

-- the bytes that begin a mark
abbrev pub mark_bytes : List ℕ
mark_bytes = 40 ∷ 41 ∷ 91 ∷ 93 ∷ 44 ∷ 46 ∷ 58 ∷ 63 ∷ 61 ∷ 35 ∷ []

abbrev pub begins_mark : ℕ → Bool
begins_mark b = list_any (nat_eq b) mark_bytes

pub within : (low high b : ℕ) → is_between low high b ≡ true → (low ≤ b) × (b ≤ high)
within low high b h = let p = and_parts (nat_le low b) (nat_le b high) h in (leb-true low b p.0, leb-true b high p.1)

pub below : (low high b : ℕ) → b < low → is_between low high b ≡ false
below low high b h = and_left (nat_le low b) (nat_le b high) (lt-leb low b h)

pub above : (low high b : ℕ) → high < b → is_between low high b ≡ false
above low high b h = and_right (nat_le low b) (nat_le b high) (lt-leb b high h)

pub no_mark : (b : ℕ) → (b ≡ 40 → ⊥) → (b ≡ 41 → ⊥) → (b ≡ 91 → ⊥) → (b ≡ 93 → ⊥) → (b ≡ 44 → ⊥) → (b ≡ 46 → ⊥) → (b ≡ 58 → ⊥) → (b ≡ 63 → ⊥) → (b ≡ 61 → ⊥) → (b ≡ 35 → ⊥) → begins_mark b ≡ false
no_mark b h1 h2 h3 h4 h5 h6 h7 h8 h9 h10 = or_from _ _ (ne_eqb b 40 h1) (or_from _ _ (ne_eqb b 41 h2) (or_from _ _ (ne_eqb b 91 h3) (or_from _ _ (ne_eqb b 93 h4) (or_from _ _ (ne_eqb b 44 h5) (or_from _ _ (ne_eqb b 46 h6) (or_from _ _ (ne_eqb b 58 h7) (or_from _ _ (ne_eqb b 63 h8) (or_from _ _ (ne_eqb b 61 h9) (or_from _ _ (ne_eqb b 35 h10) refl)))))))))

-- what a byte begins if it begins a number, a word of lower case, a quoted atom, a variable or a mark: no more than one
pub record Begins (number minus lower quote variable mark : Bool) (b : ℕ) : Type 0 where
  pub number_is : is_digit b ≡ number
  pub minus_is : nat_eq b 45 ≡ minus
  pub lower_is : is_lower b ≡ lower
  pub quote_is : nat_eq b 39 ≡ quote
  pub variable_is : begins_variable b ≡ variable
  pub mark_is : begins_mark b ≡ mark

pub digit_begins : (b : ℕ) → is_digit b ≡ true → Begins true false false false false false b
digit_begins b h =
    let w = within 48 57 b h in
    record {
      number_is = h;
      minus_is = ne_eqb b 45 (λ e. omega (arith, w));
      lower_is = below 97 122 b (omega (arith, w));
      quote_is = ne_eqb b 39 (λ e. omega (arith, w));
      variable_is = or_from (is_upper b) (is_underscore b) (below 65 90 b (omega (arith, w))) (ne_eqb b 95 (λ e. omega (arith, w)));
      mark_is = no_mark b (λ e. omega (arith, w)) (λ e. omega (arith, w)) (λ e. omega (arith, w)) (λ e. omega (arith, w)) (λ e. omega (arith, w)) (λ e. omega (arith, w)) (λ e. omega (arith, w)) (λ e. omega (arith, w)) (λ e. omega (arith, w)) (λ e. omega (arith, w));
    }

pub lower_begins : (b : ℕ) → is_lower b ≡ true → Begins false false true false false false b
lower_begins b h =
    let w = within 97 122 b h in
    record {
      number_is = above 48 57 b (omega (arith, w));
      minus_is = ne_eqb b 45 (λ e. omega (arith, w));
      lower_is = h;
      quote_is = ne_eqb b 39 (λ e. omega (arith, w));
      variable_is = or_from (is_upper b) (is_underscore b) (above 65 90 b (omega (arith, w))) (ne_eqb b 95 (λ e. omega (arith, w)));
      mark_is = no_mark b (λ e. omega (arith, w)) (λ e. omega (arith, w)) (λ e. omega (arith, w)) (λ e. omega (arith, w)) (λ e. omega (arith, w)) (λ e. omega (arith, w)) (λ e. omega (arith, w)) (λ e. omega (arith, w)) (λ e. omega (arith, w)) (λ e. omega (arith, w));
    }

upper_or_underscore : (b : ℕ) → begins_variable b ≡ true → ((65 ≤ b) × (b ≤ 90)) ⊎ (b ≡ 95)
upper_or_underscore b h = ⊎_elim (λ e. inl (within 65 90 b e)) (λ e. inr (eqb-true b 95 e)) (or_cases (is_upper b) (is_underscore b) h)

pub variable_begins : (b : ℕ) → begins_variable b ≡ true → Begins false false false false true false b
variable_begins b h =
    let w = upper_or_underscore b h in
    record {
      number_is = above 48 57 b (omega (arith, w));
      minus_is = ne_eqb b 45 (λ e. omega (arith, w));
      lower_is = below 97 122 b (omega (arith, w));
      quote_is = ne_eqb b 39 (λ e. omega (arith, w));
      variable_is = h;
      mark_is = no_mark b (λ e. omega (arith, w)) (λ e. omega (arith, w)) (λ e. omega (arith, w)) (λ e. omega (arith, w)) (λ e. omega (arith, w)) (λ e. omega (arith, w)) (λ e. omega (arith, w)) (λ e. omega (arith, w)) (λ e. omega (arith, w)) (λ e. omega (arith, w));
    }

pub minus_begins : Begins false true false false false false 45
minus_begins = record { number_is = refl; minus_is = refl; lower_is = refl; quote_is = refl; variable_is = refl; mark_is = refl }

pub quote_begins : Begins false false false true false false 39
quote_begins = record { number_is = refl; minus_is = refl; lower_is = refl; quote_is = refl; variable_is = refl; mark_is = refl }

-- the first byte of a word is one of its bytes
pub lower_is_word : (b : ℕ) → is_lower b ≡ true → is_word b ≡ true
lower_is_word b h = or_left (is_lower b || is_upper b || is_digit b) (is_underscore b) (or_left (is_lower b || is_upper b) (is_digit b) (or_left (is_lower b) (is_upper b) h))

pub variable_is_word : (b : ℕ) → begins_variable b ≡ true → is_word b ≡ true
variable_is_word b h = ⊎_elim
    (λ e. or_left (is_lower b || is_upper b || is_digit b) (is_underscore b) (or_left (is_lower b || is_upper b) (is_digit b) (or_right (is_lower b) (is_upper b) e)))
    (λ e. or_right (is_lower b || is_upper b || is_digit b) (is_underscore b) e)
    (or_cases (is_upper b) (is_underscore b) h)
