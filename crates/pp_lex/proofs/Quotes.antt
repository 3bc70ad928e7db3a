-- A run behind a quote: whether a quote is still to come, and the last place where the atom was closed.
use Rattle.std.proofs.Common.{◌≡◌, ℕ, suc, ◌+◌, ◌-◌, ◌<◌, ◌≤◌, Bool, true, false, cond, nat_eq, Option, Some, None, [], ◌∷◌, length, take, drop, get_or, ap, sym, ◌∙◌, subst, ⊎_elim, arith}
use Rattle.std.specs.Prelude.{MatchOption}
use Rattle.std.proofs.lemmas.Bool.{cases_lt, ne_eqb, or_from, and_left}
use Rattle.std.proofs.lemmas.List.{drop_more}
use Rattle.pp_language.specs.Texts.{Text}
use Rattle.pp_language.specs.Kinds.{is_plain_byte, is_quoted_rest, is_after_quote}
use Rattle.pp_lex.specs.Fronts.{IsLongestRest, HasNoRest}
use Rattle.pp_algebra.proofs.Bools.{left_alone}

-- no rest ends from place n to place i
abbrev pub NoneFrom : Text → ℕ → ℕ → Type 0
NoneFrom text n i = (m : ℕ) → n ≤ m → m ≤ i → is_quoted_rest (take m text) ≡ false

-- the longest rest up to place i
abbrev pub LongestTo : Text → ℕ → Option ℕ → Type 0
LongestTo text i None = NoneFrom text 0 i
LongestTo text i (Some n) = (n ≤ i) × (is_quoted_rest (take n text) ≡ true) × NoneFrom text (suc n) i

-- behind i bytes the atom is open, or it stands behind a quote
abbrev pub leads_to : Bool → Text → Bool
leads_to is_open bs = cond is_open (is_quoted_rest bs) (is_after_quote bs)

pub record QuotedTo (text : Text) (is_open : Bool) (size : Option ℕ) (i : ℕ) : Type 0 where
  pub leads : (m : ℕ) → is_quoted_rest (take (i + m) text) ≡ leads_to is_open (take m (drop i text))
  pub longest : LongestTo text i size

pub quoted_as : {text : Text} {i : ℕ} (a o : Bool) (s z : Option ℕ) → a ≡ o → s ≡ z → QuotedTo text o z i → QuotedTo text a s i
quoted_as {text} {i} a o s z e f q = subst (λ b. QuotedTo text b s i) (sym e) (subst (λ t. QuotedTo text o t i) (sym f) q)

none_on : (text : Text) (n i j : ℕ) → NoneFrom text n i → NoneFrom text (i + 1) j → NoneFrom text n j
none_on text n i j f g m low high = ⊎_elim (λ (l : m < i + 1). f m low (omega arith)) (λ (l : i + 1 ≤ m). g m l high) (cases_lt m (i + 1))

longest_on : (text : Text) (i j : ℕ) (size : Option ℕ) → i ≤ j → LongestTo text i size → NoneFrom text (i + 1) j → LongestTo text j size
longest_on text i j None l f g = none_on text 0 i j f g
longest_on text i j (Some n) l f g = (omega (arith, f.0), f.1, none_on text (suc n) i j f.2 g)

pub longest_at_end : (text : Text) (size : Option ℕ) → LongestTo text (length text) size → MatchOption size (HasNoRest text) (IsLongestRest text)
longest_at_end text None f = λ m high. f m (omega arith) high
longest_at_end text (Some n) f = record { within = f.0; spelled = f.1; longest = λ m low high. f.2 m low high }

module _ {text : Text} {is_open : Bool} {size : Option ℕ} {i : ℕ} (q : QuotedTo text is_open size i) (b : ℕ) (l : i < length text) (e : b ≡ get_or text i 0) where
  next : (m : ℕ) → is_quoted_rest (take ((i + 1) + m) text) ≡ leads_to is_open (b ∷ take m (drop (i + 1) text))
  next m =
      ap (λ n. is_quoted_rest (take n text)) (let f : (i + 1) + m ≡ i + suc m = omega arith in f)
      ∙ q.leads (suc m)
      ∙ ap (λ bs. leads_to is_open (take (suc m) bs)) (drop_more text i 0 l ∙ ap (λ c. c ∷ drop (i + 1) text) (sym e))

  at_next : is_quoted_rest (take (i + 1) text) ≡ leads_to is_open (b ∷ [])
  at_next = ap (λ n. is_quoted_rest (take n text)) (let f : i + 1 ≡ (i + 1) + 0 = omega arith in f) ∙ next 0

  none_at_next : is_quoted_rest (take (i + 1) text) ≡ false → NoneFrom text (i + 1) (i + 1)
  none_at_next h m low high = let same : m ≡ i + 1 = omega arith in ap (λ n. is_quoted_rest (take n text)) same ∙ h

  pub closes : is_open ≡ true → b ≡ 39 → QuotedTo text false (Some (i + 1)) (i + 1)
  closes o c =
      let on = λ (bs : Text). ap (λ x. leads_to x (b ∷ bs)) o ∙ ap (λ x. is_quoted_rest (x ∷ bs)) c in
      record {
        leads = λ m. next m ∙ on (take m (drop (i + 1) text));
        longest = (omega arith, at_next ∙ on [], λ m low high. absurd (omega arith));
      }

  pub opens : is_open ≡ false → b ≡ 39 → QuotedTo text true size (i + 1)
  opens o c =
      let on = λ (bs : Text). ap (λ x. leads_to x (b ∷ bs)) o ∙ ap (λ x. is_after_quote (x ∷ bs)) c in
      record {
        leads = λ m. next m ∙ on (take m (drop (i + 1) text));
        longest = longest_on text i (i + 1) size (omega arith) q.longest (none_at_next (at_next ∙ on []));
      }

  pub passes : is_open ≡ true → is_plain_byte b ≡ true → (b ≡ 39 → ⊥) → QuotedTo text true size (i + 1)
  passes o c n =
      let on = λ (bs : Text). ap (λ x. leads_to x (b ∷ bs)) o ∙ left_alone _ _ (is_quoted_rest bs) (is_after_quote bs) c (ne_eqb b 39 n) in
      record {
        leads = λ m. next m ∙ on (take m (drop (i + 1) text));
        longest = longest_on text i (i + 1) size (omega arith) q.longest (none_at_next (at_next ∙ on []));
      }

  pub stops : ((bs : Text) → leads_to is_open (b ∷ bs) ≡ false) → MatchOption size (HasNoRest text) (IsLongestRest text)
  stops f = longest_at_end text size (longest_on text i (length text) size (omega arith) q.longest
      (λ m low high.
      let same : m ≡ (i + 1) + (m - (i + 1)) = omega arith in
      ap (λ n. is_quoted_rest (take n text)) same ∙ next (m - (i + 1)) ∙ f (take (m - (i + 1)) (drop (i + 1) text))))

pub stops_behind : (is_open : Bool) (b : ℕ) → is_open ≡ false → (b ≡ 39 → ⊥) → (bs : Text) → leads_to is_open (b ∷ bs) ≡ false
stops_behind is_open b o n bs = ap (λ x. leads_to x (b ∷ bs)) o ∙ and_left (nat_eq b 39) (is_quoted_rest bs) (ne_eqb b 39 n)

pub stops_at : (is_open : Bool) (b : ℕ) → is_plain_byte b ≡ false → (b ≡ 39 → ⊥) → (bs : Text) → leads_to is_open (b ∷ bs) ≡ false
stops_at true b p n bs = or_from _ _ (and_left (is_plain_byte b) (is_quoted_rest bs) p) (and_left (nat_eq b 39) (is_after_quote bs) (ne_eqb b 39 n))
stops_at false b p n bs = and_left (nat_eq b 39) (is_quoted_rest bs) (ne_eqb b 39 n)
