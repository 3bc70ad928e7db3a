-- At most one token follows a gap, and no gap goes on into a token.
use Rattle.std.proofs.Common.{◌≡◌, ℕ, zero, suc, ◌-◌, ◌<◌, ◌≤◌, true, false, ◌||◌, nat_eq, [], ◌∷◌, length, take, drop, refl, ap, sym, ◌∙◌, subst, ⊎_elim, arith, length-drop}
use Rattle.std.proofs.lemmas.Bool.{both_ways, or_left, or_cases, eqb-true, cond-false, cases_order, false_from_ne_true}
use Rattle.pp_language.specs.declared.token.Kind.{Kind}
use Rattle.pp_language.specs.declared.token.Token.{Token}
use Rattle.pp_language.specs.Texts.{Text, is_white, part}
use Rattle.pp_language.specs.Kinds.{is_number_text, spells, has_form}
use Rattle.pp_language.specs.Tokens.{Gap, clear, broken, after_clear, gap_from, IsGap, IsTokenOf}
use Rattle.pp_language.proofs.Forms.{any_form, spells-any}
use Rattle.pp_language.proofs.Gaps.{gap_from-broken, gap_from-part}
use Rattle.pp_language.proofs.OneKind.{same_kind}

begins_none : (a b : ℕ) (bs : Text) → any_form (a ∷ bs) ≡ false → nat_eq b a ≡ true → any_form (b ∷ bs) ≡ true → ⊥
begins_none a b bs none e h = both_ways _ none (subst (λ c. any_form (c ∷ bs) ≡ true) (eqb-true b a e) h)

begins_white : (b : ℕ) (bs : Text) → is_white b ≡ true → any_form (b ∷ bs) ≡ true → ⊥
begins_white b bs w h = ⊎_elim
    (λ x. ⊎_elim
    (λ y. ⊎_elim (λ z. begins_none 32 b bs refl z h) (λ z. begins_none 9 b bs refl z h) (or_cases (nat_eq b 32) (nat_eq b 9) y))
    (λ y. begins_none 10 b bs refl y h)
    (or_cases (nat_eq b 32 || nat_eq b 9) (nat_eq b 10) x))
    (λ x. begins_none 13 b bs refl x h)
    (or_cases (nat_eq b 32 || nat_eq b 9 || nat_eq b 10) (nat_eq b 13) w)

-- the first byte of a token begins no gap
breaks : (b : ℕ) (bs : Text) → any_form (b ∷ bs) ≡ true → after_clear b ≡ broken
breaks b bs h =
    cond-false (is_white b) _ _ (false_from_ne_true _ (λ e. begins_white b bs e h))
    ∙ cond-false (nat_eq b 37) _ _ (false_from_ne_true _ (λ e. begins_none 37 b bs refl e h))
    ∙ cond-false (nat_eq b 47) _ _ (false_from_ne_true _ (λ e. begins_none 47 b bs refl e h))

breaks_from : (k : Kind) (rest : Text) (n m : ℕ) → 0 < n → n ≤ length rest → spells k (take n rest) ≡ true → 0 < m → gap_from clear (take m rest) ≡ broken
breaks_from k [] n m some within h more = absurd (omega arith)
breaks_from k (b ∷ r) zero m some within h more = absurd (omega arith)
breaks_from k (b ∷ r) (suc n) zero some within h more = absurd (omega arith)
breaks_from k (b ∷ r) (suc n) (suc m) some within h more =
    ap (λ g. gap_from g (take m r)) (breaks b (take n r) (spells-any k (b ∷ take n r) h)) ∙ gap_from-broken (take m r)

-- where a token begins no gap does
pub no_gap_at : (text : Text) (t : Token) (j : ℕ) → IsTokenOf text t → t.first < j → gap_from clear (part text t.first j) ≡ broken
no_gap_at text t j k l =
    breaks_from t.kind (drop t.first text) (t.last - t.first) (j - t.first) (omega (arith, k.some)) (omega (arith, k.some, k.within, length-drop t.first text)) k.spelled (omega arith)

-- no gap goes past the place where a token begins behind a gap
pub no_gap_past : (text : Text) (i j : ℕ) (t : Token) → i ≤ t.first → IsGap (part text i t.first) → IsTokenOf text t → t.first < j → gap_from clear (part text i j) ≡ broken
no_gap_past text i j t l g k m = gap_from-part text i t.first j l (omega arith) g ∙ no_gap_at text t j k m

gap_is_not_broken : (g : Gap) → g ≡ clear → g ≡ broken → ⊥
gap_is_not_broken g e f = cc

module _ (text : Text) (i : ℕ) (t u : Token) (lt : i ≤ t.first) (lu : i ≤ u.first) (gt : IsGap (part text i t.first)) (gu : IsGap (part text i u.first)) (kt : IsTokenOf text t) (ku : IsTokenOf text u) where
  same_first : t.first ≡ u.first
  same_first = ⊎_elim
      (λ e. e)
      (λ s. ⊎_elim
      (λ (l : t.first < u.first). absurd (gap_is_not_broken _ gu (no_gap_past text i u.first t lt gt kt l)))
      (λ (l : u.first < t.first). absurd (gap_is_not_broken _ gt (no_gap_past text i t.first u lu gu ku l)))
      s)
      (cases_order t.first u.first)

no_longer : (text : Text) (t u : Token) → IsTokenOf text t → IsTokenOf text u → t.first ≡ u.first → t.last < u.last → ⊥
no_longer text t u kt ku e l =
    let f : has_form u.kind (part text u.first u.last) ≡ false = subst (λ i. has_form u.kind (part text i u.last) ≡ false) e (kt.longest u.kind u.last l ku.within) in
    both_ways _ f (or_left (spells u.kind (part text u.first u.last)) (is_number_text (part text u.first u.last)) ku.spelled)

same_last : (text : Text) (t u : Token) → IsTokenOf text t → IsTokenOf text u → t.first ≡ u.first → t.last ≡ u.last
same_last text t u kt ku e = ⊎_elim
    (λ f. f)
    (λ s. ⊎_elim
    (λ (l : t.last < u.last). absurd (no_longer text t u kt ku e l))
    (λ (l : u.last < t.last). absurd (no_longer text u t ku kt (sym e) l))
    s)
    (cases_order t.last u.last)

token_of : Kind → ℕ → ℕ → Token
token_of k i j = record { kind = k; first = i; last = j }

-- a gap is followed by one token at most
pub same_token : (text : Text) (i : ℕ) (t u : Token) → i ≤ t.first → i ≤ u.first → IsGap (part text i t.first) → IsGap (part text i u.first) → IsTokenOf text t → IsTokenOf text u → t ≡ u
unfolding token_of
same_token text i t u lt lu gt gu kt ku =
    let e = same_first text i t u lt lu gt gu kt ku in
    let f = same_last text t u kt ku e in
    let s : spells t.kind (part text u.first u.last) ≡ true = subst (λ j. spells t.kind (part text u.first j) ≡ true) f (subst (λ j. spells t.kind (part text j t.last) ≡ true) e kt.spelled) in
    let k = same_kind t.kind u.kind (part text u.first u.last) s ku.spelled in
    ap (λ x. token_of x t.first t.last) k ∙ ap (λ x. token_of u.kind x t.last) e ∙ ap (token_of u.kind u.first) f
