-- Names by their places.
use Rattle.std.proofs.Common.{◌≡◌, ℕ, suc, ◌+◌, ◌<◌, true, false, cond, ◌||◌, List, [], ◌∷◌, ◌++◌, length, map, take, get_or, Option, Some, None, refl, ap, sym, ◌∙◌, arith}
use Rattle.std.specs.Prelude.{IsTrue, MatchOption}
use Rattle.std.proofs.lemmas.List.{take_more, map-append}
use Rattle.pp_algebra.specs.Canon.{has, place}
use Rattle.pp_language.specs.Texts.{Text}
use Rattle.pp_algebra.specs.Texts.{same_text}
use Rattle.pp_language.specs.Printing.{name_at}
use Rattle.pp_algebra.proofs.SameText.{same_text-is}

pub name-place : (names : List Text) (x : Text) → has same_text names x ≡ true → name_at names (place same_text names x) ≡ x
name-place [] x h = absurd (cc)
name-place (y ∷ names) x h = elim (same_text y x) as (λ b. same_text y x ≡ b → (b || has same_text names x) ≡ true → get_or (y ∷ names) (cond b 0 (suc (place same_text names x))) [] ≡ x) [
  | true ↦ λ e k. same_text-is y x e
  | false ↦ λ e k. name-place names x k
] refl h

pub place-within : (names : List Text) (x : Text) → has same_text names x ≡ true → place same_text names x < length names
place-within [] x h = absurd (cc)
place-within (y ∷ names) x h = elim (same_text y x) as (λ b. (b || has same_text names x) ≡ true → cond b 0 (suc (place same_text names x)) < suc (length names)) [
  | true ↦ λ k. omega arith
  | false ↦ λ k. omega (arith, place-within names x k)
] h

found_name : (names : List Text) (x : Text) (o : Option ℕ) (n : ℕ) → o ≡ Some n → MatchOption o (has same_text names x ≡ false) (λ k. IsTrue (has same_text names x) × (k ≡ place same_text names x)) → name_at names n ≡ x
found_name names x None n e h = absurd (cc)
found_name names x (Some m) n e h = let f : n ≡ m = cc in ap (name_at names) (f ∙ h.1) ∙ name-place names x h.0

pub number_on : (names texts : List Text) (i : ℕ) (x : Text) (o : Option ℕ) (n : ℕ) (old new : List ℕ) → i < length texts → x ≡ get_or texts i [] → o ≡ Some n
    → MatchOption o (has same_text names x ≡ false) (λ k. IsTrue (has same_text names x) × (k ≡ place same_text names x)) → new ≡ old ++ n ∷ [] → map (name_at names) old ≡ take i texts → map (name_at names) new ≡ take (i + 1) texts
number_on names texts i x o n old new l e f m p h =
    ap (map (name_at names)) p ∙ map-append (name_at names) old (n ∷ []) ∙ ap (λ ts. ts ++ name_at names n ∷ []) h ∙ ap (λ y. take i texts ++ y ∷ []) (found_name names x o n f m ∙ e) ∙ sym (take_more texts i [] l)
