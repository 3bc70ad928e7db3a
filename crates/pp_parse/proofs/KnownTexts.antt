-- The texts of a sentence's words are among its names and variables.
use Rattle.std.proofs.Common.{◌≡◌, ℕ, zero, suc, ◌+◌, ◌<◌, ◌≤◌, true, false, List, [], ◌∷◌, ◌++◌, length, take, drop, get_or, refl, ap, subst, arith, length-append, inl, inr}
use Rattle.std.specs.Prelude.{All, IsTrue, cond}
use Rattle.std.proofs.lemmas.List.Elements.{All-nil, All-cons, All-head, All-tail}
use Rattle.pp_algebra.specs.Covers.{IsIn}
use Rattle.pp_algebra.specs.Canon.{has, firsts}
use Rattle.pp_algebra.proofs.CanonLemmas.{has-all}
use Rattle.pp_language.specs.declared.token.Kind.{Kind}
use Rattle.pp_language.specs.declared.token.Kind.TheVariants.{Variable}
use Rattle.pp_language.specs.Texts.{Text}
use Rattle.pp_algebra.specs.Texts.{same_text}
use Rattle.pp_language.specs.Words.{Word}
use Rattle.pp_language.specs.Meanings.{texts_by}
use Rattle.pp_parse.specs.Words.{texts_in, named_by, named_in, blanks_by, blanks_in}
use Rattle.pp_algebra.proofs.SameText.{same_text-IsSame}

abbrev pub Known : List Text → Text → Type 0
Known xs x = IsTrue (has same_text xs x)

module _ {A : Type 0} (P : A → Type 0) where
  pub all_first : (xs ys : List A) → All P (xs ++ ys) → All P xs
  all_first [] ys h = All-nil P
  all_first (x ∷ xs) ys h = All-cons P x xs (All-head P x (xs ++ ys) h) (all_first xs ys (All-tail P x (xs ++ ys) h))

  pub all_second : (xs ys : List A) → All P (xs ++ ys) → All P ys
  all_second [] ys h = h
  all_second (x ∷ xs) ys h = all_second xs ys (All-tail P x (xs ++ ys) h)

-- all of a list are among its first ones
pub is_in : {A : Type 0} (xs : List A) (k : ℕ) (d : A) → k < length xs → IsIn (get_or xs k d) xs
is_in [] k d l = absurd (omega arith)
is_in (x ∷ xs) zero d l = inl refl
is_in (x ∷ xs) (suc k) d l = inr (is_in xs k d (omega arith))

pub firsts_known : (xs : List Text) → All (Known (firsts same_text [] xs)) xs
firsts_known xs = λ k d l. has-all same_text same_text-IsSame [] xs (get_or xs k d) (is_in xs k d l)

-- at a word
pub texts_known : (P : Text → Type 0) (ws rest : List Word) (w : Word) (j : ℕ) → drop j ws ≡ w ∷ rest → All P (texts_in ws) → All P (texts_by w.kind w.text)
texts_known P [] rest w zero e h = absurd (cc)
texts_known P [] rest w (suc j) e h = absurd (cc)
texts_known P (v ∷ ws) rest w zero e h = let f : v ≡ w = cc in subst (λ x. All P (texts_by x.kind x.text)) f (all_first P (texts_by v.kind v.text) (texts_in ws) h)
texts_known P (v ∷ ws) rest w (suc j) e h = texts_known P ws rest w j e (all_second P (texts_by v.kind v.text) (texts_in ws) h)

pub named_known : (P : Text → Type 0) (ws rest : List Word) (w : Word) (j : ℕ) → drop j ws ≡ w ∷ rest → All P (named_in ws) → All P (named_by w.kind w.text)
named_known P [] rest w zero e h = absurd (cc)
named_known P [] rest w (suc j) e h = absurd (cc)
named_known P (v ∷ ws) rest w zero e h = let f : v ≡ w = cc in subst (λ x. All P (named_by x.kind x.text)) f (all_first P (named_by v.kind v.text) (named_in ws) h)
named_known P (v ∷ ws) rest w (suc j) e h = named_known P ws rest w j e (all_second P (named_by v.kind v.text) (named_in ws) h)

pub blanks_at : (ws rest : List Word) (w : Word) (j : ℕ) → drop j ws ≡ w ∷ rest → blanks_in (take (suc j) ws) ≡ blanks_in (take j ws) + blanks_by w.kind w.text
blanks_at [] rest w zero e = absurd (cc)
blanks_at [] rest w (suc j) e = absurd (cc)
blanks_at (v ∷ ws) rest w zero e = let f : v ≡ w = cc in let g : blanks_by v.kind v.text ≡ blanks_by w.kind w.text = ap (λ x. blanks_by x.kind x.text) f in omega arith
blanks_at (v ∷ ws) rest w (suc j) e = omega (arith, blanks_at ws rest w j e)

-- ===== how many they are

firsts_few : (seen xs : List Text) → length (firsts same_text seen xs) ≤ length seen + length xs
firsts_few seen [] = omega arith
firsts_few seen (x ∷ xs) = elim (has same_text seen x) as (λ b. length (cond b (firsts same_text seen xs) (firsts same_text (seen ++ x ∷ []) xs)) ≤ length seen + suc (length xs)) [
  | true ↦ omega (arith, firsts_few seen xs)
  | false ↦ omega (arith, firsts_few (seen ++ x ∷ []) xs, length-append seen (x ∷ []))
]

one_word : (k : Kind) (bs : Text) → length (named_by k bs) + blanks_by k bs ≤ 1
one_word Variable bs = elim (same_text bs _) as (λ b. length (cond b [] (bs ∷ [])) + cond b 1 0 ≤ 1) [ true ↦ omega arith | false ↦ omega arith ]
one_word _ bs = omega arith

pub variables_few : (ws : List Word) → length (named_in ws) + blanks_in ws ≤ length ws
variables_few [] = omega arith
variables_few (w ∷ ws) = omega (arith, one_word w.kind w.text, variables_few ws, length-append (named_by w.kind w.text) (named_in ws))

pub all_few : (ws : List Word) → length (firsts same_text [] (named_in ws)) + blanks_in ws ≤ length ws
all_few ws = omega (arith, firsts_few [] (named_in ws), variables_few ws)

pub within : (next named before here both : ℕ) → next ≡ named + both → both ≡ before + here → here ≤ next
within next named before here both e f = omega arith
