-- The phrase of a printed term: its words, its text, and the term that it means.
use Rattle.std.proofs.Common.{◌≡◌, ℕ, zero, suc, ◌+◌, ◌^◌, ◌<◌, true, false, List, [], ◌∷◌, ◌++◌, length, get_or, refl, ap, sym, ◌∙◌, subst, arith, append_assoc}
use Rattle.std.specs.Prelude.{codes, Bool}
use Rattle.std.specs.List.{list_all}
use Rattle.std.specs.Fmt.{signed_decimal}
use Rattle.std.proofs.lemmas.Bool.{and_from, and_parts, both_ways, cond-true, cond-false, false_from_ne_true, or_left, or_right}
use Rattle.pp_algebra.specs.Terms.{Tree, int, node, variable, Trees, none, more, put_all}
use Rattle.pp_algebra.specs.Canon.{has, place, Distinct}
use Rattle.pp_algebra.proofs.SameText.{same_text-itself, same_text-is}
use Rattle.pp_language.specs.declared.token.Kind.TheVariants.{Integer, Variable, Left, Right, Comma}
use Rattle.pp_language.specs.Texts.{Text}
use Rattle.pp_algebra.specs.Texts.{same_text}
use Rattle.pp_language.specs.Words.{Word, word}
use Rattle.pp_language.specs.Phrases.{Phrase, integer_phrase, variable_phrase, said, Phrases, no_phrases, phrase_and, phrase_words, group_words, more_phrase_words, is_phrase, are_phrases}
use Rattle.pp_language.specs.Keys.{Key, named, key_of}
use Rattle.pp_language.specs.Meanings.{blanks, keyed, keyed_all}
use Rattle.pp_language.specs.Printing.{atom_text, name_at, variable_text, term_text, arguments_text, more_arguments_text}
use Rattle.pp_roundtrip.specs.Laws.{is_writable, AreNames, IsOver, AreOver, by_name, ends_tokens}
use Rattle.pp_roundtrip.proofs.Spelled.{atom_word, atom-written, integer-written, variable-written, decimal-writes}
use Rattle.pp_roundtrip.proofs.WordTokens.{text_of, AreFirst, ended, alone}

abbrev mutual
  pub phrase_of : List Text → Tree ℕ → Phrase
  phrase_of names (int n) = integer_phrase (signed_decimal n)
  phrase_of names (node f ts) = said (atom_word (name_at names f)) (phrases_of names ts)
  phrase_of names (variable v) = variable_phrase (variable_text v)

  pub phrases_of : List Text → Trees ℕ → Phrases
  phrases_of names none = no_phrases
  phrases_of names (more t ts) = phrase_and (phrase_of names t) (phrases_of names ts)

abbrev pub by_name_all : Trees ℕ → Trees Key
by_name_all ts = put_all (λ v. variable (named (variable_text v))) ts

-- ===== names

has-at : (names : List Text) (f : ℕ) → f < length names → has same_text names (get_or names f []) ≡ true
has-at [] f l = absurd (omega arith)
has-at (x ∷ names) zero l = or_left (same_text x x) _ (same_text-itself x)
has-at (x ∷ names) (suc f) l = or_right (same_text x (get_or names f [])) _ (has-at names f (omega arith))

-- a name that stands once has its own place
pub place-at : (names : List Text) (f : ℕ) → Distinct same_text names → f < length names → place same_text names (get_or names f []) ≡ f
place-at [] f d l = absurd (omega arith)
place-at (x ∷ names) zero d l = cond-true (same_text x x) _ _ (same_text-itself x)
place-at (x ∷ names) (suc f) d l =
    let n : same_text x (get_or names f []) ≡ false = false_from_ne_true _ (λ e. both_ways _ d.0 (subst (λ y. has same_text names y ≡ true) (sym (same_text-is x (get_or names f []) e)) (has-at names f (omega arith)))) in
    cond-false (same_text x (get_or names f [])) _ _ n ∙ ap suc (place-at names f d.1 (omega arith))

behind_text : (vs us ws : List Word) (x y : Text) → text_of (vs ++ (us ++ ws)) ≡ x ++ text_of (us ++ ws) → text_of (us ++ ws) ≡ y ++ text_of ws → text_of ((vs ++ us) ++ ws) ≡ (x ++ y) ++ text_of ws
behind_text vs us ws x y e f = ap text_of (append_assoc vs us ws) ∙ e ∙ ap (λ z. x ++ z) f ∙ sym (append_assoc x y (text_of ws))

regrouped : (vs us ws : List Word) (rest : Text) → AreFirst (vs ++ (us ++ ws)) rest → AreFirst ((vs ++ us) ++ ws) rest
regrouped vs us ws rest = subst (λ xs. AreFirst xs rest) (sym (append_assoc vs us ws))

list_all-at : (p : Text → Bool) (xs : List Text) (i : ℕ) → list_all p xs ≡ true → i < length xs → p (get_or xs i []) ≡ true
list_all-at p [] i h l = absurd (omega arith)
list_all-at p (x ∷ xs) zero h l = (and_parts (p x) (list_all p xs) h).0
list_all-at p (x ∷ xs) (suc i) h l = list_all-at p xs i (and_parts (p x) (list_all p xs) h).1 (omega arith)

module _ (names : List Text) (known : AreNames names) where
  pub name_is_writable : (f : ℕ) → f < length names → is_writable (name_at names f) ≡ true
  name_is_writable f l = list_all-at is_writable names f known.0 l

  -- ===== the text

  mutual
    pub phrase_text : (t : Tree ℕ) (ws : List Word) → IsOver names t → text_of (phrase_words (phrase_of names t) ++ ws) ≡ term_text names t ++ text_of ws
    phrase_text (int n) ws o = refl
    phrase_text (variable v) ws o = refl
    phrase_text (node f ts) ws o =
        let a = atom-written (name_at names f) (name_is_writable f o.0) in
        ap (λ x. x ++ text_of (group_words (phrases_of names ts) ++ ws)) a.text
        ∙ ap (λ x. atom_text (name_at names f) ++ x) (group_text ts ws o.1)
        ∙ sym (append_assoc (atom_text (name_at names f)) (arguments_text names ts) (text_of ws))

    group_text : (ts : Trees ℕ) (ws : List Word) → AreOver names ts → text_of (group_words (phrases_of names ts) ++ ws) ≡ arguments_text names ts ++ text_of ws
    group_text none ws o = refl
    group_text (more t ts) ws o = ap (λ x. 40 ∷ x) (behind_text (phrase_words (phrase_of names t)) (more_phrase_words (phrases_of names ts)) ws (term_text names t) (more_arguments_text names ts) (phrase_text t (more_phrase_words (phrases_of names ts) ++ ws) o.0) (more_text ts ws o.1))

    more_text : (ts : Trees ℕ) (ws : List Word) → AreOver names ts → text_of (more_phrase_words (phrases_of names ts) ++ ws) ≡ more_arguments_text names ts ++ text_of ws
    more_text none ws o = refl
    more_text (more t ts) ws o = ap (λ x. 44 ∷ x) (behind_text (phrase_words (phrase_of names t)) (more_phrase_words (phrases_of names ts)) ws (term_text names t) (more_arguments_text names ts) (phrase_text t (more_phrase_words (phrases_of names ts) ++ ws) o.0) (more_text ts ws o.1))

  -- ===== the tokens

  more_ends : (ts : Trees ℕ) (ws : List Word) (rest : Text) → ends_tokens (text_of (more_phrase_words (phrases_of names ts) ++ ws) ++ rest) ≡ true
  more_ends none ws rest = refl
  more_ends (more t ts) ws rest = refl

  group_ends : (ts : Trees ℕ) (ws : List Word) (rest : Text) → ends_tokens (text_of ws ++ rest) ≡ true → ends_tokens (text_of (group_words (phrases_of names ts) ++ ws) ++ rest) ≡ true
  group_ends none ws rest e = e
  group_ends (more t ts) ws rest e = refl

  mutual
    pub phrase_first : (t : Tree ℕ) (ws : List Word) (rest : Text) → IsOver names t → ends_tokens (text_of ws ++ rest) ≡ true → AreFirst ws rest → AreFirst (phrase_words (phrase_of names t) ++ ws) rest
    phrase_first (int n) ws rest o e f = let i = integer-written n o in (ended (word Integer (signed_decimal n)) (text_of ws ++ rest) i.spelled i.ends e, f)
    phrase_first (variable v) ws rest o e f = let i = variable-written v o in (ended (word Variable (variable_text v)) (text_of ws ++ rest) i.spelled i.ends e, f)
    phrase_first (node g ts) ws rest o e f =
        let a = atom-written (name_at names g) (name_is_writable g o.0) in
        (ended (atom_word (name_at names g)) (text_of (group_words (phrases_of names ts) ++ ws) ++ rest) a.spelled a.ends (group_ends ts ws rest e), group_first ts ws rest o.1 e f)

    group_first : (ts : Trees ℕ) (ws : List Word) (rest : Text) → AreOver names ts → ends_tokens (text_of ws ++ rest) ≡ true → AreFirst ws rest → AreFirst (group_words (phrases_of names ts) ++ ws) rest
    group_first none ws rest o e f = f
    group_first (more t ts) ws rest o e f = (alone (word Left (codes "(")) _ refl (λ b bs. refl), regrouped (phrase_words (phrase_of names t)) (more_phrase_words (phrases_of names ts)) ws rest (phrase_first t (more_phrase_words (phrases_of names ts) ++ ws) rest o.0 (more_ends ts ws rest) (more_first ts ws rest o.1 f)))

    more_first : (ts : Trees ℕ) (ws : List Word) (rest : Text) → AreOver names ts → AreFirst ws rest → AreFirst (more_phrase_words (phrases_of names ts) ++ ws) rest
    more_first none ws rest o f = (alone (word Right (codes ")")) _ refl (λ b bs. refl), f)
    more_first (more t ts) ws rest o f = (alone (word Comma (codes ",")) _ refl (λ b bs. refl), regrouped (phrase_words (phrase_of names t)) (more_phrase_words (phrases_of names ts)) ws rest (phrase_first t (more_phrase_words (phrases_of names ts) ++ ws) rest o.0 (more_ends ts ws rest) (more_first ts ws rest o.1 f)))

  -- ===== the meaning

  mutual
    pub is_phrase-of : (t : Tree ℕ) → IsOver names t → is_phrase (phrase_of names t) ≡ true
    is_phrase-of (int n) o = refl
    is_phrase-of (variable v) o = refl
    is_phrase-of (node f ts) o = and_from _ _ (atom-written (name_at names f) (name_is_writable f o.0)).name (are_phrases-of ts o.1)

    pub are_phrases-of : (ts : Trees ℕ) → AreOver names ts → are_phrases (phrases_of names ts) ≡ true
    are_phrases-of none o = refl
    are_phrases-of (more t ts) o = and_from _ _ (is_phrase-of t o.0) (are_phrases-of ts o.1)

  key_is : (n v : ℕ) → v < 10 ^ 64 → key_of n (variable_text v) ≡ named (variable_text v)
  key_is n v l = cond-false (same_text (variable_text v) (codes "_")) _ _ (false_from_ne_true _ (λ e. no_blank v l (same_text-is (variable_text v) (codes "_") e)))
    where
      no_blank : (v : ℕ) → v < 10 ^ 64 → variable_text v ≡ codes "_" → ⊥
      no_blank v l e = omega (arith, (decimal-writes v l).some, ap length e)

  mutual
    pub phrase_means : (n : ℕ) (t : Tree ℕ) → IsOver names t → keyed names n (phrase_of names t) ≡ by_name t
    phrase_means n (int k) o = ap int (integer-written k o).value
    phrase_means n (variable v) o = ap variable (key_is n v o)
    phrase_means n (node f ts) o =
        let a = atom-written (name_at names f) (name_is_writable f o.0) in
        ap (λ k. node k (keyed_all names n (phrases_of names ts))) (ap (place same_text names) a.value ∙ place-at names f known.1 o.0)
        ∙ ap (node f) (phrases_mean n ts o.1)

    pub phrases_mean : (n : ℕ) (ts : Trees ℕ) → AreOver names ts → keyed_all names n (phrases_of names ts) ≡ by_name_all ts
    phrases_mean n none o = refl
    phrases_mean n (more t ts) o =
        ap (λ u. more u (keyed_all names (n + blanks (phrase_of names t)) (phrases_of names ts))) (phrase_means n t o.0)
        ∙ ap (more (by_name t)) (phrases_mean (n + blanks (phrase_of names t)) ts o.1)
