-- The variables of phrases, and the terms of phrases with their variables numbered.
use Rattle.std.proofs.Common.{◌≡◌, ℕ, ◌+◌, ◌≤◌, true, false, cond, List, [], ◌∷◌, ◌++◌, length, refl, ap, sym, ◌∙◌, subst, arith, append_assoc}
use Rattle.std.specs.Prelude.{filter, codes, All}
use Rattle.std.proofs.lemmas.Bool.{and_parts}
use Rattle.std.proofs.lemmas.List.Elements.{filter-append, All-head}
use Rattle.pp_algebra.specs.Terms.{Tree, node, variable, more, put, put_all, variables, variables_all}
use Rattle.pp_algebra.specs.Canon.{place}
use Rattle.pp_language.specs.declared.token.Kind.{Kind}
use Rattle.pp_language.specs.declared.token.Kind.TheVariants.{Variable}
use Rattle.pp_language.specs.Texts.{Text}
use Rattle.pp_algebra.specs.Texts.{same_text}
use Rattle.pp_language.specs.Words.{Word, is_name_kind, atom_of}
use Rattle.pp_language.specs.Keys.{Key, named, unnamed, same_key, key_of, texts_of}
use Rattle.pp_language.specs.Phrases.{Phrase, integer_phrase, variable_phrase, said, Phrases, no_phrases, phrase_and, phrase_words, group_words, more_phrase_words, is_phrase, are_phrases}
use Rattle.pp_language.specs.Meanings.{blanks, blanks_all, keyed, keyed_all}
use Rattle.pp_parse.specs.Words.{named_by, named_in, blanks_by, blanks_in}
use Rattle.pp_parse.specs.Terms.{number_of, term_of, terms_of}
use Rattle.pp_parse.proofs.KnownTexts.{Known, all_first, all_second}
use Rattle.pp_read.proofs.Keys.{no_name, blank_keys, blank_keys-append, texts_of-append, keys_by, place-named, place-unnamed}

-- ===== words one after another

pub named_in-append : (ws vs : List Word) → named_in (ws ++ vs) ≡ named_in ws ++ named_in vs
named_in-append [] vs = refl
named_in-append (w ∷ ws) vs = ap (λ xs. named_by w.kind w.text ++ xs) (named_in-append ws vs) ∙ sym (append_assoc (named_by w.kind w.text) (named_in ws) (named_in vs))

pub blanks_in-append : (ws vs : List Word) → blanks_in (ws ++ vs) ≡ blanks_in ws + blanks_in vs
blanks_in-append [] vs = omega arith
blanks_in-append (w ∷ ws) vs = omega (arith, blanks_in-append ws vs)

pub name_named : (k : Kind) (bs : Text) → is_name_kind k ≡ true → named_by k bs ≡ []
name_named Variable bs h = absurd (cc)
name_named _ bs h = refl

name_blanks : (k : Kind) (bs : Text) → is_name_kind k ≡ true → blanks_by k bs ≡ 0
name_blanks Variable bs h = absurd (cc)
name_blanks _ bs h = refl

-- ===== the variables by their words

texts_of-key : (n : ℕ) (bs : Text) → texts_of (key_of n bs ∷ []) ≡ named_by Variable bs ++ []
texts_of-key n bs = elim (same_text bs (codes "_")) as (λ b. texts_of (cond b (unnamed n) (named bs) ∷ []) ≡ cond b [] (bs ∷ []) ++ []) [ true ↦ refl | false ↦ refl ]

module _ (names : List Text) where
  mutual
    pub phrase_texts : (n : ℕ) (p : Phrase) → is_phrase p ≡ true → texts_of (variables (keyed names n p)) ≡ named_in (phrase_words p)
    phrase_texts n (integer_phrase bs) h = refl
    phrase_texts n (variable_phrase bs) h = texts_of-key n bs
    phrase_texts n (said w ps) h =
        let i = and_parts (is_name_kind w.kind) (are_phrases ps) h in
        group_texts n ps i.1 ∙ ap (λ xs. xs ++ named_in (group_words ps)) (sym (name_named w.kind w.text i.0))

    pub group_texts : (n : ℕ) (ps : Phrases) → are_phrases ps ≡ true → texts_of (variables_all (keyed_all names n ps)) ≡ named_in (group_words ps)
    group_texts n no_phrases h = refl
    group_texts n (phrase_and p ps) h =
        let i = and_parts (is_phrase p) (are_phrases ps) h in
        texts_of-append (variables (keyed names n p)) (variables_all (keyed_all names (n + blanks p) ps))
        ∙ ap (λ xs. xs ++ texts_of (variables_all (keyed_all names (n + blanks p) ps))) (phrase_texts n p i.0)
        ∙ ap (λ xs. named_in (phrase_words p) ++ xs) (more_texts (n + blanks p) ps i.1)
        ∙ sym (named_in-append (phrase_words p) (more_phrase_words ps))

    more_texts : (n : ℕ) (ps : Phrases) → are_phrases ps ≡ true → texts_of (variables_all (keyed_all names n ps)) ≡ named_in (more_phrase_words ps)
    more_texts n no_phrases h = refl
    more_texts n (phrase_and p ps) h =
        let i = and_parts (is_phrase p) (are_phrases ps) h in
        texts_of-append (variables (keyed names n p)) (variables_all (keyed_all names (n + blanks p) ps))
        ∙ ap (λ xs. xs ++ texts_of (variables_all (keyed_all names (n + blanks p) ps))) (phrase_texts n p i.0)
        ∙ ap (λ xs. named_in (phrase_words p) ++ xs) (more_texts (n + blanks p) ps i.1)
        ∙ sym (named_in-append (phrase_words p) (more_phrase_words ps))

mutual
  pub phrase_blanks : (p : Phrase) → is_phrase p ≡ true → blanks p ≡ blanks_in (phrase_words p)
  phrase_blanks (integer_phrase bs) h = omega arith
  phrase_blanks (variable_phrase bs) h = omega arith
  phrase_blanks (said w ps) h = let i = and_parts (is_name_kind w.kind) (are_phrases ps) h in omega (arith, group_blanks ps i.1, name_blanks w.kind w.text i.0)

  pub group_blanks : (ps : Phrases) → are_phrases ps ≡ true → blanks_all ps ≡ blanks_in (group_words ps)
  group_blanks no_phrases h = refl
  group_blanks (phrase_and p ps) h = let i = and_parts (is_phrase p) (are_phrases ps) h in omega (arith, phrase_blanks p i.0, more_blanks ps i.1, blanks_in-append (phrase_words p) (more_phrase_words ps))

  more_blanks : (ps : Phrases) → are_phrases ps ≡ true → blanks_all ps ≡ blanks_in (more_phrase_words ps)
  more_blanks no_phrases h = omega arith
  more_blanks (phrase_and p ps) h = let i = and_parts (is_phrase p) (are_phrases ps) h in omega (arith, phrase_blanks p i.0, more_blanks ps i.1, blanks_in-append (phrase_words p) (more_phrase_words ps))

-- ===== the variables by their places

key_blanks : (n : ℕ) (bs : Text) → filter no_name (key_of n bs ∷ []) ≡ blank_keys n (cond (same_text bs (codes "_")) 1 0)
key_blanks n bs = elim (same_text bs (codes "_")) as (λ b. filter no_name (cond b (unnamed n) (named bs) ∷ []) ≡ blank_keys n (cond b 1 0)) [ true ↦ refl | false ↦ refl ]

module _ (names : List Text) where
  mutual
    pub phrase_keys : (n : ℕ) (p : Phrase) → filter no_name (variables (keyed names n p)) ≡ blank_keys n (blanks p)
    phrase_keys n (integer_phrase bs) = refl
    phrase_keys n (variable_phrase bs) = key_blanks n bs
    phrase_keys n (said w ps) = all_keys n ps

    pub all_keys : (n : ℕ) (ps : Phrases) → filter no_name (variables_all (keyed_all names n ps)) ≡ blank_keys n (blanks_all ps)
    all_keys n no_phrases = refl
    all_keys n (phrase_and p ps) =
        filter-append no_name (variables (keyed names n p)) (variables_all (keyed_all names (n + blanks p) ps))
        ∙ ap (λ ks. ks ++ filter no_name (variables_all (keyed_all names (n + blanks p) ps))) (phrase_keys n p)
        ∙ ap (λ ks. blank_keys n (blanks p) ++ ks) (all_keys (n + blanks p) ps)
        ∙ blank_keys-append n (blanks p) (blanks_all ps)

  -- the names that number atoms number no variable
  mutual
    pub phrase_same : (n : ℕ) (p : Phrase) → variables (keyed names n p) ≡ variables (keyed [] n p)
    phrase_same n (integer_phrase bs) = refl
    phrase_same n (variable_phrase bs) = refl
    phrase_same n (said w ps) = all_same n ps

    pub all_same : (n : ℕ) (ps : Phrases) → variables_all (keyed_all names n ps) ≡ variables_all (keyed_all [] n ps)
    all_same n no_phrases = refl
    all_same n (phrase_and p ps) =
        ap (λ ks. ks ++ variables_all (keyed_all names (n + blanks p) ps)) (phrase_same n p) ∙ ap (λ ks. variables (keyed [] n p) ++ ks) (all_same (n + blanks p) ps)

-- ===== numbering

module _ (names xs : List Text) (m : ℕ) where
  abbrev to : Key → Tree ℕ
  to k = variable (place same_key (keys_by xs m) k)

  key_number : (n : ℕ) (bs : Text) → All (Known xs) (texts_of (key_of n bs ∷ [])) → n + cond (same_text bs (codes "_")) 1 0 ≤ m → place same_key (keys_by xs m) (key_of n bs) ≡ number_of xs (length xs + n) bs
  key_number n bs = elim (same_text bs (codes "_")) as (λ b. All (Known xs) (texts_of (cond b (unnamed n) (named bs) ∷ [])) → n + cond b 1 0 ≤ m → place same_key (keys_by xs m) (cond b (unnamed n) (named bs)) ≡ cond b (length xs + n) (place same_text xs bs)) [
    | true ↦ λ h l. place-unnamed xs m n (omega arith)
    | false ↦ λ h l. place-named xs (blank_keys 0 m) bs (All-head (Known xs) bs [] h)
  ]

  mutual
    pub phrase_numbered : (n : ℕ) (p : Phrase) → All (Known xs) (texts_of (variables (keyed names n p))) → n + blanks p ≤ m → put to (keyed names n p) ≡ term_of names xs (length xs + n) p
    phrase_numbered n (integer_phrase bs) h l = refl
    phrase_numbered n (variable_phrase bs) h l = ap variable (key_number n bs h l)
    phrase_numbered n (said w ps) h l = ap (node (place same_text names (atom_of w.kind w.text))) (all_numbered n ps h l)

    pub all_numbered : (n : ℕ) (ps : Phrases) → All (Known xs) (texts_of (variables_all (keyed_all names n ps))) → n + blanks_all ps ≤ m → put_all to (keyed_all names n ps) ≡ terms_of names xs (length xs + n) ps
    all_numbered n no_phrases h l = refl
    all_numbered n (phrase_and p ps) h l =
        let k : All (Known xs) (texts_of (variables (keyed names n p)) ++ texts_of (variables_all (keyed_all names (n + blanks p) ps))) = subst (All (Known xs)) (texts_of-append (variables (keyed names n p)) (variables_all (keyed_all names (n + blanks p) ps))) h in
        let e : length xs + (n + blanks p) ≡ length xs + n + blanks p = omega arith in
        ap (λ t. more t (put_all to (keyed_all names (n + blanks p) ps))) (phrase_numbered n p (all_first (Known xs) (texts_of (variables (keyed names n p))) (texts_of (variables_all (keyed_all names (n + blanks p) ps))) k) (omega arith))
        ∙ ap (more (term_of names xs (length xs + n) p)) (all_numbered (n + blanks p) ps (all_second (Known xs) (texts_of (variables (keyed names n p))) (texts_of (variables_all (keyed_all names (n + blanks p) ps))) k) (omega arith) ∙ ap (λ k. terms_of names xs k ps) e)
