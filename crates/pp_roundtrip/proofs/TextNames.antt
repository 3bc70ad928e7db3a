-- The names of a text can be written.
use Rattle.std.proofs.Common.{◌≡◌, ℕ, ◌≤◌, Bool, true, false, ◌&&◌, ◌||◌, cond, nat_eq, List, [], ◌∷◌, ◌++◌, map, ◌⊎◌, inl, inr, refl, ap, sym, ◌∙◌, subst, ⊎_elim, arith}
use Rattle.std.specs.Prelude.{codes}
use Rattle.std.specs.List.{flat_map, list_all}
use Rattle.std.proofs.lemmas.Bool.{and_from, and_parts, cases_Bool, cond-true, cond-false, eqb-true, le-leb, ne_eqb, not_from_false, or_cases, or_left}
use Rattle.std.proofs.lemmas.List.{map-append}
use Rattle.std.proofs.lemmas.List.Folds.{list_all-append}
use Rattle.pp_algebra.specs.Canon.{has, firsts, Distinct}
use Rattle.pp_algebra.proofs.CanonLemmas.{IsSame}
use Rattle.pp_algebra.proofs.OneCanon.{distinct_push}
use Rattle.pp_algebra.proofs.SameText.{same_text-IsSame}
use Rattle.pp_language.specs.declared.token.Kind.{Kind}
use Rattle.pp_language.specs.declared.token.Kind.TheVariants.{Atom, Quoted, Variable}
use Rattle.pp_language.specs.declared.token.Token.{Token}
use Rattle.pp_language.specs.Texts.{Text, is_digit, is_lower, is_upper, is_underscore, is_word}
use Rattle.pp_algebra.specs.Texts.{same_text}
use Rattle.pp_language.specs.Kinds.{is_plain_atom, is_word_from, is_variable_text, is_plain_byte, is_quoted_rest, is_after_quote, unquoted_rest, unquoted_pair, unquoted, spells}
use Rattle.pp_language.specs.Tokens.{AreTokensOf}
use Rattle.pp_language.specs.Sentences.{FallInto}
use Rattle.pp_language.specs.Words.{Word, word_of}
use Rattle.pp_language.specs.Statements.{Statement, statement_words}
use Rattle.pp_language.specs.Faults.{AllSay, sentence_words}
use Rattle.pp_language.specs.Meanings.{texts_by}
use Rattle.pp_language.specs.Printing.{doubled}
use Rattle.pp_language.proofs.Bytes.{within, lower_is_word, variable_is_word}
use Rattle.pp_language.proofs.Forms.{spells-any, form_of_quote}
use Rattle.pp_language.proofs.PartsSpelled.{AreSpelled}
use Rattle.pp_roundtrip.specs.Laws.{is_writable, NoOtherAtoms, NamesOfTexts}
use Rattle.pp_roundtrip.proofs.Spelled.{in_quotes, unquoted-in_quotes}

-- ===== words

-- where the bytes of words lie
word_within : (b : ℕ) → is_word b ≡ true → ((48 ≤ b) × (b ≤ 90)) ⊎ ((95 ≤ b) × (b ≤ 122))
word_within b h = ⊎_elim
    (λ e. ⊎_elim
    (λ f. ⊎_elim
    (λ g. let w = within 97 122 b g in inr (omega (arith, w), w.1))
    (λ g. let w = within 65 90 b g in inl (omega (arith, w), w.1))
    (or_cases (is_lower b) (is_upper b) f))
    (λ f. let w = within 48 57 b f in inl (w.0, omega (arith, w)))
    (or_cases (is_lower b || is_upper b) (is_digit b) e))
    (λ e. let f = eqb-true b 95 e in inr (omega (arith, f), omega (arith, f)))
    (or_cases (is_lower b || is_upper b || is_digit b) (is_underscore b) h)

word_is_plain : (b : ℕ) → is_word b ≡ true → is_plain_byte b ≡ true
word_is_plain b h =
    let w = word_within b h in
    and_from _ _ (and_from _ _ (and_from _ _ (le-leb 32 b (omega (arith, w))) (le-leb b 126 (omega (arith, w)))) (not_from_false _ (ne_eqb b 39 (λ e. omega (arith, w))))) (not_from_false _ (ne_eqb b 92 (λ e. omega (arith, w))))

words_are_writable : (bs : Text) → list_all is_word bs ≡ true → is_writable bs ≡ true
words_are_writable [] h = refl
words_are_writable (b ∷ bs) h =
    let p = and_parts (is_word b) (list_all is_word bs) h in
    and_from (is_plain_byte b || nat_eq b 39) (is_writable bs) (or_left (is_plain_byte b) (nat_eq b 39) (word_is_plain b p.0)) (words_are_writable bs p.1)

plain_is_writable : (bs : Text) → is_plain_atom bs ≡ true → is_writable bs ≡ true
plain_is_writable [] h = absurd (cc)
plain_is_writable (b ∷ bs) h =
    let p = and_parts (is_word_from is_lower (b ∷ bs)) _ h in
    let l = and_parts (is_lower b) (list_all is_word bs) p.0 in
    words_are_writable (b ∷ bs) (and_from (is_word b) (list_all is_word bs) (lower_is_word b l.0) l.1)

variable_is_writable : (bs : Text) → is_variable_text bs ≡ true → is_writable bs ≡ true
variable_is_writable [] h = absurd (cc)
variable_is_writable (b ∷ bs) h =
    let l = and_parts (is_upper b || is_underscore b) (list_all is_word bs) h in
    words_are_writable (b ∷ bs) (and_from (is_word b) (list_all is_word bs) (variable_is_word b l.0) l.1)

-- ===== quoted atoms

only_quote : (b : ℕ) (r a : Bool) → nat_eq b 39 ≡ true → ((is_plain_byte b && r) || (nat_eq b 39 && a)) ≡ true → a ≡ true
only_quote b r a e h = let f : b ≡ 39 = eqb-true b 39 e in subst (λ c. ((is_plain_byte c && r) || (nat_eq c 39 && a)) ≡ true) f h

only_plain : (p q r a : Bool) → q ≡ false → ((p && r) || (q && a)) ≡ true → (p ≡ true) × (r ≡ true)
only_plain true q true a e h = (refl, refl)
only_plain true q false a e h = absurd (cc)
only_plain false q r a e h = absurd (cc)

mutual
  rest_is_writable : (bs : Text) → is_quoted_rest bs ≡ true → is_writable (unquoted_rest bs) ≡ true
  rest_is_writable [] h = absurd (cc)
  rest_is_writable (b ∷ bs) h = ⊎_elim
      (λ (e : nat_eq b 39 ≡ true). ap is_writable (cond-true (nat_eq b 39) _ _ e) ∙ pair_is_writable bs (only_quote b (is_quoted_rest bs) (is_after_quote bs) e h))
      (λ (e : nat_eq b 39 ≡ false).
      let p = only_plain (is_plain_byte b) (nat_eq b 39) (is_quoted_rest bs) (is_after_quote bs) e h in
      ap is_writable (cond-false (nat_eq b 39) _ _ e) ∙ and_from (is_plain_byte b || nat_eq b 39) (is_writable (unquoted_rest bs)) (or_left (is_plain_byte b) (nat_eq b 39) p.0) (rest_is_writable bs p.1))
      (cases_Bool (nat_eq b 39))

  pair_is_writable : (bs : Text) → is_after_quote bs ≡ true → is_writable (unquoted_pair bs) ≡ true
  pair_is_writable [] h = refl
  pair_is_writable (b ∷ bs) h = rest_is_writable bs (and_parts (nat_eq b 39) (is_quoted_rest bs) h).1

quoted_is_writable : (bs : Text) → spells Quoted bs ≡ true → is_writable (unquoted bs) ≡ true
quoted_is_writable [] h = absurd (cc)
quoted_is_writable (b ∷ bs) h = rest_is_writable bs (and_parts (nat_eq b 39) (is_quoted_rest bs) h).1

pub no_other_atoms : NoOtherAtoms
no_other_atoms bs k h = ⊎_elim
    (λ (e : is_plain_atom bs ≡ true). plain_is_writable bs e)
    (λ (e : is_plain_atom bs ≡ false).
    let s : spells k (in_quotes bs) ≡ true = subst (λ x. spells k x ≡ true) (cond-false (is_plain_atom bs) bs (in_quotes bs) e) h in
    subst (λ x. is_writable x ≡ true) (unquoted-in_quotes bs) (quoted_is_writable (in_quotes bs) (sym (form_of_quote (doubled bs ++ 39 ∷ [])) ∙ spells-any k (in_quotes bs) s)))
    (cases_Bool (is_plain_atom bs))

-- ===== the texts of words

texts_are_writable : (k : Kind) (bs : Text) → spells k bs ≡ true → list_all is_writable (texts_by k bs) ≡ true
texts_are_writable Atom bs h = and_from (is_writable bs) true (plain_is_writable bs h) refl
texts_are_writable Quoted bs h = and_from (is_writable (unquoted bs)) true (quoted_is_writable bs h) refl
texts_are_writable Variable bs h = elim (same_text bs (codes "_")) as (λ b. list_all is_writable (cond b [] (bs ∷ [])) ≡ true) [
  | true ↦ refl
  | false ↦ and_from (is_writable bs) true (variable_is_writable bs h) refl
]
texts_are_writable k bs h = refl

words_write : (ws : List Word) → AreSpelled ws → list_all is_writable (flat_map (λ w. texts_by w.kind w.text) ws) ≡ true
words_write [] h = refl
words_write (w ∷ ws) h =
    list_all-append is_writable (texts_by w.kind w.text) (flat_map (λ v. texts_by v.kind v.text) ws)
    ∙ and_from (list_all is_writable (texts_by w.kind w.text)) _ (texts_are_writable w.kind w.text h.0) (words_write ws h.1)

-- ===== the words of a text

AreSpelled-append : (ws vs : List Word) → AreSpelled ws → AreSpelled vs → AreSpelled (ws ++ vs)
AreSpelled-append [] vs h g = g
AreSpelled-append (w ∷ ws) vs h g = (h.0, AreSpelled-append ws vs h.1 g)

AreSpelled-parts : (ws vs : List Word) → AreSpelled (ws ++ vs) → AreSpelled ws × AreSpelled vs
AreSpelled-parts [] vs h = (tt, h)
AreSpelled-parts (w ∷ ws) vs h = let r = AreSpelled-parts ws vs h.1 in ((h.0, r.0), r.1)

tokens_spelled : (text : Text) (i j : ℕ) (ts : List Token) → AreTokensOf text i ts j → AreSpelled (map (word_of text) ts)
tokens_spelled text i j [] h = tt
tokens_spelled text i j (t ∷ ts) h = (h.2.spelled, tokens_spelled text t.last j ts h.3)

abbrev AllSpelled : List (List Word) → Type 0
AllSpelled [] = Unit {0}
AllSpelled (ws ∷ wss) = AreSpelled ws × AllSpelled wss

sentences_spelled : (text : Text) (ts : List Token) (tss : List (List Token)) (left : List Token) → FallInto ts tss left → AreSpelled (map (word_of text) ts) → AllSpelled (sentence_words text tss)
sentences_spelled text ts [] left f h = tt
sentences_spelled text ts (s ∷ tss) left f h =
    let e : map (word_of text) ts ≡ map (word_of text) s ++ word_of text f.0 ∷ map (word_of text) f.2 = ap (map (word_of text)) f.3 ∙ map-append (word_of text) s (f.0 ∷ f.2) in
    let p = AreSpelled-parts (map (word_of text) s) (word_of text f.0 ∷ map (word_of text) f.2) (subst AreSpelled e h) in
    (p.0, sentences_spelled text f.2 tss left f.5 p.1.1)

statements_spelled : (wss : List (List Word)) (ss : List Statement) → AllSpelled wss → AllSay wss ss → AreSpelled (flat_map statement_words ss)
statements_spelled [] [] h a = tt
statements_spelled [] (s ∷ ss) h a = absurd a
statements_spelled (ws ∷ wss) [] h a = absurd a
statements_spelled (ws ∷ wss) (s ∷ ss) h a = AreSpelled-append (statement_words s) (flat_map statement_words ss) (subst AreSpelled a.0.words h.0) (statements_spelled wss ss h.1 a.1)

-- ===== first occurrences

module _ {V : Type 0} (same : V → V → Bool) where
  firsts-all : (p : V → Bool) (seen vs : List V) → list_all p seen ≡ true → list_all p vs ≡ true → list_all p (firsts same seen vs) ≡ true
  firsts-all p seen [] h g = h
  firsts-all p seen (v ∷ vs) h g =
      let i = and_parts (p v) (list_all p vs) g in
      elim (has same seen v) as (λ b. list_all p (cond b (firsts same seen vs) (firsts same (seen ++ v ∷ []) vs)) ≡ true) [
        | true ↦ firsts-all p seen vs h i.1
        | false ↦ firsts-all p (seen ++ v ∷ []) vs (list_all-append p seen (v ∷ []) ∙ and_from (list_all p seen) _ h (and_from (p v) true i.0 refl)) i.1
      ]

  firsts-Distinct : IsSame same → (seen vs : List V) → Distinct same seen → Distinct same (firsts same seen vs)
  firsts-Distinct s seen [] d = d
  firsts-Distinct s seen (v ∷ vs) d = elim (has same seen v) as (λ b. has same seen v ≡ b → Distinct same (cond b (firsts same seen vs) (firsts same (seen ++ v ∷ []) vs))) [
    | true ↦ λ h. firsts-Distinct s seen vs d
    | false ↦ λ h. firsts-Distinct s (seen ++ v ∷ []) vs (distinct_push same s seen v d h)
  ] refl

pub names_of_texts : NamesOfTexts
names_of_texts text ss g =
    let a = g.are_sentences in
    let spelled = statements_spelled (sentence_words text g.sentences) ss (sentences_spelled text a.tokens g.sentences a.left a.fall_into (tokens_spelled text 0 a.last a.tokens a.are_tokens)) g.say in (
      firsts-all same_text is_writable [] (flat_map (λ w. texts_by w.kind w.text) (flat_map statement_words ss)) refl (words_write (flat_map statement_words ss) spelled),
      firsts-Distinct same_text same_text-IsSame [] (flat_map (λ w. texts_by w.kind w.text) (flat_map statement_words ss)) tt,
    )
