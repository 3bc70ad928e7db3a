-- A printed atom with a point behind it is read as a fact.
use Rattle.std.proofs.Common.{◌≡◌, ℕ, suc, ◌+◌, ◌^◌, ◌<◌, true, false, List, [], ◌∷◌, ◌++◌, map, length, refl, ap, sym, ◌∙◌, subst, inl, inr, arith, append_assoc, append-nil, length-append}
use Rattle.std.specs.Prelude.{codes, ◌&&◌}
use Rattle.std.proofs.lemmas.Bool.{and_from, and_parts, not_from_false}
use Rattle.pp_algebra.specs.Terms.{Tree, int, node, variable, Trees, none, more, count, variables, variables_all}
use Rattle.pp_algebra.specs.Rows.{IsNumbered}
use Rattle.pp_algebra.specs.Covers.{IsIn}
use Rattle.pp_algebra.specs.Canon.{place}
use Rattle.pp_algebra.proofs.Antisym.{IsIn-either}
use Rattle.pp_sld.specs.Goals.{Predicate, Clause}
use Rattle.pp_language.specs.declared.token.Kind.{Kind}
use Rattle.pp_language.specs.declared.token.Kind.TheVariants.{Point}
use Rattle.pp_language.specs.Texts.{Text}
use Rattle.pp_algebra.specs.Texts.{same_text}
use Rattle.pp_language.specs.Tokens.{AreTokensOf}
use Rattle.pp_language.specs.Sentences.{NoPoint, FallInto, clean, AreSentences}
use Rattle.pp_language.specs.Words.{Word, word, word_of, is_name_kind, atom_of, is_built_in}
use Rattle.pp_language.specs.Phrases as phrases
use Rattle.pp_language.specs.Phrases.{Phrase, integer_phrase, variable_phrase, said, Phrases, no_phrases, phrase_and, phrase_words, group_words, more_phrase_words, is_phrase, are_phrases}
use Rattle.pp_language.specs.Statements.{clause, is_head, Says}
use Rattle.pp_language.specs.Keys.{Key, numbered}
use Rattle.pp_language.specs.Meanings.{keyed_all, keys_in, clause_by}
use Rattle.pp_language.specs.Printing.{name_at, term_text}
use Rattle.pp_roundtrip.specs.Laws.{AreNames, IsOver, AreOver, IsReadAsFact, ReadAsFact}
use Rattle.pp_roundtrip.proofs.Spelled.{IsAtom, atom_word, atom-written}
use Rattle.pp_roundtrip.proofs.WordTokens.{text_of, AreFirst, tokens_from, token_at, are_tokens}
use Rattle.pp_roundtrip.proofs.Phrased.{phrase_of, phrases_of, name_is_writable, place-at, phrase_text, phrase_first, is_phrase-of, phrases_mean}
use Rattle.pp_roundtrip.proofs.ReadBack.{words_of_text, last_gap}
use Rattle.pp_roundtrip.proofs.NamedKeys.{numbered-back}

-- ===== no word of a phrase is a point

abbrev NoPointIn : List Word → Type 0
NoPointIn [] = Unit {0}
NoPointIn (w ∷ ws) = (w.kind ≡ Point → ⊥) × NoPointIn ws

name_is_no_point : (k : Kind) → is_name_kind k ≡ true → k ≡ Point → ⊥
name_is_no_point k h e = let f : is_name_kind Point ≡ true = subst (λ j. is_name_kind j ≡ true) e h in absurd (cc)

regrouped : (vs us ws : List Word) → NoPointIn (vs ++ (us ++ ws)) → NoPointIn ((vs ++ us) ++ ws)
regrouped vs us ws = subst NoPointIn (sym (append_assoc vs us ws))

mutual
  no_point : (p : Phrase) (ws : List Word) → is_phrase p ≡ true → NoPointIn ws → NoPointIn (phrase_words p ++ ws)
  no_point (integer_phrase bs) ws h n = (λ e. absurd (cc), n)
  no_point (variable_phrase bs) ws h n = (λ e. absurd (cc), n)
  no_point (said w ps) ws h n =
      let i = and_parts (is_name_kind w.kind) (are_phrases ps) h in
      (name_is_no_point w.kind i.0, no_point_group ps ws i.1 n)

  no_point_group : (ps : Phrases) (ws : List Word) → are_phrases ps ≡ true → NoPointIn ws → NoPointIn (group_words ps ++ ws)
  no_point_group no_phrases ws h n = n
  no_point_group (phrase_and p ps) ws h n =
      let i = and_parts (is_phrase p) (are_phrases ps) h in
      (λ e. absurd (cc), regrouped (phrase_words p) (more_phrase_words ps) ws (no_point p (more_phrase_words ps ++ ws) i.0 (no_point_more ps ws i.1 n)))

  no_point_more : (ps : Phrases) (ws : List Word) → are_phrases ps ≡ true → NoPointIn ws → NoPointIn (more_phrase_words ps ++ ws)
  no_point_more no_phrases ws h n = (λ e. absurd (cc), n)
  no_point_more (phrase_and p ps) ws h n =
      let i = and_parts (is_phrase p) (are_phrases ps) h in
      (λ e. absurd (cc), regrouped (phrase_words p) (more_phrase_words ps) ws (no_point p (more_phrase_words ps ++ ws) i.0 (no_point_more ps ws i.1 n)))

no_point_token : (ws : List Word) (i : ℕ) → NoPointIn ws → NoPoint (tokens_from i ws)
no_point_token [] i n = tt
no_point_token (w ∷ ws) i n = (n.0, no_point_token ws (i + length w.text) n.1)

-- ===== the point

abbrev point : Word
point = word Point (codes ".")

tokens_from-push : (ws : List Word) (i : ℕ) (w : Word) → tokens_from i (ws ++ w ∷ []) ≡ tokens_from i ws ++ token_at (i + length (text_of ws)) w ∷ []
tokens_from-push [] i w = let e : i ≡ i + 0 = omega arith in ap (λ n. token_at n w ∷ []) e
tokens_from-push (v ∷ ws) i w =
    let e : i + length v.text + length (text_of ws) ≡ i + length (v.text ++ text_of ws) = omega (arith, length-append v.text (text_of ws)) in
    ap (λ ts. token_at i v ∷ ts) (tokens_from-push ws (i + length v.text) w ∙ ap (λ n. tokens_from (i + length v.text) ws ++ token_at n w ∷ []) e)

point_is_first : AreFirst (point ∷ []) []
point_is_first = (record { spelled = refl; longest = λ m low high. absurd (omega arith) }, tt)

-- ===== the sentence

count-of : (names : List Text) (ts : Trees ℕ) → phrases.count (phrases_of names ts) ≡ count ts
count-of names none = refl
count-of names (more t ts) = ap suc (count-of names ts)

mutual
  small : (names : List Text) (t : Tree ℕ) (v : ℕ) → IsOver names t → IsIn v (variables t) → v < 10 ^ 64
  small names (int n) v o i = absurd i
  small names (node f ts) v o i = all_small names ts v o.1 i
  small names (variable w) v o (inl e) = subst (λ n. n < 10 ^ 64) e o
  small names (variable w) v o (inr i) = absurd i

  all_small : (names : List Text) (ts : Trees ℕ) (v : ℕ) → AreOver names ts → IsIn v (variables_all ts) → v < 10 ^ 64
  all_small names none v o i = absurd i
  all_small names (more t ts) v o i = elim (IsIn-either v (variables t) (variables_all ts) i) [ inl j ↦ small names t v o.0 j | inr j ↦ all_small names ts v o.1 j ]

module _ (names : List Text) (f m : ℕ) (ts : Trees ℕ) (known : AreNames names) (over : IsOver names (node f ts)) (canonical : IsNumbered 0 (variables_all ts) m) (own : is_built_in (name_at names f) (count ts) ≡ false) where
  abbrev t : Tree ℕ
  t = node f ts

  abbrev text : Text
  text = term_text names t ++ codes "."

  abbrev said_words : List Word
  said_words = phrase_words (phrase_of names t)

  atom : IsAtom (name_at names f) (atom_word (name_at names f))
  atom = atom-written (name_at names f) (name_is_writable names known f over.0)

  text_is : text_of (said_words ++ point ∷ []) ≡ text
  text_is = phrase_text names known t (point ∷ []) over

  first : AreFirst (said_words ++ point ∷ []) []
  first = phrase_first names known t (point ∷ []) [] over refl point_is_first

  tokens : AreTokensOf text 0 (tokens_from 0 (said_words ++ point ∷ [])) (length text)
  tokens =
      let e : 0 + length (text_of (said_words ++ point ∷ [])) ≡ length text = omega (arith, ap length text_is) in
      subst (AreTokensOf text 0 (tokens_from 0 (said_words ++ point ∷ []))) e (are_tokens text [] (said_words ++ point ∷ []) 0 (omega arith) (sym (append-nil text) ∙ ap (λ x. x ++ []) (sym text_is)) first)

  phrase_is : is_phrase (phrase_of names t) ≡ true
  phrase_is = is_phrase-of names known t over

  no_points : NoPoint (tokens_from 0 said_words)
  no_points = no_point_token said_words 0 (subst NoPointIn (append-nil said_words) (no_point (phrase_of names t) [] phrase_is tt))

  fall : FallInto (tokens_from 0 (said_words ++ point ∷ [])) (tokens_from 0 said_words ∷ []) []
  fall = (token_at (0 + length (text_of said_words)) point, refl, [], tokens_from-push said_words 0 point, no_points, (refl, tt))

  sentences : AreSentences text (tokens_from 0 said_words ∷ []) clean
  sentences = record {
    tokens = tokens_from 0 (said_words ++ point ∷ []);
    last = length text;
    left = [];
    within = omega arith;
    are_tokens = tokens;
    fall_into = fall;
    ends = (refl, last_gap text);
  }

  words_are : map (word_of text) (tokens_from 0 said_words) ≡ said_words
  words_are = words_of_text names known t over text (codes ".") 0 (omega arith) refl refl

  head_is : is_head (phrase_of names t) ≡ true
  head_is =
      let n : is_built_in (atom_of (atom_word (name_at names f)).kind (atom_word (name_at names f)).text) (phrases.count (phrases_of names ts)) ≡ false =
      ap (λ x. is_built_in x (phrases.count (phrases_of names ts))) atom.value ∙ ap (is_built_in (name_at names f)) (count-of names ts) ∙ own in
      and_from (is_phrase (phrase_of names t)) _ phrase_is (not_from_false _ n)

  says : Says (map (word_of text) (tokens_from 0 said_words)) (clause (phrase_of names t) [])
  says = record {
    words = words_are ∙ sym (append-nil said_words);
    is_statement = and_from (is_head (phrase_of names t) && true) true (and_from (is_head (phrase_of names t)) true head_is refl) refl;
  }

  name_is : place same_text names (atom_of (atom_word (name_at names f)).kind (atom_word (name_at names f)).text) ≡ f
  name_is = ap (place same_text names) atom.value ∙ place-at names f known.1 over.0

  abbrev fact : ℕ → ℕ → Trees Key → Predicate × Clause
  fact g k us = (record { name = g; arity = k }, record { head = numbered (keys_in (us ∷ [])) us; body = [] })

  writes : clause_by names (phrase_of names t) [] ≡ (record { name = f; arity = count ts }, record { head = ts; body = [] })
  writes =
      ap (λ g. fact g (phrases.count (phrases_of names ts)) (keyed_all names 0 (phrases_of names ts))) name_is
      ∙ ap (λ k. fact f k (keyed_all names 0 (phrases_of names ts))) (count-of names ts)
      ∙ ap (fact f (count ts)) (phrases_mean names known 0 ts over.1)
      ∙ ap (λ us. (record { name = f; arity = count ts }, record { head = us; body = [] })) (numbered-back ts m canonical (λ v i. all_small names ts v over.1 i))

  pub read_fact : IsReadAsFact names text (record { name = f; arity = count ts }) ts
  read_fact = record { tokens = tokens_from 0 said_words; are_sentences = sentences; head = phrase_of names t; says = says; writes = writes }

pub read_as_fact : ReadAsFact
read_as_fact names f m ts known over canonical own = read_fact names f m ts known over canonical own
