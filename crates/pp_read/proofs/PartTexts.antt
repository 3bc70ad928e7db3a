-- The variables of the parts of a statement, in order.
use Rattle.std.proofs.Common.{◌≡◌, ℕ, ◌+◌, Bool, true, false, ◌&&◌, ◌||◌, List, [], ◌∷◌, ◌++◌, map, refl, ap, sym, ◌∙◌, arith, append_assoc, append-nil}
use Rattle.std.specs.List.{list_all, list_any}
use Rattle.std.proofs.lemmas.Bool.{and_parts}
use Rattle.std.proofs.lemmas.List.Folds.{list_any-append}
use Rattle.pp_algebra.specs.Terms.{variables, variables_all}
use Rattle.pp_language.specs.declared.token.Kind.{Kind}
use Rattle.pp_language.specs.declared.token.Kind.TheVariants.{Atom, Variable, Comma, Infers, OpenSquare, Equals, InDomain}
use Rattle.pp_language.specs.Texts.{Text}
use Rattle.pp_language.specs.Words.{Word, word, is_name_kind}
use Rattle.pp_language.specs.Keys.{texts_of}
use Rattle.pp_language.specs.Phrases.{Phrase, integer_phrase, variable_phrase, said, Phrases, no_phrases, phrase_and, is_phrase, Part, term_part, mark, mark_text, phrase_words, parts_words}
use Rattle.pp_language.specs.PartsOf.{is_mark, are_parts}
use Rattle.pp_language.specs.Statements.{Bounds, one_bound, two_bounds, SetPhrase, bare, bracketed, Item, calls, equates, belongs, compares, asks, mode_text, bounds_parts, more_bounds_parts, set_parts, item_parts, items_parts, is_item, is_comparison, is_callable}
use Rattle.pp_language.specs.Meanings.{blanks, blanks_all, keyed, keyed_all, said_arguments, two_phrases, item_phrases}
use Rattle.pp_language.specs.Limits.{is_too_wide, item_too_wide}
use Rattle.pp_parse.specs.Words.{named_by, named_in, blanks_by, blanks_in}
use Rattle.pp_read.proofs.Keys.{texts_of-append}
use Rattle.pp_read.proofs.PhraseKeys.{name_named, named_in-append, blanks_in-append, phrase_texts, phrase_blanks}
use Rattle.pp_read.proofs.ListKeys.{list_keys, list_blanks}
use Rattle.pp_read.proofs.PartsAt.{part_wide, parts_blanks}
use Rattle.std.proofs.Math.Bool.{or-false}

-- ===== parts and their words

abbrev pub part_texts : Part → List Text
part_texts (term_part p) = named_in (phrase_words p)
part_texts (mark k) = []

abbrev pub parts_texts : List Part → List Text
parts_texts [] = []
parts_texts (q ∷ qs) = part_texts q ++ parts_texts qs

pub parts_texts-append : (qs rs : List Part) → parts_texts (qs ++ rs) ≡ parts_texts qs ++ parts_texts rs
parts_texts-append [] rs = refl
parts_texts-append (q ∷ qs) rs = ap (λ xs. part_texts q ++ xs) (parts_texts-append qs rs) ∙ sym (append_assoc (part_texts q) (parts_texts qs) (parts_texts rs))

pub parts_blanks-append : (qs rs : List Part) → parts_blanks (qs ++ rs) ≡ parts_blanks qs + parts_blanks rs
parts_blanks-append [] rs = omega arith
parts_blanks-append (q ∷ qs) rs = omega (arith, parts_blanks-append qs rs)

mark_named : (k : Kind) → is_mark k ≡ true → named_by k (mark_text k) ≡ []
mark_named Variable h = absurd (cc)
mark_named _ h = refl

mark_blanks : (k : Kind) → is_mark k ≡ true → blanks_by k (mark_text k) ≡ 0
mark_blanks Variable h = absurd (cc)
mark_blanks _ h = refl

pub words_texts : (qs : List Part) → are_parts qs ≡ true → named_in (parts_words qs) ≡ parts_texts qs
words_texts [] h = refl
words_texts (term_part p ∷ qs) h =
    let i = and_parts (is_phrase p) (are_parts qs) h in
    named_in-append (phrase_words p) (parts_words qs) ∙ ap (λ xs. named_in (phrase_words p) ++ xs) (words_texts qs i.1)
words_texts (mark k ∷ qs) h =
    let i = and_parts (is_mark k) (are_parts qs) h in
    ap (λ xs. xs ++ named_in (parts_words qs)) (mark_named k i.0) ∙ words_texts qs i.1

pub words_blanks : (qs : List Part) → are_parts qs ≡ true → blanks_in (parts_words qs) ≡ parts_blanks qs
words_blanks [] h = refl
words_blanks (term_part p ∷ qs) h =
    let i = and_parts (is_phrase p) (are_parts qs) h in
    omega (arith, blanks_in-append (phrase_words p) (parts_words qs), words_blanks qs i.1, phrase_blanks p i.0)
words_blanks (mark k ∷ qs) h =
    let i = and_parts (is_mark k) (are_parts qs) h in
    omega (arith, mark_blanks k i.0, words_blanks qs i.1)

-- ===== sets

abbrev IsPlain : List Part → Type 0
IsPlain qs = (parts_texts qs ≡ []) × (parts_blanks qs ≡ 0) × (list_any part_wide qs ≡ false)

plain_append : (qs rs : List Part) → IsPlain qs → IsPlain rs → IsPlain (qs ++ rs)
plain_append qs rs h g = (
  parts_texts-append qs rs ∙ ap (λ xs. xs ++ parts_texts rs) h.0 ∙ g.0,
  omega (arith, parts_blanks-append qs rs, h.1, g.1),
  list_any-append part_wide qs rs ∙ ap (λ b. b || list_any part_wide rs) h.2 ∙ g.2,
)

plain_bounds : (b : Bounds) → IsPlain (bounds_parts b)
plain_bounds (one_bound n) = (refl, refl, refl)
plain_bounds (two_bounds n m) = (refl, refl, refl)

plain_mark : (k : Kind) (qs : List Part) → IsPlain qs → IsPlain (mark k ∷ qs)
plain_mark k qs h = (h.0, omega (arith, h.1), h.2)

plain_more : (bs : List Bounds) → IsPlain (more_bounds_parts bs)
plain_more [] = (refl, refl, refl)
plain_more (b ∷ bs) = plain_mark Comma (bounds_parts b ++ more_bounds_parts bs) (plain_append (bounds_parts b) (more_bounds_parts bs) (plain_bounds b) (plain_more bs))

pub plain_set : (s : SetPhrase) → IsPlain (set_parts s)
plain_set (bare b) = plain_bounds b
plain_set (bracketed b bs) = plain_mark OpenSquare (bounds_parts b ++ more_bounds_parts bs) (plain_append (bounds_parts b) (more_bounds_parts bs) (plain_bounds b) (plain_more bs))

-- ===== items

pub record IsTexted (names : List Text) (qs : List Part) (ps : Phrases) (wide : Bool) : Type 0 where
  pub texts : (n : ℕ) → parts_texts qs ≡ texts_of (variables_all (keyed_all names n ps))
  pub blank : parts_blanks qs ≡ blanks_all ps
  pub width : list_any part_wide qs ≡ wide

module _ (names : List Text) where
  pub said_texted : (p : Phrase) → is_callable p ≡ true → IsTexted names (term_part p ∷ []) (said_arguments p) (is_too_wide p)
  said_texted (integer_phrase bs) h = absurd (cc)
  said_texted (variable_phrase bs) h = absurd (cc)
  said_texted (said w us) h = record {
    texts = λ n. append-nil (named_in (phrase_words (said w us))) ∙ sym (phrase_texts names n (said w us) h);
    blank = omega arith;
    width = or-false (is_too_wide (said w us));
  }

  two_texted : (p q : Phrase) (k : Kind) → is_phrase p ≡ true → is_phrase q ≡ true → IsTexted names (term_part p ∷ mark k ∷ term_part q ∷ []) (two_phrases p q) (is_too_wide p || is_too_wide q)
  two_texted p q k h g = record {
    texts = λ n.
        let a = variables (keyed names n p) in
        let b = variables (keyed names (n + blanks p) q) in
        ap (λ xs. named_in (phrase_words p) ++ xs) (append-nil (named_in (phrase_words q)))
        ∙ ap (λ xs. xs ++ named_in (phrase_words q)) (sym (phrase_texts names n p h))
        ∙ ap (λ xs. texts_of a ++ xs) (sym (phrase_texts names (n + blanks p) q g) ∙ ap texts_of (sym (append-nil b)))
        ∙ sym (texts_of-append a (b ++ []));
    blank = omega arith;
    width = ap (λ b. is_too_wide p || b) (or-false (is_too_wide q));
  }

  member_texted : (p : Phrase) (k : Kind) (s : SetPhrase) → is_phrase p ≡ true → IsTexted names (term_part p ∷ mark k ∷ set_parts s) (phrase_and p no_phrases) (is_too_wide p)
  member_texted p k s h =
      let t = plain_set s in
      record {
        texts = λ n.
            let a = variables (keyed names n p) in
            ap (λ xs. named_in (phrase_words p) ++ xs) t.0 ∙ append-nil (named_in (phrase_words p)) ∙ sym (phrase_texts names n p h) ∙ ap texts_of (sym (append-nil a));
        blank = omega (arith, t.1);
        width = ap (λ b. is_too_wide p || b) t.2 ∙ or-false (is_too_wide p);
      }

  mode_texted : (p : Phrase) (w : Word) → is_name_kind w.kind ≡ true → is_callable p ≡ true → IsTexted names (term_part p ∷ mark Infers ∷ term_part (said w no_phrases) ∷ []) (said_arguments p) (is_too_wide p)
  mode_texted p w k h =
      let t = said_texted p h in
      record {
        texts = λ n. ap (λ xs. named_in (phrase_words p) ++ (xs ++ [] ++ [])) (name_named w.kind w.text k) ∙ t.texts n;
        blank = omega (arith, t.blank);
        width = t.width;
      }

  pub item_texted : (x : Item) → is_item x ≡ true → IsTexted names (item_parts x) (item_phrases x) (item_too_wide x)
  item_texted (calls p) h = said_texted p h
  item_texted (equates p q) h = let i = and_parts (is_phrase p) (is_phrase q) h in two_texted p q Equals i.0 i.1
  item_texted (belongs p s) h = member_texted p InDomain s h
  item_texted (compares k p q) h =
      let i = and_parts (is_comparison k && is_phrase p) (is_phrase q) h in
      two_texted p q k (and_parts (is_comparison k) (is_phrase p) i.0).1 i.1
  item_texted (asks p m) h = mode_texted p (word Atom (mode_text m)) refl h

-- ===== items one behind another

module _ (names : List Text) where
  pub items_texts : (xs : List Item) (n : ℕ) → list_all is_item xs ≡ true → parts_texts (items_parts xs) ≡ texts_of (list_keys names n (map item_phrases xs))
  items_texts [] n h = refl
  items_texts (x ∷ []) n h =
      let t = item_texted names x (and_parts (is_item x) true h).0 in
      ap parts_texts (append-nil (item_parts x)) ∙ t.texts n ∙ ap texts_of (sym (append-nil (variables_all (keyed_all names n (item_phrases x)))))
  items_texts (x ∷ y ∷ ys) n h =
      let i = and_parts (is_item x) (list_all is_item (y ∷ ys)) h in
      let t = item_texted names x i.0 in
      let rest = list_keys names (n + blanks_all (item_phrases x)) (map item_phrases (y ∷ ys)) in
      parts_texts-append (item_parts x) (mark Comma ∷ items_parts (y ∷ ys))
      ∙ ap (λ ts. ts ++ parts_texts (items_parts (y ∷ ys))) (t.texts n)
      ∙ ap (λ ts. texts_of (variables_all (keyed_all names n (item_phrases x))) ++ ts) (items_texts (y ∷ ys) (n + blanks_all (item_phrases x)) i.1)
      ∙ sym (texts_of-append (variables_all (keyed_all names n (item_phrases x))) rest)

  pub items_blanks : (xs : List Item) → list_all is_item xs ≡ true → parts_blanks (items_parts xs) ≡ list_blanks (map item_phrases xs)
  items_blanks [] h = refl
  items_blanks (x ∷ []) h = omega (arith, (item_texted names x (and_parts (is_item x) true h).0).blank, ap parts_blanks (append-nil (item_parts x)))
  items_blanks (x ∷ y ∷ ys) h =
      let i = and_parts (is_item x) (list_all is_item (y ∷ ys)) h in
      omega (arith, (item_texted names x i.0).blank, parts_blanks-append (item_parts x) (mark Comma ∷ items_parts (y ∷ ys)), items_blanks (y ∷ ys) i.1)

  pub items_wide : (xs : List Item) → list_all is_item xs ≡ true → list_any part_wide (items_parts xs) ≡ list_any item_too_wide xs
  items_wide [] h = refl
  items_wide (x ∷ []) h = ap (list_any part_wide) (append-nil (item_parts x)) ∙ (item_texted names x (and_parts (is_item x) true h).0).width ∙ sym (or-false (item_too_wide x))
  items_wide (x ∷ y ∷ ys) h =
      let i = and_parts (is_item x) (list_all is_item (y ∷ ys)) h in
      list_any-append part_wide (item_parts x) (mark Comma ∷ items_parts (y ∷ ys))
      ∙ ap (λ b. b || list_any part_wide (items_parts (y ∷ ys))) (item_texted names x i.0).width
      ∙ ap (λ b. item_too_wide x || b) (items_wide (y ∷ ys) i.1)
