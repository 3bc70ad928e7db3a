-- The code's parts at a place, where they are the parts of a sentence that is well spelled and within the limits of a term.
use Rattle.std.proofs.Common.{◌≡◌, ℕ, zero, suc, ◌+◌, Bool, false, ◌||◌, List, [], ◌∷◌, ◌++◌, length, drop, Option, Some, None, refl, ap, sym, ◌∙◌, subst, arith, length-append}
use Rattle.std.specs.Prelude.{All, slice_get}
use Rattle.std.specs.List.{list_any}
use Rattle.std.proofs.lemmas.Bool.{or_parts}
use Rattle.pp_row.specs.declared.cell.Cell.{Cell}
use Rattle.pp_row.specs.Cells.{cells_of}
use Rattle.pp_row.specs.Reading.{tree_of}
use Rattle.pp_row.specs.Codes.{tree_of-cells_of}
use Rattle.pp_row.proofs.OneTerm.{one_of}
use Rattle.pp_language.specs.declared.token.Kind.{Kind}
use Rattle.pp_language.specs.Texts.{Text}
use Rattle.pp_language.specs.Phrases as phrases
use Rattle.pp_language.specs.Phrases.{Phrase, term_part, mark, phrase_words, part_words, parts_words}
use Rattle.pp_language.specs.Meanings.{texts_by, blanks}
use Rattle.pp_language.specs.Limits.{is_too_wide}
use Rattle.pp_language.proofs.PartsSpelled.{AreSpelled}
use Rattle.pp_parse.specs.declared.parts.Part.{Part}
use Rattle.pp_parse.specs.declared.parts.Part.TheVariants.{Term, Mark}
use Rattle.pp_parse.specs.Words.{texts_in}
use Rattle.pp_parse.specs.Terms.{term_of}
use Rattle.pp_parse.specs.Parts.{part_blanks, AreParts}
use Rattle.pp_build.specs.Pieces.{part_tree, tree_at, IsTermPart, HasTermAt}
use Rattle.pp_read.specs.Passed.{is_wide}
use Rattle.pp_parse.proofs.KnownTexts.{Known, all_first, all_second}
use Rattle.pp_parse.proofs.Spelled.{spelled_first, spelled_second}
use Rattle.pp_read.proofs.PhraseTerms.{is_wide_cell, phrase_wide, phrase_legal}
use Rattle.std.proofs.lemmas.Grind.{flat_map-append}

-- ===== places

pub get_drop : {A : Type 0} (xs : List A) (i k j : ℕ) → j ≡ i + k → slice_get (drop i xs) k ≡ slice_get xs j
get_drop xs zero k j e = let f : k ≡ j = omega arith in ap (slice_get xs) f
get_drop [] (suc i) k j e = refl
get_drop (x ∷ xs) (suc i) k zero e = absurd (omega arith)
get_drop (x ∷ xs) (suc i) k (suc j) e = get_drop xs i k j (omega arith)

-- ===== wide parts

abbrev pub part_wide : phrases.Part → Bool
part_wide (term_part p) = is_too_wide p
part_wide (mark k) = false

abbrev pub parts_blanks : List phrases.Part → ℕ
parts_blanks [] = 0
parts_blanks (q ∷ qs) = part_blanks q + parts_blanks qs

module _ (names named : List Text) where
  cells_wide : (cs ds : List Cell) → cs ≡ ds → list_any is_wide_cell cs ≡ list_any is_wide_cell ds
  cells_wide cs ds e = ap (list_any is_wide_cell) e

  pub parts_wide : (n i : ℕ) (qs : List phrases.Part) (ps : List Part) → AreParts names named n i qs ps → list_any is_wide ps ≡ list_any part_wide qs
  parts_wide n i [] [] h = refl
  parts_wide n i [] (p ∷ ps) h = absurd h
  parts_wide n i (q ∷ qs) [] h = absurd h
  parts_wide n i (term_part p ∷ qs) (Term t ∷ ps) h =
      ap (λ b. b || list_any is_wide ps) (cells_wide t.cells.items (cells_of (term_of names named n p)) h.0.0 ∙ phrase_wide names named n p) ∙ ap (λ b. is_too_wide p || b) (parts_wide (n + blanks p) (i + length (phrase_words p)) qs ps h.1)
  parts_wide n i (term_part p ∷ qs) (Mark k ∷ ps) h = absurd h.0
  parts_wide n i (mark j ∷ qs) (Term t ∷ ps) h = absurd h.0
  parts_wide n i (mark j ∷ qs) (Mark k ∷ ps) h = parts_wide (n + 0) (i + 1) qs ps h.1

  -- ===== the parts behind the first ones

  pub behind : (n m i : ℕ) (qs rs : List phrases.Part) (ps : List Part) → m ≡ n + parts_blanks qs → AreParts names named n i (qs ++ rs) ps → AreParts names named m (i + length (parts_words qs)) rs (drop (length qs) ps)
  behind n m i [] rs ps e h = let f : n ≡ m = omega arith in let g : i ≡ i + 0 = omega arith in subst (λ k. AreParts names named m k rs ps) g (subst (λ k. AreParts names named k i rs ps) f h)
  behind n m i (q ∷ qs) rs [] e h = absurd h
  behind n m i (q ∷ qs) rs (p ∷ ps) e h =
      let f : i + length (part_words q) + length (parts_words qs) ≡ i + length (part_words q ++ parts_words qs) = omega (arith, length-append (part_words q) (parts_words qs)) in
      subst (λ k. AreParts names named m k rs (drop (length qs) ps)) f (behind (n + part_blanks q) m (i + length (part_words q)) qs rs ps (omega arith) h.1)

  -- ===== a term

  abbrev pub HasCells : Option Part → List Cell → Type 0
  HasCells None cs = ⊥
  HasCells (Some (Term t)) cs = t.cells.items ≡ cs
  HasCells (Some (Mark k)) cs = ⊥

  -- the phrase stands in front
  pub term_first : (n i : ℕ) (p : Phrase) (qs : List phrases.Part) (ps : List Part) → AreParts names named n i (term_part p ∷ qs) ps → HasCells (slice_get ps 0) (cells_of (term_of names named n p))
  term_first n i p qs [] h = absurd h
  term_first n i p qs (Term t ∷ ps) h = h.0.0
  term_first n i p qs (Mark k ∷ ps) h = absurd h.0

  -- and another one behind a mark
  pub term_third : (n m i : ℕ) (p q : Phrase) (k : Kind) (qs : List phrases.Part) (ps : List Part) → m ≡ n + blanks p → AreParts names named n i (term_part p ∷ mark k ∷ term_part q ∷ qs) ps → HasCells (slice_get ps 2) (cells_of (term_of names named m q))
  term_third n m i p q k qs [] e h = absurd h
  term_third n m i p q k qs (x ∷ []) e h = absurd h.1
  term_third n m i p q k qs (x ∷ y ∷ []) e h = absurd h.1.1
  term_third n m i p q k qs (x ∷ y ∷ Term t ∷ ps) e h = let f : n + blanks p + 0 ≡ m = omega arith in h.1.1.0.0 ∙ ap (λ j. cells_of (term_of names named j q)) f
  term_third n m i p q k qs (x ∷ y ∷ Mark j ∷ ps) e h = absurd h.1.1.0

  tree_is : (o : Option Part) (n : ℕ) (p : Phrase) → HasCells o (cells_of (term_of names named n p)) → part_tree o ≡ term_of names named n p
  tree_is None n p h = absurd h
  tree_is (Some (Term t)) n p h = ap tree_of h ∙ tree_of-cells_of (term_of names named n p)
  tree_is (Some (Mark k)) n p h = absurd h

  one_is : (o : Option Part) (n : ℕ) (p : Phrase) → AreSpelled (phrase_words p) → is_too_wide p ≡ false → HasCells o (cells_of (term_of names named n p)) → IsTermPart o
  one_is None n p s w h = absurd h
  one_is (Some (Term t)) n p s w h = one_of (term_of names named n p) t.cells.items (phrase_legal names named n p s w) (sym h)
  one_is (Some (Mark k)) n p s w h = absurd h

  -- the term of the phrase stands at a place
  pub record Stands (ps : List Part) (i n : ℕ) (p : Phrase) : Type 0 where
    pub term : HasTermAt ps i
    pub tree : tree_at ps i ≡ term_of names named n p

  pub stands : (ps : List Part) (i n : ℕ) (p : Phrase) → AreSpelled (phrase_words p) → is_too_wide p ≡ false → HasCells (slice_get ps i) (cells_of (term_of names named n p)) → Stands ps i n p
  stands ps i n p s w h = record { term = one_is (slice_get ps i) n p s w h; tree = tree_is (slice_get ps i) n p h }

-- ===== good parts: their names are known, their words are spelled and no atom is too wide

module _ (names : List Text) where
  pub record IsGood (q : phrases.Part) : Type 0 where
    pub known : All (Known names) (texts_in (part_words q))
    pub spelled : AreSpelled (part_words q)
    pub narrow : part_wide q ≡ false

  abbrev pub AreGood : List phrases.Part → Type 0
  AreGood [] = Unit {0}
  AreGood (q ∷ qs) = IsGood q × AreGood qs

  pub good_all : (qs : List phrases.Part) → All (Known names) (texts_in (parts_words qs)) → AreSpelled (parts_words qs) → list_any part_wide qs ≡ false → AreGood qs
  good_all [] k s w = tt
  good_all (q ∷ qs) k s w =
      let h : All (Known names) (texts_in (part_words q) ++ texts_in (parts_words qs)) = subst (All (Known names)) (flat_map-append (λ v. texts_by v.kind v.text) (part_words q) (parts_words qs)) k in
      let o = or_parts (part_wide q) (list_any part_wide qs) w in (
        record { known = all_first (Known names) (texts_in (part_words q)) (texts_in (parts_words qs)) h; spelled = spelled_first (part_words q) (parts_words qs) s; narrow = o.0 },
        good_all qs (all_second (Known names) (texts_in (part_words q)) (texts_in (parts_words qs)) h) (spelled_second (part_words q) (parts_words qs) s) o.1,
      )

  pub good_first : (qs rs : List phrases.Part) → AreGood (qs ++ rs) → AreGood qs
  good_first [] rs g = tt
  good_first (q ∷ qs) rs g = (g.0, good_first qs rs g.1)

  pub good_second : (qs rs : List phrases.Part) → AreGood (qs ++ rs) → AreGood rs
  good_second [] rs g = g
  good_second (q ∷ qs) rs g = good_second qs rs g.1
