-- Marks and parentheses in what is read of a sentence, and its end.
use Rattle.std.proofs.Common.{◌≡◌, ℕ, suc, ◌+◌, Bool, true, false, List, [], ◌∷◌, ◌++◌, length, map, reverse, Some, None, refl, ap, sym, ◌∙◌, subst, arith, length-append}
use Rattle.std.specs.List.{flat_map}
use Rattle.std.specs.Bool.{◌==◌}
use Rattle.std.proofs.lemmas.Bool.{eqb-true, eq-eqb, both_ways}
use Rattle.std.proofs.lemmas.List.{reverse-append}
use Rattle.pp_row.specs.declared.cell.Cell.{Cell}
use Rattle.pp_row.specs.Cells.{cells_of_all}
use Rattle.pp_language.specs.declared.token.Kind.{Kind}
use Rattle.pp_language.specs.declared.token.Kind.TheVariants.{Comma}
use Rattle.pp_language.specs.Texts.{Text}
use Rattle.pp_language.specs.Phrases as phrases
use Rattle.pp_language.specs.Phrases.{Phrases, no_phrases, phrase_and, count, phrase_words, more_phrase_words, mark}
use Rattle.pp_language.specs.Meanings.{blanks_all}
use Rattle.pp_language.specs.PartsOf as parts
use Rattle.pp_language.specs.PartsOf.{wanting, filled, state, with_left, with_comma, with_mark, whole, open_words}
use Rattle.pp_parse.specs.declared.parts.Part.{Part}
use Rattle.pp_parse.specs.declared.parts.Part.TheVariants.{Mark}
use Rattle.pp_parse.specs.declared.reading.Group.{Group}
use Rattle.pp_parse.specs.declared.reading.Group.TheVariants.{Wanting, Filled}
use Rattle.pp_parse.specs.Terms.{terms_of}
use Rattle.pp_parse.specs.Parts.{AreParts}
use Rattle.pp_parse.specs.Reading.{group_of, open_cells, Holds}
use Rattle.pp_parse.proofs.Readings.{reverse_push, popped, no_groups, Comes, parts_at}

not_empty : (xs : List Group) (x : Group) → xs ++ x ∷ [] ≡ [] → ⊥
not_empty [] x e = cc
not_empty (y ∷ xs) x e = cc

reversed_none : (xs : List Group) → reverse xs ≡ [] → xs ≡ []
reversed_none [] f = refl
reversed_none (x ∷ xs) f = absurd (not_empty (reverse xs) x (sym (reverse-append (x ∷ []) xs) ∙ f))

pub wanting_left : (groups rest : List Group) (size : ℕ) (gs : List parts.Group) (qs : List phrases.Part) → groups ≡ rest ++ Wanting size ∷ [] → reverse groups ≡ map group_of gs → with_left gs qs ≡ None
wanting_left groups rest size [] qs e h = refl
wanting_left groups rest size (wanting ps ∷ gs) qs e h = refl
wanting_left groups rest size (filled p ps ∷ gs) qs e h = let q = popped groups rest (Wanting size) (filled p ps ∷ gs) e h in absurd (cc)

pub wanting_comma : (groups rest : List Group) (size : ℕ) (gs : List parts.Group) (qs : List phrases.Part) → groups ≡ rest ++ Wanting size ∷ [] → reverse groups ≡ map group_of gs → with_comma gs qs ≡ None
wanting_comma groups rest size [] qs e h = let q = popped groups rest (Wanting size) [] e h in absurd (cc)
wanting_comma groups rest size (wanting ps ∷ gs) qs e h = refl
wanting_comma groups rest size (filled p ps ∷ gs) qs e h = let q = popped groups rest (Wanting size) (filled p ps ∷ gs) e h in absurd (cc)

pub no_left : (groups : List Group) (gs : List parts.Group) (qs : List phrases.Part) → groups ≡ [] → reverse groups ≡ map group_of gs → with_left gs qs ≡ None
no_left groups gs qs e h = let f = no_groups groups gs e h in ap (λ g. with_left g qs) f

pub no_mark : (k : Kind) (groups : List Group) (gs : List parts.Group) (qs : List phrases.Part) → (groups ≡ [] → ⊥) → reverse groups ≡ map group_of gs → with_mark k gs qs ≡ None
no_mark k [] [] qs e h = absurd (e refl)
no_mark k (g ∷ groups) [] qs e h = let q : reverse groups ++ g ∷ [] ≡ [] = sym (reverse-append (g ∷ []) groups) ∙ h in absurd (not_empty (reverse groups) g q)
no_mark k groups (g ∷ gs) qs e h = refl

pub no_whole : (k : ℕ) (groups : List Group) (ps : Phrases) (gs : List parts.Group) (qs : List phrases.Part) → k ≡ count ps → reverse groups ≡ map group_of gs → (k ≡ 0 → groups ≡ [] → ⊥) → whole ps gs qs ≡ None
no_whole k groups no_phrases [] qs e h n = absurd (n e (reversed_none groups h))
no_whole k groups no_phrases (g ∷ gs) qs e h n = refl
no_whole k groups (phrase_and p ps) gs qs e h n = refl

module _ (names named : List Text) (n i : ℕ) (qs : List phrases.Part) (cells : List Cell) (k : ℕ) (groups : List Group) (made : List Part) where
  pub closes : (gs : List parts.Group) (rest : List Group) (size : ℕ) → groups ≡ rest ++ Filled size ∷ [] → Holds names named n (i + 1) no_phrases gs qs cells k groups made
      → Comes names named n i (with_left gs qs) true cells size rest made
  closes [] rest size e h = let q = popped groups rest (Filled size) [] e h.groups_are in absurd (cc)
  closes (wanting ps ∷ gs) rest size e h = let q = popped groups rest (Filled size) (wanting ps ∷ gs) e h.groups_are in absurd (cc)
  closes (filled p ps ∷ gs) rest size e h =
      let q = popped groups rest (Filled size) (filled p ps ∷ gs) e h.groups_are in
      let z : n + 0 ≡ n = omega arith in (
        refl,
        record {
          arguments_are = cc;
          groups_are = cc;
          cells_are = h.cells_are ∙ ap (λ x. cells_of_all (terms_of names named x (phrase_and p ps)) ++ open_cells names named (x + blanks_all (phrase_and p ps)) gs) z;
          parts_are = parts_at names named _ _ _ _ qs (reverse made) (omega arith) (omega (arith, length-append (phrase_words p) (more_phrase_words ps), length-append (phrase_words p ++ more_phrase_words ps) (flat_map open_words gs))) h.parts_are;
        },
      )

  pub separates : (gs : List parts.Group) (rest : List Group) (size : ℕ) → groups ≡ rest ++ Filled size ∷ [] → Holds names named n (i + 1) no_phrases gs qs cells k groups made
      → Comes names named n i (with_comma gs qs) true cells k (rest ++ Wanting size ∷ []) made
  separates [] rest size e h = let q = popped groups rest (Filled size) [] e h.groups_are in absurd (cc)
  separates (wanting ps ∷ gs) rest size e h = let q = popped groups rest (Filled size) (wanting ps ∷ gs) e h.groups_are in absurd (cc)
  separates (filled p ps ∷ gs) rest size e h =
      let q = popped groups rest (Filled size) (filled p ps ∷ gs) e h.groups_are in
      let a : Wanting size ≡ Wanting (suc (count ps)) = cc in
      let b : reverse rest ≡ map group_of gs = cc in (
        refl,
        record {
          arguments_are = h.arguments_are;
          groups_are = reverse_push rest (Wanting size) ∙ ap (λ g. g ∷ reverse rest) a ∙ ap (λ gg. Wanting (suc (count ps)) ∷ gg) b;
          cells_are = h.cells_are;
          parts_are = parts_at names named _ _ _ _ qs (reverse made) (omega arith) (omega (arith, length-append (phrase_words p ++ more_phrase_words ps) (flat_map open_words gs))) h.parts_are;
        },
      )

  -- a mark between terms
  pub stands : (h : Kind) (gs : List parts.Group) (more : List Part) → groups ≡ [] → more ≡ made ++ Mark h ∷ [] → Holds names named n (i + 1) no_phrases gs qs cells k groups made
      → Comes names named n i (with_mark h gs qs) true cells k [] more
  stands h [] more e f o = (
    refl,
    record {
      arguments_are = o.arguments_are;
      groups_are = refl;
      cells_are = o.cells_are;
      parts_are = subst (AreParts names named (n + 0 + 0) (i + 0 + 0) (mark h ∷ qs)) (sym (reverse_push made (Mark h)) ∙ ap reverse (sym f)) (refl, parts_at names named _ _ _ _ qs (reverse made) (omega arith) (omega arith) o.parts_are);
    },
  )
  stands h (g ∷ gs) more e f o = let q = no_groups groups (g ∷ gs) e o.groups_are in absurd (cc)

  pub stands_comma : (gs : List parts.Group) (more : List Part) → groups ≡ [] → more ≡ made ++ Mark Comma ∷ [] → Holds names named n (i + 1) no_phrases gs qs cells k groups made
      → Comes names named n i (with_comma gs qs) true cells k [] more
  stands_comma [] more e f o = stands Comma [] more e f o
  stands_comma (g ∷ gs) more e f o = let q = no_groups groups (g ∷ gs) e o.groups_are in absurd (cc)

  pub opens : (gs : List parts.Group) (more : List Group) → more ≡ groups ++ Wanting 0 ∷ [] → Holds names named n (i + 1) no_phrases gs qs cells k groups made
      → Comes names named n i (Some (state no_phrases (wanting no_phrases ∷ gs) qs)) true cells k more made
  opens gs more e h = (
    refl,
    record {
      arguments_are = h.arguments_are;
      groups_are = ap reverse e ∙ reverse_push groups (Wanting 0) ∙ ap (λ gg. Wanting 0 ∷ gg) h.groups_are;
      cells_are = h.cells_are ∙ ap (λ x. open_cells names named x gs) (let z : n + 0 ≡ n + 0 + 0 = omega arith in z);
      parts_are = parts_at names named _ _ _ _ qs (reverse made) (omega arith) (omega arith) h.parts_are;
    },
  )

  pub all_whole : (ps : Phrases) (gs : List parts.Group) → k ≡ 0 → groups ≡ [] → Holds names named n i ps gs qs cells k groups made
      → (rs : List phrases.Part) × (whole ps gs qs ≡ Some rs) × AreParts names named n i rs (reverse made)
  all_whole no_phrases [] e f h = (qs, refl, parts_at names named _ _ _ _ qs (reverse made) (omega arith) (omega arith) h.parts_are)
  all_whole no_phrases (g ∷ gs) e f h = let q = no_groups groups (g ∷ gs) f h.groups_are in absurd (cc)
  all_whole (phrase_and p ps) gs e f h = let q : 0 ≡ suc (count ps) = sym e ∙ h.arguments_are in absurd (omega arith)

-- what `is_empty` says of a vector
pub empty_is : {A : Type 0} (xs : List A) (n : ℕ) (b : Bool) → n ≡ length xs → b ≡ (n == 0) → b ≡ true → xs ≡ []
empty_is [] n b l e t = refl
empty_is (x ∷ xs) n b l e t = absurd (let z = eqb-true n 0 (sym e ∙ t) in omega arith)

pub some_is : {A : Type 0} (xs : List A) (n : ℕ) (b : Bool) → n ≡ length xs → b ≡ (n == 0) → b ≡ false → xs ≡ [] → ⊥
some_is [] n b l e f h = both_ways (n == 0) (sym e ∙ f) (eq-eqb n 0 l)
some_is (x ∷ xs) n b l e f h = cc
