-- What is read of a sentence, word by word from the right.
use Rattle.std.proofs.Common.{◌≡◌, ℕ, suc, ◌+◌, Bool, true, false, List, [], ◌∷◌, ◌++◌, length, map, reverse, Option, Some, None, refl, ap, sym, ◌∙◌, subst, arith, append_assoc, append-nil, length-append}
use Rattle.std.specs.List.{flat_map}
use Rattle.std.proofs.lemmas.List.{reverse-append}
use Rattle.pp_row.specs.declared.cell.Cell.{Cell}
use Rattle.pp_row.specs.Cells.{cells_of, cells_of_all}
use Rattle.pp_language.specs.Texts.{Text}
use Rattle.pp_language.specs.Phrases as phrases
use Rattle.pp_language.specs.Phrases.{Phrase, Phrases, no_phrases, phrase_and, count, phrase_words, more_phrase_words, term_part}
use Rattle.pp_language.specs.Meanings.{blanks, blanks_all}
use Rattle.pp_language.specs.PartsOf as parts
use Rattle.pp_language.specs.PartsOf.{wanting, filled, State, with_phrase, open_words}
use Rattle.pp_parse.specs.declared.parts.Part.{Part}
use Rattle.pp_parse.specs.declared.reading.Group.{Group}
use Rattle.pp_parse.specs.declared.reading.Group.TheVariants.{Wanting, Filled}
use Rattle.pp_parse.specs.Terms.{term_of, terms_of}
use Rattle.pp_parse.specs.Parts.{AreParts}
use Rattle.pp_parse.specs.declared.reading.Reading.{Reading}
use Rattle.pp_parse.specs.Reading.{group_of, open_cells, Holds, Follows, IsHead}

pub reverse_push : {A : Type 0} (xs : List A) (x : A) → reverse (xs ++ x ∷ []) ≡ x ∷ reverse xs
reverse_push xs x = reverse-append xs (x ∷ [])

-- the last group of the code is the innermost one
pub popped : (groups rest : List Group) (g : Group) (gs : List parts.Group) → groups ≡ rest ++ g ∷ [] → reverse groups ≡ map group_of gs → g ∷ reverse rest ≡ map group_of gs
popped groups rest g gs e h = sym (reverse_push rest g) ∙ ap reverse (sym e) ∙ h

-- nothing is popped
pub emptied : (old new : List Group) → old ≡ new ++ [] → length old ≡ 0 → (old ≡ []) × (new ≡ [])
emptied [] new e z = (refl, sym (append-nil new) ∙ sym e)
emptied (g ∷ old) new e z = absurd (omega arith)

pub no_groups : (groups : List Group) (gs : List parts.Group) → groups ≡ [] → reverse groups ≡ map group_of gs → gs ≡ []
no_groups groups [] e h = refl
no_groups groups (g ∷ gs) e h = let k : [] ≡ group_of g ∷ map group_of gs = ap reverse (sym e) ∙ h in absurd (cc)

module _ (names named : List Text) where
  -- where a state follows
  abbrev pub Comes : ℕ → ℕ → Option State → Bool → List Cell → ℕ → List Group → List Part → Type 0
  Comes n i None ok cells k groups whole = ok ≡ false
  Comes n i (Some s) ok cells k groups whole = (ok ≡ true) × Holds names named n i s.arguments s.groups s.parts cells k groups whole

  pub follows : (n i : ℕ) (o : Option State) (ok : Bool) (r : Reading) (cells : List Cell) (k : ℕ) (groups : List Group) (whole : List Part)
      → r.cells.items ≡ cells → r.arguments ≡ k → r.groups.items ≡ groups → r.parts.items ≡ whole → Comes n i o ok cells k groups whole → Follows names named n i o ok r
  follows n i None ok r cells k groups whole a b d e h = h
  follows n i (Some s) ok r cells k groups whole a b d e h = (
    h.0,
    subst (λ xs. Holds names named n i s.arguments s.groups s.parts xs r.arguments r.groups.items r.parts.items) (sym a)
        (subst (λ x. Holds names named n i s.arguments s.groups s.parts cells x r.groups.items r.parts.items) (sym b)
        (subst (λ xs. Holds names named n i s.arguments s.groups s.parts cells k xs r.parts.items) (sym d)
        (subst (λ xs. Holds names named n i s.arguments s.groups s.parts cells k groups xs) (sym e) h.1))),
  )

  pub fails : (n i : ℕ) (o : Option State) (r : Reading) → o ≡ None → Follows names named n i o false r
  fails n i o r e = subst (λ x. Follows names named n i x false r) (sym e) refl

  pub parts_at : (n m i j : ℕ) (qs : List phrases.Part) (ps : List Part) → n ≡ m → i ≡ j → AreParts names named n i qs ps → AreParts names named m j qs ps
  parts_at n m i j qs ps e f h = subst (λ k. AreParts names named k j qs ps) e (subst (λ k. AreParts names named n k qs ps) f h)

  cells_at : (n m : ℕ) (gs : List parts.Group) → n ≡ m → open_cells names named n gs ≡ open_cells names named m gs
  cells_at n m gs e = ap (λ k. open_cells names named k gs) e

  terms_at : (n m : ℕ) (ps : Phrases) → n ≡ m → cells_of_all (terms_of names named n ps) ≡ cells_of_all (terms_of names named m ps)
  terms_at n m ps e = ap (λ k. cells_of_all (terms_of names named k ps)) e

  -- ===== a phrase

  module _ (n m i : ℕ) (p : Phrase) (c : Cell) (ps : Phrases) (qs : List phrases.Part) (cells : List Cell) (k : ℕ) (groups : List Group) (whole : List Part) (head : IsHead names named n m p c ps) where
    -- the cells from the phrase on
    phrase_cells : (rest : List Cell) → reverse cells ≡ cells_of_all (terms_of names named m ps) ++ rest → reverse (cells ++ c ∷ []) ≡ cells_of (term_of names named n p) ++ rest
    phrase_cells rest h = reverse_push cells c ∙ ap (λ cs. c ∷ cs) h ∙ ap (λ cs. cs ++ rest) (sym head.cells)

    pub fills : (gs : List parts.Group) (rest : List Group) (size more : ℕ) → groups ≡ rest ++ Wanting size ∷ [] → more ≡ size + 1 → Holds names named m (i + 1) ps gs qs cells k groups whole
        → Comes n i (with_phrase p gs qs) true (cells ++ c ∷ []) 0 (rest ++ Filled more ∷ []) whole
    fills [] rest size more e j h = let q = popped groups rest (Wanting size) [] e h.groups_are in absurd (cc)
    fills (filled o os ∷ gs) rest size more e j h = let q = popped groups rest (Wanting size) (filled o os ∷ gs) e h.groups_are in absurd (cc)
    fills (wanting os ∷ gs) rest size more e j h =
        let q = popped groups rest (Wanting size) (wanting os ∷ gs) e h.groups_are in
        let a : size ≡ count os = cc in
        let b : reverse rest ≡ map group_of gs = cc in
        let f : Filled more ≡ Filled (suc (count os)) = ap Filled (omega arith) in (
          refl,
          record {
            arguments_are = refl;
            groups_are = reverse_push rest (Filled more) ∙ ap (λ g. g ∷ reverse rest) f ∙ ap (λ gg. Filled (suc (count os)) ∷ gg) b;
            cells_are =
                phrase_cells (cells_of_all (terms_of names named (m + blanks_all ps) os) ++ open_cells names named (m + blanks_all ps + blanks_all os) gs) h.cells_are
                ∙ ap (λ cs. cells_of (term_of names named n p) ++ (cs ++ open_cells names named (m + blanks_all ps + blanks_all os) gs)) (terms_at (m + blanks_all ps) (n + blanks p) os (sym head.counts))
                ∙ sym (append_assoc (cells_of (term_of names named n p)) (cells_of_all (terms_of names named (n + blanks p) os)) (open_cells names named (m + blanks_all ps + blanks_all os) gs))
                ∙ ap (λ cs. (cells_of (term_of names named n p) ++ cells_of_all (terms_of names named (n + blanks p) os)) ++ cs) (cells_at (m + blanks_all ps + blanks_all os) (n + (blanks p + blanks_all os)) gs (omega (arith, head.counts)))
                ∙ ap (λ x. cells_of_all (terms_of names named x (phrase_and p os)) ++ open_cells names named (x + (blanks p + blanks_all os)) gs) (let z : n ≡ n + 0 = omega arith in z);
            parts_are = parts_at _ _ _ _ qs (reverse whole) (omega (arith, head.counts)) (omega (arith, head.words, length-append (phrase_words p) (more_phrase_words os), length-append (more_phrase_words os) (flat_map open_words gs), length-append (phrase_words p ++ more_phrase_words os) (flat_map open_words gs))) h.parts_are;
          },
        )

    pub overfills : (gs : List parts.Group) (rest : List Group) (size : ℕ) → groups ≡ rest ++ Filled size ∷ [] → Holds names named m (i + 1) ps gs qs cells k groups whole → with_phrase p gs qs ≡ None
    overfills [] rest size e h = let q = popped groups rest (Filled size) [] e h.groups_are in absurd (cc)
    overfills (filled o os ∷ gs) rest size e h = refl
    overfills (wanting os ∷ gs) rest size e h = let q = popped groups rest (Filled size) (wanting os ∷ gs) e h.groups_are in absurd (cc)

    pub record Ended (gs : List parts.Group) : Type 0 where
      pub none : gs ≡ []
      pub cells_end : reverse (cells ++ c ∷ []) ≡ cells_of (term_of names named n p)
      pub parts_end : AreParts names named (n + blanks p) (i + length (phrase_words p)) qs (reverse whole)

    pub ends : (gs : List parts.Group) → groups ≡ [] → Holds names named m (i + 1) ps gs qs cells k groups whole → Ended gs
    ends [] e h = record {
      none = refl;
      cells_end = phrase_cells [] h.cells_are ∙ append-nil (cells_of (term_of names named n p));
      parts_end = parts_at _ _ _ _ qs (reverse whole) (omega (arith, head.counts)) (omega (arith, head.words)) h.parts_are;
    }
    ends (g ∷ gs) e h = let q = no_groups groups (g ∷ gs) e h.groups_are in absurd (cc)

    -- the parts grow by the phrase
    pub ended : (gs : List parts.Group) (r : Reading) → Ended gs → Holds names named n i no_phrases [] (term_part p ∷ qs) r.cells.items r.arguments r.groups.items r.parts.items → Follows names named n i (with_phrase p gs qs) true r
    ended gs r e h = subst (λ g. Follows names named n i (with_phrase p g qs) true r) (sym e.none) (refl, h)
