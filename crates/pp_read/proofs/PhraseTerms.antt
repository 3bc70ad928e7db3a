-- The terms of phrases: whether they are within the limits of a term, and which variables stand in them.
use Rattle.std.proofs.Common.{◌≡◌, ℕ, zero, suc, ◌+◌, ◌<◌, ◌≤◌, Bool, true, false, not, ◌||◌, cond, nat_le, List, [], ◌∷◌, ◌++◌, length, refl, ap, ◌∙◌, subst, arith, ⊎_elim}
use Rattle.std.specs.Prelude.{codes, All}
use Rattle.std.specs.List.{list_any}
use Rattle.std.proofs.lemmas.Bool.{or_parts, leb-true}
use Rattle.std.proofs.lemmas.List.Folds.{list_any-append}
use Rattle.std.proofs.lemmas.List.Elements.{All-nil, All-cons, All-append, All-head}
use Rattle.pp_algebra.specs.Covers.{IsIn}
use Rattle.pp_algebra.specs.Terms as terms
use Rattle.pp_algebra.specs.Terms.{variables, variables_all}
use Rattle.pp_algebra.specs.Canon.{place}
use Rattle.pp_algebra.proofs.Antisym.{IsIn-either}
use Rattle.pp_row.specs.Cells.{head_of, cells_of, cells_of_all, arity_of, IsLegalCell}
use Rattle.pp_row.specs.declared.cell.Cell.{Cell}
use Rattle.pp_row.specs.declared.cell.Cell.TheVariants.{Int, Var}
use Rattle.pp_language.specs.Texts.{Text}
use Rattle.pp_algebra.specs.Texts.{same_text}
use Rattle.pp_language.specs.Phrases.{Phrase, integer_phrase, variable_phrase, said, Phrases, no_phrases, phrase_and, count, phrase_words, group_words, more_phrase_words}
use Rattle.pp_language.specs.Meanings.{integer_of, blanks, blanks_all}
use Rattle.pp_language.specs.Limits.{is_above, is_too_wide, are_too_wide}
use Rattle.pp_language.proofs.PartsSpelled.{AreSpelled}
use Rattle.pp_parse.specs.Words.{named_by, named_in}
use Rattle.pp_parse.specs.Terms.{number_of, term_of, terms_of}
use Rattle.pp_parse.proofs.KnownTexts.{Known, all_first, all_second}
use Rattle.pp_read.proofs.PhraseKeys.{named_in-append}
use Rattle.pp_parse.proofs.NamePlaces.{place-within}
use Rattle.pp_parse.proofs.Spelled.{spelled_first, spelled_second, integer_legal}
use Rattle.pp_parse.proofs.ReadingLeaves.{terms-count}

-- ===== wide atoms

abbrev pub is_wide_cell : Cell → Bool
is_wide_cell c = is_above 255 (arity_of c)

head_arity : (f k : ℕ) → arity_of (head_of f k) ≡ k
head_arity f zero = refl
head_arity f (suc k) = refl

module _ (names named : List Text) where
  mutual
    pub phrase_wide : (n : ℕ) (p : Phrase) → list_any is_wide_cell (cells_of (term_of names named n p)) ≡ is_too_wide p
    phrase_wide n (integer_phrase bs) = refl
    phrase_wide n (variable_phrase bs) = refl
    phrase_wide n (said w ps) =
        ap (λ k. is_above 255 k || list_any is_wide_cell (cells_of_all (terms_of names named n ps))) (head_arity (place same_text names _) (terms.count (terms_of names named n ps)) ∙ terms-count names named n ps)
        ∙ ap (λ b. is_above 255 (count ps) || b) (all_wide n ps)

    all_wide : (n : ℕ) (ps : Phrases) → list_any is_wide_cell (cells_of_all (terms_of names named n ps)) ≡ are_too_wide ps
    all_wide n no_phrases = refl
    all_wide n (phrase_and p ps) =
        list_any-append is_wide_cell (cells_of (term_of names named n p)) (cells_of_all (terms_of names named (n + blanks p) ps))
        ∙ ap (λ b. b || list_any is_wide_cell (cells_of_all (terms_of names named (n + blanks p) ps))) (phrase_wide n p)
        ∙ ap (λ b. is_too_wide p || b) (all_wide (n + blanks p) ps)

-- ===== legal cells

head_legal : (f k : ℕ) → is_above 255 k ≡ false → IsLegalCell (head_of f k)
head_legal f zero h = tt
head_legal f (suc k) h = (omega arith, small (nat_le (suc k) 255) refl h)
  where
    small : (b : Bool) → nat_le (suc k) 255 ≡ b → not b ≡ false → suc k ≤ 255
    small true e g = leb-true (suc k) 255 e
    small false e g = absurd (cc)

module _ (names named : List Text) where
  mutual
    pub phrase_legal : (n : ℕ) (p : Phrase) → AreSpelled (phrase_words p) → is_too_wide p ≡ false → All IsLegalCell (cells_of (term_of names named n p))
    phrase_legal n (integer_phrase bs) s w = All-cons IsLegalCell (Int (integer_of bs)) [] (integer_legal bs s.0) (All-nil IsLegalCell)
    phrase_legal n (variable_phrase bs) s w = All-cons IsLegalCell (Var (number_of named n bs)) [] tt (All-nil IsLegalCell)
    phrase_legal n (said v ps) s w =
        let o = or_parts (is_above 255 (count ps)) (are_too_wide ps) w in
        All-cons IsLegalCell (head_of (place same_text names _) (terms.count (terms_of names named n ps))) (cells_of_all (terms_of names named n ps))
        (head_legal _ (terms.count (terms_of names named n ps)) (ap (is_above 255) (terms-count names named n ps) ∙ o.0))
        (group_legal n ps s.1 o.1)

    group_legal : (n : ℕ) (ps : Phrases) → AreSpelled (group_words ps) → are_too_wide ps ≡ false → All IsLegalCell (cells_of_all (terms_of names named n ps))
    group_legal n no_phrases s w = All-nil IsLegalCell
    group_legal n (phrase_and p ps) s w =
        let o = or_parts (is_too_wide p) (are_too_wide ps) w in
        All-append IsLegalCell (cells_of (term_of names named n p)) (cells_of_all (terms_of names named (n + blanks p) ps))
        (phrase_legal n p (spelled_first (phrase_words p) (more_phrase_words ps) s.1) o.0)
        (more_legal (n + blanks p) ps (spelled_second (phrase_words p) (more_phrase_words ps) s.1) o.1)

    more_legal : (n : ℕ) (ps : Phrases) → AreSpelled (more_phrase_words ps) → are_too_wide ps ≡ false → All IsLegalCell (cells_of_all (terms_of names named n ps))
    more_legal n no_phrases s w = All-nil IsLegalCell
    more_legal n (phrase_and p ps) s w =
        let o = or_parts (is_too_wide p) (are_too_wide ps) w in
        All-append IsLegalCell (cells_of (term_of names named n p)) (cells_of_all (terms_of names named (n + blanks p) ps))
        (phrase_legal n p (spelled_first (phrase_words p) (more_phrase_words ps) s.1) o.0)
        (more_legal (n + blanks p) ps (spelled_second (phrase_words p) (more_phrase_words ps) s.1) o.1)

-- ===== variables

module _ (names named : List Text) (most : ℕ) (l : length named ≤ most) where
  number_below : (n v : ℕ) (bs : Text) → All (Known named) (cond (same_text bs (codes "_")) [] (bs ∷ [])) → n + cond (same_text bs (codes "_")) 1 0 ≤ most → number_of named n bs ≡ v → v < most
  number_below n v bs = elim (same_text bs (codes "_")) as (λ b. All (Known named) (cond b [] (bs ∷ [])) → n + cond b 1 0 ≤ most → cond b n (place same_text named bs) ≡ v → v < most) [
    | true ↦ λ k m e. omega arith
    | false ↦ λ k m e. let w = place-within named bs (All-head (Known named) bs [] k) in omega arith
  ]

  mutual
    pub phrase_below : (n v : ℕ) (p : Phrase) → All (Known named) (named_in (phrase_words p)) → n + blanks p ≤ most → IsIn v (variables (term_of names named n p)) → v < most
    phrase_below n v (integer_phrase bs) k m i = absurd i
    phrase_below n v (variable_phrase bs) k m i = ⊎_elim (λ e. number_below n v bs (all_first (Known named) (cond (same_text bs (codes "_")) [] (bs ∷ [])) [] k) m e) (λ f. absurd f) i
    phrase_below n v (said w ps) k m i = group_below n v ps (all_second (Known named) (named_by w.kind w.text) (named_in (group_words ps)) k) m i

    pub group_below : (n v : ℕ) (ps : Phrases) → All (Known named) (named_in (group_words ps)) → n + blanks_all ps ≤ most → IsIn v (variables_all (terms_of names named n ps)) → v < most
    group_below n v no_phrases k m i = absurd i
    group_below n v (phrase_and p ps) k m i =
        let h : All (Known named) (named_in (phrase_words p) ++ named_in (more_phrase_words ps)) = subst (All (Known named)) (named_in-append (phrase_words p) (more_phrase_words ps)) k in
        ⊎_elim
        (λ j. phrase_below n v p (all_first (Known named) (named_in (phrase_words p)) (named_in (more_phrase_words ps)) h) (omega arith) j)
        (λ j. more_below (n + blanks p) v ps (all_second (Known named) (named_in (phrase_words p)) (named_in (more_phrase_words ps)) h) (omega arith) j)
        (IsIn-either v (variables (term_of names named n p)) (variables_all (terms_of names named (n + blanks p) ps)) i)

    more_below : (n v : ℕ) (ps : Phrases) → All (Known named) (named_in (more_phrase_words ps)) → n + blanks_all ps ≤ most → IsIn v (variables_all (terms_of names named n ps)) → v < most
    more_below n v no_phrases k m i = absurd i
    more_below n v (phrase_and p ps) k m i =
        let h : All (Known named) (named_in (phrase_words p) ++ named_in (more_phrase_words ps)) = subst (All (Known named)) (named_in-append (phrase_words p) (more_phrase_words ps)) k in
        ⊎_elim
        (λ j. phrase_below n v p (all_first (Known named) (named_in (phrase_words p)) (named_in (more_phrase_words ps)) h) (omega arith) j)
        (λ j. more_below (n + blanks p) v ps (all_second (Known named) (named_in (phrase_words p)) (named_in (more_phrase_words ps)) h) (omega arith) j)
        (IsIn-either v (variables (term_of names named n p)) (variables_all (terms_of names named (n + blanks p) ps)) i)
