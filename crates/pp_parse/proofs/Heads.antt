-- Heads of clauses: the name in the first cell is the one that the text writes.
use Rattle.std.proofs.Common.{◌≡◌, ℕ, zero, suc, ◌<◌, true, not, List, [], ◌∷◌, length, get_or, Some, ap, sym, subst, ◌∙◌}
use Rattle.std.specs.Prelude.{slice_get}
use Rattle.std.proofs.lemmas.Option.{same_Some}
use Rattle.pp_algebra.specs.Canon.{has, place}
use Rattle.pp_row.specs.declared.cell.Cell.{Cell}
use Rattle.pp_row.specs.declared.cell.Cell.TheVariants.{Compound}
use Rattle.pp_row.specs.Cells.{head_of}
use Rattle.pp_language.specs.Texts.{Text}
use Rattle.pp_algebra.specs.Texts.{same_text}
use Rattle.pp_language.specs.Words.{is_built_in, atom_of}
use Rattle.pp_language.specs.Phrases as phrases
use Rattle.pp_language.specs.Phrases.{integer_phrase, variable_phrase, said, count, term_part, mark}
use Rattle.pp_parse.specs.declared.parts.Part.{Part}
use Rattle.pp_parse.specs.declared.parts.Part.TheVariants.{Term, Mark}
use Rattle.pp_parse.specs.declared.parts.Phrase.{Phrase}
use Rattle.pp_parse.specs.Seen.{ShowsFirst, ShowsIn, IsNamed}
use Rattle.pp_parse.specs.Items.{has_head}
use Rattle.pp_parse.proofs.NamePlaces.{name-place, place-within}

-- a compound in the first cell: its name is known, and it tells whether the first part is a head
compound_name : (names : List Text) (x : Text) (n f k : ℕ) → has same_text names x ≡ true → head_of (place same_text names x) n ≡ Compound f k → (f < length names) × (is_built_in x n ≡ is_built_in (get_or names f []) k)
compound_name names x zero f k h e = absurd (cc (e))
compound_name names x (suc n) f k h e =
    let g : place same_text names x ≡ f = cc (e) in
    let m : suc n ≡ k = cc (e) in
    (subst (λ i. i < length names) g (place-within names x h), ap (λ t. is_built_in t (suc n)) (sym (name-place names x h)) ∙ ap (λ i. is_built_in (get_or names i []) (suc n)) g ∙ ap (is_built_in (get_or names f [])) m)

shown : (p : phrases.Phrase) (cs : List Cell) (c : Cell) → ShowsFirst p (slice_get cs 0) → slice_get cs 0 ≡ Some c → ShowsFirst p (Some c)
shown p cs c h e = subst (ShowsFirst p) e h

module _ (names : List Text) (qs : List phrases.Part) (ps : List Part) (t : Phrase) (named : IsNamed names qs ps) (part : slice_get ps 0 ≡ Some (Term t)) (shows : ShowsIn qs t.cells.items) where
  pub compound_head : (f k : ℕ) → slice_get t.cells.items 0 ≡ Some (Compound f k) → (f < length names) × (not (is_built_in (get_or names f []) k) ≡ has_head qs)
  compound_head f k e = go qs ps named part shows
    where
      go : (qs : List phrases.Part) (ps : List Part) → IsNamed names qs ps → slice_get ps 0 ≡ Some (Term t) → ShowsIn qs t.cells.items → (f < length names) × (not (is_built_in (get_or names f []) k) ≡ has_head qs)
      go [] ps n s h = absurd h
      go (mark j ∷ qs) ps n s h = absurd h
      go (term_part (integer_phrase bs) ∷ qs) ps n s h = absurd (shown (integer_phrase bs) t.cells.items (Compound f k) h e)
      go (term_part (variable_phrase bs) ∷ qs) ps n s h = absurd (shown (variable_phrase bs) t.cells.items (Compound f k) h e)
      go (term_part (said w us) ∷ qs) [] n s h = absurd (cc (s))
      go (term_part (said w us) ∷ qs) (Mark j ∷ ps) n s h = absurd (cc (s))
      go (term_part (said w us) ∷ qs) (Term u ∷ ps) n s h =
          let same : u ≡ t = cc (s) in
          let x = atom_of w.kind w.text in
          let cell : head_of (place same_text names x) (count us) ≡ Compound f k = same_Some _ _ (sym n.0 ∙ ap (λ v. slice_get v.cells.items 0) same ∙ e) in
          let c = compound_name names x (count us) f k n.1 cell in
          (c.0, ap not (sym c.1))
