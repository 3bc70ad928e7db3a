-- The part of the code at a place shows what the parts of the sentence begin with there.
use Rattle.std.proofs.Common.{◌≡◌, ℕ, zero, suc, false, List, [], ◌∷◌, drop, Option, Some, None, refl, ap, sym, subst, ◌∙◌, Bor}
use Rattle.std.specs.Prelude.{slice_get}
use Rattle.std.specs.Slice.{IsItemAt}
use Rattle.std.proofs.lemmas.Option.{slice_get-get_or, slice_get_past}
use Rattle.pp_language.specs.Phrases as phrases
use Rattle.pp_language.specs.Phrases.{term_part, mark}
use Rattle.pp_language.specs.declared.token.Kind.{Kind}
use Rattle.pp_parse.specs.declared.parts.Part.{Part}
use Rattle.pp_parse.specs.declared.parts.Part.TheVariants.{Term, Mark}
use Rattle.pp_parse.specs.declared.parts.Phrase.{Phrase}
use Rattle.pp_parse.specs.Seen.{ShowsIn, IsSeen, AreSeen}
use Rattle.pp_language.specs.Fronts.{mark_in, has_term}

pub got_some : {X : Type 0} (xs : List X) (i : ℕ) (r : Bor X) → IsItemAt xs i (Some r) → slice_get xs i ≡ Some r.now
got_some xs i r h = slice_get-get_or xs i r.now h.3.0 ∙ ap Some (sym h.1)

pub got_none : {X : Type 0} (xs : List X) (i : ℕ) → IsItemAt xs i None → slice_get xs i ≡ None
got_none xs i h = slice_get_past xs i h.3

-- the part in front, where there is one
abbrev pub SeenIn : List phrases.Part → Option Part → Type 0
SeenIn [] None = Unit {0}
SeenIn [] (Some p) = ⊥
SeenIn (q ∷ qs) None = ⊥
SeenIn (q ∷ qs) (Some p) = IsSeen q p

pub seen_at : (qs : List phrases.Part) (ps : List Part) (i : ℕ) → AreSeen qs ps → SeenIn (drop i qs) (slice_get ps i)
seen_at [] [] zero h = tt
seen_at [] [] (suc i) h = tt
seen_at [] (p ∷ ps) i h = absurd h
seen_at (q ∷ qs) [] i h = absurd h
seen_at (q ∷ qs) (p ∷ ps) zero h = h.0
seen_at (q ∷ qs) (p ∷ ps) (suc i) h = seen_at qs ps i h.1

-- ===== from what the code finds

pub past_end : (qs : List phrases.Part) (ps : List Part) (i : ℕ) → AreSeen qs ps → IsItemAt ps i None → drop i qs ≡ []
past_end qs ps i h g = go (drop i qs) (subst (SeenIn (drop i qs)) (got_none ps i g) (seen_at qs ps i h))
  where
    go : (q : List phrases.Part) → SeenIn q None → q ≡ []
    go [] k = refl
    go (x ∷ xs) k = absurd k

pub front_at : (qs : List phrases.Part) (ps : List Part) (i : ℕ) (r : Bor Part) (p : Part) → AreSeen qs ps → IsItemAt ps i (Some r) → r.now ≡ p → SeenIn (drop i qs) (Some p)
front_at qs ps i r p h g e = subst (SeenIn (drop i qs)) (got_some ps i r g ∙ ap Some e) (seen_at qs ps i h)

pub mark_of_mark : (qs : List phrases.Part) (k : Kind) → SeenIn qs (Some (Mark k)) → Some k ≡ mark_in qs
mark_of_mark [] k h = absurd h
mark_of_mark (term_part p ∷ qs) k h = absurd h
mark_of_mark (mark j ∷ qs) k h = ap Some h

pub mark_of_term : (qs : List phrases.Part) (t : Phrase) → SeenIn qs (Some (Term t)) → None ≡ mark_in qs
mark_of_term [] t h = absurd h
mark_of_term (term_part p ∷ qs) t h = refl
mark_of_term (mark j ∷ qs) t h = absurd h

pub term_of_mark : (qs : List phrases.Part) (k : Kind) → SeenIn qs (Some (Mark k)) → has_term qs ≡ false
term_of_mark [] k h = absurd h
term_of_mark (term_part p ∷ qs) k h = absurd h
term_of_mark (mark j ∷ qs) k h = refl

pub term_of_term : (qs : List phrases.Part) (t : Phrase) → SeenIn qs (Some (Term t)) → ShowsIn qs t.cells.items
term_of_term [] t h = absurd h
term_of_term (term_part p ∷ qs) t h = h
term_of_term (mark j ∷ qs) t h = absurd h
