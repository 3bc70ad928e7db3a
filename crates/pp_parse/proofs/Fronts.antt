-- Bounds and sets that are read in front of parts stand there.
use Rattle.std.proofs.Common.{◌≡◌, ℕ, ◌+◌, List, [], ◌∷◌, ◌++◌, drop, Some, None, refl, ap, sym, ◌∙◌, append_assoc}
use Rattle.std.proofs.lemmas.List.{drop-drop}
use Rattle.std.proofs.lemmas.Option.{some_pair_parts}
use Rattle.pp_language.specs.declared.token.Kind.TheVariants.{OpenSquare, CloseSquare, Comma, Range}
use Rattle.pp_language.specs.Phrases.{integer_phrase, Part, term_part, mark}
use Rattle.pp_language.specs.Statements.{Bounds, one_bound, two_bounds, bare, bracketed, bounds_parts, more_bounds_parts, set_parts}
use Rattle.pp_language.proofs.ItemRead.{mark_front}
use Rattle.pp_language.specs.Fronts.{Front, front_as, mark_in, integer_in, upper_in, bounds_in, more_bounds_in, bounds_list_by, bounds_list_in, bracketed_by, set_in}

pub next_place : (i : ℕ) (ps : List Part) → drop (i + 1) ps ≡ drop 1 (drop i ps)
next_place i ps = sym (drop-drop 1 i ps)

pub upper_behind : (ps : List Part) → mark_in ps ≡ Some Range → upper_in ps ≡ integer_in (drop 1 ps)
upper_behind ps e = ap upper_in (mark_front ps Range e)

-- ===== what is read stands there

-- the parts are what is read in front and the parts behind it
abbrev pub Stands : {I : Type 0} → (I → List Part) → List Part → Front I → Type 0
Stands parts ps None = Unit {0}
Stands parts ps (Some r) = ps ≡ parts r.0 ++ r.1

pub bounds_stand : (ps : List Part) → Stands bounds_parts ps (bounds_in ps)
bounds_stand [] = tt
bounds_stand (term_part (integer_phrase n) ∷ mark Range ∷ term_part (integer_phrase m) ∷ ps) = refl
bounds_stand (term_part (integer_phrase n) ∷ ps) = refl
bounds_stand (term_part p ∷ ps) = tt
bounds_stand (mark k ∷ ps) = tt

with_bounds : (b : Bounds) (ps qs : List Part) (r : Front (List Bounds)) → ps ≡ mark Comma ∷ (bounds_parts b ++ qs) → Stands more_bounds_parts qs r → Stands more_bounds_parts ps (front_as (λ bs. b ∷ bs) r)
with_bounds b ps qs None e h = tt
with_bounds b ps qs (Some r) e h = e ∙ ap (λ us. mark Comma ∷ (bounds_parts b ++ us)) h ∙ ap (λ us. mark Comma ∷ us) (sym (append_assoc (bounds_parts b) (more_bounds_parts r.0) r.1))

more_bounds_stand : (ps : List Part) → Stands more_bounds_parts ps (more_bounds_in ps)
more_bounds_stand (mark CloseSquare ∷ ps) = refl
more_bounds_stand (mark Comma ∷ term_part (integer_phrase n) ∷ mark Range ∷ term_part (integer_phrase m) ∷ ps) = with_bounds (two_bounds n m) _ ps (more_bounds_in ps) refl (more_bounds_stand ps)
more_bounds_stand (mark Comma ∷ term_part (integer_phrase n) ∷ ps) = with_bounds (one_bound n) _ ps (more_bounds_in ps) refl (more_bounds_stand ps)
more_bounds_stand ps = tt

bare_stands : (ps : List Part) (r : Front Bounds) → Stands bounds_parts ps r → Stands set_parts ps (front_as bare r)
bare_stands ps None h = tt
bare_stands ps (Some r) h = h

bracketed_stands : (ps : List Part) (r : Front Bounds) → Stands bounds_parts ps r → Stands set_parts (mark OpenSquare ∷ ps) (bracketed_by r)
bracketed_stands ps None h = tt
bracketed_stands ps (Some r) h = go (more_bounds_in r.1) (more_bounds_stand r.1)
  where
    go : (q : Front (List Bounds)) → Stands more_bounds_parts r.1 q → Stands set_parts (mark OpenSquare ∷ ps) (front_as (bracketed r.0) q)
    go None g = tt
    go (Some q) g = ap (λ us. mark OpenSquare ∷ us) (h ∙ ap (λ us. bounds_parts r.0 ++ us) g ∙ sym (append_assoc (bounds_parts r.0) (more_bounds_parts q.0) q.1))

pub set_stands : (ps : List Part) → Stands set_parts ps (set_in ps)
set_stands (mark OpenSquare ∷ ps) = bracketed_stands ps (bounds_in ps) (bounds_stand ps)
set_stands ps = bare_stands ps (bounds_in ps) (bounds_stand ps)

-- a set is in brackets, or it is bare bounds
pub bracketed_front : (ps : List Part) → mark_in ps ≡ Some OpenSquare → set_in ps ≡ bracketed_by (bounds_in (drop 1 ps))
bracketed_front ps e = ap set_in (mark_front ps OpenSquare e)

pub bare_front : (ps : List Part) → (mark_in ps ≡ Some OpenSquare → ⊥) → set_in ps ≡ front_as bare (bounds_in ps)
bare_front [] h = refl
bare_front (term_part p ∷ ps) h = refl
bare_front (mark OpenSquare ∷ ps) h = absurd (h refl)
bare_front (mark k ∷ ps) h = refl

-- ===== bounds one after another

pub more_behind_comma : (ps : List Part) → more_bounds_in (mark Comma ∷ ps) ≡ bounds_list_in ps
more_behind_comma (term_part (integer_phrase n) ∷ mark Range ∷ term_part (integer_phrase m) ∷ ps) = refl
more_behind_comma (term_part (integer_phrase n) ∷ ps) = refl
more_behind_comma ps = refl

-- a list of bounds is that of a set in brackets
pub bracketed_list : (ps qs : List Part) (bs : List Bounds) → bounds_list_in ps ≡ Some (bs, qs) → (b : Bounds) × (cs : List Bounds) × (bs ≡ b ∷ cs) × (bracketed_by (bounds_in ps) ≡ Some (bracketed b cs, qs))
bracketed_list ps qs bs = go (bounds_in ps)
  where
    more : (b : Bounds) (r : Front (List Bounds)) → front_as (λ cs. b ∷ cs) r ≡ Some (bs, qs) → (c : Bounds) × (cs : List Bounds) × (bs ≡ c ∷ cs) × (front_as (bracketed b) r ≡ Some (bracketed c cs, qs))
    more b None e = absurd (cc)
    more b (Some r) e =
        let g = some_pair_parts (b ∷ r.0) bs r.1 qs e in
        (b, r.0, sym g.0, ap (λ us. Some (bracketed b r.0, us)) g.1)

    go : (r : Front Bounds) → bounds_list_by r ≡ Some (bs, qs) → (b : Bounds) × (cs : List Bounds) × (bs ≡ b ∷ cs) × (bracketed_by r ≡ Some (bracketed b cs, qs))
    go None e = absurd (cc)
    go (Some r) e = more r.0 (more_bounds_in r.1) e

pub no_bracketed_list : (ps : List Part) → bounds_list_in ps ≡ None → bracketed_by (bounds_in ps) ≡ None
no_bracketed_list ps = go (bounds_in ps)
  where
    more : (b : Bounds) (r : Front (List Bounds)) → front_as (λ cs. b ∷ cs) r ≡ None → front_as (bracketed b) r ≡ None
    more b None e = refl
    more b (Some r) e = absurd (cc)

    go : (r : Front Bounds) → bounds_list_by r ≡ None → bracketed_by r ≡ None
    go None e = refl
    go (Some r) e = more r.0 (more_bounds_in r.1) e
