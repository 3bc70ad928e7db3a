-- What spells bounds, a set or an item is read back as it, so the parts determine it.
use Rattle.std.proofs.Common.{◌≡◌, true, List, [], ◌∷◌, ◌++◌, drop, Some, None, refl, ap, sym, ◌∙◌, append_assoc}
use Rattle.std.specs.Prelude.{Bool, IsTrue, ◌&&◌}
use Rattle.std.proofs.lemmas.Bool.{and_parts}
use Rattle.std.proofs.lemmas.Option.{some_pair_parts}
use Rattle.pp_sld.specs.Verdicts.{Mode, most, unique, consistent}
use Rattle.pp_language.specs.declared.token.Kind.{Kind}
use Rattle.pp_language.specs.declared.token.Kind.TheVariants.{Atom, Infers, Comma, Range, Less, AtMost, Equal, Differ}
use Rattle.pp_language.specs.Words.{word}
use Rattle.pp_language.specs.Phrases.{Phrase, integer_phrase, variable_phrase, said, no_phrases, is_phrase, Part, term_part, mark}
use Rattle.pp_language.specs.Statements.{Bounds, one_bound, two_bounds, SetPhrase, bare, bracketed, Item, calls, equates, belongs, compares, asks, bounds_parts, more_bounds_parts, set_parts, mode_text, item_parts, is_comparison, is_item}
use Rattle.pp_language.specs.Fronts.{front_as, mark_in, upper_in, bounds_by, bounds_in, more_bounds_in, bracketed_by, set_in, mode_named, infer_by, item_in, call_in}

-- nothing follows, or a comma
abbrev pub IsItemEnd : List Part → Type 0
IsItemEnd [] = Unit {0}
IsItemEnd (p ∷ ps) = p ≡ mark Comma

-- a mark in front is the first part
pub mark_front : (ps : List Part) (k : Kind) → mark_in ps ≡ Some k → ps ≡ mark k ∷ drop 1 ps
mark_front [] k e = absurd (cc)
mark_front (term_part p ∷ ps) k e = absurd (cc)
mark_front (mark h ∷ ps) k e = cc

-- ===== bounds and sets

-- the part in front is no `..`
abbrev HasNoRange : List Part → Type 0
HasNoRange ps = mark_in ps ≡ Some Range → ⊥

no_upper : (ps : List Part) → HasNoRange ps → upper_in ps ≡ None
no_upper [] h = refl
no_upper (term_part p ∷ ps) h = refl
no_upper (mark Range ∷ ps) h = absurd (h refl)
no_upper (mark k ∷ ps) h = refl

pub bounds_read : (b : Bounds) (ps : List Part) → HasNoRange ps → bounds_in (bounds_parts b ++ ps) ≡ Some (b, ps)
bounds_read (one_bound n) ps h = ap (λ u. bounds_by (Some n) u (term_part (integer_phrase n) ∷ ps)) (no_upper ps h)
bounds_read (two_bounds n m) ps h = refl

end_no_range : (ps : List Part) → IsItemEnd ps → HasNoRange ps
end_no_range [] h = λ e. absurd (cc)
end_no_range (p ∷ ps) h = λ e. let k : mark_in (mark Comma ∷ ps) ≡ Some Range = ap (λ q. mark_in (q ∷ ps)) (sym h) ∙ e in absurd (cc (k))

more_no_range : (bs : List Bounds) (ps : List Part) → HasNoRange (more_bounds_parts bs ++ ps)
more_no_range [] ps = λ e. absurd (cc)
more_no_range (b ∷ bs) ps = λ e. absurd (cc)

pub more_bounds_read : (bs : List Bounds) (ps : List Part) → more_bounds_in (more_bounds_parts bs ++ ps) ≡ Some (bs, ps)
more_bounds_read [] ps = refl
more_bounds_read (one_bound n ∷ []) ps = refl
more_bounds_read (one_bound n ∷ b ∷ bs) ps = ap (front_as (λ cs. one_bound n ∷ cs)) (more_bounds_read (b ∷ bs) ps)
more_bounds_read (two_bounds n m ∷ bs) ps = ap (front_as (λ cs. two_bounds n m ∷ cs)) (more_bounds_read bs ps)

pub set_read : (s : SetPhrase) (ps : List Part) → IsItemEnd ps → set_in (set_parts s ++ ps) ≡ Some (s, ps)
set_read (bare (one_bound n)) ps h = ap (front_as bare) (bounds_read (one_bound n) ps (end_no_range ps h))
set_read (bare (two_bounds n m)) ps h = refl
set_read (bracketed b bs) ps h =
    ap (λ qs. bracketed_by (bounds_in qs)) (append_assoc (bounds_parts b) (more_bounds_parts bs) ps)
    ∙ ap bracketed_by (bounds_read b (more_bounds_parts bs ++ ps) (more_no_range bs ps))
    ∙ ap (front_as (bracketed b)) (more_bounds_read bs ps)

-- ===== items

-- an atom is called where the item ends behind it
call_read : (p : Phrase) (ps : List Part) → IsItemEnd ps → item_in (term_part p ∷ ps) ≡ call_in (term_part p ∷ ps)
call_read p [] e = refl
call_read p (q ∷ ps) e = rw e refl

compared : (k : Kind) (a b : Bool) → (is_comparison k && a && b) ≡ true → is_comparison k ≡ true
compared k a b h = (and_parts (is_comparison k) a (and_parts (is_comparison k && a) b h).0).0

comparison_read : (k : Kind) (p q : Phrase) (ps : List Part) → is_comparison k ≡ true → item_in (term_part p ∷ mark k ∷ term_part q ∷ ps) ≡ Some (compares k p q, ps)
comparison_read Less p q ps h = refl
comparison_read AtMost p q ps h = refl
comparison_read Equal p q ps h = refl
comparison_read Differ p q ps h = refl
comparison_read k p q ps h = absurd (cc (h))

mode_text_read : (m : Mode) → mode_named (mode_text m) ≡ Some m
mode_text_read most = refl
mode_text_read unique = refl
mode_text_read consistent = refl

pub item_read : (x : Item) (ps : List Part) → is_item x ≡ true → IsItemEnd ps → item_in (item_parts x ++ ps) ≡ Some (x, ps)
item_read (calls (integer_phrase bs)) ps h e = absurd (cc (h))
item_read (calls (variable_phrase bs)) ps h e = absurd (cc (h))
item_read (calls (said w us)) ps h e = call_read (said w us) ps e
item_read (equates p q) ps h e = refl
item_read (belongs p s) ps h e = ap (front_as (belongs p)) (set_read s ps e)
item_read (compares k p q) ps h e = comparison_read k p q ps (compared k (is_phrase p) (is_phrase q) h)
item_read (asks (integer_phrase bs) m) ps h e = absurd (cc (h))
item_read (asks (variable_phrase bs) m) ps h e = absurd (cc (h))
item_read (asks (said w us) m) ps h e =
    ap (λ o. infer_by (Some (said w us, mark Infers ∷ term_part (said (word Atom (mode_text m)) no_phrases) ∷ ps)) o ps) (mode_text_read m)

-- an item, behind which it ends, is known by its parts
pub item-is : (i j : Item) (r q : List Part) → IsTrue (is_item i) → IsTrue (is_item j) → IsItemEnd r → IsItemEnd q → item_parts i ++ r ≡ item_parts j ++ q → (i ≡ j) × (r ≡ q)
item-is i j r q v w h g e = some_pair_parts i j r q (sym (item_read i r v h) ∙ ap item_in e ∙ item_read j q w g)
