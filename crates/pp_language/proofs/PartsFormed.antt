-- What is read of words is well formed.
use Rattle.std.proofs.Common.{◌≡◌, Bool, true, ◌&&◌, List, [], ◌∷◌, Option, Some, None, refl}
use Rattle.std.specs.Prelude.{option_and_then, IsTrue}
use Rattle.std.proofs.lemmas.Bool.{and_parts, and_from}
use Rattle.pp_language.specs.declared.token.Kind.{Kind}
use Rattle.pp_language.specs.declared.token.Kind.TheVariants.{Integer, Atom, Quoted, Infers, Variable, Left, Right, OpenSquare, CloseSquare, Comma, Point, Range, Neck, Ask, Equals, InDomain, Less, AtMost, Equal, Differ}
use Rattle.pp_language.specs.Texts.{Text}
use Rattle.pp_language.specs.Words.{Word, word}
use Rattle.pp_language.specs.Phrases.{Phrase, integer_phrase, variable_phrase, said, Phrases, no_phrases, phrase_and, is_phrase, are_phrases, Part}
use Rattle.pp_language.specs.PartsOf.{is_mark, are_parts, Group, wanting, filled, State, with_phrase, with_left, with_comma, with_mark, with_other, with_word, step, whole, state_of, parts_of}

abbrev is_group : Group → Bool
is_group (wanting ps) = are_phrases ps
is_group (filled p ps) = is_phrase p && are_phrases ps

abbrev are_groups : List Group → Bool
are_groups [] = true
are_groups (g ∷ gs) = is_group g && are_groups gs

record Formed (ps : Phrases) (gs : List Group) (qs : List Part) : Type 0 where
  arguments : are_phrases ps ≡ true
  groups : are_groups gs ≡ true
  parts : are_parts qs ≡ true

abbrev IsFormed : Option State → Type 0
IsFormed None = Unit {0}
IsFormed (Some s) = Formed s.arguments s.groups s.parts

phrase_formed : (p : Phrase) (gs : List Group) (qs : List Part) → is_phrase p ≡ true → are_groups gs ≡ true → are_parts qs ≡ true → IsFormed (with_phrase p gs qs)
phrase_formed p [] qs h g q = record { arguments = refl; groups = refl; parts = and_from (is_phrase p) (are_parts qs) h q }
phrase_formed p (wanting ps ∷ gs) qs h g q =
    let i = and_parts (are_phrases ps) (are_groups gs) g in
    record { arguments = refl; groups = and_from (is_phrase p && are_phrases ps) (are_groups gs) (and_from (is_phrase p) (are_phrases ps) h i.0) i.1; parts = q }
phrase_formed p (filled o ps ∷ gs) qs h g q = tt

left_formed : (gs : List Group) (qs : List Part) → are_groups gs ≡ true → are_parts qs ≡ true → IsFormed (with_left gs qs)
left_formed [] qs g q = tt
left_formed (wanting ps ∷ gs) qs g q = tt
left_formed (filled p ps ∷ gs) qs g q = let i = and_parts (is_phrase p && are_phrases ps) (are_groups gs) g in record { arguments = i.0; groups = i.1; parts = q }

comma_formed : (gs : List Group) (qs : List Part) → are_groups gs ≡ true → are_parts qs ≡ true → IsFormed (with_comma gs qs)
comma_formed [] qs g q = record { arguments = refl; groups = refl; parts = q }
comma_formed (wanting ps ∷ gs) qs g q = tt
comma_formed (filled p ps ∷ gs) qs g q = record { arguments = refl; groups = g; parts = q }

mark_formed : (k : Kind) (gs : List Group) (qs : List Part) → is_mark k ≡ true → are_groups gs ≡ true → are_parts qs ≡ true → IsFormed (with_mark k gs qs)
mark_formed k [] qs h g q = record { arguments = refl; groups = refl; parts = and_from (is_mark k) (are_parts qs) h q }
mark_formed k (x ∷ gs) qs h g q = tt

other_formed : (k : Kind) (bs : Text) (gs : List Group) (qs : List Part) → are_groups gs ≡ true → are_parts qs ≡ true → IsFormed (with_other k bs gs qs)
other_formed Integer bs gs qs g q = phrase_formed (integer_phrase bs) gs qs refl g q
other_formed Variable bs gs qs g q = phrase_formed (variable_phrase bs) gs qs refl g q
other_formed Left bs gs qs g q = left_formed gs qs g q
other_formed Right bs gs qs g q = record { arguments = refl; groups = g; parts = q }
other_formed Comma bs gs qs g q = comma_formed gs qs g q
other_formed Atom bs gs qs g q = tt
other_formed Quoted bs gs qs g q = tt
other_formed Point bs gs qs g q = tt
other_formed Infers bs gs qs g q = mark_formed Infers gs qs refl g q
other_formed OpenSquare bs gs qs g q = mark_formed OpenSquare gs qs refl g q
other_formed CloseSquare bs gs qs g q = mark_formed CloseSquare gs qs refl g q
other_formed Range bs gs qs g q = mark_formed Range gs qs refl g q
other_formed Neck bs gs qs g q = mark_formed Neck gs qs refl g q
other_formed Ask bs gs qs g q = mark_formed Ask gs qs refl g q
other_formed Equals bs gs qs g q = mark_formed Equals gs qs refl g q
other_formed InDomain bs gs qs g q = mark_formed InDomain gs qs refl g q
other_formed Less bs gs qs g q = mark_formed Less gs qs refl g q
other_formed AtMost bs gs qs g q = mark_formed AtMost gs qs refl g q
other_formed Equal bs gs qs g q = mark_formed Equal gs qs refl g q
other_formed Differ bs gs qs g q = mark_formed Differ gs qs refl g q

word_formed : (k : Kind) (bs : Text) (ps : Phrases) (gs : List Group) (qs : List Part) → Formed ps gs qs → IsFormed (with_word k bs ps gs qs)
word_formed Atom bs ps gs qs f = phrase_formed (said (word Atom bs) ps) gs qs f.arguments f.groups f.parts
word_formed Quoted bs ps gs qs f = phrase_formed (said (word Quoted bs) ps) gs qs f.arguments f.groups f.parts
word_formed k bs no_phrases gs qs f = other_formed k bs gs qs f.groups f.parts
word_formed k bs (phrase_and p ps) gs qs f = tt

state_formed : (ws : List Word) → IsFormed (state_of ws)
state_formed [] = record { arguments = refl; groups = refl; parts = refl }
state_formed (w ∷ ws) = go (state_of ws) (state_formed ws)
  where
    go : (o : Option State) → IsFormed o → IsFormed (option_and_then (step w) o)
    go None f = tt
    go (Some s) f = word_formed w.kind w.text s.arguments s.groups s.parts f

whole_formed : (ps : Phrases) (gs : List Group) (qs rs : List Part) → Formed ps gs qs → whole ps gs qs ≡ Some rs → are_parts rs ≡ true
whole_formed no_phrases [] qs rs f e = let h : qs ≡ rs = cc in let k = f.parts in cc
whole_formed (phrase_and p ps) gs qs rs f e = absurd (cc)
whole_formed no_phrases (g ∷ gs) qs rs f e = absurd (cc)

-- parts that are read are well formed
pub parts_formed : (ws : List Word) (ps : List Part) → parts_of ws ≡ Some ps → IsTrue (are_parts ps)
parts_formed ws ps e = go (state_of ws) (state_formed ws) e
  where
    go : (o : Option State) → IsFormed o → option_and_then (λ s. whole s.arguments s.groups s.parts) o ≡ Some ps → are_parts ps ≡ true
    go None f h = absurd (cc)
    go (Some s) f h = whole_formed s.arguments s.groups s.parts ps f h
