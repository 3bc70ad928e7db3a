-- What is read of words is spelled by them, and is well formed.
use Rattle.std.proofs.Common.{◌≡◌, true, List, [], ◌∷◌, ◌++◌, Option, Some, None, refl, ap, sym, ◌∙◌, append_assoc}
use Rattle.std.specs.Prelude.{codes, IsTrue, option_and_then}
use Rattle.std.specs.List.{flat_map}
use Rattle.pp_language.specs.declared.token.Kind.{Kind}
use Rattle.pp_language.specs.declared.token.Kind.TheVariants.{Integer, Atom, Quoted, Infers, Variable, Left, Right, OpenSquare, CloseSquare, Comma, Point, Range, Neck, Ask, Equals, InDomain, Less, AtMost, Equal, Differ}
use Rattle.pp_language.specs.Texts.{Text}
use Rattle.pp_algebra.specs.Texts.{same_text}
use Rattle.pp_language.specs.Kinds.{spells}
use Rattle.pp_language.specs.Words.{Word, word}
use Rattle.pp_language.specs.Phrases.{Phrase, integer_phrase, variable_phrase, said, Phrases, no_phrases, phrase_and, phrase_words, group_words, more_phrase_words, Part, mark_text, parts_words}
use Rattle.pp_language.specs.PartsOf.{Group, wanting, filled, State, with_phrase, with_left, with_comma, with_mark, with_other, with_word, step, whole, state_of, parts_of, open_words}
use Rattle.pp_algebra.proofs.SameText.{same_text-is}

-- the words that are read, in their order
abbrev pub read_words : Phrases → List Group → List Part → List Word
read_words ps gs qs = group_words ps ++ (flat_map open_words gs ++ parts_words qs)

abbrev pub state_words : State → List Word
state_words s = read_words s.arguments s.groups s.parts

-- the word stands in front of these words, where the state is one
abbrev Spells : Word → List Word → Option State → Type 0
Spells w ws None = Unit {0}
Spells w ws (Some s) = state_words s ≡ w ∷ ws

-- a word of a kind with one text has this text
texted : (k : Kind) (bs cs : Text) → same_text bs cs ≡ true → word k bs ≡ word k cs
texted k bs cs h = ap (word k) (same_text-is bs cs h)

phrase_spells : (w : Word) (p : Phrase) (us : List Word) (gs : List Group) (qs : List Part) → phrase_words p ≡ w ∷ us → Spells w (us ++ (flat_map open_words gs ++ parts_words qs)) (with_phrase p gs qs)
phrase_spells w p us [] qs h = ap (λ ws. ws ++ parts_words qs) h
phrase_spells w p us (wanting ps ∷ gs) qs h =
    ap (λ ws. ws ++ parts_words qs) (append_assoc (phrase_words p) (more_phrase_words ps) (flat_map open_words gs))
    ∙ append_assoc (phrase_words p) (more_phrase_words ps ++ flat_map open_words gs) (parts_words qs)
    ∙ ap (λ ws. ws ++ ((more_phrase_words ps ++ flat_map open_words gs) ++ parts_words qs)) h
phrase_spells w p us (filled o ps ∷ gs) qs h = tt

left_spells : (bs : Text) (gs : List Group) (qs : List Part) → same_text bs (codes "(") ≡ true → Spells (word Left bs) (flat_map open_words gs ++ parts_words qs) (with_left gs qs)
left_spells bs [] qs h = tt
left_spells bs (wanting ps ∷ gs) qs h = tt
left_spells bs (filled p ps ∷ gs) qs h =
    ap (λ w. w ∷ ((phrase_words p ++ more_phrase_words ps) ++ (flat_map open_words gs ++ parts_words qs))) (sym (texted Left bs (codes "(") h))
    ∙ ap (λ ws. word Left bs ∷ ws) (sym (append_assoc (phrase_words p ++ more_phrase_words ps) (flat_map open_words gs) (parts_words qs)))

comma_spells : (bs : Text) (gs : List Group) (qs : List Part) → same_text bs (codes ",") ≡ true → Spells (word Comma bs) (flat_map open_words gs ++ parts_words qs) (with_comma gs qs)
comma_spells bs [] qs h = ap (λ w. w ∷ parts_words qs) (sym (texted Comma bs (codes ",") h))
comma_spells bs (wanting ps ∷ gs) qs h = tt
comma_spells bs (filled p ps ∷ gs) qs h = ap (λ w. w ∷ (((phrase_words p ++ more_phrase_words ps) ++ flat_map open_words gs) ++ parts_words qs)) (sym (texted Comma bs (codes ",") h))

mark_spells : (k : Kind) (bs : Text) (gs : List Group) (qs : List Part) → same_text bs (mark_text k) ≡ true → Spells (word k bs) (flat_map open_words gs ++ parts_words qs) (with_mark k gs qs)
mark_spells k bs [] qs h = ap (λ w. w ∷ parts_words qs) (sym (texted k bs (mark_text k) h))
mark_spells k bs (g ∷ gs) qs h = tt

other_spells : (k : Kind) (bs : Text) (gs : List Group) (qs : List Part) → spells k bs ≡ true → Spells (word k bs) (flat_map open_words gs ++ parts_words qs) (with_other k bs gs qs)
other_spells Integer bs gs qs h = phrase_spells (word Integer bs) (integer_phrase bs) [] gs qs refl
other_spells Variable bs gs qs h = phrase_spells (word Variable bs) (variable_phrase bs) [] gs qs refl
other_spells Left bs gs qs h = left_spells bs gs qs h
other_spells Right bs gs qs h = ap (λ w. w ∷ (flat_map open_words gs ++ parts_words qs)) (sym (texted Right bs (codes ")") h))
other_spells Comma bs gs qs h = comma_spells bs gs qs h
other_spells Atom bs gs qs h = tt
other_spells Quoted bs gs qs h = tt
other_spells Point bs gs qs h = tt
other_spells Infers bs gs qs h = mark_spells Infers bs gs qs h
other_spells OpenSquare bs gs qs h = mark_spells OpenSquare bs gs qs h
other_spells CloseSquare bs gs qs h = mark_spells CloseSquare bs gs qs h
other_spells Range bs gs qs h = mark_spells Range bs gs qs h
other_spells Neck bs gs qs h = mark_spells Neck bs gs qs h
other_spells Ask bs gs qs h = mark_spells Ask bs gs qs h
other_spells Equals bs gs qs h = mark_spells Equals bs gs qs h
other_spells InDomain bs gs qs h = mark_spells InDomain bs gs qs h
other_spells Less bs gs qs h = mark_spells Less bs gs qs h
other_spells AtMost bs gs qs h = mark_spells AtMost bs gs qs h
other_spells Equal bs gs qs h = mark_spells Equal bs gs qs h
other_spells Differ bs gs qs h = mark_spells Differ bs gs qs h

word_spells : (k : Kind) (bs : Text) (ps : Phrases) (gs : List Group) (qs : List Part) → spells k bs ≡ true → Spells (word k bs) (read_words ps gs qs) (with_word k bs ps gs qs)
word_spells Atom bs ps gs qs h = phrase_spells (word Atom bs) (said (word Atom bs) ps) (group_words ps) gs qs refl
word_spells Quoted bs ps gs qs h = phrase_spells (word Quoted bs) (said (word Quoted bs) ps) (group_words ps) gs qs refl
word_spells k bs no_phrases gs qs h = other_spells k bs gs qs h
word_spells k bs (phrase_and p ps) gs qs h = tt

-- what is read of these words
abbrev pub Reads : List Word → Option State → Type 0
Reads ws None = Unit {0}
Reads ws (Some s) = state_words s ≡ ws

step_reads : (w : Word) (ws : List Word) (o : Option State) → IsTrue (spells w.kind w.text) → Reads ws o → Reads (w ∷ ws) (option_and_then (step w) o)
step_reads w ws None h r = tt
step_reads w ws (Some s) h r = go (step w s) (word_spells w.kind w.text s.arguments s.groups s.parts h)
  where
    go : (o : Option State) → Spells w (state_words s) o → Reads (w ∷ ws) o
    go None g = tt
    go (Some t) g = g ∙ ap (λ us. w ∷ us) r

-- each word is spelled as its kind says
abbrev pub AreSpelled : List Word → Type 0
AreSpelled [] = Unit {0}
AreSpelled (w ∷ ws) = IsTrue (spells w.kind w.text) × AreSpelled ws

pub state_reads : (ws : List Word) → AreSpelled ws → Reads ws (state_of ws)
state_reads [] h = refl
state_reads (w ∷ ws) h = step_reads w ws (state_of ws) h.0 (state_reads ws h.1)

whole_words : (ps : Phrases) (gs : List Group) (qs rs : List Part) → whole ps gs qs ≡ Some rs → read_words ps gs qs ≡ parts_words rs
whole_words no_phrases [] qs rs e = let f : qs ≡ rs = cc in ap parts_words f
whole_words (phrase_and p ps) gs qs rs e = absurd (cc)
whole_words no_phrases (g ∷ gs) qs rs e = absurd (cc)

-- parts that are read of spelled words are spelled by these words
pub parts_spelled : (ws : List Word) (ps : List Part) → AreSpelled ws → parts_of ws ≡ Some ps → ws ≡ parts_words ps
parts_spelled ws ps h e = go (state_of ws) (state_reads ws h) e
  where
    go : (o : Option State) → Reads ws o → option_and_then (λ s. whole s.arguments s.groups s.parts) o ≡ Some ps → ws ≡ parts_words ps
    go None r f = absurd (cc)
    go (Some s) r f = sym r ∙ whole_words s.arguments s.groups s.parts ps f
