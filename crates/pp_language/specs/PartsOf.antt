-- The parts that words spell: the words are read from the right, one at a time.
use Rattle.std.specs.Prelude.{Bool, true, false, List, [], ◌∷◌, ◌++◌, Option, Some, None, option_and_then}
use Rattle.std.specs.List.{list_all}
use Rattle.pp_language.specs.declared.token.Kind.{Kind}
use Rattle.pp_language.specs.declared.token.Kind.TheVariants.{Integer, Atom, Quoted, Variable, Left, Right, Comma, Point}
use Rattle.pp_language.specs.Texts.{Text}
use Rattle.pp_language.specs.Words.{Word, word}
use Rattle.pp_language.specs.Phrases.{Phrase, integer_phrase, variable_phrase, said, Phrases, no_phrases, phrase_and, phrase_words, more_phrase_words, is_phrase, Part, term_part, mark}

-- ===== which parts are meant

-- a kind of word that stands between phrases
abbrev pub is_mark : Kind → Bool
is_mark Integer = false
is_mark Atom = false
is_mark Quoted = false
is_mark Variable = false
is_mark Left = false
is_mark Right = false
is_mark Point = false
is_mark _ = true

abbrev pub is_part : Part → Bool
is_part (term_part p) = is_phrase p
is_part (mark k) = is_mark k

abbrev pub are_parts : List Part → Bool
are_parts ps = list_all is_part ps

-- ===== reading

-- arguments whose `(` lies further to the left: before the first of them a phrase must come, or a phrase stands there
pub data Group : Type 0 where
  wanting : Phrases → Group
  filled : Phrase → Phrases → Group

-- what is read of a sentence: arguments whose name must come next, open groups, the innermost first, and whole parts
pub record State : Type 0 where
  pub arguments : Phrases
  pub groups : List Group
  pub parts : List Part

abbrev pub state : Phrases → List Group → List Part → State
state ps gs qs = record { arguments = ps; groups = gs; parts = qs }

-- a phrase in front: of the innermost group, or of the parts
abbrev pub with_phrase : Phrase → List Group → List Part → Option State
with_phrase p [] qs = Some (state no_phrases [] (term_part p ∷ qs))
with_phrase p (wanting ps ∷ gs) qs = Some (state no_phrases (filled p ps ∷ gs) qs)
with_phrase p (filled o ps ∷ gs) qs = None

-- the innermost group is whole
abbrev pub with_left : List Group → List Part → Option State
with_left [] qs = None
with_left (wanting ps ∷ gs) qs = None
with_left (filled p ps ∷ gs) qs = Some (state (phrase_and p ps) gs qs)

abbrev pub with_comma : List Group → List Part → Option State
with_comma [] qs = Some (state no_phrases [] (mark Comma ∷ qs))
with_comma (wanting ps ∷ gs) qs = None
with_comma (filled p ps ∷ gs) qs = Some (state no_phrases (wanting (phrase_and p ps) ∷ gs) qs)

-- no group is open around another mark
abbrev pub with_mark : Kind → List Group → List Part → Option State
with_mark k [] qs = Some (state no_phrases [] (mark k ∷ qs))
with_mark k (g ∷ gs) qs = None

-- a word that is no name, with no arguments behind it
abbrev pub with_other : Kind → Text → List Group → List Part → Option State
with_other Integer bs gs qs = with_phrase (integer_phrase bs) gs qs
with_other Variable bs gs qs = with_phrase (variable_phrase bs) gs qs
with_other Left bs gs qs = with_left gs qs
with_other Right bs gs qs = Some (state no_phrases (wanting no_phrases ∷ gs) qs)
with_other Comma bs gs qs = with_comma gs qs
with_other Atom bs gs qs = None
with_other Quoted bs gs qs = None
with_other Point bs gs qs = None
with_other k bs gs qs = with_mark k gs qs

abbrev pub with_word : Kind → Text → Phrases → List Group → List Part → Option State
with_word Atom bs ps gs qs = with_phrase (said (word Atom bs) ps) gs qs
with_word Quoted bs ps gs qs = with_phrase (said (word Quoted bs) ps) gs qs
with_word k bs no_phrases gs qs = with_other k bs gs qs
with_word k bs (phrase_and p ps) gs qs = None

-- with the word in front of what is read
abbrev pub step : Word → State → Option State
step w s = with_word w.kind w.text s.arguments s.groups s.parts

abbrev pub state_of : List Word → Option State
state_of [] = Some (state no_phrases [] [])
state_of (w ∷ ws) = option_and_then (step w) (state_of ws)

-- the parts, where no group is open and no name is missing
abbrev pub whole : Phrases → List Group → List Part → Option (List Part)
whole no_phrases [] qs = Some qs
whole (phrase_and p ps) gs qs = None
whole no_phrases (g ∷ gs) qs = None

abbrev pub parts_of : List Word → Option (List Part)
parts_of ws = option_and_then (λ s. whole s.arguments s.groups s.parts) (state_of ws)

-- the words of an open group
abbrev pub open_words : Group → List Word
open_words (wanting ps) = more_phrase_words ps
open_words (filled p ps) = phrase_words p ++ more_phrase_words ps
