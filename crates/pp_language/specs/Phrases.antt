-- Phrases, which are terms as a text writes them, and the words that spell them.
use Rattle.std.specs.Prelude.{ℕ, suc, Bool, true, ◌&&◌, List, [], ◌∷◌, ◌++◌, codes}
use Rattle.pp_language.specs.declared.token.Kind.{Kind}
use Rattle.pp_language.specs.declared.token.Kind.TheVariants.{Integer, Variable, Left, Right, Comma, Infers, OpenSquare, CloseSquare, Range, Neck, Ask, Equals, InDomain, Less, AtMost, Equal, Differ}
use Rattle.pp_language.specs.Texts.{Text}
use Rattle.pp_language.specs.Words.{Word, word, is_name_kind}

-- an integer, a variable, or an atom with its arguments
mutual
  pub data Phrase : Type 0 where
    integer_phrase : Text → Phrase
    variable_phrase : Text → Phrase
    said : Word → Phrases → Phrase

  pub data Phrases : Type 0 where
    no_phrases : Phrases
    phrase_and : Phrase → Phrases → Phrases

abbrev pub count : Phrases → ℕ
count no_phrases = 0
count (phrase_and p ps) = suc (count ps)

abbrev mutual
  pub phrase_words : Phrase → List Word
  phrase_words (integer_phrase bs) = word Integer bs ∷ []
  phrase_words (variable_phrase bs) = word Variable bs ∷ []
  phrase_words (said name ps) = name ∷ group_words ps

  -- arguments in parentheses, where there are any
  pub group_words : Phrases → List Word
  group_words no_phrases = []
  group_words (phrase_and p ps) = word Left (codes "(") ∷ phrase_words p ++ more_phrase_words ps

  pub more_phrase_words : Phrases → List Word
  more_phrase_words no_phrases = word Right (codes ")") ∷ []
  more_phrase_words (phrase_and p ps) = word Comma (codes ",") ∷ phrase_words p ++ more_phrase_words ps

-- each name is an atom, plain or quoted
abbrev mutual
  pub is_phrase : Phrase → Bool
  is_phrase (integer_phrase bs) = true
  is_phrase (variable_phrase bs) = true
  is_phrase (said name ps) = is_name_kind name.kind && are_phrases ps

  pub are_phrases : Phrases → Bool
  are_phrases no_phrases = true
  are_phrases (phrase_and p ps) = is_phrase p && are_phrases ps

-- a part of a sentence: a phrase, or a word between phrases
pub data Part : Type 0 where
  term_part : Phrase → Part
  mark : Kind → Part

abbrev pub mark_text : Kind → Text
mark_text Infers = codes "infers"
mark_text Comma = codes ","
mark_text OpenSquare = codes "["
mark_text CloseSquare = codes "]"
mark_text Range = codes ".."
mark_text Neck = codes ":-"
mark_text Ask = codes "?-"
mark_text Equals = codes "="
mark_text InDomain = codes "::"
mark_text Less = codes "#<"
mark_text AtMost = codes "#=<"
mark_text Equal = codes "#="
mark_text Differ = codes "#\\="
mark_text _ = []

abbrev pub part_words : Part → List Word
part_words (term_part p) = phrase_words p
part_words (mark k) = word k (mark_text k) ∷ []

abbrev pub parts_words : List Part → List Word
parts_words [] = []
parts_words (p ∷ ps) = part_words p ++ parts_words ps
