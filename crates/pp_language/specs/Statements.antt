-- Statements: what a sentence may be, and the parts that it consists of.
use Rattle.std.specs.Prelude.{◌≡◌, Bool, true, false, IsTrue, not, ◌&&◌, List, [], ◌∷◌, ◌++◌, codes}
use Rattle.std.specs.List.{list_all}
use Rattle.pp_sld.specs.Verdicts.{Mode, most, unique, consistent}
use Rattle.pp_language.specs.declared.token.Kind.{Kind}
use Rattle.pp_language.specs.declared.token.Kind.TheVariants.{Atom, Comma, Infers, OpenSquare, CloseSquare, Range, Neck, Ask, Equals, InDomain, Less, AtMost, Equal, Differ}
use Rattle.pp_language.specs.Texts.{Text}
use Rattle.pp_language.specs.Words.{Word, word, is_atom_kind, atom_of, is_built_in}
use Rattle.pp_language.specs.Phrases.{Phrase, integer_phrase, variable_phrase, said, no_phrases, phrase_and, count, is_phrase, Part, term_part, mark, parts_words}

-- an integer, or two of them and what lies between
pub data Bounds : Type 0 where
  one_bound : Text → Bounds
  two_bounds : Text → Text → Bounds

pub data SetPhrase : Type 0 where
  bare : Bounds → SetPhrase
  bracketed : Bounds → List Bounds → SetPhrase

-- an item of a body or of a query
pub data Item : Type 0 where
  calls : Phrase → Item
  equates : Phrase → Phrase → Item
  belongs : Phrase → SetPhrase → Item
  compares : Kind → Phrase → Phrase → Item
  asks : Phrase → Mode → Item

pub data Statement : Type 0 where
  directive : Word → Statement
  clause : Phrase → List Item → Statement
  query : List Item → Statement

-- ===== the parts

abbrev pub bounds_parts : Bounds → List Part
bounds_parts (one_bound n) = term_part (integer_phrase n) ∷ []
bounds_parts (two_bounds n m) = term_part (integer_phrase n) ∷ mark Range ∷ term_part (integer_phrase m) ∷ []

abbrev pub more_bounds_parts : List Bounds → List Part
more_bounds_parts [] = mark CloseSquare ∷ []
more_bounds_parts (b ∷ bs) = mark Comma ∷ bounds_parts b ++ more_bounds_parts bs

abbrev pub set_parts : SetPhrase → List Part
set_parts (bare b) = bounds_parts b
set_parts (bracketed b bs) = mark OpenSquare ∷ bounds_parts b ++ more_bounds_parts bs

abbrev pub mode_text : Mode → Text
mode_text most = codes "most"
mode_text unique = codes "unique"
mode_text consistent = codes "consistent"

abbrev pub item_parts : Item → List Part
item_parts (calls p) = term_part p ∷ []
item_parts (equates p q) = term_part p ∷ mark Equals ∷ term_part q ∷ []
item_parts (belongs p s) = term_part p ∷ mark InDomain ∷ set_parts s
item_parts (compares k p q) = term_part p ∷ mark k ∷ term_part q ∷ []
item_parts (asks p m) = term_part p ∷ mark Infers ∷ term_part (said (word Atom (mode_text m)) no_phrases) ∷ []

-- behind the first item: a comma before each
abbrev pub more_items : List Item → List Part
more_items [] = []
more_items (i ∷ is) = mark Comma ∷ item_parts i ++ more_items is

abbrev pub items_parts : List Item → List Part
items_parts [] = []
items_parts (i ∷ is) = item_parts i ++ more_items is

abbrev pub statement_parts : Statement → List Part
statement_parts (directive w) = mark Neck ∷ term_part (said (word Atom (codes "lib")) (phrase_and (said w no_phrases) no_phrases)) ∷ []
statement_parts (clause p []) = term_part p ∷ []
statement_parts (clause p (i ∷ is)) = term_part p ∷ mark Neck ∷ items_parts (i ∷ is)
statement_parts (query is) = mark Ask ∷ items_parts is

abbrev pub statement_words : Statement → List Word
statement_words s = parts_words (statement_parts s)

-- ===== which of these are statements

abbrev pub is_comparison : Kind → Bool
is_comparison Less = true
is_comparison AtMost = true
is_comparison Equal = true
is_comparison Differ = true
is_comparison _ = false

-- an atom, or an atom with arguments
abbrev pub is_callable : Phrase → Bool
is_callable (integer_phrase bs) = false
is_callable (variable_phrase bs) = false
is_callable (said name ps) = is_phrase (said name ps)

-- one that is no built-in
abbrev pub is_head : Phrase → Bool
is_head (integer_phrase bs) = false
is_head (variable_phrase bs) = false
is_head (said name ps) = is_phrase (said name ps) && not (is_built_in (atom_of name.kind name.text) (count ps))

abbrev pub is_item : Item → Bool
is_item (calls p) = is_callable p
is_item (equates p q) = is_phrase p && is_phrase q
is_item (belongs p s) = is_phrase p
is_item (compares k p q) = is_comparison k && is_phrase p && is_phrase q
is_item (asks p m) = is_callable p

-- a body asks nothing
abbrev pub is_body_item : Item → Bool
is_body_item (asks p m) = false
is_body_item i = true

-- a query calls and compares nothing
abbrev pub is_query_item : Item → Bool
is_query_item (calls p) = false
is_query_item (compares k p q) = false
is_query_item i = true

abbrev pub some_item : List Item → Bool
some_item [] = false
some_item (i ∷ is) = true

abbrev pub is_statement : Statement → Bool
is_statement (directive w) = is_atom_kind w.kind
is_statement (clause p is) = is_head p && list_all is_item is && list_all is_body_item is
is_statement (query is) = some_item is && list_all is_item is && list_all is_query_item is

abbrev pub is_query : Statement → Bool
is_query (directive w) = false
is_query (clause p is) = false
is_query (query is) = true

-- these words are this statement
pub record Says (ws : List Word) (s : Statement) : Type 0 where
  pub words : ws ≡ statement_words s
  pub is_statement : IsTrue (is_statement s)
