-- What the code has read of a sentence from the right.
use Rattle.std.specs.Prelude.{◌≡◌, ℕ, suc, ◌+◌, Bool, true, false, List, [], ◌∷◌, ◌++◌, map, reverse, length, Option, Some, None}
use Rattle.std.specs.List.{flat_map}
use Rattle.pp_row.specs.declared.cell.Cell.{Cell}
use Rattle.pp_row.specs.Cells.{cells_of, cells_of_all}
use Rattle.pp_language.specs.Texts.{Text}
use Rattle.pp_language.specs.Phrases as phrases
use Rattle.pp_language.specs.Phrases.{Phrase, Phrases, phrase_and, count, phrase_words, group_words}
use Rattle.pp_language.specs.Meanings.{blanks, blanks_all}
use Rattle.pp_language.specs.PartsOf as parts
use Rattle.pp_language.specs.PartsOf.{wanting, filled, State, open_words}
use Rattle.pp_parse.specs.declared.parts.Part.{Part}
use Rattle.pp_parse.specs.declared.reading.Group.{Group}
use Rattle.pp_parse.specs.declared.reading.Group.TheVariants.{Wanting, Filled}
use Rattle.pp_parse.specs.declared.reading.Reading.{Reading}
use Rattle.pp_parse.specs.Terms.{term_of, terms_of}
use Rattle.pp_parse.specs.Parts.{AreParts}

abbrev pub group_of : parts.Group → Group
group_of (wanting ps) = Wanting (count ps)
group_of (filled p ps) = Filled (suc (count ps))

-- how many arguments stand in a group
abbrev pub size_of : Group → ℕ
size_of (Wanting n) = n
size_of (Filled n) = n

abbrev pub phrases_in : parts.Group → Phrases
phrases_in (wanting ps) = ps
phrases_in (filled p ps) = phrase_and p ps

-- the cells of open groups, where the next `_` has number n
abbrev pub open_cells : List Text → List Text → ℕ → List parts.Group → List Cell
open_cells names named n [] = []
open_cells names named n (g ∷ gs) = cells_of_all (terms_of names named n (phrases_in g)) ++ open_cells names named (n + blanks_all (phrases_in g)) gs

abbrev pub open_blanks : List parts.Group → ℕ
open_blanks [] = 0
open_blanks (g ∷ gs) = blanks_all (phrases_in g) + open_blanks gs

-- this state, of the words from place i on; the code's lists are reversed
pub record Holds (names named : List Text) (n i : ℕ) (ps : Phrases) (gs : List parts.Group) (qs : List phrases.Part) (cells : List Cell) (arguments : ℕ) (groups : List Group) (whole : List Part) : Type 0 where
  pub arguments_are : arguments ≡ count ps
  pub groups_are : reverse groups ≡ map group_of gs
  pub cells_are : reverse cells ≡ cells_of_all (terms_of names named n ps) ++ open_cells names named (n + blanks_all ps) gs
  pub parts_are : AreParts names named (n + blanks_all ps + open_blanks gs) (i + length (group_words ps) + length (flat_map open_words gs)) qs (reverse whole)

abbrev pub IsReading : List Text → List Text → ℕ → ℕ → State → Reading → Type 0
IsReading names named n i s r = Holds names named n i s.arguments s.groups s.parts r.cells.items r.arguments r.groups.items r.parts.items

-- the state where there is one
abbrev pub Follows : List Text → List Text → ℕ → ℕ → Option State → Bool → Reading → Type 0
Follows names named n i None ok r = ok ≡ false
Follows names named n i (Some s) ok r = (ok ≡ true) × IsReading names named n i s r

-- the phrase begins with this cell, and these are its arguments; the next `_` has number n before it and m behind its first word
pub record IsHead (names named : List Text) (n m : ℕ) (p : Phrase) (c : Cell) (ps : Phrases) : Type 0 where
  pub cells : cells_of (term_of names named n p) ≡ c ∷ cells_of_all (terms_of names named m ps)
  pub counts : n + blanks p ≡ m + blanks_all ps
  pub words : length (phrase_words p) ≡ suc (length (group_words ps))
