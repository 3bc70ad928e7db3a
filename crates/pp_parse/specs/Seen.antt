-- What the code's parts show of the parts of a sentence: the first cell of each term.
use Rattle.std.specs.Prelude.{◌≡◌, Bool, true, false, IsTrue, List, [], ◌∷◌, Option, Some, None, slice_get}
use Rattle.pp_algebra.specs.Canon.{has, place}
use Rattle.pp_algebra.specs.Members.{IsInteger}
use Rattle.pp_row.specs.Cells.{head_of}
use Rattle.pp_row.specs.declared.cell.Cell.{Cell}
use Rattle.pp_row.specs.declared.cell.Cell.TheVariants.{Int, Atom, Compound, Var}
use Rattle.pp_language.specs.declared.token.Kind.TheVariants.{Integer, Variable}
use Rattle.pp_language.specs.Texts.{Text}
use Rattle.pp_algebra.specs.Texts.{same_text}
use Rattle.pp_language.specs.Words.{Word, word, atom_of}
use Rattle.pp_language.specs.Phrases as phrases
use Rattle.pp_language.specs.Phrases.{Phrase, integer_phrase, variable_phrase, said, no_phrases, phrase_and, count, term_part, mark}
use Rattle.pp_language.specs.Meanings.{integer_of}
use Rattle.pp_parse.specs.declared.parts.Part.{Part}
use Rattle.pp_parse.specs.declared.parts.Part.TheVariants.{Term, Mark}

-- the cell is an integer, a variable, or an atom with its number of arguments
abbrev pub Shows : Phrase → Cell → Type 0
Shows (integer_phrase bs) (Int n) = (n ≡ integer_of bs) × IsInteger n
Shows (variable_phrase bs) (Var v) = Unit {0}
Shows (said w no_phrases) (Atom f) = Unit {0}
Shows (said w (phrase_and p ps)) (Compound f k) = k ≡ count (phrase_and p ps)
Shows p c = ⊥

abbrev pub ShowsFirst : Phrase → Option Cell → Type 0
ShowsFirst p None = ⊥
ShowsFirst p (Some c) = Shows p c

-- the part in front is a term with these cells
abbrev pub ShowsIn : List phrases.Part → List Cell → Type 0
ShowsIn (term_part p ∷ qs) cs = ShowsFirst p (slice_get cs 0)
ShowsIn qs cs = ⊥

abbrev pub IsSeen : phrases.Part → Part → Type 0
IsSeen (term_part p) (Term t) = ShowsFirst p (slice_get t.cells.items 0)
IsSeen (term_part p) (Mark k) = ⊥
IsSeen (mark h) (Term t) = ⊥
IsSeen (mark h) (Mark k) = k ≡ h

abbrev pub AreSeen : List phrases.Part → List Part → Type 0
AreSeen [] [] = Unit {0}
AreSeen [] (p ∷ ps) = ⊥
AreSeen (q ∷ qs) [] = ⊥
AreSeen (q ∷ qs) (p ∷ ps) = IsSeen q p × AreSeen qs ps

-- ===== the tokens of terms

abbrev pub first_word : Phrase → Word
first_word (integer_phrase bs) = word Integer bs
first_word (variable_phrase bs) = word Variable bs
first_word (said w ps) = w

-- a term names the place of its first word
abbrev pub IsBegun : List Word → phrases.Part → Part → Type 0
IsBegun ws (term_part p) (Term t) = slice_get ws t.first ≡ Some (first_word p)
IsBegun ws q p = Unit {0}

abbrev pub AreBegun : List Word → List phrases.Part → List Part → Type 0
AreBegun ws [] ps = Unit {0}
AreBegun ws (q ∷ qs) [] = Unit {0}
AreBegun ws (q ∷ qs) (p ∷ ps) = IsBegun ws q p × AreBegun ws qs ps

abbrev pub is_atom : Option Cell → Bool
is_atom (Some (Atom f)) = true
is_atom c = false

-- the first cell of the first part has the name of its atom
abbrev pub IsNamed : List Text → List phrases.Part → List Part → Type 0
IsNamed names (term_part (said w us) ∷ qs) (Term t ∷ ps) =
    (slice_get t.cells.items 0 ≡ Some (head_of (place same_text names (atom_of w.kind w.text)) (count us))) × IsTrue (has same_text names (atom_of w.kind w.text))
IsNamed names qs ps = Unit {0}
