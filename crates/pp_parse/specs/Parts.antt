-- The parts of a sentence, as the code keeps them.
use Rattle.std.specs.Prelude.{◌≡◌, ℕ, ◌+◌, List, [], ◌∷◌, length, Some}
use Rattle.pp_row.specs.Cells.{cells_of}
use Rattle.pp_language.specs.Texts.{Text}
use Rattle.pp_language.specs.Words.{Word}
use Rattle.pp_language.specs.Phrases as phrases
use Rattle.pp_language.specs.Phrases.{term_part, mark, part_words}
use Rattle.pp_language.specs.Meanings.{blanks}
use Rattle.pp_language.specs.PartsOf.{parts_of}
use Rattle.pp_parse.specs.declared.parts.Part.{Part}
use Rattle.pp_parse.specs.declared.parts.Part.TheVariants.{Term, Mark}
use Rattle.pp_parse.specs.Terms.{term_of}

-- how many times `_` stands in a part
abbrev pub part_blanks : phrases.Part → ℕ
part_blanks (term_part p) = blanks p
part_blanks (mark k) = 0

-- the code's part is this one: the next `_` has number n, and the part's first word stands at place i
abbrev pub IsPart : List Text → List Text → ℕ → ℕ → phrases.Part → Part → Type 0
IsPart names named n i (term_part p) (Term t) = (t.cells.items ≡ cells_of (term_of names named n p)) × (t.first ≡ i)
IsPart names named n i (term_part p) (Mark k) = ⊥
IsPart names named n i (mark h) (Term t) = ⊥
IsPart names named n i (mark h) (Mark k) = k ≡ h

abbrev pub AreParts : List Text → List Text → ℕ → ℕ → List phrases.Part → List Part → Type 0
AreParts names named n i [] [] = Unit {0}
AreParts names named n i [] (p ∷ ps) = ⊥
AreParts names named n i (q ∷ qs) [] = ⊥
AreParts names named n i (q ∷ qs) (p ∷ ps) = IsPart names named n i q p × AreParts names named (n + part_blanks q) (i + length (part_words q)) qs ps

-- what is read of the words of a sentence: its parts over these names and named variables
pub record AreRead (names named : List Text) (ws : List Word) (ps : List Part) : Type 0 where
  pub parts : List phrases.Part
  pub read : parts_of ws ≡ Some parts
  pub are : AreParts names named (length named) 0 parts ps
