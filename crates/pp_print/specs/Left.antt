-- What is left to write of a term while its cells are walked.
use Rattle.std.specs.Prelude.{ℕ, zero, suc, pred, List, [], ◌∷◌, ◌++◌, fold}
use Rattle.std.specs.Fmt.{signed_decimal}
use Rattle.pp_algebra.specs.Terms.{Trees, none, more}
use Rattle.pp_row.specs.declared.cell.Cell.{Cell}
use Rattle.pp_row.specs.declared.cell.Cell.TheVariants.{Int, Atom, Compound, Var}
use Rattle.pp_language.specs.Texts.{Text}
use Rattle.pp_language.specs.Printing.{atom_text, name_at, variable_text, term_text}

-- what a cell writes before its arguments
abbrev pub cell_text : List Text → Cell → Text
cell_text names (Int n) = signed_decimal n
cell_text names (Atom a) = atom_text (name_at names a)
cell_text names (Compound f k) = atom_text (name_at names f) ++ 40 ∷ []
cell_text names (Var v) = variable_text v

-- terms one after another
abbrev pub all_text : List Text → Trees ℕ → Text
all_text names none = []
all_text names (more t ts) = term_text names t ++ all_text names ts

-- behind an argument with so many more to come, where `later` is written behind the compound
abbrev pub closing : List Text → (Trees ℕ → Text) → ℕ → Trees ℕ → Text
closing names later zero ts = 41 ∷ later ts
closing names later (suc n) none = 44 ∷ []
closing names later (suc n) (more t ts) = 44 ∷ term_text names t ++ closing names later n ts

-- behind a complete term: a number for each open compound, the outermost first, of its arguments to come and the one that ends here
abbrev pub behind : List Text → List ℕ → Trees ℕ → Text
behind names unclosed = fold (λ later n. closing names later (pred n)) (all_text names) unclosed

-- before the next term
abbrev pub text_left : List Text → List ℕ → Trees ℕ → Text
text_left names unclosed none = []
text_left names unclosed (more t ts) = term_text names t ++ behind names unclosed ts
