-- What a token is to the terms of its sentence.
use Rattle.std.specs.Prelude.{ℕ, List}
use Rattle.pp_row.specs.declared.cell.Cell.TheVariants.{Int, Var}
use Rattle.pp_algebra.specs.Canon.{place}
use Rattle.pp_language.specs.declared.token.Kind.{Kind}
use Rattle.pp_language.specs.declared.token.Kind.TheVariants.{Integer, Atom, Quoted, Variable}
use Rattle.pp_language.specs.Texts.{Text}
use Rattle.pp_algebra.specs.Texts.{same_text}
use Rattle.pp_language.specs.Words.{atom_of}
use Rattle.pp_language.specs.Meanings.{integer_of}
use Rattle.pp_parse.specs.declared.tokens.Leaf.{Leaf}
use Rattle.pp_parse.specs.declared.tokens.Leaf.TheVariants.{Name, Whole, Mark}
use Rattle.pp_parse.specs.Terms.{number_of}

-- an atom, an integer or a variable, or another token; the next `_` has number n
abbrev pub leaf_by : List Text → List Text → ℕ → Kind → Text → Leaf
leaf_by names named n Integer bs = Whole (Int (integer_of bs))
leaf_by names named n Atom bs = Name (place same_text names (atom_of Atom bs))
leaf_by names named n Quoted bs = Name (place same_text names (atom_of Quoted bs))
leaf_by names named n Variable bs = Whole (Var (number_of named n bs))
leaf_by names named n k bs = Mark k

-- a token of this kind is no atom, no integer and no variable
abbrev pub IsNoTerm : Kind → Type 0
IsNoTerm Integer = ⊥
IsNoTerm Atom = ⊥
IsNoTerm Quoted = ⊥
IsNoTerm Variable = ⊥
IsNoTerm _ = Unit {0}
