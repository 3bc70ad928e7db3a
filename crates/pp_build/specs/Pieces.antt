-- The terms among the parts of a sentence, as the code keeps them.
use Rattle.std.specs.Prelude.{ℕ, pos, List, Option, Some, None, slice_get}
use Rattle.pp_algebra.specs.Terms.{Tree, int, node, variable, count}
use Rattle.pp_sld.specs.Goals.{Predicate}
use Rattle.pp_row.specs.Reading.{tree_of, IsOneTerm}
use Rattle.pp_parse.specs.declared.parts.Part.{Part}
use Rattle.pp_parse.specs.declared.parts.Part.TheVariants.{Term, Mark}

-- the term of a part
abbrev pub part_tree : Option Part → Tree ℕ
part_tree None = int (pos 0)
part_tree (Some (Term t)) = tree_of t.cells.items
part_tree (Some (Mark k)) = int (pos 0)

abbrev pub tree_at : List Part → ℕ → Tree ℕ
tree_at ps i = part_tree (slice_get ps i)

abbrev pub IsTermPart : Option Part → Type 0
IsTermPart None = ⊥
IsTermPart (Some (Term t)) = IsOneTerm t.cells.items
IsTermPart (Some (Mark k)) = ⊥

-- a term within the limits of a term stands at the place
abbrev pub HasTermAt : List Part → ℕ → Type 0
HasTermAt ps i = IsTermPart (slice_get ps i)

-- an atom, with or without arguments
abbrev pub IsAtom : Tree ℕ → Type 0
IsAtom (int n) = ⊥
IsAtom (node f ts) = Unit {0}
IsAtom (variable v) = ⊥

abbrev pub predicate_of_tree : Tree ℕ → Predicate
predicate_of_tree (int n) = record { name = 0; arity = 0 }
predicate_of_tree (node f ts) = record { name = f; arity = count ts }
predicate_of_tree (variable v) = record { name = 0; arity = 0 }
