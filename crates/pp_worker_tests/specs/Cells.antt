-- How many passes a cell has.
use Rattle.std.specs.Prelude.{◌≡◌, ℕ, List, length}
use Rattle.pp_space.specs.declared.space.Space as space
use Rattle.pp_space.specs.declared.lattice.Lattice as lattice
use Rattle.pp_cell.specs.declared.cell.Cell.{Cell}
use Rattle.pp_cell.specs.declared.cell.Pass.{Pass}
use Rattle.pp_cell.specs.Passes.{ArePasses}

module _ {S T V O : Type 0} {sp : space.Ghosts S T V O} {la : lattice.Ghosts S V O} where
  -- so many passes were made with the cell
  abbrev pub HasPasses : Cell S T V O sp la → ℕ → Type 0
  HasPasses c count = (passes : List (Pass S T V O sp la)) × ArePasses c passes × (length passes ≡ count)
