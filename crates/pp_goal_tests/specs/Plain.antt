-- Cells that are terms by themselves, as these tests write goals.
use Rattle.std.specs.Prelude.{ℕ, ℤ, pos, ◌<◌, ◌≤ℤ◌}
use Rattle.pp_row.specs.declared.cell.Cell.{Cell}
use Rattle.pp_row.specs.declared.cell.Cell.TheVariants.{Int, Atom, Compound, Var}

-- a small integer, an atom, or one of so many variables
abbrev pub IsPlain : ℕ → Cell → Type 0
IsPlain n (Int k) = (pos 0 ≤ℤ k) × (k ≤ℤ pos 1000)
IsPlain n (Atom a) = Unit {0}
IsPlain n (Compound f k) = ⊥
IsPlain n (Var v) = v < n
