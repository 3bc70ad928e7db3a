use Rattle.std.proofs.Common.{ℕ, ◌+◌, drop}
use Rattle.pp_path.specs.Works.{SplitsAt, AreLast}
use Rattle.pp_path.proofs.levels.first_with_sibling.Given as goal

abbrev pub invariant-loop-i : goal.invariant-loop-i
invariant-loop-i l = ((k : ℕ) → SplitsAt (drop l.i l.levels) k → SplitsAt l.levels (l.i + k)) × (AreLast (drop l.i l.levels) → AreLast l.levels)
