use Rattle.std.proofs.Common.{◌≡◌, drop, length}
use Rattle.pp_path.proofs.levels.same_levels.Given as goal

abbrev pub invariant-loop-i : goal.invariant-loop-i
invariant-loop-i l = (length l.a ≡ length l.b) × (drop l.i l.a ≡ drop l.i l.b → l.a ≡ l.b)
