use Rattle.std.proofs.Common.{◌≡◌, take}
use Rattle.pp_row.specs.Columns.{sets_of}
use Rattle.pp_row.proofs.domains.same_domains.Given as goal

abbrev pub invariant-loop-i : goal.invariant-loop-i
invariant-loop-i l = take l.i (sets_of l.left) ≡ take l.i (sets_of l.right)
