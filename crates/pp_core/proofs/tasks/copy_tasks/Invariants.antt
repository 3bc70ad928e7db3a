use Rattle.std.proofs.Common.{◌≡◌, ◌≤◌, vec_len, vec_capacity, length, take}
use Rattle.pp_core.proofs.tasks.copy_tasks.Given as goal

abbrev pub invariant-loop-i : goal.invariant-loop-i
invariant-loop-i g l = (l.copies.items ≡ take l.i l.tasks) × (length l.tasks ≤ vec_capacity l.copies) × (vec_len l.copies ≡ l.i)
