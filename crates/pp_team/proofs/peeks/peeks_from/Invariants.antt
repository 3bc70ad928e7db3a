use Rattle.std.proofs.Common.{◌≡◌, ◌≤◌, ◌+◌, vec_len, vec_capacity}
use Rattle.pp_team.proofs.peeks.peeks_from.Given as goal

abbrev pub invariant-loop-step : goal.invariant-loop-step
invariant-loop-step g l = (vec_len l.jobs ≡ l.count) × (vec_len l.peeks + 1 ≡ l.step) × (l.count ≤ vec_capacity l.peeks)
