use Rattle.std.proofs.Common.{◌≡◌, ◌≤◌, ◌+◌, All, vec_len, vec_capacity}
use Rattle.pp_stop.specs.Seats.{IsSeatOf}
use Rattle.pp_cell.specs.Passes.{IsPassOf, pass_space}
use Rattle.pp_team.proofs.recruit.recruit.Given as goal

abbrev pub invariant-loop-pass : goal.invariant-loop-pass
invariant-loop-pass g l = record {
  passes : All (λ p. (l.space ≡ pass_space p) × IsPassOf l.cell p) l.passes.items;
  seats : All (IsSeatOf l.stop) l.seats.items;
  same : vec_len l.seats ≡ vec_len l.passes;
  count : vec_len l.jobs + vec_len l.passes ≡ vec_len l.initial.passes;
  room : vec_len l.initial.passes + 1 ≤ vec_capacity l.jobs;
}

abbrev pub decreases-loop-pass : goal.decreases-loop-pass
decreases-loop-pass g l = vec_len l.passes
