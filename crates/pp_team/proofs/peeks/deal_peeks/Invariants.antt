use Rattle.std.proofs.Common.{◌≡◌, vec_len}
use Rattle.pp_team.proofs.peeks.deal_peeks.Given as goal

abbrev pub invariant-loop-place : goal.invariant-loop-place
invariant-loop-place g l = vec_len l.jobs ≡ vec_len l.initial.jobs
