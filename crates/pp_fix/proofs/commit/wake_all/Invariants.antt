use Rattle.std.proofs.Common.{◌≡◌, take}
use Rattle.std.specs.Prelude.{nat_eq}
use Rattle.pp_algebra.specs.Canon.{firsts}
use Rattle.pp_fix.proofs.commit.wake_all.Given as goal

abbrev pub invariant-loop-goal : goal.invariant-loop-goal
invariant-loop-goal l = record {
  goals : l.wake.goals ≡ l.initial.wake.goals;
  waiting : l.wake.waiting ≡ firsts nat_eq l.initial.wake.waiting (take l.goal-index l.goals);
}
