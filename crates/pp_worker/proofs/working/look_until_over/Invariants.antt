use Rattle.std.proofs.Common.{◌≡◌, ℕ, ◌++◌}
use Rattle.pp_cell.specs.Passes.{SamePass, own_entries, pass_number}
use Rattle.pp_worker.specs.Turns.{looks}
use Rattle.pp_worker.proofs.working.look_until_over.Given as goal

abbrev pub invariant-loop : goal.invariant-loop
invariant-loop g l = record {
  pass : SamePass l.initial.desk.pass l.desk.pass;
  own : (times : ℕ) × (own_entries l.desk.pass ≡ own_entries l.initial.desk.pass ++ looks (pass_number l.initial.desk.pass) times);
  seat : l.desk.seat ≡ l.initial.desk.seat;
  hand : l.desk.hand ≡ l.initial.desk.hand;
  peeks : l.desk.peeks ≡ l.initial.desk.peeks;
}
