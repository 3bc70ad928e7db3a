use Rattle.std.proofs.Common.{◌≡◌, ◌+◌, drop, map, false, vec_len}
use Rattle.pp_turn.specs.Seats.{IsSeatOf, is_in_turn, seat_number, seat_span, seen}
use Rattle.pp_cell.specs.Gathers.{Gathers}
use Rattle.pp_cell.specs.Passes.{pass_journal}
use Rattle.pp_cell.proofs.journal.gather.Given as goal

abbrev pub invariant-loop-joined : goal.invariant-loop-joined
invariant-loop-joined g l = record {
  length : vec_len l.passes + l.joined ≡ vec_len l.fn.passes;
  rest : l.passes.items ≡ drop l.joined l.fn.passes.items;
  turn : IsSeatOf l.turn l.into;
  out : is_in_turn l.into ≡ false;
  number : seat_number l.into ≡ 0;
  span : seat_span l.into ≡ l.joined;
  logs : Gathers (map pass_journal l.fn.passes.items) l.joined (seen l.into);
}
