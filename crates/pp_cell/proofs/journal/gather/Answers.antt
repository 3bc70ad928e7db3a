use Rattle.std.proofs.Common.{rules, ◌≡◌, ◌<◌, ◌∙◌, Some, map, slice_get, length, refl, subst, vec_len, arith}
use Rattle.pp_turn.specs.Seats.{seen}
use Rattle.pp_cell.specs.Passes.{pass_journal}
use Rattle.pp_cell.specs.Gathers.{Gathers}
use Rattle.pp_cell.proofs.Rows.{map_at}
use Rattle.pp_cell.proofs.Gathered.{gathers_first, gathers_next, next_at, next_rest}
use Rattle.pp_cell.proofs.journal.gather.Goals as goal

pub loop-joined-init : goal.loop-joined-init
loop-joined-init g c =
    let all = c.args.passes.items in
    let p = c.remove-into.result in
    let some : 0 < length all = search rules in
    let at : slice_get all 0 ≡ Some p = next_at all all 0 p refl some c.remove-into.ensures.value in
    let q = c.requires.passes 0 p at in
    record {
      length = c.remove-into.ensures.len;
      rest = c.remove-into.ensures.items;
      turn = q.0;
      out = p.out;
      number = p.numbered ∙ q.1;
      span = p.one;
      logs = gathers_first (map pass_journal all) (seen p.seat) (map_at pass_journal all 0 p at);
    }

pub join_seat-requires-clause-other : goal.join_seat-requires-clause-other
join_seat-requires-clause-other g c =
    let all = c.args.passes.items in
    let p = c.remove-seat.result in
    let inv = c.loop-joined.invariant in
    let some : 0 < length c.loop-joined.passes.items = search rules in
    let at : slice_get all c.loop-joined.joined ≡ Some p = next_at all c.loop-joined.passes.items c.loop-joined.joined p inv.rest some c.remove-seat.ensures.value in
    let q = c.requires.passes c.loop-joined.joined p at in
    (q.0, p.out)

pub join_seat-requires-clause-next : goal.join_seat-requires-clause-next
join_seat-requires-clause-next g c =
    let all = c.args.passes.items in
    let p = c.remove-seat.result in
    let inv = c.loop-joined.invariant in
    let some : 0 < length c.loop-joined.passes.items = search rules in
    let at : slice_get all c.loop-joined.joined ≡ Some p = next_at all c.loop-joined.passes.items c.loop-joined.joined p inv.rest some c.remove-seat.ensures.value in
    let q = (c.requires.passes c.loop-joined.joined p at).1 in
    let n = p.numbered in
    let a = inv.number in
    let b = inv.span in
    omega arith

pub loop-joined-preserved : goal.loop-joined-preserved
loop-joined-preserved g c =
    let all = c.args.passes.items in
    let k = c.loop-joined.joined in
    let p = c.remove-seat.result in
    let inv = c.loop-joined.invariant in
    let some : 0 < length c.loop-joined.passes.items = search rules in
    let at : slice_get all k ≡ Some p = next_at all c.loop-joined.passes.items k p inv.rest some c.remove-seat.ensures.value in
    let s = c.join_seat.ensures.seat in
    let len = c.remove-seat.ensures.len in
    let old = inv.length in
    let sa = s.span in
    let sb = inv.span in
    let sc = p.one in
    record {
      length = omega arith;
      rest = c.remove-seat.ensures.items ∙ next_rest all c.loop-joined.passes.items k inv.rest;
      turn = s.turn;
      out = s.out;
      number = s.number ∙ inv.number;
      span = omega arith;
      logs = rw s.seen (gathers_next (map pass_journal all) k (seen c.loop-joined.into) (seen p.seat) inv.logs (map_at pass_journal all k p at) c.join_seat.ensures.logs);
    }

pub returns-clause-logs : goal.returns-clause-logs
returns-clause-logs g c =
    let all : c.loop-joined.joined ≡ vec_len c.args.passes = search rules in
    subst (λ n. Gathers (map pass_journal c.args.passes.items) n (seen c.loop-joined.into)) all c.loop-joined.invariant.logs
