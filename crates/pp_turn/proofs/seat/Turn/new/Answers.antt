use Rattle.std.proofs.Common.{rules, [], Some}
use Rattle.pp_turn.specs.Seats.{Rests}
use Rattle.pp_turn.proofs.Lists.{by_place_snoc}
use Rattle.pp_turn.proofs.seat.Turn.new.Goals as goal

pub loop-made-preserved : goal.loop-made-preserved
loop-made-preserved g c = let inv = c.loop-made.invariant in (
  search rules,
  search rules,
  search rules,
  rw c.push_reserved.ensures.items (by_place_snoc (λ i s. Rests c.in_ok-turn.turn (Some (g.T.Kept.base c.args.value)) i 1 [] s) c.loop-made.all.items c.another-next.new.seat inv.3 (search rules)),
)

pub returns-clause-seats : goal.returns-clause-seats
returns-clause-seats g c = rw c.push_reserved-2.ensures.items (by_place_snoc (λ i s. Rests c.in_ok-turn.turn (Some (g.T.Kept.base c.args.value)) i 1 [] s) c.loop-made.all.items c.loop-made.last c.loop-made.invariant.3 (search rules))
