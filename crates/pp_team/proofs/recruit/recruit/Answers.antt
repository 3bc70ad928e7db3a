use Rattle.std.proofs.Common.{rules, ◌≡◌}
use Rattle.pp_stop.specs.Seats.{IsSeatOf}
use Rattle.pp_cell.specs.Passes.{IsPassOf, pass_space}
use Rattle.pp_team.proofs.Lists.{all-popped}
use Rattle.pp_team.proofs.recruit.recruit.Goals as goal

pub loop-pass-preserved : goal.loop-pass-preserved
loop-pass-preserved g c =
    let inv = c.loop-pass.invariant in
    record {
      passes = (all-popped (λ p. (c.args.space.now ≡ pass_space p) × IsPassOf c.args.cell.now p) c.loop-pass.passes.items c.pop.new.self.items c.in-Some.pass c.in-Some.ensures.items inv.passes).0;
      seats = (all-popped (IsSeatOf c.args.stop.now) c.loop-pass.seats.items c.pop-in-Some.new.self.items c.in-Some-pop.seat c.in-Some-pop.ensures.items inv.seats).0;
      same = search rules;
      count = search rules;
      room = search rules;
    }
