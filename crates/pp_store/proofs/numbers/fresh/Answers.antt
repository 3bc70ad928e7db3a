use Rattle.std.proofs.Common.{◌≡◌, suc, ◌+◌, ◌-◌, arith, ap, ◌∙◌}
use Rattle.pp_propagation.specs.Histories.{numbers_from}
use Rattle.pp_store.proofs.FreshNumbers.{from_push}
use Rattle.pp_store.proofs.numbers.fresh.Goals as goal

pub loop-number-preserved : goal.loop-number-preserved
loop-number-preserved c =
    let f = c.loop-number.invariant.from in
    let n : suc (c.loop-number.number - c.args.first) ≡ c.loop-number.number + 1 - c.args.first = omega (arith, f) in
    record {
      from = omega (arith, f);
      numbers = from_push c.args.first (c.loop-number.number - c.args.first) c.loop-number.numbers.items c.push.new.self.items c.loop-number.number c.loop-number.invariant.numbers (omega (arith, f)) c.in_ok-push.ensures.items ∙ ap (numbers_from c.args.first) n;
    }
