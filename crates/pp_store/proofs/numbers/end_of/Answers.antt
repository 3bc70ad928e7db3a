use Rattle.std.proofs.Common.{◌<◌, length, arith, sym, subst, inl, inr}
use Rattle.std.proofs.lemmas.List.{take_all}
use Rattle.pp_algebra.specs.Covers.{IsIn}
use Rattle.pp_store.proofs.FreshNumbers.{in_next}
use Rattle.pp_store.proofs.numbers.end_of.Goals as goal

pub loop-number-preserved : goal.loop-number-preserved
loop-number-preserved c =
    let l : c.loop-number.number-index < length c.args.numbers.now = omega (arith, c.loop-number-test.true) in
    record {
      first = omega (arith, c.max-end.ensures, c.loop-number.invariant.first);
      above = λ x i. elim (in_next c.args.numbers.now c.loop-number.number-index 0 x l i) [
        | inl a ↦ (let b = c.loop-number.invariant.above x a in omega (arith, c.max-end.ensures, b))
        | inr e ↦ omega (arith, c.max-end.ensures, e)
      ];
    }

pub returns-clause-above : goal.returns-clause-above
returns-clause-above c = λ x i. c.loop-number.invariant.above x (subst (IsIn x) (sym (take_all c.loop-number.number-index c.args.numbers.now (omega (arith, c.loop-number-test.false)))) i)
