use Rattle.pp_make.proofs.Lines.{one_more, later}
use Rattle.pp_make.proofs.adders.push_adders.Goals as goal

pub loop-before-preserved : goal.loop-before-preserved
loop-before-preserved c =
    let i = c.loop-before.invariant in
    let input = c.next_number-input.ensures.number in
    let sum = c.next_number-sum.ensures.number in
    let added = rw (c.bit_of.ensures, c.bit_of-in-loop-before.ensures) at c.in_ok-push_adder.ensures in
    record {
      written = one_more c.args.number c.loop-before.before c.loop-before.last _ _ c.args.out.now.items _ _ i.last input sum i.written added;
      last = later c.args.number c.loop-before.before c.loop-before.last _ _ i.last input sum;
      small = c.next_number-sum.ensures.small;
    }
