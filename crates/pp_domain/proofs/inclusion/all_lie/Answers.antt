use Rattle.std.proofs.Common.{◌<◌, pos, rules, arith, length}
use Rattle.std.proofs.lemmas.Int.{ints}
use Rattle.pp_domain.proofs.Positions.{begin_word, end_word}
use Rattle.pp_domain.proofs.Inside.{pass_other, pass_this, begins_before, nothing_left, all_passed, step, refused}
use Rattle.pp_domain.proofs.inclusion.all_lie.Goals as goal

pub returns-then-j-b : goal.returns-then-j-b
returns-then-j-b c = refused c.loop-i.invariant.same (nothing_left c.args.a.now c.args.b.now c.loop-i.i c.loop-i.j (pos 0, pos 0) c.requires.a c.loop-i-test.true (omega arith))

pub loop-i-preserved-then-b-j : goal.loop-i-preserved-then-b-j
loop-i-preserved-then-b-j c =
    let k : c.loop-i.j < length c.args.b.now = omega arith in
    let ends = end_word c.args.a.now c.loop-i.i (pos 0, pos 0) c.requires.a c.loop-i-test.true in
    let ends' = end_word c.args.b.now c.loop-i.j (pos 0, pos 0) c.requires.b k in
    record {
      i_bound = c.loop-i.invariant.i_bound;
      j_bound = omega arith;
      same = step c.loop-i.invariant.same (pass_other c.args.a.now c.args.b.now c.loop-i.i c.loop-i.j (pos 0, pos 0) c.requires.a c.requires.b c.loop-i-test.true k (omega (arith, ints, ends, ends', c.if-b-j.true)));
    }

pub returns-then-a-i : goal.returns-then-a-i
returns-then-a-i c =
    let k : c.loop-i.j < length c.args.b.now = omega arith in
    let begins = begin_word c.args.a.now c.loop-i.i (pos 0, pos 0) c.requires.a c.loop-i-test.true in
    let begins' = begin_word c.args.b.now c.loop-i.j (pos 0, pos 0) c.requires.b k in
    refused c.loop-i.invariant.same (begins_before c.args.a.now c.args.b.now c.loop-i.i c.loop-i.j (pos 0, pos 0) c.requires.a c.requires.b c.loop-i-test.true k (omega (arith, ints, begins, begins', c.if-a-i.true)))

pub loop-i-preserved : goal.loop-i-preserved
loop-i-preserved c =
    let k : c.loop-i.j < length c.args.b.now = omega arith in
    let ends = end_word c.args.a.now c.loop-i.i (pos 0, pos 0) c.requires.a c.loop-i-test.true in
    let ends' = end_word c.args.b.now c.loop-i.j (pos 0, pos 0) c.requires.b k in
    let begins = begin_word c.args.a.now c.loop-i.i (pos 0, pos 0) c.requires.a c.loop-i-test.true in
    let begins' = begin_word c.args.b.now c.loop-i.j (pos 0, pos 0) c.requires.b k in
    record {
      i_bound = omega arith;
      j_bound = c.loop-i.invariant.j_bound;
      same = step c.loop-i.invariant.same (pass_this c.args.a.now c.args.b.now c.loop-i.i c.loop-i.j (pos 0, pos 0) c.loop-i-test.true k (omega (arith, ints, begins, begins', c.if-a-i.false)) (omega (arith, ints, ends, ends', c.if-b-j.false)));
    }

pub returns : goal.returns
returns c = (λ e. c.loop-i.invariant.same.1 (all_passed c.args.a.now c.args.b.now c.loop-i.i c.loop-i.j c.loop-i-test.false), λ h. search rules)
