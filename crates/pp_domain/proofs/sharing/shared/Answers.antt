use Rattle.std.proofs.Common.{◌≤ℤ◌, arith, pos, get_or, to_z, of_z, w64}
use Rattle.std.proofs.lemmas.Int.{ints}
use Rattle.pp_domain.proofs.Words.{Decides-int_lt, not_less}
use Rattle.pp_domain.proofs.Positions.{end_word}
use Rattle.pp_domain.proofs.Meet.{collects_none, collects_more, collects_turned, ended, word_max, word_min, shared_left, shared_right}
use Rattle.pp_domain.proofs.sharing.shared.Goals as goal

pub loop-i-init : goal.loop-i-init
loop-i-init c = rw c.in_ok-both.ensures.items (collects_none c.args.a.now c.args.b.now c.requires.a)

pub loop-i-preserved-then-a_high-b_high : goal.loop-i-preserved-then-a_high-b_high
loop-i-preserved-then-a_high-b_high c =
    let ps = c.args.a.now in
    let qs = c.args.b.now in
    let e = word_max ps qs c.loop-i.i c.loop-i.j (pos 0, pos 0) _ c.requires.a c.requires.b c.loop-i-test.true c.if-j-b.true c.max.ensures.value in
    let f = word_min ps qs c.loop-i.i c.loop-i.j (pos 0, pos 0) _ c.requires.a c.requires.b c.loop-i-test.true c.if-j-b.true c.min.ensures.value in
    let ends = end_word ps c.loop-i.i (pos 0, pos 0) c.requires.a c.loop-i-test.true in
    let ends' = end_word qs c.loop-i.j (pos 0, pos 0) c.requires.b c.if-j-b.true in
    let less = (Decides-int_lt (to_z w64 (of_z w64 (get_or ps c.loop-i.i (pos 0, pos 0)).1)) (to_z w64 (of_z w64 (get_or qs c.loop-i.j (pos 0, pos 0)).1))).0 c.if-a_high-b_high.true in
    let first : (get_or ps c.loop-i.i (pos 0, pos 0)).1 ≤ℤ (get_or qs c.loop-i.j (pos 0, pos 0)).1 = omega (arith, ints, less, ends, ends') in
    collects_more ps qs c.loop-i.i c.loop-i.j (pos 0, pos 0) c.loop-i.both.items _ _ _ c.requires.a c.requires.b c.loop-i-test.true c.if-j-b.true
    (shared_left _ _ _ _ e f first)
    (record { some = c.in_ok-push_interval.ensures.some; none = c.in_ok-push_interval.ensures.none })
    c.loop-i.invariant

pub loop-i-preserved : goal.loop-i-preserved
loop-i-preserved c =
    let ps = c.args.a.now in
    let qs = c.args.b.now in
    let e = word_max ps qs c.loop-i.i c.loop-i.j (pos 0, pos 0) _ c.requires.a c.requires.b c.loop-i-test.true c.if-j-b.true c.max.ensures.value in
    let f = word_min ps qs c.loop-i.i c.loop-i.j (pos 0, pos 0) _ c.requires.a c.requires.b c.loop-i-test.true c.if-j-b.true c.min.ensures.value in
    let ends = end_word ps c.loop-i.i (pos 0, pos 0) c.requires.a c.loop-i-test.true in
    let ends' = end_word qs c.loop-i.j (pos 0, pos 0) c.requires.b c.if-j-b.true in
    let more = not_less (to_z w64 (of_z w64 (get_or ps c.loop-i.i (pos 0, pos 0)).1)) (to_z w64 (of_z w64 (get_or qs c.loop-i.j (pos 0, pos 0)).1)) c.if-a_high-b_high.false in
    let first : (get_or qs c.loop-i.j (pos 0, pos 0)).1 ≤ℤ (get_or ps c.loop-i.i (pos 0, pos 0)).1 = omega (arith, ints, more, ends, ends') in
    collects_turned _ _ _ _ _ (collects_more qs ps c.loop-i.j c.loop-i.i (pos 0, pos 0) c.loop-i.both.items _ _ _ c.requires.b c.requires.a c.if-j-b.true c.loop-i-test.true
    (shared_right _ _ _ _ e f first)
    (record { some = c.in_ok-push_interval.ensures.some; none = c.in_ok-push_interval.ensures.none })
    (collects_turned _ _ _ _ _ c.loop-i.invariant))

pub returns-clause-apart : goal.returns-clause-apart
returns-clause-apart c = ended _ _ _ c.loop-i.invariant.apart
