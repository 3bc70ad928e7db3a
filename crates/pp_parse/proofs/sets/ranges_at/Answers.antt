use Rattle.std.proofs.Common.{◌+◌, ◌≤◌, length, refl, arith, rules}
use Rattle.pp_language.specs.declared.token.Kind.TheVariants.{CloseSquare, Comma}
use Rattle.pp_parse.proofs.Bounds.{seen_length, mark_room, not_marked}
use Rattle.pp_parse.proofs.BoundsLists.{none_read, not_closed, all_read, one_read}
use Rattle.pp_parse.proofs.sets.ranges_at.Goals as goal

pub loop-ends-init : goal.loop-ends-init
loop-ends-init g c = record { within = c.requires.1; read = none_read g.qs c.args.at c.new-domains.result.items c.new-domains.ensures.items }

pub overflow_add-result : goal.overflow_add-result
overflow_add-result g c =
    let h : c.in-Some.next + 1 ≤ length g.qs = mark_room c.in-Some.next g.qs CloseSquare (c.if-has_mark.ensures.0 refl) in
    let e = seen_length g.qs c.args.parts.now c.requires.0 in
    search rules

pub returns-then-has_mark : goal.returns-then-has_mark
returns-then-has_mark g c =
    let f = c.in-Some.ensures in
    all_read g.qs c.args.at c.loop-ends.place c.loop-ends.domains.items c.loop-ends.invariant.read f.0 c.in-Some.next f.3 f.1 c.add_range.new.domains.items _ c.in_ok-add_range.ensures f.2.set (c.if-has_mark.ensures.0 refl)

pub overflow_add-place : goal.overflow_add-place
overflow_add-place g c =
    let h : c.in-Some.next + 1 ≤ length g.qs = mark_room c.in-Some.next g.qs Comma (c.if-not-has_mark.ensures.0 refl) in
    let e = seen_length g.qs c.args.parts.now c.requires.0 in
    search rules

pub returns-then-not-has_mark : goal.returns-then-not-has_mark
returns-then-not-has_mark g c =
    let f = c.in-Some.ensures in
    not_closed g.qs c.args.at c.loop-ends.place c.loop-ends.domains.items c.loop-ends.invariant.read f.0 c.in-Some.next f.3 f.1
    (not_marked c.has_mark.result c.has_mark.ensures c.if-has_mark.false)
    (not_marked c.has_mark-in-loop-ends.result c.has_mark-in-loop-ends.ensures c.if-not-has_mark.true)

pub loop-ends-smaller : goal.loop-ends-smaller
loop-ends-smaller g c =
    let f = c.in-Some.ensures in
    let e = seen_length g.qs c.args.parts.now c.requires.0 in
    omega (arith, e, f.3, mark_room c.in-Some.next g.qs Comma (c.if-not-has_mark.ensures.0 refl))

pub loop-ends-preserved : goal.loop-ends-preserved
loop-ends-preserved g c =
    let f = c.in-Some.ensures in
    let comma = c.if-not-has_mark.ensures.0 refl in
    let e = seen_length g.qs c.args.parts.now c.requires.0 in
    let h = mark_room c.in-Some.next g.qs Comma comma in
    record {
      within = omega (arith, e, h);
      read = one_read g.qs c.args.at c.loop-ends.place c.loop-ends.domains.items c.loop-ends.invariant.read f.0 c.in-Some.next f.3 f.1 c.add_range.new.domains.items _ c.in_ok-add_range.ensures f.2.set comma;
    }
