use Rattle.std.proofs.Common.{◌+◌, ◌≤◌, refl, length, sym, ◌∙◌, arith, rules}
use Rattle.pp_language.specs.declared.token.Kind.TheVariants.{Comma}
use Rattle.pp_parse.proofs.Bounds.{seen_length, mark_room, not_marked}
use Rattle.pp_parse.proofs.ItemLists.{none_read, not_read, not_ended, all_read, one_read}
use Rattle.pp_parse.proofs.statement.items.Goals as goal

pub loop-entries-init : goal.loop-entries-init
loop-entries-init g c =
    rw c.new-entries.ensures.items (none_read g.qs c.requires.1.0 c.args.at
    (let l = seen_length g.qs c.args.parts.now c.requires.0 in omega (arith, l, c.requires.1.1.1.1)))

pub item_at-requires : goal.item_at-requires
item_at-requires g c =
    let l : c.loop-entries.place ≤ length c.args.parts.now = omega (arith, seen_length g.qs c.args.parts.now c.requires.0, c.loop-entries.invariant.within) in
    (c.requires.0, (c.requires.1.1.0, (c.requires.1.1.1.0, l)))

pub returns-in_default : goal.returns-in_default
returns-in_default g c =
    not_read g.qs c.requires.1.0 c.args.at c.loop-entries.place c.loop-entries.entries.items c.loop-entries.invariant
    (rw c.in_default.is at c.in_ok-entry.ensures)

pub returns-then-next-parts : goal.returns-then-next-parts
returns-then-next-parts g c =
    let f = rw c.in-Some.is at c.in_ok-entry.ensures in
    rw c.in_ok-push.ensures.items (all_read g.qs c.requires.1.0 c.args.at c.loop-entries.place c.loop-entries.entries.items c.loop-entries.invariant
    f.0 c.in-Some.next f.1 f.4 c.in-Some.entry f.2 (c.if-next-parts.true ∙ seen_length g.qs c.args.parts.now c.requires.0))

pub returns-then-not-has_mark : goal.returns-then-not-has_mark
returns-then-not-has_mark g c =
    let f = rw c.in-Some.is at c.in_ok-entry.ensures in
    not_ended g.qs c.requires.1.0 c.args.at c.loop-entries.place c.loop-entries.entries.items c.loop-entries.invariant
    f.0 c.in-Some.next f.1 f.4 (λ e. c.if-next-parts.false (e ∙ sym (seen_length g.qs c.args.parts.now c.requires.0)))
    (not_marked c.has_mark.result c.has_mark.ensures c.if-not-has_mark.true)

pub overflow_add-place : goal.overflow_add-place
overflow_add-place g c =
    let h : c.in-Some.next + 1 ≤ length g.qs = mark_room c.in-Some.next g.qs Comma (c.if-not-has_mark.ensures.0 refl) in
    let e = seen_length g.qs c.args.parts.now c.requires.0 in
    search rules

pub loop-entries-smaller : goal.loop-entries-smaller
loop-entries-smaller g c =
    let f = rw c.in-Some.is at c.in_ok-entry.ensures in
    let e = seen_length g.qs c.args.parts.now c.requires.0 in
    omega (arith, e, f.3, mark_room c.in-Some.next g.qs Comma (c.if-not-has_mark.ensures.0 refl))

pub loop-entries-preserved : goal.loop-entries-preserved
loop-entries-preserved g c =
    let f = rw c.in-Some.is at c.in_ok-entry.ensures in
    let comma = c.if-not-has_mark.ensures.0 refl in
    rw c.in_ok-push.ensures.items (one_read g.qs c.requires.1.0 c.args.at c.loop-entries.place c.loop-entries.entries.items c.loop-entries.invariant
    f.0 c.in-Some.next f.1 f.4 c.in-Some.entry f.2 comma (mark_room c.in-Some.next g.qs Comma comma))
