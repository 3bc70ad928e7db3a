use Rattle.std.proofs.Common.{◌+◌, ◌≤◌, length, ◌∙◌, arith, rules}
use Rattle.pp_language.specs.declared.token.Kind.TheVariants.{OpenSquare}
use Rattle.pp_parse.proofs.Bounds.{seen_length, mark_room}
use Rattle.pp_parse.proofs.BoundsLists.{no_set, bracketed_set}
use Rattle.pp_parse.proofs.sets.bracketed_at.Goals as goal

pub overflow_add-at : goal.overflow_add-at
overflow_add-at g c =
    let h : c.args.at + 1 ≤ length g.qs = mark_room c.args.at g.qs OpenSquare c.requires.1 in
    let e = seen_length g.qs c.args.parts.now c.requires.0 in
    search rules

pub ranges_at-requires : goal.ranges_at-requires
ranges_at-requires g c =
    let e = seen_length g.qs c.args.parts.now c.requires.0 in
    (c.requires.0, omega (arith, e, mark_room c.args.at g.qs OpenSquare c.requires.1))

pub returns-in_default : goal.returns-in_default
returns-in_default g c = no_set g.qs c.args.at c.requires.1 (rw c.in_default.is at c.in_ok-domains.ensures)

pub returns : goal.returns
returns g c =
    let f = rw c.in-Some.is at c.in_ok-domains.ensures in
    bracketed_set g.qs c.args.at c.requires.1 f.0 c.in-Some.next _ f.1 (c.in_ok-unite.ensures ∙ f.2) f.3 f.4
