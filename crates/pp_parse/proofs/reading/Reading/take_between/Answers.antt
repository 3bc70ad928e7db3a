use Rattle.std.proofs.Common.{◌≡◌, [], refl}
use Rattle.pp_parse.proofs.Readings.{follows, fails}
use Rattle.pp_parse.proofs.ReadingMarks.{stands, no_mark, empty_is, some_is}
use Rattle.pp_parse.proofs.reading.Reading.take_between.Goals as goal

pub returns : goal.returns
returns c =
    λ names named n i gs qs h.
    let old = c.args.self.now in
    let none : old.groups.items ≡ [] = empty_is old.groups.items old.groups.len c.is_empty.result old.groups.ok.0 c.is_empty.ensures c.if-not-is_empty.false in
    follows names named n i _ _ _ _ _ _ _ refl refl none refl
    (stands names named n i qs old.cells.items old.arguments old.groups.items old.parts.items c.args.kind gs _ none c.in_ok-push.ensures.items h)

pub returns-then-not-is_empty : goal.returns-then-not-is_empty
returns-then-not-is_empty c =
    λ names named n i gs qs h.
    let old = c.args.self.now in
    fails names named n i _ _ (no_mark c.args.kind old.groups.items gs qs (some_is old.groups.items old.groups.len c.is_empty.result old.groups.ok.0 c.is_empty.ensures c.if-not-is_empty.true) h.groups_are)
