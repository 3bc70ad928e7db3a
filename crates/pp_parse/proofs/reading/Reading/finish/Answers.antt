use Rattle.std.proofs.Common.{◌≡◌, [], sym, subst}
use Rattle.pp_parse.specs.Parts.{AreParts}
use Rattle.pp_parse.proofs.ReadingMarks.{all_whole, empty_is}
use Rattle.pp_parse.proofs.reading.Reading.finish.Goals as goal

pub returns : goal.returns
returns c =
    λ names named n i s h.
    let r = c.args.self in
    let none : r.groups.items ≡ [] = empty_is r.groups.items r.groups.len c.is_empty.result r.groups.ok.0 c.is_empty.ensures c.if-not-is_empty.false in
    let w = all_whole names named n i s.parts r.cells.items r.arguments r.groups.items r.parts.items s.arguments s.groups c.if-self-ne0.false none h in
    (w.0, w.1, subst (AreParts names named n i w.0) (sym c.reverse.ensures.items) w.2)
