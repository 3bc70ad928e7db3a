use Rattle.std.proofs.Common.{refl}
use Rattle.pp_parse.proofs.Readings.{follows}
use Rattle.pp_parse.proofs.ReadingMarks.{closes}
use Rattle.pp_parse.proofs.reading.Reading.take_left.Goals as goal

pub returns-in-Some-Filled : goal.returns-in-Some-Filled
returns-in-Some-Filled c =
    λ names named n i gs qs h.
    let old = c.args.self.now in
    follows names named n i _ _ _ _ _ _ _ refl refl refl refl
    (closes names named n i qs old.cells.items old.arguments old.groups.items old.parts.items gs c.pop.new.self.items c.in-Some-Filled.count (rw c.in-Some-Filled.field-0-is at c.in-Some-Filled.ensures).items h)
