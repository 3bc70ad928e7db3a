use Rattle.std.proofs.Common.{◌≡◌, [], refl, sym, ◌∙◌}
use Rattle.pp_parse.proofs.Readings.{follows, emptied}
use Rattle.pp_parse.proofs.ReadingMarks.{separates, stands_comma}
use Rattle.pp_parse.proofs.reading.Reading.take_comma.Goals as goal

pub returns-in_ok-push-in-None : goal.returns-in_ok-push-in-None
returns-in_ok-push-in-None c =
    λ names named n i gs qs h.
    let old = c.args.self.now in
    let gone : (old.groups.items ≡ []) × (c.pop.new.self.items ≡ []) = emptied old.groups.items c.pop.new.self.items c.in-None.ensures.items (sym old.groups.ok.0 ∙ c.in-None.ensures.cases.0) in
    follows names named n i _ _ _ _ _ _ _ refl refl gone.1 refl
    (stands_comma names named n i qs old.cells.items old.arguments old.groups.items old.parts.items gs _ gone.0 c.in_ok-push-in-None.ensures.items h)

pub returns-in_ok-push-in-Some-Filled : goal.returns-in_ok-push-in-Some-Filled
returns-in_ok-push-in-Some-Filled c =
    λ names named n i gs qs h.
    let old = c.args.self.now in
    follows names named n i _ _ _ _ _ _ _ refl refl c.in_ok-push-in-Some-Filled.ensures.items refl
    (separates names named n i qs old.cells.items old.arguments old.groups.items old.parts.items gs c.pop.new.self.items _ (rw c.in-Some-Filled.field-0-is at c.in-Some-Filled.ensures).items h)
