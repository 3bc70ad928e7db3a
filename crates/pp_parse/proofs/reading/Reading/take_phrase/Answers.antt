use Rattle.std.proofs.Common.{◌≡◌, ◌+◌, [], refl, ap, sym, ◌∙◌, reverse}
use Rattle.pp_parse.proofs.Readings.{emptied, follows, fills, ends, ended}
use Rattle.pp_parse.proofs.reading.Reading.take_phrase.Goals as goal

pub returns-in_ok-end_part-in-None : goal.returns-in_ok-end_part-in-None
returns-in_ok-end_part-in-None c =
    λ names named n m s p head h.
    let old = c.args.self.now in
    let new = c.pop.new.self.items in
    let gone : (old.groups.items ≡ []) × (new ≡ []) = emptied old.groups.items new c.in-None.ensures.items (sym old.groups.ok.0 ∙ c.in-None.ensures.cases.0) in
    let e = ends names named n m c.args.first p c.args.cell s.arguments s.parts old.cells.items old.arguments old.groups.items old.parts.items head s.groups gone.0 h in
    ended names named n m c.args.first p c.args.cell s.arguments s.parts old.cells.items old.arguments old.groups.items old.parts.items head s.groups c.end_part.new.self e
    (c.in_ok-end_part-in-None.ensures names named n p s.parts refl gone.1 (ap reverse c.in_ok-push.ensures.items ∙ e.cells_end) e.parts_end)

pub returns-in_ok-push-in-Some-Wanting : goal.returns-in_ok-push-in-Some-Wanting
returns-in_ok-push-in-Some-Wanting c =
    λ names named n m s p head h.
    let old = c.args.self.now in
    follows names named n c.args.first _ _ _ _ _ _ _ c.in_ok-push.ensures.items refl c.in_ok-push-in-Some-Wanting.ensures.items refl
    (fills names named n m c.args.first p c.args.cell s.arguments s.parts old.cells.items old.arguments old.groups.items old.parts.items head s.groups c.pop.new.self.items c.in-Some-Wanting.count _ (rw c.in-Some-Wanting.field-0-is at c.in-Some-Wanting.ensures).items (ap (λ x. x + 1) c.in-Some-Wanting.count-is) h)
