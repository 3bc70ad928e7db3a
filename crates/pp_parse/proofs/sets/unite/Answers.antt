use Rattle.std.proofs.Common.{◌∷◌, ap, sym, ◌∙◌}
use Rattle.pp_parse.specs.Sets.{united}
use Rattle.pp_parse.proofs.Ranges.{united_turn, united_one, own_rest}
use Rattle.pp_parse.proofs.sets.unite.Goals as goal

pub returns-in_default-pop_front : goal.returns-in_default-pop_front
returns-in_default-pop_front c =
    let rest = own_rest c.pop_front.new.self.items c.pop_front-in-loop-first.new.self.items c.in_default-pop_front.ensures.items c.in_default-pop_front.ensures.rest in
    sym (united_one c.in-Some.first) ∙ ap (λ ds. united (c.in-Some.first ∷ ds)) (sym rest) ∙ ap united (sym c.in-Some.ensures.items) ∙ c.loop-first.invariant

pub loop-first-preserved : goal.loop-first-preserved
loop-first-preserved c =
    let first = c.in-Some.first in
    let second = c.in-Some-pop_front.second in
    let rest = c.pop_front-in-loop-first.new.self.items in
    ap united c.in_ok-push_back.ensures.items
    ∙ united_turn first second c.in_ok-union.field-0 rest c.in_ok-union.ensures.1
    ∙ ap (λ ds. united (first ∷ ds)) (sym c.in-Some-pop_front.ensures.items)
    ∙ ap united (sym c.in-Some.ensures.items)
    ∙ c.loop-first.invariant
