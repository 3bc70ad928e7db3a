use Rattle.std.proofs.Common.{drop, sym, ap, ◌∙◌}
use Rattle.std.specs.Prelude.{option_map}
use Rattle.pp_language.specs.Meanings.{integer_of}
use Rattle.pp_language.specs.Fronts.{integer_in}
use Rattle.pp_parse.proofs.Fronts.{upper_behind, next_place}
use Rattle.pp_parse.proofs.sets.upper_at.Goals as goal

pub returns-then-has_mark-clause-value : goal.returns-then-has_mark-clause-value
returns-then-has_mark-clause-value g c =
    c.integer_at.ensures.value
    ∙ ap (λ ps. option_map integer_of (integer_in ps)) (next_place c.args.at g.qs)
    ∙ ap (option_map integer_of) (sym (upper_behind (drop c.args.at g.qs) (c.has_mark.ensures.0 c.if-has_mark.true)))
