use Rattle.std.proofs.Common.{drop, ap, ◌∙◌}
use Rattle.pp_language.specs.Statements.{bare}
use Rattle.pp_language.specs.Fronts.{front_as}
use Rattle.pp_parse.proofs.Fronts.{bare_front}
use Rattle.pp_parse.proofs.Ranges.{bounds_members}
use Rattle.pp_parse.proofs.sets.bare_at.Goals as goal

pub returns-in_default : goal.returns-in_default
returns-in_default g c = bare_front (drop c.args.at g.qs) c.requires.1.1 ∙ ap (front_as bare) c.in_default.ensures

pub returns : goal.returns
returns g c =
    let f = c.in-Some.ensures in
    (bare f.0, bare_front (drop c.args.at g.qs) c.requires.1.1 ∙ ap (front_as bare) f.1, bounds_members f.0 c.in-Some.ends c.in_ok-range.field-0 f.2 c.in_ok-range.ensures, f.3, f.4)
