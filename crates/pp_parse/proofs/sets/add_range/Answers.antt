use Rattle.std.proofs.Common.{ap, sym, ◌∙◌}
use Rattle.pp_term.specs.Meanings.{members_by}
use Rattle.pp_parse.specs.Sets.{united}
use Rattle.pp_parse.proofs.Ranges.{range_found, united_with, united_without}
use Rattle.pp_parse.proofs.sets.add_range.Goals as goal

pub returns-in_ok-push_back : goal.returns-in_ok-push_back
returns-in_ok-push_back c =
    ap united c.in_ok-push_back.ensures.items
    ∙ united_with c.args.domains.now.items c.in-Some.domain _ (ap members_by (sym c.in-Some.is) ∙ range_found c.args.ends.low c.args.ends.high c.in_ok-domain.field-0 c.requires.low c.requires.high c.in_ok-domain.ensures)

pub returns-in_default : goal.returns-in_default
returns-in_default c =
    united_without c.args.domains.now.items _ (ap members_by (sym c.in_default.is) ∙ range_found c.args.ends.low c.args.ends.high c.in_ok-domain.field-0 c.requires.low c.requires.high c.in_ok-domain.ensures)
