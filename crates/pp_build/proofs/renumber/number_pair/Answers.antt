use Rattle.std.proofs.Common.{◌∙◌}
use Rattle.pp_build.proofs.Numbering.{pair_seen, first_keeps}
use Rattle.pp_build.proofs.renumber.number_pair.Goals as goal

pub returns-clause-seen : goal.returns-clause-seen
returns-clause-seen c = pair_seen c.args.seen.now.keys c.numbered.new.names.keys c.numbered-2.new.names.keys c.args.left c.args.right c.in_ok-left.ensures.names c.in_ok-numbered.ensures.names

pub returns-clause-left : goal.returns-clause-left
returns-clause-left c = c.in_ok-left.ensures.term ∙ first_keeps c.args.seen.now.keys c.numbered.new.names.keys c.numbered-2.new.names.keys c.args.left _ c.in_ok-left.ensures.names c.in_ok-numbered.ensures.names
