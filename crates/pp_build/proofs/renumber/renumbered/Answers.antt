use Rattle.std.proofs.Common.{ap, ◌∙◌}
use Rattle.std.specs.Prelude.{nat_eq}
use Rattle.pp_algebra.specs.Canon.{firsts}
use Rattle.pp_build.specs.Renumbered.{variables_in}
use Rattle.pp_build.proofs.Numbering.{clause_numbered}
use Rattle.pp_build.proofs.renumber.renumbered.Goals as goal

pub returns : goal.returns
returns c =
    clause_numbered c.args.clause c.in_ok-head.head c.in_ok-body.body c.number_terms.new.seen.keys c.number_goals.new.seen.keys
    (c.in_ok-head.ensures.seen ∙ ap (λ ks. firsts nat_eq ks (variables_in c.args.clause.head)) c.new-seen.ensures.empty)
    c.in_ok-head.ensures.terms c.in_ok-body.ensures.seen c.in_ok-body.ensures.goals
