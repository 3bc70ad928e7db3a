use Rattle.std.proofs.Common.{◌≡◌, length, rules}
use Rattle.pp_term.specs.Meanings.{goal_of}
use Rattle.pp_clause.proofs.Spans.{spanned}
use Rattle.pp_clause.proofs.code.code_goal.Goals as goal

pub returns-clause-goal : goal.returns-clause-goal
returns-clause-goal c =
    let old = c.args.cells.now.items in
    let new = c.push_arguments.new.cells.items in
    let a : c.len-start.result ≡ length old = search rules in
    let b : c.len.result ≡ length new = search rules in
    record {
      code = c.in_ok-code.ensures.code;
      span = spanned old new (record { start = c.len-start.result; end = c.len.result }) (goal_of c.args.goal.now).arguments c.in_ok-push_arguments.ensures.cells c.in_ok-push_arguments.ensures.legal a b;
    }
