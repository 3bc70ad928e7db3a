use Rattle.pp_parse.proofs.FoundItems.{no_goal, goal_found}
use Rattle.pp_parse.proofs.items.infer_at.Goals as goal

pub returns-in_err-mode : goal.returns-in_err-mode
returns-in_err-mode g c = rw c.from_residual.ensures (no_goal g.qs c.args.at c.in_err-mode.ensures)

pub returns : goal.returns
returns g c = goal_found g.qs c.args.at c.in_ok-mode.mode c.if-not-has_callable.ensures c.in_ok-mode.ensures
