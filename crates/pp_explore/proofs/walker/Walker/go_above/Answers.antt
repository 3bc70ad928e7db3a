use Rattle.std.proofs.Common.{◌∙◌}
use Rattle.pp_explore.proofs.Standing.{map_ok}
use Rattle.pp_explore.proofs.Arriving.{above_of, misses_above, misses_last}
use Rattle.pp_explore.proofs.walker.Walker.go_above.Goals as goal

pub returns-then-not-branch-clause-missed : goal.returns-then-not-branch-clause-missed
returns-then-not-branch-clause-missed g c = λ e.
    misses_above (g.M.SearchMachine.clauses c.args.self.now.machine) (g.M.SearchMachine.place c.args.self.now.machine) c.args.self.now.path.items c.args.levels.now c.requires (c.in_ok-go_to.ensures.missed c.if-not-branch.true)

pub returns-clause-above : goal.returns-clause-above
returns-clause-above g c =
    map_ok c.pass_again.result (λ b f e. above_of c.args.levels.now c.pass_again.new.self.path.items c.requires (c.pass_again.ensures.path ∙ c.in_ok-go_to.ensures.there c.if-not-branch.false)) c.pass_again.ensures.choice

pub returns-clause-missed : goal.returns-clause-missed
returns-clause-missed g c =
    map_ok c.pass_again.result (λ b f e. misses_last (g.M.SearchMachine.clauses c.args.self.now.machine) (g.M.SearchMachine.place c.args.self.now.machine) c.args.self.now.path.items c.args.levels.now (g.M.SearchMachine.place c.go_to.new.self.machine) c.go_to.new.self.path.items c.requires (c.in_ok-go_to.ensures.there c.if-not-branch.false) c.go_to.ensures.stands (f e))
    (rw c.in_ok-go_to.ensures.clauses at c.pass_again.ensures.missed)
