use Rattle.pp_resolve.specs.Shown.{root_of}
use Rattle.pp_resolve.proofs.Showing.{shown_in}
use Rattle.pp_resolve.proofs.root.goal_at.Goals as goal

pub returns-in-Some : goal.returns-in-Some
returns-in-Some c = shown_in c.args.clauses.now (root_of c.args.root.now) c.args.rest.body c.in-Some.number c.args.rest.from c.goal.result c.in-Some.is c.requires.formed c.goal.ensures
