use Rattle.pp_domain.specs.Sets.{set_of}
use Rattle.pp_unify.proofs.Covering.{free_goes}
use Rattle.pp_unify.proofs.cover.reaches.Goals as goal

pub returns-in-Variable : goal.returns-in-Variable
returns-in-Variable c = λ h. free_goes c.args.state.now (set_of c.args.domain.now) c.args.value c.in-Variable.free c.requires.good c.in-Variable.is c.requires.now (c.is_within.ensures h)
