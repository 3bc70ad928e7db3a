use Rattle.pp_find.proofs.Same.{same_by}
use Rattle.pp_find.proofs.parts.same_rows.Goals as goal

pub returns : goal.returns
returns c = same_by c.args.a.now c.args.b.now c.same.result c.same.ensures
