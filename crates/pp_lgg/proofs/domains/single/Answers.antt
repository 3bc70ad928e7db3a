use Rattle.std.proofs.lemmas.Int.{to_z-of_z}
use Rattle.pp_lgg.proofs.Unions.{one_integer}
use Rattle.pp_lgg.proofs.domains.single.Goals as goal

pub returns : goal.returns
returns c = one_integer c.range.result _ c.args.value (to_z-of_z _ _ c.ranges.value) c.range.ensures
