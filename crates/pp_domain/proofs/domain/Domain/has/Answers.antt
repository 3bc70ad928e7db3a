use Rattle.std.proofs.Common.{ap, ◌∙◌}
use Rattle.std.specs.FinSet as set
use Rattle.std.proofs.lemmas.Int.{to_z-of_z}
use Rattle.pp_domain.specs.Sets.{set_of}
use Rattle.pp_domain.proofs.Canonical.{tells_member}
use Rattle.pp_domain.proofs.domain.Domain.has.Goals as goal

pub returns : goal.returns
returns c =
    tells_member _ _ _ _ _ c.self.invariant c.as_slice.ensures.value c.self.view_is c.lies_in.ensures
    ∙ ap (set.contains (set_of c.args.self.now)) (to_z-of_z _ _ c.ranges.value)
