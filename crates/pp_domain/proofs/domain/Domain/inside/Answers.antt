use Rattle.pp_domain.proofs.Canonical.{tells_inclusion}
use Rattle.pp_domain.proofs.domain.Domain.inside.Goals as goal

pub returns : goal.returns
returns c =
    tells_inclusion _ _ _ _ _ _ _ c.self.invariant c.other.invariant c.as_slice.ensures.value c.self.view_is c.as_slice-2.ensures.value c.other.view_is c.all_lie.ensures
