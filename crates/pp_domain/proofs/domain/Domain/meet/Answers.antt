use Rattle.std.proofs.Common.{◌∙◌, sym, subst}
use Rattle.pp_domain.specs.Intervals.{IsDomain}
use Rattle.pp_domain.proofs.Operations.{meet_is}
use Rattle.pp_domain.proofs.domain.Domain.meet.Goals as goal

pub returns : goal.returns
returns c =
    meet_is _ _ _ _ _ _ (c.as_slice.ensures.value ∙ c.self.view_is) (c.as_slice-2.ensures.value ∙ c.other.view_is)
    (subst IsDomain (sym c.as_slice.ensures.value) c.self.invariant) (subst IsDomain (sym c.as_slice-2.ensures.value) c.other.invariant)
    c.in_ok-intervals.ensures.lies c.from_intervals.ensures
