use Rattle.std.proofs.Common.{◌∙◌, sym, subst}
use Rattle.std.proofs.lemmas.Int.{to_z-of_z}
use Rattle.pp_domain.specs.Intervals.{IsDomain}
use Rattle.pp_domain.proofs.Operations.{without_is}
use Rattle.pp_domain.proofs.domain.Domain.without.Goals as goal

pub returns : goal.returns
returns c =
    without_is _ _ _ _ _ _ (c.as_slice.ensures.value ∙ c.self.view_is) (to_z-of_z _ _ c.ranges.value)
    (subst IsDomain (sym c.as_slice.ensures.value) c.self.invariant)
    c.in_ok-intervals.ensures.others c.from_intervals.ensures
