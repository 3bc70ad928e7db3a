use Rattle.std.proofs.Common.{pos, arith}
use Rattle.std.proofs.lemmas.Int.{to_z-of_z}
use Rattle.std.proofs.lemmas.Bool.Decides.{Decides-ltb}
use Rattle.pp_domain.proofs.Positions.{place_tells, past_all}
use Rattle.pp_domain.proofs.places.lies_in.Goals as goal

pub returns-then-place-intervals : goal.returns-then-place-intervals
returns-then-place-intervals c =
    place_tells _ _ _ _ (pos 0, pos 0) (to_z-of_z _ _ c.ranges.value) c.requires c.if-place-intervals.true c.ended_below-place.ensures.before c.ended_below-place.ensures.after

pub returns-else-place-intervals : goal.returns-else-place-intervals
returns-else-place-intervals c =
    let never = past_all _ _ _ _ (to_z-of_z _ _ c.ranges.value) c.if-place-intervals.false c.ended_below-place.ensures.bound c.ended_below-place.ensures.before in
    (λ h. let less = (Decides-ltb _ _).0 h in absurd (omega (arith, less, c.if-place-intervals.false)), λ l. absurd (never l))
