use Rattle.std.proofs.Common.{◌≡◌, ℤ, pos}
use Rattle.std.specs.Prelude.{◌↔◌, ◌≢◌}
use Rattle.std.proofs.lemmas.Int.{to_z-of_z}
use Rattle.std.proofs.lemmas.Result.{IfOk-weaker}
use Rattle.pp_domain.specs.Intervals.{Lies}
use Rattle.pp_domain.proofs.Positions.{place_tells, past_all}
use Rattle.pp_domain.proofs.Without.{none_there}
use Rattle.pp_domain.proofs.places.without_value.Goals as goal
use Rattle.pp_domain.proofs.places.without_value.Goals.{else-place-intervals-via-then-place-intervals+else-intervals-place, else-place-intervals-via-else-place-intervals}

never : (c : goal.After-from_slice) → Lies c.args.intervals.now c.args.value → ⊥
never c l = elim c.else-place-intervals.branch [
  | else-place-intervals-via-then-place-intervals+else-intervals-place w ↦
      (let h = (place_tells c.args.intervals.now c.args.value _ _ (pos 0, pos 0) (to_z-of_z _ _ c.ranges.value) c.requires w.if-place-intervals.true c.ended_below-place.ensures.before c.ended_below-place.ensures.after).1 l in
      let k = w.if-intervals-place.false in
      absurd (cc))
  | else-place-intervals-via-else-place-intervals w ↦ past_all _ _ _ _ (to_z-of_z _ _ c.ranges.value) w.if-place-intervals.false c.ended_below-place.ensures.bound c.ended_below-place.ensures.before l
]

pub returns-else-place-intervals-clause-others : goal.returns-else-place-intervals-clause-others
returns-else-place-intervals-clause-others c =
    IfOk-weaker c.from_slice.result (λ rest. rest.items ≡ c.args.intervals.now) (λ rest. (v : ℤ) → Lies rest.items v ↔ (Lies c.args.intervals.now v × (v ≢ c.args.value)))
    (λ rest e v. none_there c.args.intervals.now rest.items v c.args.value e (never c)) c.from_slice.ensures.items
