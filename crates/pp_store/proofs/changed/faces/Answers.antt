use Rattle.std.proofs.Common.{◌<◌, arith, refl, ap, sym, ◌∙◌, subst}
use Rattle.pp_store.specs.Changing.{face_at, face_by}
use Rattle.pp_store.specs.Patterns.{row_in}
use Rattle.pp_store.specs.Queries.{asked_by, goals_in}
use Rattle.pp_store.proofs.Lists.{map_more}
use Rattle.pp_store.proofs.changed.faces.Goals as goal

pub face-requires-clause-below : goal.face-requires-clause-below
face-requires-clause-below c = λ v i. subst (λ n. v < n) (sym c.requires.count) (c.at.ensures.formed.below v i)

pub loop-number-preserved : goal.loop-number-preserved
loop-number-preserved c =
    map_more (face_at (goals_in c.args.goals.now) (row_in c.args.pattern.now)) c.args.numbers.now c.loop-number.faces.items c.push.new.self.items c.loop-number.number-index 0 c.in_ok-face.field-0 (omega (arith, c.loop-number-test.true)) c.loop-number.invariant
    (c.in_ok-face.ensures (asked_by c.at.result).goal refl ∙ sym (ap (face_by (row_in c.args.pattern.now)) c.at.ensures.goal))
    c.in_ok-push.ensures.items
