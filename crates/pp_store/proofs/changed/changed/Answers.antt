use Rattle.std.proofs.Common.{◌<◌, ◌∷◌, [], ◌++◌, length, get_or, take, append-nil, arith, refl, ap, sym, ◌∙◌, subst}
use Rattle.std.specs.Prelude.{cond, filter, not}
use Rattle.pp_store.specs.Changing.{face_at, face_by, differs}
use Rattle.pp_store.specs.Patterns.{row_in}
use Rattle.pp_store.specs.Queries.{asked_by, goals_in}
use Rattle.pp_store.proofs.ChangedFaces.{same_tells}
use Rattle.pp_store.proofs.Lists.{filter_more, get_map}
use Rattle.pp_store.proofs.changed.changed.Goals as goal
use Rattle.pp_store.proofs.changed.changed.Goals.{then-not-same+in_ok-push, else-not-same}

pub face-requires-clause-below : goal.face-requires-clause-below
face-requires-clause-below c = λ v i. subst (λ n. v < n) (sym c.requires.count) (c.at.ensures.formed.below v i)

pub loop-i-preserved : goal.loop-i-preserved
loop-i-preserved c = λ old e.
    let gs = goals_in c.args.goals.now in
    let new = row_in c.args.pattern.now in
    let ks = c.args.numbers.now in
    let i = c.loop-i.i in
    let l : i < length ks = omega (arith, c.loop-i-test.true) in
    let before = c.index-before-i.is ∙ ap (λ rs. get_or rs i c.index-before-i.result) e ∙ get_map (face_at gs old) ks i 0 c.index-before-i.result l in
    let after = c.in_ok-after.ensures (asked_by c.at.result).goal refl ∙ sym (ap (face_by new) c.at.ensures.goal) in
    let told = same_tells c.index-before-i.result c.in_ok-after.after (face_at gs old (get_or ks i 0)) (face_at gs new (get_or ks i 0)) c.same.result c.same.ensures before after in
    let more = filter_more (differs gs old new) ks i l in
    elim c.if-not-same.branch [
      | then-not-same+in_ok-push w ↦ (
          ap (λ x. x.items) w.changed-is
          ∙ w.in_ok-push.ensures.items
          ∙ ap (λ xs. xs ++ get_or ks i 0 ∷ []) (c.loop-i.invariant old e)
          ∙ ap (λ b. filter (differs gs old new) (take i ks) ++ cond (not b) (get_or ks i 0 ∷ []) []) (sym w.if-not-same.true ∙ told)
          ∙ sym more)
      | else-not-same w ↦ (
          ap (λ x. x.items) w.changed-is
          ∙ c.loop-i.invariant old e
          ∙ sym (append-nil (filter (differs gs old new) (take i ks)))
          ∙ ap (λ b. filter (differs gs old new) (take i ks) ++ cond (not b) (get_or ks i 0 ∷ []) []) (sym w.if-not-same.false ∙ told)
          ∙ sym more)
    ]
