use Rattle.std.proofs.Common.{◌≡◌, ◌+◌, ◌<◌, [], ◌∷◌, ◌++◌, length, map, get_or, drop, append_assoc, arith, refl, sym, ap, ◌∙◌, subst, rules}
use Rattle.std.proofs.lemmas.List.{map-append}
use Rattle.std.proofs.lemmas.List.Elements.{All-get_or}
use Rattle.pp_term.specs.declared.query.Item.TheVariants.{Infer}
use Rattle.pp_term.specs.WellFormed.{AreArguments, IsItem}
use Rattle.pp_store.specs.declared.goals.Annotated.{Annotated}
use Rattle.pp_store.specs.Queries.{asked_by}
use Rattle.pp_store.proofs.Candidates.{AreListed, one_listed}
use Rattle.pp_store.proofs.Numbering.{goals_from, asked_of, with_goal, without_goal, no_goal_by, goal_below}
use Rattle.pp_store.proofs.goals.GoalIndex.new.Goals as goal
use Rattle.pp_store.proofs.goals.GoalIndex.new.Goals.{in-Infer+in_ok-number+in_ok-name_all+in_ok-push, in_default}

pub name_all-requires : goal.name_all-requires
name_all-requires c =
    let q = c.args.query.now in
    let k = c.loop-item.item-index in
    let is = c.item-item.is ∙ ap (λ es. get_or es k c.item-item.result) c.as_slice-item-items.ensures in
    let l : k < length q.items = omega (arith, c.loop-item-test.true, ap length c.as_slice-item-items.ensures) in
    record {
      below = λ v i.
          let b = goal_below q k c.item-item.result l is c.requires.query c.in-Infer.shape c.in-Infer.arguments c.in-Infer.mode c.in-Infer.is q.vars c.as_slice.result.now refl c.as_slice.ensures v i in
          omega (arith, b, c.loop-item.invariant.listed.count);
    }

pub loop-item-preserved : goal.loop-item-preserved
loop-item-preserved c =
    let q = c.args.query.now in
    let items = q.items in
    let k = c.loop-item.item-index in
    let e = c.item-item.result in
    let is = c.item-item.is ∙ ap (λ es. get_or es k e) c.as_slice-item-items.ensures in
    let l : k < length items = omega (arith, c.loop-item-test.true, ap length c.as_slice-item-items.ensures) in
    let asked = c.loop-item.asked.items in
    let rest = goals_from (drop (k + 1) items) in
    elim c.match-item.branch [
      | in-Infer+in_ok-number+in_ok-name_all+in_ok-push w ↦ (
          let x : Annotated = record { shape = w.in-Infer.shape; arguments = w.as_slice.result; mode = w.in-Infer.mode } in
          let opened = with_goal items k e e l is w.in-Infer.shape w.in-Infer.arguments w.in-Infer.mode w.in-Infer.is in
          let whole : IsItem q.vars e = subst (IsItem q.vars) (sym is) (All-get_or (IsItem q.vars) items k e l c.requires.query.items) in
          let formed : IsItem q.vars (Infer w.in-Infer.shape w.in-Infer.arguments w.in-Infer.mode) = subst (IsItem q.vars) w.in-Infer.is whole in
          let n : w.in_ok-number.number ≡ length asked + 1 = search rules in
          let few : w.in_ok-number.number < 4294967296 = search rules in
          let listed = one_listed q asked w.push.new.self.items c.loop-item.naming w.name_all.new.naming x w.in_ok-number.number c.loop-item.invariant.listed (subst (λ us. AreArguments q.vars w.in-Infer.shape us) (sym w.as_slice.ensures) formed) w.in_ok-push.ensures.items n few w.in_ok-name_all.ensures.more w.in_ok-name_all.ensures.named in
          record {
            listed = subst (λ a. AreListed q a.items c.match-item.naming) (sym w.asked-is) (subst (AreListed q w.push.new.self.items) (sym w.naming-is) listed);
            goals =
                ap (λ a. map asked_by a.items ++ rest) w.asked-is
                ∙ ap (λ xs. map asked_by xs ++ rest) w.in_ok-push.ensures.items
                ∙ ap (λ xs. xs ++ rest) (map-append asked_by asked (x ∷ []))
                ∙ append_assoc (map asked_by asked) (asked_by x ∷ []) rest
                ∙ ap (λ us. map asked_by asked ++ asked_of w.in-Infer.shape us w.in-Infer.mode ∷ rest) w.as_slice.ensures
                ∙ ap (λ gs. map asked_by asked ++ gs) (sym opened)
                ∙ c.loop-item.invariant.goals;
          })
      | in_default w ↦ (
          let same = without_goal items k e e l is (no_goal_by e w.in_default.not-Infer) in
          record {
            listed = subst (λ a. AreListed q a.items c.match-item.naming) (sym w.asked-is) (subst (AreListed q asked) (sym w.naming-is) c.loop-item.invariant.listed);
            goals = ap (λ a. map asked_by a.items ++ rest) w.asked-is ∙ ap (λ gs. map asked_by asked ++ gs) (sym same) ∙ c.loop-item.invariant.goals;
          })
    ]
