use Rattle.std.proofs.Common.{◌≡◌, ◌+◌, ◌++◌, ◌∷◌, [], map, take, ap, sym, ◌∙◌, subst, arith, append-nil}
use Rattle.std.specs.List.{flat_map}
use Rattle.std.proofs.lemmas.List.{take_more}
use Rattle.std.proofs.lemmas.List.Concat.{flat_map-append}
use Rattle.pp_algebra.specs.Canon.{firsts}
use Rattle.pp_row.proofs.Numbering.{firsts-append}
use Rattle.pp_clause.specs.Predicates.{same_pred, called}
use Rattle.pp_clause.specs.Table.{pred_of, AreCodedGoals}
use Rattle.pp_clause.proofs.Numbers.{grown_twice}
use Rattle.pp_clause.proofs.Spans.{goals_stay, goals_push}
use Rattle.pp_clause.proofs.code.code_body.Goals as goal

pub loop-goal-preserved : goal.loop-goal-preserved
loop-goal-preserved c =
    let gs = c.args.goals.now in
    let i = c.loop-goal.goal-index in
    let g = c.goal-item.result in
    let h = c.loop-goal.invariant in
    let e = c.in_ok-code_goal.ensures in
    let cells = c.loop-goal.cells.items in
    let after = c.code_goal.new.cells.items in
    let old = map pred_of c.args.predicates.now.keys in
    let ps = map pred_of c.loop-goal.predicates.keys in
    let qs = map pred_of c.code_goal.new.predicates.keys in
    let one : take (i + 1) gs ≡ take i gs ++ g ∷ [] = take_more gs i g (omega arith) ∙ ap (λ x. take i gs ++ x ∷ []) (sym c.goal-item.is) in
    let calls : flat_map called (take (i + 1) gs) ≡ flat_map called (take i gs) ++ called g =
    ap (flat_map called) one ∙ flat_map-append called (take i gs) (g ∷ []) ∙ ap (λ x. flat_map called (take i gs) ++ x) (append-nil (called g)) in
    record {
      predicates =
          e.predicates ∙ ap (λ x. firsts same_pred x (called g)) h.predicates
          ∙ sym (firsts-append same_pred old (flat_map called (take i gs)) (called g)) ∙ ap (firsts same_pred old) (sym calls);
      goals = subst (AreCodedGoals after qs c.push.new.self.items) (sym one) (subst (λ xs. AreCodedGoals after qs xs (take i gs ++ g ∷ [])) (sym c.in_ok-push.ensures.items)
          (goals_push after qs c.loop-goal.body.items (take i gs) c.in_ok-code_goal.field-0 g (goals_stay cells after ps qs e.cells e.grown c.loop-goal.body.items (take i gs) h.goals) e.goal));
      cells = grown_twice c.args.cells.now.items cells after h.cells e.cells;
      grown = grown_twice old ps qs h.grown e.grown;
    }
