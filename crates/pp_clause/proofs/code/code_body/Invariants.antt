use Rattle.std.proofs.Common.{◌≡◌, map, take}
use Rattle.std.specs.List.{flat_map}
use Rattle.pp_algebra.specs.Canon.{firsts}
use Rattle.pp_clause.specs.Predicates.{same_pred, called}
use Rattle.pp_clause.specs.Table.{pred_of, IsGrown, AreCodedGoals}
use Rattle.pp_clause.proofs.code.code_body.Given as goal

abbrev pub invariant-loop-goal : goal.invariant-loop-goal
invariant-loop-goal l = record {
  predicates : map pred_of l.predicates.keys ≡ firsts same_pred (map pred_of l.fn.predicates.keys) (flat_map called (take l.goal-index l.goals));
  goals : AreCodedGoals l.cells.items (map pred_of l.predicates.keys) l.body.items (take l.goal-index l.goals);
  cells : IsGrown l.fn.cells.items l.cells.items;
  grown : IsGrown (map pred_of l.fn.predicates.keys) (map pred_of l.predicates.keys);
}
