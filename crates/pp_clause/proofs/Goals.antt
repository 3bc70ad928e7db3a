-- A goal that is lent.
use Rattle.std.proofs.Common.{◌≡◌, ◌-◌, List, ℕ, ℤ, Option, option_copied, take, drop, sym, ap, ◌∙◌, subst}
use Rattle.std.specs.Borrow.{Bor}
use Rattle.pp_algebra.specs.Rows.{Domain}
use Rattle.pp_row.specs.declared.cell.Cell.{Cell}
use Rattle.pp_row.specs.Reading.{IsForest, forest}
use Rattle.pp_sld.specs.Goals as goals
use Rattle.pp_term.specs.declared.clause.Goal.{Goal}
use Rattle.pp_term.specs.declared.clause.Clause.{Clause}
use Rattle.pp_term.specs.Meanings.{goal_of, members_by}
use Rattle.pp_tests.specs.declared.built_in.Test.{Test}
use Rattle.pp_clause.specs.declared.code.Code.{Code}
use Rattle.pp_clause.specs.declared.code.Code.TheVariants as codes
use Rattle.pp_clause.specs.declared.code.CodedGoal.{CodedGoal}
use Rattle.pp_clause.specs.declared.goal_at.GoalAt.{GoalAt}
use Rattle.pp_clause.specs.declared.goal_at.Kind.{Kind}
use Rattle.pp_clause.specs.declared.goal_at.Kind.TheVariants as kinds
use Rattle.pp_clause.specs.Goals.{Asks, IsGoalAt}
use Rattle.pp_clause.specs.Predicates.{predicates}
use Rattle.pp_clause.specs.Table.{IsCodeOf, IsCodedGoal}

module _ (cs : List Clause) (code : Code) (k : Kind) (s : goals.Shape) where
  pub user_asks : (n : ℕ) → code ≡ codes.User n → k ≡ kinds.User n → IsCodeOf (predicates cs) code s → Asks cs k s
  user_asks n e f h =
      let g = subst (λ d. IsCodeOf (predicates cs) d s) e h in
      subst (λ j. Asks cs j s) (sym f) (g.0, g.1.number, g.2)

  pub equate_asks : code ≡ codes.Equate → k ≡ kinds.Equate → IsCodeOf (predicates cs) code s → Asks cs k s
  equate_asks e f h = subst (λ j. Asks cs j s) (sym f) (subst (λ d. IsCodeOf (predicates cs) d s) e h)

  pub test_asks : (t : Test) → code ≡ codes.Test t → k ≡ kinds.Test t → IsCodeOf (predicates cs) code s → Asks cs k s
  test_asks t e f h = subst (λ j. Asks cs j s) (sym f) (subst (λ d. IsCodeOf (predicates cs) d s) e h)

  pub member_asks : (d : Option (Bor (List (ℤ × ℤ)))) → code ≡ codes.Member → k ≡ kinds.Member d → ((e : Domain) → s ≡ goals.member e → s ≡ goals.member (members_by (option_copied d))) → IsCodeOf (predicates cs) code s → Asks cs k s
  member_asks d e f g h =
      let m = subst (λ d. IsCodeOf (predicates cs) d s) e h in
      subst (λ j. Asks cs j s) (sym f) (g m.0 m.1)

pub goal_at : (cs : List Clause) (cells : List Cell) (g : Goal) (x : CodedGoal) (d : GoalAt) → IsCodedGoal cells (predicates cs) x g → Asks cs d.kind (goal_of g).shape
    → d.arguments.now ≡ take (x.span.end - x.span.start) (drop x.span.start cells) → IsGoalAt cs g d
goal_at cs cells g x d h a e = record { asks = a; whole = subst IsForest (sym e) h.span.whole; arguments = ap (λ ds. forest ds) e ∙ h.span.reads }
