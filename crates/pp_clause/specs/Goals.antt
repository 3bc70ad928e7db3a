-- What a goal that is lent stands for.
use Rattle.std.specs.Prelude.{◌≡◌, List, option_copied}
use Rattle.pp_sld.specs.Goals as goals
use Rattle.pp_term.specs.declared.pred.Pred.{Pred}
use Rattle.pp_term.specs.declared.clause.Goal.{Goal}
use Rattle.pp_term.specs.declared.clause.Clause.{Clause}
use Rattle.pp_term.specs.Meanings.{predicate_of, goal_of, members_by}
use Rattle.pp_row.specs.Reading.{IsForest, forest}
use Rattle.pp_tests.specs.Decisions.{test_of}
use Rattle.pp_clause.specs.declared.goal_at.GoalAt.{GoalAt}
use Rattle.pp_clause.specs.declared.goal_at.Kind.{Kind}
use Rattle.pp_clause.specs.declared.goal_at.Kind.TheVariants.{User, Equate, Member, Test}
use Rattle.pp_clause.specs.Predicates.{Names}

-- the kind asks this
abbrev pub Asks : List Clause → Kind → goals.Shape → Type 0
Asks cs (User n) s = (p : Pred) × Names cs n p × (s ≡ goals.user (predicate_of p))
Asks cs Equate s = s ≡ goals.equals
Asks cs (Member d) s = s ≡ goals.member (members_by (option_copied d))
Asks cs (Test t) s = s ≡ goals.test (test_of t)

pub record IsGoalAt (cs : List Clause) (g : Goal) (d : GoalAt) : Type 0 where
  pub asks : Asks cs d.kind (goal_of g).shape
  pub whole : IsForest d.arguments.now
  pub arguments : forest d.arguments.now ≡ (goal_of g).arguments
