-- A goal that is lent from a well-formed clause has as many arguments as its kind.
use Rattle.std.proofs.Common.{◌≡◌, ℕ, List, refl, sym, ◌∙◌, subst}
use Rattle.pp_algebra.specs.Terms.{count}
use Rattle.pp_algebra.specs.Rows.{Row}
use Rattle.pp_sld.specs.BuiltIns as built_ins
use Rattle.pp_sld.specs.Goals.{Shape, user, equals, member, test}
use Rattle.pp_row.specs.Reading.{forest}
use Rattle.pp_term.specs.declared.pred.Shape.TheVariants.{User, Plus, Times, Indomain}
use Rattle.pp_term.specs.declared.pred.Relation.TheVariants.{Less, AtMost, Equal, Differ}
use Rattle.pp_term.specs.declared.clause.Goal.{Goal}
use Rattle.pp_term.specs.declared.clause.Goal.TheVariants.{Call, Equate, Member, Compare}
use Rattle.pp_term.specs.declared.clause.Clause.{Clause}
use Rattle.pp_term.specs.Meanings.{goal_of}
use Rattle.pp_term.specs.WellFormed.{IsGoal}
use Rattle.pp_tests.specs.declared.built_in.Test.{Test}
use Rattle.pp_tests.specs.declared.built_in.Test.TheVariants as tests
use Rattle.pp_tests.specs.Decisions.{test_of}
use Rattle.pp_unify.specs.Forests.{AreOver}
use Rattle.pp_clause.specs.declared.goal_at.GoalAt.{GoalAt}
use Rattle.pp_clause.specs.declared.goal_at.Kind.{Kind}
use Rattle.pp_clause.specs.declared.goal_at.Kind.TheVariants as kinds
use Rattle.pp_clause.specs.Goals.{Asks, IsGoalAt}
use Rattle.pp_goal.specs.Arguments.{arity_of, HasArity, IsLent, terms_of}
use Rattle.pp_row.proofs.ColumnLists.{count-trees_of}

-- by the definition's own names
abbrev places : built_ins.Test → ℕ
places built_ins.less = 2
places built_ins.at_most = 2
places built_ins.equal = 2
places built_ins.differ = 2
places built_ins.plus = 3
places built_ins.times = 3
places built_ins.indomain = 1

abbrev HasPlaces : Shape → ℕ → Type 0
HasPlaces (user p) k = Unit {0}
HasPlaces equals k = k ≡ 2
HasPlaces (member d) k = k ≡ 1
HasPlaces (test t) k = k ≡ places t

same_places : (t : Test) → places (test_of t) ≡ arity_of t
same_places tests.Less = refl
same_places tests.AtMost = refl
same_places tests.Equal = refl
same_places tests.Differ = refl
same_places tests.Plus = refl
same_places tests.Times = refl
same_places tests.Indomain = refl

has_places : (n : ℕ) (g : Goal) → IsGoal n g → HasPlaces (goal_of g).shape (count (goal_of g).arguments)
has_places n (Call (User p) ts) h = tt
has_places n (Call Plus ts) h = count-trees_of ts ∙ h.count
has_places n (Call Times ts) h = count-trees_of ts ∙ h.count
has_places n (Call Indomain ts) h = count-trees_of ts ∙ h.count
has_places n (Equate a b) h = refl
has_places n (Member t d) h = refl
has_places n (Compare Less a b) h = refl
has_places n (Compare AtMost a b) h = refl
has_places n (Compare Equal a b) h = refl
has_places n (Compare Differ a b) h = refl

asked : (cs : List Clause) (k : Kind) (s : Shape) (m : ℕ) → Asks cs k s → HasPlaces s m → HasArity k m
asked cs (kinds.User n) s m a h = tt
asked cs kinds.Equate s m a h = subst (λ x. HasPlaces x m) a h
asked cs (kinds.Member d) s m a h = subst (λ x. HasPlaces x m) a h
asked cs (kinds.Test t) s m a h = subst (λ x. HasPlaces x m) a h ∙ same_places t

pub goal_arity : (cs : List Clause) (n : ℕ) (g : Goal) (d : GoalAt) → IsGoalAt cs g d → IsGoal n g → HasArity d.kind (count (forest d.arguments.now))
goal_arity cs n g d i h = asked cs d.kind (goal_of g).shape (count (forest d.arguments.now)) i.asks (subst (λ ts. HasPlaces (goal_of g).shape (count ts)) (sym i.arguments) (has_places n g h))

-- what is lent of a body's goal may be acted on
pub goal_is_lent : (cs : List Clause) (n : ℕ) (g : Goal) (d : GoalAt) (r : Row) (first : ℕ) → IsGoalAt cs g d → IsGoal n g → AreOver r (terms_of d first) → IsLent r d first
goal_is_lent cs n g d r first i h o = record { whole = i.whole; over = o; arity = goal_arity cs n g d i h }
