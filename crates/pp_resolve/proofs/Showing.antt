-- Goals of bodies as they are lent.
use Rattle.std.proofs.Common.{◌≡◌, ℕ, zero, suc, ◌<◌, List, [], ◌∷◌, length, map, All, Option, None, Some, refl, ap, sym, ◌∙◌, subst, arith}
use Rattle.std.specs.List.{slice_get}
use Rattle.std.proofs.lemmas.List.Elements.{All-head, All-tail}
use Rattle.pp_algebra.specs.Terms.{Tree, count}
use Rattle.pp_algebra.specs.Rows.{Row}
use Rattle.pp_sld.specs.Goals as goals
use Rattle.pp_tests.specs.Decisions.{test_of}
use Rattle.pp_tests.specs.declared.built_in.Test.{Test}
use Rattle.pp_tests.specs.declared.built_in.Test.TheVariants as tests
use Rattle.pp_row.specs.Columns.{trees_of}
use Rattle.pp_row.specs.Reading.{IsForest, forest}
use Rattle.pp_term.specs.declared.pred.Shape.{Shape}
use Rattle.pp_term.specs.declared.pred.Shape.TheVariants.{User, Plus, Times, Indomain}
use Rattle.pp_term.specs.declared.clause.Goal.{Goal}
use Rattle.pp_term.specs.declared.clause.Goal.TheVariants.{Call, Equate, Member, Compare}
use Rattle.pp_term.specs.declared.clause.Clause.{Clause}
use Rattle.pp_term.specs.declared.pred.Relation.TheVariants.{Less, AtMost, Equal, Differ}
use Rattle.pp_term.specs.Meanings.{goal_of, shape_of}
use Rattle.pp_term.specs.WellFormed.{IsGoal, arguments_of}
use Rattle.pp_clause.specs.Goals.{Asks, IsGoalAt}
use Rattle.pp_clause.specs.declared.goal_at.GoalAt.{GoalAt}
use Rattle.pp_clause.specs.declared.goal_at.Kind.{Kind}
use Rattle.pp_clause.specs.declared.goal_at.Kind.TheVariants as kinds
use Rattle.pp_unify.specs.Forests.{counted_all, AreOver}
use Rattle.pp_resolve.specs.declared.root.Root.{Root}
use Rattle.pp_goal.specs.Arguments as lent
use Rattle.pp_goal.specs.Arguments.{IsLent, HasArity}
use Rattle.pp_resolve.specs.Links.{goals_at, body_of, IsFormed, IsFormedAt}
use Rattle.pp_resolve.specs.Shown.{width_of, arity_of, IsShown, root_of, IsRoot}

pub count-trees : (ts : List (Tree ℕ)) → count (trees_of ts) ≡ length ts
count-trees [] = refl
count-trees (t ∷ ts) = ap suc (count-trees ts)

call_full : (s : Shape) (n : ℕ) → n ≡ arguments_of s → n ≡ width_of (shape_of s)
call_full (User p) n e = e
call_full Plus n e = e
call_full Times n e = e
call_full Indomain n e = e

goal_full : (n : ℕ) (g : Goal) → IsGoal n g → count (goal_of g).arguments ≡ width_of (goal_of g).shape
goal_full n (Call s ts) h = call_full s (count (trees_of ts)) (count-trees ts ∙ h.count)
goal_full n (Equate a b) h = refl
goal_full n (Member t d) h = refl
goal_full n (Compare Less a b) h = refl
goal_full n (Compare AtMost a b) h = refl
goal_full n (Compare Equal a b) h = refl
goal_full n (Compare Differ a b) h = refl

pub unmapped : {A B : Type 0} (f : A → B) (xs : List A) (i : ℕ) (y : B) → slice_get (map f xs) i ≡ Some y → (x : A) × (slice_get xs i ≡ Some x) × (f x ≡ y)
unmapped f [] i y e = absurd (cc e)
unmapped f (x ∷ xs) zero y e = (x, refl, cc e)
unmapped f (x ∷ xs) (suc i) y e = unmapped f xs i y e

pub all_at : {A : Type 0} (P : A → Type 0) (xs : List A) (i : ℕ) (x : A) → All P xs → slice_get xs i ≡ Some x → P x
all_at P [] i x h e = absurd (cc e)
all_at P (y ∷ ys) zero x h e = subst P (cc e) (All-head P y ys h)
all_at P (y ∷ ys) (suc i) x h e = all_at P ys i x (All-tail P y ys h) e

-- a goal of a clause's body
pub shown_in : (cs : List Clause) (root : goals.Goal ℕ) (body : Option ℕ) (n from : ℕ) (d : GoalAt) → body ≡ Some n → IsFormed cs body
    → ((c : Clause) (g : Goal) → slice_get cs n ≡ Some c → slice_get c.body from ≡ Some g → IsGoalAt cs g d)
    → (g : goals.Goal ℕ) → slice_get (body_of cs root body) from ≡ Some g → IsShown cs g d
shown_in cs root body n from d b h ens g e = go (slice_get cs n) refl (subst (IsFormed cs) b h) (subst (λ x. slice_get (body_of cs root x) from ≡ Some g) b e)
  where
    go : (o : Option Clause) → slice_get cs n ≡ o → IsFormedAt o → slice_get (goals_at o) from ≡ Some g → IsShown cs g d
    go None s f x = absurd f
    go (Some c) s f x =
        let u = unmapped goal_of c.body from g x in
        let at = ens c u.0 s u.1 in
        subst (λ y. IsShown cs y d) u.2 (record { asks = at.asks; whole = at.whole; arguments = at.arguments; full = goal_full c.vars u.0 (all_at (IsGoal c.vars) c.body from u.0 f.body u.1) })

-- it stands in a clause's body
pub stands_in : (cs : List Clause) (root : goals.Goal ℕ) (body : Option ℕ) (n from : ℕ) → body ≡ Some n → IsFormed cs body → from < length (body_of cs root body) → (c : Clause) × (slice_get cs n ≡ Some c) × (from < length c.body)
stands_in cs root body n from b h w = go (slice_get cs n) refl (subst (IsFormed cs) b h) (subst (λ x. from < length (body_of cs root x)) b w)
  where
    mapped : (gs : List Goal) → length (map goal_of gs) ≡ length gs
    mapped [] = refl
    mapped (g ∷ gs) = ap suc (mapped gs)

    go : (o : Option Clause) → slice_get cs n ≡ o → IsFormedAt o → from < length (goals_at o) → (c : Clause) × (slice_get cs n ≡ Some c) × (from < length c.body)
    go None s f x = absurd f
    go (Some c) s f x = (c, s, omega (arith, x, mapped c.body))

-- the goal that is searched
pub shown_root : (cs : List Clause) (r : Root) (body : Option ℕ) (from : ℕ) (d : GoalAt) → body ≡ None → IsRoot cs r → Asks cs d.kind (shape_of r.shape) → d.arguments.now ≡ r.cells.items
    → (g : goals.Goal ℕ) → slice_get (body_of cs (root_of r) body) from ≡ Some g → IsShown cs g d
shown_root cs r body from d b h a c g e = go from (subst (λ x. slice_get (body_of cs (root_of r) x) from ≡ Some g) b e)
  where
    it : IsShown cs (root_of r) d
    it = record { asks = a; whole = subst IsForest (sym c) h.whole; arguments = ap forest c; full = call_full r.shape (count (forest r.cells.items)) h.width }

    go : (i : ℕ) → slice_get (root_of r ∷ []) i ≡ Some g → IsShown cs g d
    go zero x = subst (λ y. IsShown cs y d) (cc x) it
    go (suc i) x = absurd (cc x)

test_arity : (t : Test) → arity_of (test_of t) ≡ lent.arity_of t
test_arity tests.Less = refl
test_arity tests.AtMost = refl
test_arity tests.Equal = refl
test_arity tests.Differ = refl
test_arity tests.Plus = refl
test_arity tests.Times = refl
test_arity tests.Indomain = refl

has_arity : (cs : List Clause) (k : Kind) (s : goals.Shape) (n : ℕ) → Asks cs k s → n ≡ width_of s → HasArity k n
has_arity cs (kinds.User m) s n a e = tt
has_arity cs kinds.Equate s n a e = e ∙ ap width_of a
has_arity cs (kinds.Member d) s n a e = e ∙ ap width_of a
has_arity cs (kinds.Test t) s n a e = e ∙ ap width_of a ∙ test_arity t

pub shown_lent : (cs : List Clause) (r : Row) (g : goals.Goal ℕ) (d : GoalAt) (first : ℕ) → IsShown cs g d → AreOver r (counted_all first g.arguments) → IsLent r d first
shown_lent cs r g d first s o = record {
  whole = s.whole;
  over = subst (λ ts. AreOver r (counted_all first ts)) (sym s.arguments) o;
  arity = has_arity cs d.kind g.shape (count (forest d.arguments.now)) s.asks (ap count s.arguments ∙ s.full);
}
