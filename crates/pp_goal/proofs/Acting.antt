-- Items with all bindings in place, and the acts that solve them.
use Rattle.std.proofs.Common.{◌≡◌, ℕ, ℤ, zero, suc, ◌<◌, Bool, true, false, List, [], ◌∷◌, map, All, Some, refl, ap, sym, subst, inl, arith}
use Rattle.std.proofs.lemmas.List.Elements.{All-nil, All-cons}
use Rattle.pp_algebra.specs.Terms.{int, Trees, none, more, put_all, count}
use Rattle.pp_algebra.specs.Rows.{Domain, Row}
use Rattle.pp_algebra.specs.Givens.{givens}
use Rattle.pp_algebra.specs.Numbered.{column}
use Rattle.pp_algebra.specs.Solve.{Item, equation, membership}
use Rattle.pp_algebra.proofs.Order.{IsIn-left, IsIn-right}
use Rattle.pp_sld.specs.BuiltIns.{decide}
use Rattle.pp_sld.specs.Goals.{Shape, test}
use Rattle.pp_sld.specs.Selection.{act_of, act_by, both_sides, first_in, at_place, solves}
use Rattle.pp_term.specs.declared.clause.Clause.{Clause}
use Rattle.pp_tests.specs.declared.built_in.Test.{Test}
use Rattle.pp_tests.specs.declared.built_in.Decision.{Decision}
use Rattle.pp_tests.specs.declared.built_in.Decision.TheVariants as decisions
use Rattle.pp_tests.specs.Decisions.{test_of, decision_of}
use Rattle.pp_unify.specs.States.{value_in, IsSolvedBy}
use Rattle.pp_unify.specs.Laws.{item_in, IsItemOver}
use Rattle.pp_unify.specs.Forests.{AreOver, AreDecided}
use Rattle.pp_clause.specs.declared.goal_at.Kind.{Kind}
use Rattle.pp_clause.specs.declared.goal_at.Kind.TheVariants as kinds
use Rattle.pp_goal.specs.declared.acts.Act.{Act}
use Rattle.pp_goal.specs.declared.acts.Act.TheVariants.{Wait, Fail, Hold, Equate, Narrow, Bind, Split, Call}
use Rattle.pp_goal.specs.Acts.{narrowed, items, IsAct, acted}

-- ===== items with all bindings in place

pub both_sides-in : (r : Row) (ts : Trees ℕ) → both_sides (put_all (value_in r) ts) ≡ map (item_in r) (both_sides ts)
both_sides-in r none = refl
both_sides-in r (more t none) = refl
both_sides-in r (more t (more u ts)) = refl

pub first_in-in : (r : Row) (d : Domain) (ts : Trees ℕ) → first_in d (put_all (value_in r) ts) ≡ map (item_in r) (first_in d ts)
first_in-in r d none = refl
first_in-in r d (more t ts) = refl

pub at_place-in : (r : Row) (i : ℕ) (n : ℤ) (ts : Trees ℕ) → at_place i n (put_all (value_in r) ts) ≡ map (item_in r) (at_place i n ts)
at_place-in r i n none = refl
at_place-in r zero n (more t ts) = refl
at_place-in r (suc i) n (more t ts) = at_place-in r i n ts

-- ===== the act of a built-in

by_decision : (cs : List Clause) (k : Kind) (r : Row) (ts : Trees ℕ) (d : Decision) → IsAct cs k r ts (acted d) (act_of (put_all (value_in r) ts) (decision_of d))
by_decision cs k r ts decisions.Wait = refl
by_decision cs k r ts decisions.Fail = refl
by_decision cs k r ts decisions.Hold = refl
by_decision cs k r ts (decisions.Bind i n) = ap (λ js. Some (solves js)) (at_place-in r i n ts)
by_decision cs k r ts decisions.Split = refl

pub acts_by_test : (cs : List Clause) (k : Kind) (r : Row) (ts : Trees ℕ) (t : Test) (d : Decision) (s : Shape) → decision_of d ≡ decide (test_of t) (givens r.domains (put_all (value_in r) ts)) → s ≡ test (test_of t) → IsAct cs k r ts (acted d) (act_by r.domains (put_all (value_in r) ts) s)
acts_by_test cs k r ts t d s e f =
    subst (λ x. IsAct cs k r ts (acted d) (act_by r.domains (put_all (value_in r) ts) x)) (sym f)
    (subst (λ x. IsAct cs k r ts (acted d) (act_of (put_all (value_in r) ts) x)) e (by_decision cs k r ts d))

-- ===== the items are over the row's variables

pub both_sides-over : (r : Row) (ts : Trees ℕ) → AreOver r ts → All (IsItemOver r) (both_sides ts)
both_sides-over r none h = All-nil (IsItemOver r)
both_sides-over r (more t none) h = All-nil (IsItemOver r)
both_sides-over r (more t (more u ts)) h = All-cons (IsItemOver r) (equation t u) [] ((λ v i. h v (IsIn-left v _ _ i)), (λ v i. h v (IsIn-right v _ _ (IsIn-left v _ _ i)))) (All-nil (IsItemOver r))

pub first_in-over : (r : Row) (d : Domain) (ts : Trees ℕ) → AreOver r ts → All (IsItemOver r) (first_in d ts)
first_in-over r d none h = All-nil (IsItemOver r)
first_in-over r d (more t ts) h = All-cons (IsItemOver r) (membership t d) [] (λ v i. h v (IsIn-left v _ _ i)) (All-nil (IsItemOver r))

pub at_place-over : (r : Row) (i : ℕ) (n : ℤ) (ts : Trees ℕ) → AreOver r ts → All (IsItemOver r) (at_place i n ts)
at_place-over r i n none h = All-nil (IsItemOver r)
at_place-over r zero n (more t ts) h = All-cons (IsItemOver r) (equation t (int n)) [] ((λ v j. h v (IsIn-left v _ _ j)), (λ v j. absurd j)) (All-nil (IsItemOver r))
at_place-over r (suc i) n (more t ts) h = at_place-over r i n ts (λ v j. h v (IsIn-right v _ _ j))

pub narrowed-over : (r : Row) (k : Kind) (ts : Trees ℕ) → AreOver r ts → All (IsItemOver r) (narrowed k ts)
narrowed-over r (kinds.User n) ts h = All-nil (IsItemOver r)
narrowed-over r kinds.Equate ts h = All-nil (IsItemOver r)
narrowed-over r (kinds.Member d) ts h = first_in-over r _ ts h
narrowed-over r (kinds.Test t) ts h = All-nil (IsItemOver r)

pub items-over : (r : Row) (k : Kind) (ts : Trees ℕ) (a : Act) → AreOver r ts → All (IsItemOver r) (items k ts a)
items-over r k ts Wait h = All-nil (IsItemOver r)
items-over r k ts Fail h = All-nil (IsItemOver r)
items-over r k ts Hold h = All-nil (IsItemOver r)
items-over r k ts Equate h = both_sides-over r ts h
items-over r k ts Narrow h = narrowed-over r k ts h
items-over r k ts (Bind i n) h = at_place-over r i n ts h
items-over r k ts Split h = All-nil (IsItemOver r)
items-over r k ts (Call n) h = All-nil (IsItemOver r)

-- ===== items that are solved

pub one_decided : (r : Row) (j : Item ℕ) (b : Bool) (q : Row) → IsSolvedBy r (item_in r j) b q → AreDecided r (j ∷ []) b q
one_decided r j true q h = (q, h, refl)
one_decided r j false q h = inl h

pub at_place-one : (i : ℕ) (n : ℤ) (ts : Trees ℕ) → i < count ts → at_place i n ts ≡ equation (column ts i) (int n) ∷ []
at_place-one i n none l = absurd (omega (arith, l))
at_place-one zero n (more t ts) l = refl
at_place-one (suc i) n (more t ts) l = at_place-one i n ts (omega (arith, l))

pub first_in-one : (d : Domain) (ts : Trees ℕ) → 0 < count ts → first_in d ts ≡ membership (column ts 0) d ∷ []
first_in-one d none l = absurd (omega (arith, l))
first_in-one d (more t ts) l = refl
