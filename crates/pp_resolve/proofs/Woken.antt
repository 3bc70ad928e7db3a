-- Suspended goals are looked at, and then those that are left.
use Rattle.std.proofs.Common.{◌≡◌, ℕ, ◌+◌, ◌<◌, ◌≤◌, inl, inr, false, List, [], ◌∷◌, ◌++◌, length, get_or, None, Some, refl, ap, sym, ◌∙◌, subst, arith, append_assoc, append-nil}
use Rattle.std.specs.List.{slice_get}
use Rattle.std.proofs.lemmas.Bool.{cases_lt}
use Rattle.std.proofs.lemmas.List.Elements.{All-nil, All-cons, All-append}
use Rattle.pp_sld.specs.Goals.{Goal, put_goal}
use Rattle.pp_unify.specs.States.{present}
use Rattle.pp_unify.specs.Forests.{AreOver, counted_all}
use Rattle.pp_goal.specs.declared.acts.Act.{Act}
use Rattle.pp_goal.specs.declared.acts.Act.TheVariants.{Wait}
use Rattle.pp_resolve.specs.declared.engine.Engine.{Engine}
use Rattle.pp_resolve.specs.declared.history.Rest.{Rest}
use Rattle.pp_resolve.specs.declared.history.Selected.{Selected}
use Rattle.pp_resolve.specs.declared.suspended.Suspension.{Suspension}
use Rattle.pp_resolve.specs.Standing.{counted}
use Rattle.pp_resolve.specs.Suspensions.{is_among}
use Rattle.pp_resolve.specs.Kept.{kept_of}
use Rattle.pp_resolve.specs.Links.{first_of, open_from, goals_in, before, after, after_first, IsRest}
use Rattle.pp_resolve.specs.Acts.{does}
use Rattle.pp_resolve.specs.Engines.{WaitUpTo, IsMetIn, goal_of, row_of, left, DoWait, WaitBefore, AllWait, IsGood, IsSamePlace, IsGoalAt, BeginsAt, IsMet, Looks}
use Rattle.pp_resolve.specs.Selected.{all_goals, AllGoalsWait, StandsAfter, IsSelected}
use Rattle.pp_resolve.proofs.Overs.{among}
use Rattle.pp_resolve.proofs.Linked.{first_is, goals_open}
use Rattle.pp_resolve.proofs.Open.{get_slice, parts, before_wait}
use Rattle.pp_resolve.proofs.Moving.{carried, nothing_left, met_still, rest_at_place}

-- what is suspended and not done
abbrev pub suspended : Engine → List (Goal ℕ)
suspended e = open_from e.clauses.now (goal_of e) e.history.suspended.done.items 0 e.history.suspended.goals.items

pub all_wait : (e : Engine) → AllWait e → DoWait (row_of e) (suspended e)
all_wait e h = before_wait e.clauses.now (goal_of e) (row_of e) (kept_of e.history) None h

-- what waits at one place waits at the same place
pub wait_same : (a b : Engine) (n : ℕ) → IsSamePlace a b → b.history.suspended ≡ a.history.suspended → WaitBefore a n → WaitBefore b n
wait_same a b n s e h =
    subst (λ x. WaitUpTo b.clauses.now (goal_of b) (row_of b) x.goals.items x.done.items n) (sym e)
    (carried (λ cs root rs. WaitUpTo cs root (present rs) a.history.suspended.goals.items a.history.suspended.done.items n) a b s h)

pub all_wait_same : (a b : Engine) → IsSamePlace a b → b.history.suspended ≡ a.history.suspended → AllWait a → AllWait b
all_wait_same a b s e h = wait_same a b (length b.history.suspended.goals.items) s e (subst (λ x. WaitBefore a (length x.goals.items)) (sym e) h)

-- what is selected at one place is selected at the same place
pub met_same : (a b : Engine) (s : Selected) → IsSamePlace a b → b.history.suspended ≡ a.history.suspended → b.front.rest ≡ a.front.rest → IsMet a s → IsMet b s
met_same a b s p e r h =
    met_still b.clauses.now (goal_of b) (row_of b) (kept_of a.history) (kept_of b.history) a.front b.front (ap (λ x. x.goals.items) e) (ap (λ x. x.done.items) e) r s
    (carried (λ cs root rs. IsMetIn cs root (present rs) (kept_of a.history) a.front s) a b p h)

-- the selected goal stands behind goals that wait
pub met_selected : (e : Engine) → IsGood e → (s : Selected) → IsMet e s → (l : Rest) → BeginsAt e s.at l → IsSelected e (l, s.act)
met_selected e good s met l b =
    let cs = e.clauses.now in
    let root = goal_of e in
    let k = kept_of e.history in
    let there = rest_at_place e s.at l good met.there b in
    record {
      rest = there.0;
      some = there.1;
      looks = met.looks l b;
      ready = met.ready;
      stands = λ g at. (before cs root k s.at, after cs root k e.front s.at, parts cs root k e.front s.at l g met.there b at, before_wait cs root (row_of e) k s.at met.wait);
    }

-- a suspended goal doesn't wait, and those before it do
pub met_at : (e : Engine) → IsGood e → (i : ℕ) (l : Suspension) (a : Act) → i < length e.history.suspended.goals.items → l ≡ get_or e.history.suspended.goals.items i l → is_among i e.history.suspended.done.items ≡ false
    → WaitBefore e i → Looks e l.rest a → (a ≡ Wait → ⊥) → IsMet e (record { at = Some i; act = a })
met_at e good i l a w is o wait looks ready = record {
  there = (w, o);
  looks = λ m b. let here = get_slice e.history.suspended.goals.items i l w is in let same : b.0 ≡ l = cc (sym b.1 ∙ here) in subst (λ x. Looks e x a) (sym (b.2 ∙ ap (λ s. s.rest) same)) looks;
  ready = ready;
  wait = wait;
}

-- what holds below a number and from it on
by_place : (P : ℕ → Type 0) (n k : ℕ) → (k < n → P k) → (n ≤ k → P k) → P k
by_place P n k below above = elim (cases_lt k n) [
  | inl h ↦ below h
  | inr h ↦ above h
]

-- one more waits
pub wait_on : (e : Engine) (i : ℕ) → WaitBefore e i → ((s : Suspension) → slice_get e.history.suspended.goals.items i ≡ Some s → is_among i e.history.suspended.done.items ≡ false → DoWait (row_of e) (first_of e.clauses.now (goal_of e) s.rest)) → WaitBefore e (i + 1)
wait_on e i h one j s is l o = by_place (λ k. k ≡ j → DoWait (row_of e) (first_of e.clauses.now (goal_of e) s.rest)) i j (λ m x. h j s is m o) (λ m x. let same : i ≡ j = omega (arith, m, l) in one s (subst (λ k. slice_get e.history.suspended.goals.items k ≡ Some s) (sym same) is) (subst (λ k. is_among k e.history.suspended.done.items ≡ false) (sym same) o)) refl

-- its first goal waits
pub one_waits : (e : Engine) (l : Rest) (g : Goal ℕ) → IsGoalAt e l g → does (row_of e) (put_goal (counted l.first) g) ≡ None → DoWait (row_of e) (first_of e.clauses.now (goal_of e) l)
one_waits e l g at n =
    subst (DoWait (row_of e)) (sym (first_is e.clauses.now (goal_of e) l g at))
    (All-cons (λ x. does (row_of e) x ≡ None) (put_goal (counted l.first) g) [] n (All-nil (λ x. does (row_of e) x ≡ None)))

-- ===== goals that are left are looked at, from the first on

abbrev pub Passed : Engine → Rest → Type 0
Passed e l = (gs : List (Goal ℕ)) × (left e ≡ gs ++ goals_in e.clauses.now (goal_of e) e.history.links.items l) × DoWait (row_of e) gs

pub passed_none : (e : Engine) → Passed e e.front.rest
passed_none e = ([], refl, All-nil (λ x. does (row_of e) x ≡ None))

pub passed_all : (e : Engine) (l : Rest) → l.from ≤ l.to → l.to ≤ l.from → l.next ≡ 0 → AllWait e → Passed e l → AllGoalsWait e
passed_all e l a b z h p =
    let done = nothing_left e.clauses.now (goal_of e) e.history.links.items l (omega (arith, a, b)) z in
    let all : left e ≡ p.0 = p.1 ∙ ap (λ gs. p.0 ++ gs) done ∙ append-nil p.0 in
    All-append (λ x. does (row_of e) x ≡ None) (suspended e) (left e) (all_wait e h) (subst (DoWait (row_of e)) (sym all) p.2)

module _ (e : Engine) (good : IsGood e) (l one : Rest) (p : Passed e l) (r : IsRest e.clauses.now (goal_of e) (length e.history.links.items) one) (w : one.from < one.to)
    (same : goals_in e.clauses.now (goal_of e) e.history.links.items one ≡ goals_in e.clauses.now (goal_of e) e.history.links.items l) (g : Goal ℕ) (at : IsGoalAt e one g) where
  abbrev its : Goal ℕ
  its = put_goal (counted one.first) g

  abbrev later : List (Goal ℕ)
  later = goals_in e.clauses.now (goal_of e) e.history.links.items (after_first one)

  opened : goals_in e.clauses.now (goal_of e) e.history.links.items l ≡ its ∷ later
  opened = sym same ∙ goals_open e.clauses.now (goal_of e) one g at e.history.links.items w

  split : all_goals e ≡ (suspended e ++ p.0) ++ its ∷ later
  split = ap (λ gs. suspended e ++ gs) (p.1 ∙ ap (λ gs. p.0 ++ gs) opened) ∙ sym (append_assoc (suspended e) p.0 (its ∷ later))

  pub left_over : AreOver (row_of e) (counted_all one.first g.arguments)
  left_over = among (row_of e) (all_goals e) (suspended e ++ p.0) its later e.columns.columns split good.here.over

  pub left_fewer : length (goals_in e.clauses.now (goal_of e) e.history.links.items (after_first one)) < length (goals_in e.clauses.now (goal_of e) e.history.links.items l)
  left_fewer = let n = ap length opened in omega (arith, n)

  pub left_stands : AllWait e → StandsAfter e its
  left_stands h = (suspended e ++ p.0, later, split, All-append (λ x. does (row_of e) x ≡ None) (suspended e) p.0 (all_wait e h) p.2)

  pub passed_on : does (row_of e) its ≡ None → Passed e (after_first one)
  passed_on n = (
    p.0 ++ its ∷ [],
    p.1 ∙ ap (λ gs. p.0 ++ gs) opened ∙ sym (append_assoc p.0 (its ∷ []) later),
    All-append (λ x. does (row_of e) x ≡ None) p.0 (its ∷ []) p.2 (All-cons (λ x. does (row_of e) x ≡ None) its [] n (All-nil (λ x. does (row_of e) x ≡ None))),
  )
