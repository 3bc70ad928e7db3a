-- From every state whose waiting goals are goals of the query there is a run, and a query has one.
use Rattle.std.proofs.Common.{◌≡◌, ℕ, zero, suc, ◌+◌, ◌<◌, ◌⊎◌, inl, inr, Bool, true, false, List, [], ◌∷◌, length, Option, Some, None, refl, ap, sym, ◌∙◌, subst, arith}
use Rattle.std.specs.Prelude.{cond, not, ◌&&◌, nat_eq}
use Rattle.pp_algebra.specs.Rows.{Row}
use Rattle.pp_algebra.specs.Canon.{has, same_row}
use Rattle.pp_algebra.specs.Covers.{IsIn}
use Rattle.pp_algebra.proofs.Antisym.{IsIn-either}
use Rattle.pp_algebra.proofs.AlwaysSolved.{rows_always_solve}
use Rattle.pp_algebra.proofs.Law.{solved_once}
use Rattle.pp_sld.specs.Goals.{Program}
use Rattle.pp_sld.specs.Verdicts.{Verdict, fail, same, nothing, unfinished, narrow, HasVerdict}
use Rattle.pp_sld.proofs.OneVerdict.{has_verdict}
use Rattle.pp_language.specs.Programs.{Query}
use Rattle.pp_propagation.specs.Stores.{Asked, goals_of, items_of, unknowns, face, Begins, BeginsNowhere}
use Rattle.pp_propagation.specs.Turns.{Commit, State, goal_at, committed, woken, turned, Turn}
use Rattle.pp_propagation.specs.Histories.{numbers_from}
use Rattle.pp_propagation.specs.Runs.{Run, yes, stopped, ended, failed, opening, no_store, Ends, none_waits, turns_are_made, goal_fails, IsRunOn, IsRun, begins_nowhere, begins}
use Rattle.pp_propagation.proofs.Once.{run_on_once}

-- ===== the goals that wait are goals of the query

abbrev pub AreGoals : List Asked → List ℕ → Type 0
AreGoals goals ks = (k : ℕ) → IsIn k ks → (a : Asked) × (goal_at goals k ≡ Some a)

-- a number from `first` on, less than n further
abbrev IsAmong : ℕ → ℕ → ℕ → Type 0
IsAmong first n k = (i : ℕ) × (i < n) × (k ≡ first + i)

one_further : (first n k : ℕ) → IsAmong (suc first) n k → IsAmong first (suc n) k
one_further first n k h = (suc h.0, omega (arith, h.1), omega (arith, h.2))

goal_there : (goals : List Asked) (i : ℕ) → i < length goals → (a : Asked) × (goal_at goals (suc i) ≡ Some a)
goal_there [] i h = absurd (omega (arith, h))
goal_there (a ∷ goals) zero h = (a, refl)
goal_there (a ∷ goals) (suc i) h = goal_there goals i (omega (arith, h))

numbers_in : (first n k : ℕ) → IsIn k (numbers_from first n) → IsAmong first n k
numbers_in first zero k i = absurd i
numbers_in first (suc n) k (inl e) = (0, omega arith, omega (arith, e))
numbers_in first (suc n) k (inr i) = one_further first n k (numbers_in (suc first) n k i)

either_in : (b : Bool) (j k : ℕ) (ks : List ℕ) → IsIn k (cond b (j ∷ ks) ks) → (j ≡ k) ⊎ IsIn k ks
either_in true j k ks i = i
either_in false j k ks i = inr i

woken_in : (old new : Row) (waiting : List ℕ) (first : ℕ) (goals : List Asked) (k : ℕ) → IsIn k (woken old new waiting first goals) → IsAmong first (length goals) k
woken_in old new waiting first [] k i = absurd i
woken_in old new waiting first (a ∷ goals) k i = elim (either_in (not (same_row (face old a.goal) (face new a.goal)) && not (has nat_eq waiting first)) first k (woken old new waiting (suc first) goals) i) [
  | inl e ↦ (0, omega arith, omega (arith, e))
  | inr j ↦ one_further first (length goals) k (woken_in old new waiting (suc first) goals k j)
]

among_goals : (goals : List Asked) (k : ℕ) → IsAmong 1 (length goals) k → (a : Asked) × (goal_at goals k ≡ Some a)
among_goals goals k h =
    let g = goal_there goals h.0 h.1 in
    let e : k ≡ suc h.0 = omega (arith, h.2) in
    (g.0, ap (goal_at goals) e ∙ g.1)

pub all_are_goals : (goals : List Asked) → AreGoals goals (numbers_from 1 (length goals))
all_are_goals goals k i = among_goals goals k (numbers_in 1 (length goals) k i)

module _ (goals : List Asked) where
  some_is : (s t : State) → Some s ≡ Some t → s ≡ t
  some_is s t e = cc (e)

  pub stay_goals : (later : List ℕ) (k : ℕ) (a : Asked) (v : Verdict) (s t : State) → AreGoals goals later → Some t ≡ turned goals later k a v s → AreGoals goals t.waiting
  stay_goals later k a fail s t h e = let f : Some t ≡ None = e in absurd (cc (f))
  stay_goals later k a same s t h e = subst (λ (x : State). AreGoals goals x.waiting) (sym (some_is t _ e)) h
  stay_goals later k a nothing s t h e = subst (λ (x : State). AreGoals goals x.waiting) (sym (some_is t _ e)) h
  stay_goals later k a unfinished s t h e = subst (λ (x : State). AreGoals goals x.waiting) (sym (some_is t _ e)) h
  stay_goals later k a (narrow given) s t h e = subst (λ (x : State). AreGoals goals x.waiting) (sym (some_is t _ e)) (λ j i. elim (IsIn-either j later _ i) [
    | inl x ↦ h j x
    | inr x ↦ among_goals goals j (woken_in _ _ later 1 goals j x)
  ])

-- ===== a run from each state

module _ (clauses : Program) (goals : List Asked) (depth : ℕ) where
  abbrev HasRunOn : ℕ → State → Type 0
  HasRunOn turns s = (r : Run) × IsRunOn clauses goals depth turns s r

  at_once : (turns : ℕ) (s : State) (r : Run) → Ends clauses goals depth turns s r → HasRunOn turns s
  at_once turns s r h = (r, record { made = 0; left = turns; within = omega arith; last = s; leads = refl; ends = h })

  pub after_turn : (turns : ℕ) (s t : State) (c : Commit) (r : Run) → Turn clauses goals depth s c (Some t) → IsRunOn clauses goals depth turns t r → IsRunOn clauses goals depth (suc turns) s r
  after_turn turns s t c r h k = record { made = suc k.made; left = k.left; within = omega (arith, k.within); last = k.last; leads = (c, t, h, k.leads); ends = k.ends }

  when_none_is_left : (s : State) (ks : List ℕ) → s.waiting ≡ ks → HasRunOn 0 s
  when_none_is_left s [] e = at_once 0 s (ended yes s) (none_waits e refl)
  when_none_is_left s (k ∷ ks) e = at_once 0 s (ended stopped s) (turns_are_made (λ f. let g : [] ≡ k ∷ ks = sym f ∙ e in absurd (cc (g))) refl refl)

  when_it_leads : (turns : ℕ) → ((t : State) → AreGoals goals t.waiting → HasRunOn turns t) → (s : State) (k : ℕ) (later : List ℕ) (a : Asked) (v : Verdict) → s.waiting ≡ k ∷ later → AreGoals goals later
      → goal_at goals k ≡ Some a → HasVerdict clauses depth a.mode a.goal.shape (face s.store a.goal) v → (x : Option State) → x ≡ turned goals later k a v s → HasRunOn (suc turns) s
  when_it_leads turns next s k later a v e known is_goal h None f =
      let c = committed s.store k a v in
      at_once (suc turns) s (failed s c) (goal_fails turns refl c (record { asked = a; later = later; first = e; is_goal = is_goal; has_verdict = h; commits = refl; leads = f }) refl)
  when_it_leads turns next s k later a v e known is_goal h (Some t) f =
      let on = next t (stay_goals goals later k a v s t known f) in
      (on.0, after_turn turns s t (committed s.store k a v) on.0 (record { asked = a; later = later; first = e; is_goal = is_goal; has_verdict = h; commits = refl; leads = f }) on.1)

  when_one_is_left : (turns : ℕ) → ((t : State) → AreGoals goals t.waiting → HasRunOn turns t) → (s : State) → AreGoals goals s.waiting → (ks : List ℕ) → s.waiting ≡ ks → HasRunOn (suc turns) s
  when_one_is_left turns next s known [] e = at_once (suc turns) s (ended yes s) (none_waits e refl)
  when_one_is_left turns next s known (k ∷ later) e =
      let all : AreGoals goals (k ∷ later) = subst (AreGoals goals) e known in
      let g = all k (inl refl) in
      let v = has_verdict clauses depth g.0.mode g.0.goal.shape (face s.store g.0.goal) in
      when_it_leads turns next s k later g.0 v.0 e (λ j i. all j (inr i)) g.1 v.1 (turned goals later k g.0 v.0 s) refl

  pub has_run_on : (turns : ℕ) (s : State) → AreGoals goals s.waiting → HasRunOn turns s
  has_run_on zero s known = when_none_is_left s s.waiting refl
  has_run_on (suc turns) s known = when_one_is_left turns (λ t k. has_run_on turns t k) s known s.waiting refl

-- ===== a run of each query

not_both : (q : Query) (store : Row) → BeginsNowhere q → Begins q store → ⊥
not_both q store h k = h store k.row k.meets

pub run_once : (clauses : Program) (q : Query) (depth turns : ℕ) (r s : Run) → IsRun clauses q depth turns r → IsRun clauses q depth turns s → r ≡ s
run_once clauses q depth turns r s (begins_nowhere h e) (begins_nowhere k f) = e ∙ sym f
run_once clauses q depth turns r s (begins_nowhere h e) (begins store b k) = absurd (not_both q store h b)
run_once clauses q depth turns r s (begins store b h) (begins_nowhere k e) = absurd (not_both q store k b)
run_once clauses q depth turns r s (begins store b h) (begins other d k) =
    let e : other ≡ store = solved_once (unknowns q) (items_of q.items) other store d b in
    run_on_once clauses (goals_of q.items) depth turns (opening (goals_of q.items) store) r s h (subst (λ (x : Row). IsRunOn clauses (goals_of q.items) depth turns (opening (goals_of q.items) x) s) e k)

pub has_run : (clauses : Program) (q : Query) (depth turns : ℕ) → (r : Run) × IsRun clauses q depth turns r
has_run clauses q depth turns = elim (rows_always_solve [] (unknowns q).columns (items_of q.items)) [
  | inl s ↦ (let h = has_run_on clauses (goals_of q.items) depth turns (opening (goals_of q.items) s.0) (all_are_goals (goals_of q.items)) in (h.0, begins s.0 s.1 h.1))
  | inr n ↦ (no_store, begins_nowhere n refl)
]
