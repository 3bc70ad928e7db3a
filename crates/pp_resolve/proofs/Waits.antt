-- Suspended goals, and the state in which they were known to wait.
use Rattle.std.proofs.Common.{◌≡◌, ℕ, zero, suc, ◌+◌, ◌<◌, ◌≤◌, inl, inr, true≢false, List, [], ◌∷◌, ◌++◌, length, take, drop, All, Option, Some, None, refl, ap, sym, ◌∙◌, subst, arith, length-append}
use Rattle.std.specs.List.{slice_get}
use Rattle.std.proofs.lemmas.Option.{slice_get_within}
use Rattle.std.proofs.lemmas.List.{take_all}
use Rattle.std.proofs.lemmas.List.Elements.{All-nil, All-cons, All-head, All-tail, All-weaker}
use Rattle.pp_algebra.specs.Terms.{Tree, int, node, variable, Trees, none, more, put, put_all, variables, variables_all, count}
use Rattle.pp_algebra.specs.Rows.{Row}
use Rattle.pp_algebra.specs.Covers.{IsIn}
use Rattle.pp_algebra.specs.Givens.{given, givens}
use Rattle.pp_algebra.proofs.Order.{IsIn-left, IsIn-right}
use Rattle.pp_moves.proofs.Places.{comes_all}
use Rattle.pp_sld.specs.BuiltIns.{Decision, wait, fail, hold, split, bind, decide}
use Rattle.pp_sld.specs.Goals.{Shape, user, equals, member, test, Goal, Predicate, put_goal}
use Rattle.pp_sld.specs.Selection.{act_of, act_by}
use Rattle.pp_term.specs.declared.clause.Clause.{Clause}
use Rattle.pp_term.specs.declared.clause.Goal.{Goal as BodyGoal}
use Rattle.pp_term.specs.declared.clause.Goal.TheVariants.{Call, Equate, Member, Compare}
use Rattle.pp_term.specs.Meanings.{goal_of}
use Rattle.pp_term.specs.WellFormed.{IsGoal}
use Rattle.pp_unify.specs.States.{present, value_in}
use Rattle.pp_unify.specs.Still.{AreStill}
use Rattle.pp_unify.specs.Forests.{AreOver, counted_all}
use Rattle.pp_resolve.specs.declared.history.Rest.{Rest}
use Rattle.pp_resolve.specs.declared.history.Waits.{Waits}
use Rattle.pp_resolve.specs.declared.suspended.Suspension.{Suspension}
use Rattle.pp_resolve.specs.Standing.{counted}
use Rattle.pp_resolve.specs.Kept.{Kept}
use Rattle.pp_resolve.specs.Acts.{does}
use Rattle.pp_resolve.specs.Links.{goals_at, body_of, first_of, open_from, IsFormed, IsFormedAt, IsRest}
use Rattle.pp_resolve.specs.Engines.{DoWait, IsSuspension, AreBelow, AreSuspended, WaitUpTo, DidWait}
use Rattle.pp_resolve.proofs.Showing.{unmapped, all_at}
use Rattle.pp_resolve.proofs.Linked.{first_is, goal_there, has_item}
use Rattle.pp_resolve.proofs.Open.{open_at, slice_last}

-- ===== the variables of a goal are what they were

module _ (k : ℕ) (r q : Row) (still : AreStill k r q) where
  given_still : (t : Tree ℕ) → ((v : ℕ) → IsIn v (variables t) → v < k) → given q.domains (put (value_in q) t) ≡ given r.domains (put (value_in r) t)
  given_still (int n) b = refl
  given_still (node f ts) b = refl
  given_still (variable v) b = still v (b v (inl refl))

  givens_still : (ts : Trees ℕ) → ((v : ℕ) → IsIn v (variables_all ts) → v < k) → givens q.domains (put_all (value_in q) ts) ≡ givens r.domains (put_all (value_in r) ts)
  givens_still none b = refl
  givens_still (more t ts) b =
      ap (λ g. g ∷ givens q.domains (put_all (value_in q) ts)) (given_still t (λ v i. b v (IsIn-left v (variables t) (variables_all ts) i)))
      ∙ ap (λ gs. given r.domains (put (value_in r) t) ∷ gs) (givens_still ts (λ v i. b v (IsIn-right v (variables t) (variables_all ts) i)))

  waits_too : (ts us : Trees ℕ) (d : Decision) → act_of ts d ≡ None → act_of us d ≡ None
  waits_too ts us wait h = refl
  waits_too ts us fail h = absurd (cc)
  waits_too ts us hold h = absurd (cc)
  waits_too ts us split h = absurd (cc)
  waits_too ts us (bind i n) h = absurd (cc)

  act_still : (ts : Trees ℕ) → ((v : ℕ) → IsIn v (variables_all ts) → v < k) → (s : Shape) → act_by r.domains (put_all (value_in r) ts) s ≡ None → act_by q.domains (put_all (value_in q) ts) s ≡ None
  act_still ts b (user p) h = absurd (cc)
  act_still ts b equals h = absurd (cc)
  act_still ts b (member d) h = absurd (cc)
  act_still ts b (test t) h =
      ap (λ gs. act_of (put_all (value_in q) ts) (decide t gs)) (givens_still ts b)
      ∙ waits_too (put_all (value_in r) ts) (put_all (value_in q) ts) (decide t (givens r.domains (put_all (value_in r) ts))) h

  pub all_still : (gs : List (Goal ℕ)) → DoWait r gs → All (λ g. (v : ℕ) → IsIn v (variables_all g.arguments) → v < k) gs → DoWait q gs
  all_still [] h b = All-nil (λ g. does q g ≡ None)
  all_still (g ∷ gs) h b =
      All-cons (λ x. does q x ≡ None) g gs
      (act_still g.arguments (All-head (λ x. (v : ℕ) → IsIn v (variables_all x.arguments) → v < k) g gs b) g.shape (All-head (λ x. does r x ≡ None) g gs h))
      (all_still gs (All-tail (λ x. does r x ≡ None) g gs h) (All-tail (λ x. (v : ℕ) → IsIn v (variables_all x.arguments) → v < k) g gs b))

-- what waits is no call
pub no_call : (r : Row) (ts : Trees ℕ) (s : Shape) → act_by r.domains ts s ≡ None → (p : Predicate) → s ≡ user p → ⊥
no_call r ts (user q) h p e = absurd (cc h)
no_call r ts equals h p e = absurd (cc e)
no_call r ts (member d) h p e = absurd (cc e)
no_call r ts (test t) h p e = absurd (cc e)

module _ (cs : List Clause) (root : Goal ℕ) where
  -- the first so many wait still where no variable below the number of the last of them has changed
  pub wait_up_to : (r q : Row) (ss : List Suspension) (ds : List ℕ) (n i : ℕ) (t : Suspension) → ((i j : ℕ) (s t : Suspension) → slice_get ss i ≡ Some s → slice_get ss j ≡ Some t → i ≤ j → AreBelow cs root t.below s.rest)
      → slice_get ss i ≡ Some t → suc i ≤ n → WaitUpTo cs root r ss ds n → AreStill t.below r q → WaitUpTo cs root q ss ds (suc i)
  wait_up_to r q ss ds n i t below at le w still j s is l o = all_still t.below r q still (first_of cs root s.rest) (w j s is (omega (arith, l, le)) o) (below j i s t is at (omega (arith, l)))

  -- one more that waits
  pub wait_more : (r : Row) (ss : List Suspension) (ds : List ℕ) (t : Suspension) → WaitUpTo cs root r ss ds (length ss) → DoWait r (first_of cs root t.rest) → WaitUpTo cs root r (ss ++ t ∷ []) ds (length (ss ++ t ∷ []))
  wait_more r ss ds t w h j s is l o = slice_last ss t j s is (DoWait r (first_of cs root s.rest)) (λ old. w j s old (slice_get_within ss j s old) o) (λ e same. subst (λ x. DoWait r (first_of cs root x.rest)) (sym same) h)

  -- they wait in the present state
  pub waits_present : (k : Kept) (w : Waits) → suc w.since ≡ length k.states → w.upto ≤ length k.suspended → ((j : ℕ) (s : Suspension) → slice_get k.suspended j ≡ Some s → s.below ≤ count (present k.states).columns)
      → WaitUpTo cs root (present k.states) k.suspended k.done w.upto → DidWait cs root k w
  waits_present k w m u b h =
      let same : take (suc w.since) k.states ≡ k.states = take_all (suc w.since) k.states (omega (arith, m)) in
      record {
        there = omega (arith, m);
        upto = u;
        below = λ j s is l. subst (λ xs. s.below ≤ count (present xs).columns) (sym same) (b j s is);
        goals = subst (λ xs. WaitUpTo cs root (present xs) k.suspended k.done w.upto) (sym same) h;
      }

  -- a greater number is above them too
  pub above_bound : (k m : ℕ) (l : Rest) → k ≤ m → AreBelow cs root k l → AreBelow cs root m l
  above_bound k m l le b = All-weaker (λ g. (v : ℕ) → IsIn v (variables_all g.arguments) → v < k) (λ g. (v : ℕ) → IsIn v (variables_all g.arguments) → v < m) (λ g h v i. omega (arith, le, h v i)) (first_of cs root l) b

  -- one more is suspended
  pub suspended_more : (r : Row) (ss : List Suspension) (ds : List ℕ) (t : Suspension) → AreSuspended cs root r ss ds → IsSuspension cs root t → AreBelow cs root t.below t.rest → t.below ≤ count r.columns
      → ((j : ℕ) (s : Suspension) → slice_get ss j ≡ Some s → length ss ≡ suc j → s.below ≤ t.below) → AreSuspended cs root r (ss ++ t ∷ []) ds
  suspended_more r ss ds t h one own size last = record {
    goals = λ j s is. slice_last ss t j s is (IsSuspension cs root s) (λ old. h.goals j s old) (λ e same. subst (IsSuspension cs root) (sym same) one);
    below = below;
    sized = λ j s is. slice_last ss t j s is (s.below ≤ count r.columns) (λ old. h.sized j s old) (λ e same. subst (λ x. x.below ≤ count r.columns) (sym same) size);
    done = λ i e. let d = h.done i e in let n = length-append ss (t ∷ []) in omega (arith, d, n);
  }
    where
      old_below : (i : ℕ) (s : Suspension) → slice_get ss i ≡ Some s → (n : ℕ) → n ≡ length ss → AreBelow cs root t.below s.rest
      old_below i s is zero e = absurd (omega (arith, e, slice_get_within ss i s is))
      old_below i s is (suc j) e =
          let w = slice_get_within ss i s is in
          let u = has_item ss j (omega (arith, e)) in
          above_bound u.0.below t.below s.rest (last j u.0 u.1 (sym e)) (h.below i j s u.0 is u.1 (omega (arith, w, e)))

      below : (i j : ℕ) (s u : Suspension) → slice_get (ss ++ t ∷ []) i ≡ Some s → slice_get (ss ++ t ∷ []) j ≡ Some u → i ≤ j → AreBelow cs root u.below s.rest
      below i j s u is at le = slice_last ss t j u at (AreBelow cs root u.below s.rest)
          (λ old. slice_last ss t i s is (AreBelow cs root u.below s.rest) (λ known. h.below i j s u known old le) (λ e same. absurd (omega (arith, e, le, slice_get_within ss j u old))))
          (λ e same. subst (λ x. AreBelow cs root x.below s.rest) (sym same) (slice_last ss t i s is (AreBelow cs root t.below s.rest)
          (λ known. old_below i s known (length ss) refl)
          (λ f this. subst (λ x. AreBelow cs root t.below x.rest) (sym this) own)))

  pub none_suspended : (r : Row) → AreSuspended cs root r [] []
  none_suspended r = record {
    goals = λ j s e. absurd (cc e);
    below = λ i j s t e f l. absurd (cc e);
    sized = λ j s e. absurd (cc e);
    done = λ i e. absurd (true≢false (sym e));
  }

  -- where none is open all wait
  pub none_open : (r : Row) (ss : List Suspension) (ds : List ℕ) → AreSuspended cs root r ss ds → length (open_from cs root ds 0 ss) ≡ 0 → WaitUpTo cs root r ss ds (length ss)
  none_open r ss ds h z j s is l o =
      let t = h.goals j s is in
      let g = goal_there cs root 0 s.rest t.rest t.some in
      let split = ap length (open_at cs root ds ss j s is o) in
      let start = open_from cs root ds 0 (take j ss) in
      let tail = open_from cs root ds (suc j) (drop (suc j) ss) in
      let size : length (start ++ (first_of cs root s.rest ++ tail)) ≡ length start + length (first_of cs root s.rest ++ tail) = length-append start (first_of cs root s.rest ++ tail) in
      let more : length (first_of cs root s.rest ++ tail) ≡ suc (length tail) = ap (λ gs. length (gs ++ tail)) (first_is cs root s.rest g.0 g.1) in
      absurd (omega (arith, z, split, size, more))

  -- ===== a number above the variables of a goal

  goal_below : (n : ℕ) (g : BodyGoal) → IsGoal n g → (v : ℕ) → IsIn v (variables_all (goal_of g).arguments) → v < n
  goal_below n (Call s ts) h v i = h.below v i
  goal_below n (Equate a b) h v i = h v i
  goal_below n (Member t d) h v i = h v i
  goal_below n (Compare r a b) h v i = h v i

  counted_below : (first vars : ℕ) (ts : Trees ℕ) → ((v : ℕ) → IsIn v (variables_all ts) → v < vars) → (v : ℕ) → IsIn v (variables_all (put_all (counted first) ts)) → v < first + vars
  counted_below first vars ts b v i =
      let f = comes_all (counted first) ts v i in
      elim f.2 [
        | inl e ↦ omega (arith, e, b f.0 f.1)
        | inr j ↦ absurd j
      ]

  -- by the clause in whose body it stands
  pub clause_bound : (l : Rest) (n : ℕ) → l.body ≡ Some n → IsRest cs root 0 (record { body = l.body; from = l.from; to = l.to; first = l.first; next = 0 }) → l.from < l.to → (c : Clause) × (slice_get cs n ≡ Some c) × AreBelow cs root (l.first + c.vars) l
  clause_bound l n b r w =
      let g = goal_there cs root 0 (record { body = l.body; from = l.from; to = l.to; first = l.first; next = 0 }) r w in
      go (slice_get cs n) refl (subst (IsFormed cs) b r.formed) g.0 g.1 (subst (λ x. slice_get (body_of cs root x) l.from ≡ Some g.0) b g.1)
    where
      go : (o : Option Clause) → slice_get cs n ≡ o → IsFormedAt o → (g : Goal ℕ) → slice_get (body_of cs root l.body) l.from ≡ Some g → slice_get (goals_at (slice_get cs n)) l.from ≡ Some g
          → (c : Clause) × (slice_get cs n ≡ Some c) × AreBelow cs root (l.first + c.vars) l
      go None s f g at x = absurd f
      go (Some c) s f g at x =
          let u = unmapped goal_of c.body l.from g (ap (λ o. slice_get (goals_at o) l.from) (sym s) ∙ x) in
          let its = goal_below c.vars u.0 (all_at (IsGoal c.vars) c.body l.from u.0 f.body u.1) in
          let below : (v : ℕ) → IsIn v (variables_all g.arguments) → v < c.vars = subst (λ y. (v : ℕ) → IsIn v (variables_all y.arguments) → v < c.vars) u.2 its in (
            c,
            s,
            subst (All (λ y. (v : ℕ) → IsIn v (variables_all y.arguments) → v < l.first + c.vars)) (sym (first_is cs root l g at))
                (All-cons (λ y. (v : ℕ) → IsIn v (variables_all y.arguments) → v < l.first + c.vars) (put_goal (counted l.first) g) [] (counted_below l.first c.vars g.arguments below) (All-nil (λ y. (v : ℕ) → IsIn v (variables_all y.arguments) → v < l.first + c.vars))),
          )

  -- by the row
  pub row_bound : (r : Row) (l : Rest) (g : Goal ℕ) → slice_get (body_of cs root l.body) l.from ≡ Some g → AreOver r (counted_all l.first g.arguments) → AreBelow cs root (count r.columns) l
  row_bound r l g at o =
      subst (All (λ y. (v : ℕ) → IsIn v (variables_all y.arguments) → v < count r.columns)) (sym (first_is cs root l g at))
      (All-cons (λ y. (v : ℕ) → IsIn v (variables_all y.arguments) → v < count r.columns) (put_goal (counted l.first) g) [] o (All-nil (λ y. (v : ℕ) → IsIn v (variables_all y.arguments) → v < count r.columns)))
