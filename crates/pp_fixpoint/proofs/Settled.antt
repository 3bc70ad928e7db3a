-- Between two turns each goal that doesn't wait is at rest under the store, and its last verdict is the one that it has there.
use Rattle.std.proofs.Common.{◌≡◌, ℕ, zero, suc, ◌+◌, inl, inr, Bool, true, false, List, [], ◌∷◌, ◌++◌, length, Option, Some, None, refl, ap, sym, ◌∙◌, subst, arith}
use Rattle.std.specs.Prelude.{cond, not, ◌&&◌, ◌||◌, nat_eq, filter}
use Rattle.std.proofs.lemmas.Bool.{or_parts, or_right}
use Rattle.pp_algebra.specs.Rows.{Row}
use Rattle.pp_algebra.specs.Canon.{has, same_row}
use Rattle.pp_algebra.specs.Covers.{IsIn}
use Rattle.pp_algebra.proofs.Bools.{nat_same, nat_is}
use Rattle.pp_algebra.proofs.CanonLemmas.{has-append}
use Rattle.pp_algebra.proofs.SameRow.{same_row-sound}
use Rattle.pp_sld.specs.Goals.{Program}
use Rattle.pp_sld.specs.Verdicts.{Verdict, fail, same, nothing, unfinished, narrow, HasVerdict}
use Rattle.pp_sld.proofs.OneVerdict.{verdict_once}
use Rattle.pp_propagation.specs.Stores.{Asked, face}
use Rattle.pp_propagation.specs.Turns.{Commit, State, goal_at, woken, committed, commit, turned}
use Rattle.pp_propagation.specs.Histories.{last_verdict, is_unfinished, numbers_from, unfinished_goals}
use Rattle.pp_propagation.specs.Runs.{Run, yes, no, stopped, opening, Ends, none_waits, turns_are_made, goal_fails, Turns, IsRunFrom}
use Rattle.pp_propagation.proofs.Exists.{all_are_goals}
use Rattle.pp_fixpoint.specs.Fixpoints.{HasVerdictUnder, IsAtRest, IsFixpoint}
use Rattle.pp_fixpoint.specs.Laws.{NarrowingChangesFace, RunsEndAtFixpoints}
use Rattle.pp_fixpoint.proofs.Narrowed.{is_narrowing}
use Rattle.pp_fixpoint.proofs.Faces.{face_changes}

pub narrowing_changes_face : NarrowingChangesFace
narrowing_changes_face clauses depth store a given h e = face_changes store a.goal given (is_narrowing clauses depth a.mode a.goal.shape (face store a.goal) given h) e

-- ===== lists

-- the last verdict, once one more turn was made
pub last-push : (before : Option Verdict) (k : ℕ) (history : List Commit) (c : Commit) → last_verdict before k (history ++ c ∷ []) ≡ cond (nat_eq c.goal k) (Some c.verdict) (last_verdict before k history)
last-push before k [] c = refl
last-push before k (d ∷ history) c = last-push (cond (nat_eq d.goal k) (Some d.verdict) before) k history c

-- the numbers from one on are those of the goals
goal_waits : (first : ℕ) (goals : List Asked) (i k : ℕ) (a : Asked) → goal_at goals (suc i) ≡ Some a → k ≡ first + i → has nat_eq (numbers_from first (length goals)) k ≡ true
goal_waits first [] i k a e f = let g : None ≡ Some a = e in absurd (cc (g))
goal_waits first (b ∷ goals) zero k a e f =
    ap (λ c. c || has nat_eq (numbers_from (suc first) (length goals)) k) (ap (nat_eq first) (let g : k ≡ first = omega (arith, f) in g) ∙ nat_same first)
goal_waits first (b ∷ goals) (suc i) k a e f = or_right (nat_eq first k) _ (goal_waits (suc first) goals i k a e (omega (arith, f)))

all_wait : (goals : List Asked) (k : ℕ) (a : Asked) → goal_at goals k ≡ Some a → has nat_eq (numbers_from 1 (length goals)) k ≡ true
all_wait [] zero a e = let g : None ≡ Some a = e in absurd (cc (g))
all_wait (b ∷ goals) zero a e = let g : None ≡ Some a = e in absurd (cc (g))
all_wait goals (suc i) a e = goal_waits 1 goals i (suc i) a e (omega arith)

is_in : (ks : List ℕ) (k : ℕ) → has nat_eq ks k ≡ true → IsIn k ks
is_in [] k h = let g : false ≡ true = h in absurd (cc (g))
is_in (j ∷ ks) k h = go (is_in ks k) (nat_eq j k) refl
  where
    go : (has nat_eq ks k ≡ true → IsIn k ks) → (b : Bool) → nat_eq j k ≡ b → IsIn k (j ∷ ks)
    go rest true e = inl (nat_is j k e)
    go rest false e = inr (rest (ap (λ b. b || has nat_eq ks k) (sym e) ∙ h))

in_filter : (p : ℕ → Bool) (ks : List ℕ) (k : ℕ) → IsIn k (filter p ks) → IsIn k ks × (p k ≡ true)
in_filter p [] k i = absurd i
in_filter p (j ∷ ks) k i = go (in_filter p ks k) (p j) refl i
  where
    go : (IsIn k (filter p ks) → IsIn k ks × (p k ≡ true)) → (b : Bool) → p j ≡ b → IsIn k (cond b (j ∷ filter p ks) (filter p ks)) → IsIn k (j ∷ ks) × (p k ≡ true)
    go rest true e (inl f) = (inl f, ap p (sym f) ∙ e)
    go rest true e (inr l) = let r = rest l in (inr r.0, r.1)
    go rest false e l = let r = rest l in (inr r.0, r.1)

filter_has : (p : ℕ → Bool) (ks : List ℕ) (k : ℕ) → IsIn k ks → p k ≡ true → IsIn k (filter p ks)
filter_has p [] k i h = absurd i
filter_has p (j ∷ ks) k (inl e) h = subst (λ b. IsIn k (cond b (j ∷ filter p ks) (filter p ks))) (sym (ap p e ∙ h)) (inl e)
filter_has p (j ∷ ks) k (inr i) h = go (filter_has p ks k i h) (p j)
  where
    go : IsIn k (filter p ks) → (b : Bool) → IsIn k (cond b (j ∷ filter p ks) (filter p ks))
    go rest true = inr rest
    go rest false = rest

-- a goal that is neither waiting nor woken has the face that it had
module _ (old new : Row) (waiting : List ℕ) where
  not_here : (s w : Bool) (first k : ℕ) (rest : List ℕ) → k ≡ first → w ≡ false → has nat_eq (cond (not s && not w) (first ∷ rest) rest) k ≡ false → s ≡ true
  not_here true w first k rest e f h = refl
  not_here false true first k rest e f h = absurd (cc (f))
  not_here false false first k rest e f h =
      let t : nat_eq first k ≡ true = ap (nat_eq first) e ∙ nat_same first in
      let g : true ≡ false = ap (λ b. b || has nat_eq rest k) (sym t) ∙ h in
      absurd (cc (g))

  not_later : (b : Bool) (first k : ℕ) (rest : List ℕ) → has nat_eq (cond b (first ∷ rest) rest) k ≡ false → has nat_eq rest k ≡ false
  not_later true first k rest h = (or_parts (nat_eq first k) (has nat_eq rest k) h).1
  not_later false first k rest h = h

  same_face : (first : ℕ) (goals : List Asked) (i k : ℕ) (a : Asked) → goal_at goals (suc i) ≡ Some a → k ≡ first + i → has nat_eq waiting k ≡ false → has nat_eq (woken old new waiting first goals) k ≡ false → face old a.goal ≡ face new a.goal
  same_face first [] i k a e f w h = let g : None ≡ Some a = e in absurd (cc (g))
  same_face first (b ∷ goals) zero k a e f w h =
      let some : Some b ≡ Some a = e in
      let is : b ≡ a = cc (some) in
      let here : k ≡ first = omega (arith, f) in
      let s = not_here (same_row (face old b.goal) (face new b.goal)) (has nat_eq waiting first) first k (woken old new waiting (suc first) goals) here (ap (has nat_eq waiting) (sym here) ∙ w) h in
      subst (λ (x : Asked). face old x.goal ≡ face new x.goal) is (same_row-sound (face old b.goal) (face new b.goal) s)
  same_face first (b ∷ goals) (suc i) k a e f w h =
      same_face (suc first) goals i k a e (omega (arith, f)) w (not_later (not (same_row (face old b.goal) (face new b.goal)) && not (has nat_eq waiting first)) first k (woken old new waiting (suc first) goals) h)

  pub face_stays : (goals : List Asked) (k : ℕ) (a : Asked) → goal_at goals k ≡ Some a → has nat_eq waiting k ≡ false → has nat_eq (woken old new waiting 1 goals) k ≡ false → face old a.goal ≡ face new a.goal
  face_stays [] zero a e w h = let g : None ≡ Some a = e in absurd (cc (g))
  face_stays (b ∷ goals) zero a e w h = let g : None ≡ Some a = e in absurd (cc (g))
  face_stays goals (suc i) a e w h = same_face 1 goals i (suc i) a e (omega arith) w h

-- ===== what turns keep

module _ (clauses : Program) (goals : List Asked) (depth : ℕ) where
  -- the goal's last verdict is the one under the store, and leaves it as it is
  pub record IsDone (s : State) (k : ℕ) (a : Asked) : Type 0 where
    pub verdict : Verdict
    pub last : last_verdict None k s.history ≡ Some verdict
    pub has_verdict : HasVerdictUnder clauses depth s.store a verdict
    pub rests : IsAtRest verdict

  abbrev pub IsSettled : State → Type 0
  IsSettled s = (k : ℕ) (a : Asked) → goal_at goals k ≡ Some a → has nat_eq s.waiting k ≡ false → IsDone s k a

  opening_settled : (store : Row) → IsSettled (opening goals store)
  opening_settled store k a g w = let t : has nat_eq (numbers_from 1 (length goals)) k ≡ true = all_wait goals k a g in absurd (cc (t, w))

  -- another goal's turn
  module _ (s : State) (later : List ℕ) (c : Commit) (first : s.waiting ≡ c.goal ∷ later) (settled : IsSettled s) where
    not_waiting : (k : ℕ) → nat_eq c.goal k ≡ false → has nat_eq later k ≡ false → has nat_eq s.waiting k ≡ false
    not_waiting k e f = ap (λ ks. has nat_eq ks k) first ∙ ap (λ b. b || has nat_eq later k) e ∙ f

    other_done : (waiting : List ℕ) (k : ℕ) (a : Asked) → goal_at goals k ≡ Some a → nat_eq c.goal k ≡ false → has nat_eq later k ≡ false → face s.store a.goal ≡ face c.store a.goal → IsDone (commit s waiting c) k a
    other_done waiting k a g e f stays =
        let d = settled k a g (not_waiting k e f) in
        record {
          verdict = d.verdict;
          last = last-push None k s.history c ∙ ap (λ b. cond b (Some c.verdict) (last_verdict None k s.history)) e ∙ d.last;
          has_verdict = subst (λ r. HasVerdict clauses depth a.mode a.goal.shape r d.verdict) stays d.has_verdict;
          rests = d.rests;
        }

    is_asked : (k : ℕ) (a b : Asked) → goal_at goals c.goal ≡ Some b → goal_at goals k ≡ Some a → nat_eq c.goal k ≡ true → b ≡ a
    is_asked k a b g h e = let some : Some b ≡ Some a = sym g ∙ ap (goal_at goals) (nat_is c.goal k e) ∙ h in cc (some)

    -- a turn that leaves the store
    quiet : (b : Asked) → goal_at goals c.goal ≡ Some b → HasVerdictUnder clauses depth s.store b c.verdict → IsAtRest c.verdict → c.store ≡ s.store → IsSettled (commit s later c)
    quiet b is has_verdict rests stays k a g w = go (nat_eq c.goal k) refl
      where
        go : (x : Bool) → nat_eq c.goal k ≡ x → IsDone (commit s later c) k a
        go true e = record {
          verdict = c.verdict;
          last = last-push None k s.history c ∙ ap (λ y. cond y (Some c.verdict) (last_verdict None k s.history)) e;
          has_verdict = subst (λ r. HasVerdictUnder clauses depth r a c.verdict) (sym stays) (subst (λ (x : Asked). HasVerdictUnder clauses depth s.store x c.verdict) (is_asked k a b is g e) has_verdict);
          rests = rests;
        }
        go false e = other_done later k a g e w (ap (λ r. face r a.goal) (sym stays))

    -- a turn that narrows
    narrows : (b : Asked) → goal_at goals c.goal ≡ Some b → (face s.store b.goal ≡ face c.store b.goal → ⊥) → IsSettled (commit s (later ++ woken s.store c.store later 1 goals) c)
    narrows b is changes k a g w =
        let waits : (has nat_eq later k || has nat_eq (woken s.store c.store later 1 goals) k) ≡ false = sym (has-append nat_eq later (woken s.store c.store later 1 goals) k) ∙ w in
        let neither = or_parts (has nat_eq later k) (has nat_eq (woken s.store c.store later 1 goals) k) waits in
        let stays = face_stays s.store c.store later goals k a g neither.0 neither.1 in
        go neither.0 stays (nat_eq c.goal k) refl
      where
        go : has nat_eq later k ≡ false → face s.store a.goal ≡ face c.store a.goal → (x : Bool) → nat_eq c.goal k ≡ x → IsDone (commit s (later ++ woken s.store c.store later 1 goals) c) k a
        go old stays true e = absurd (changes (subst (λ (x : Asked). face s.store x.goal ≡ face c.store x.goal) (sym (is_asked k a b is g e)) stays))
        go old stays false e = other_done (later ++ woken s.store c.store later 1 goals) k a g e old stays

  some_is : (s t : State) → Some s ≡ Some t → s ≡ t
  some_is s t e = cc (e)

  next_settled : (s t : State) (later : List ℕ) (k : ℕ) (a : Asked) (v : Verdict) → s.waiting ≡ k ∷ later → goal_at goals k ≡ Some a → HasVerdictUnder clauses depth s.store a v
      → Some t ≡ turned goals later k a v s → IsSettled s → IsSettled t
  next_settled s t later k a fail w g h e p = let f : Some t ≡ None = e in absurd (cc (f))
  next_settled s t later k a same w g h e p = subst IsSettled (sym (some_is t _ e)) (quiet s later (committed s.store k a same) w p a g h (inl refl) refl)
  next_settled s t later k a nothing w g h e p = subst IsSettled (sym (some_is t _ e)) (quiet s later (committed s.store k a nothing) w p a g h (inr (inl refl)) refl)
  next_settled s t later k a unfinished w g h e p = subst IsSettled (sym (some_is t _ e)) (quiet s later (committed s.store k a unfinished) w p a g h (inr (inr refl)) refl)
  next_settled s t later k a (narrow given) w g h e p =
      subst IsSettled (sym (some_is t _ e))
      (narrows s later (committed s.store k a (narrow given)) w p a g (λ f. narrowing_changes_face clauses depth s.store a given h (sym f)))

  pub turns_settle : (n : ℕ) (s t : State) → Turns clauses goals depth n s t → IsSettled s → IsSettled t
  turns_settle zero s t e p = subst IsSettled e p
  turns_settle (suc n) s t h p = turns_settle n h.1 t h.3 (next_settled s h.1 h.2.later h.0.goal h.2.asked h.0.verdict h.2.first h.2.is_goal h.2.has_verdict h.2.leads p)

  -- ===== where none waits

  unfinished_is : (v : Verdict) → is_unfinished (Some v) ≡ true → v ≡ unfinished
  unfinished_is unfinished e = refl
  unfinished_is fail e = let f : false ≡ true = e in absurd (cc (f))
  unfinished_is same e = let f : false ≡ true = e in absurd (cc (f))
  unfinished_is nothing e = let f : false ≡ true = e in absurd (cc (f))
  unfinished_is (narrow given) e = let f : false ≡ true = e in absurd (cc (f))

  module _ (s : State) (done : (k : ℕ) (a : Asked) → goal_at goals k ≡ Some a → IsDone s k a) where
    abbrev IsUnfinished : ℕ → Type 0
    IsUnfinished k = (a : Asked) × (goal_at goals k ≡ Some a) × HasVerdictUnder clauses depth s.store a unfinished

    listed : (k : ℕ) → IsIn k (unfinished_goals (length goals) s.history) → IsUnfinished k
    listed k i =
        let r = in_filter (λ j. is_unfinished (last_verdict None j s.history)) (numbers_from 1 (length goals)) k i in
        let g = all_are_goals goals k r.0 in
        let d = done k g.0 g.1 in
        (g.0, g.1, subst (λ v. HasVerdictUnder clauses depth s.store g.0 v) (unfinished_is d.verdict (ap is_unfinished (sym d.last) ∙ r.1)) d.has_verdict)

    lists : (k : ℕ) → IsUnfinished k → IsIn k (unfinished_goals (length goals) s.history)
    lists k h =
        let d = done k h.0 h.1 in
        let is : d.verdict ≡ unfinished = verdict_once clauses depth h.0.mode h.0.goal.shape (face s.store h.0.goal) d.verdict unfinished d.has_verdict h.2 in
        filter_has (λ j. is_unfinished (last_verdict None j s.history)) (numbers_from 1 (length goals)) k (is_in (numbers_from 1 (length goals)) k (all_wait goals k h.0 h.1)) (ap is_unfinished (d.last ∙ ap Some is))

    pub is_fixpoint : IsFixpoint clauses goals depth s.store (unfinished_goals (length goals) s.history)
    is_fixpoint = record { at_rest = λ k a g. let d = done k a g in (d.verdict, d.has_verdict, d.rests); listed = λ k. (listed k, lists k) }

  fixpoint_at : (left : ℕ) (s : State) (r : Run) → IsSettled s → Ends clauses goals depth left s r → r.end ≡ yes → IsFixpoint clauses goals depth r.store (unfinished_goals (length goals) r.history)
  fixpoint_at left s r p (none_waits w e) f =
      subst (λ (x : Run). IsFixpoint clauses goals depth x.store (unfinished_goals (length goals) x.history)) (sym e)
      (is_fixpoint s (λ k a g. p k a g (ap (λ ks. has nat_eq ks k) w)))
  fixpoint_at left s r p (turns_are_made w z e) f = let g : stopped ≡ yes = sym (ap (λ (x : Run). x.end) e) ∙ f in absurd (cc (g))
  fixpoint_at left s r p (goal_fails more l c h e) f = let g : no ≡ yes = sym (ap (λ (x : Run). x.end) e) ∙ f in absurd (cc (g))

  pub ends_at_fixpoint : (turns : ℕ) (store : Row) (r : Run) → IsRunFrom clauses goals depth turns store r → r.end ≡ yes → IsFixpoint clauses goals depth r.store (unfinished_goals (length goals) r.history)
  ends_at_fixpoint turns store r h f = fixpoint_at h.left h.last r (turns_settle h.made (opening goals store) h.last h.leads (opening_settled store)) h.ends f

pub runs_end_at_fixpoints : RunsEndAtFixpoints
runs_end_at_fixpoints clauses goals depth turns store r h e = ends_at_fixpoint clauses goals depth turns store r h e
