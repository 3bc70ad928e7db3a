-- Each turn leaves less to do: a waiting goal fewer, or smaller domains.
use Rattle.std.proofs.Common.{◌≡◌, ℕ, zero, suc, ◌+◌, ◌*◌, ◌<◌, ◌≤◌, inl, inr, Bool, true, false, List, [], ◌∷◌, length, length-append, Some, None, All, refl, ap, sym, ◌∙◌, subst, arith}
use Rattle.std.specs.Prelude.{cond, not, ◌&&◌, nat_eq}
use Rattle.std.proofs.Math.Nat.{mul-le-mul_left}
use Rattle.pp_algebra.specs.Rows.{Row, IsRow}
use Rattle.pp_algebra.specs.Canon.{has, same_row}
use Rattle.pp_sld.specs.Goals.{Program}
use Rattle.pp_sld.specs.Verdicts.{Verdict, fail, same, nothing, unfinished, narrow}
use Rattle.pp_language.specs.Told.{sum_of_sizes}
use Rattle.pp_propagation.specs.Stores.{Asked, face, apply}
use Rattle.pp_propagation.specs.Turns.{State, woken, turned}
use Rattle.pp_propagation.specs.Histories.{numbers_from}
use Rattle.pp_propagation.specs.Runs.{Run, yes, no, stopped, opening, Ends, none_waits, turns_are_made, goal_fails, Turns, IsRunFrom}
use Rattle.pp_propagation.proofs.StoreRows.{face_is_row, apply_is_row}
use Rattle.pp_fixpoint.specs.Fixpoints.{HasVerdictUnder, IsFinite, AreEnoughTurns}
use Rattle.pp_fixpoint.specs.Laws.{NarrowingShrinks, TurnsAreEnough}
use Rattle.pp_fixpoint.proofs.Narrowed.{is_narrowing, given_is_row}
use Rattle.pp_fixpoint.proofs.Faces.{face_changes, store_covers}
use Rattle.pp_fixpoint.proofs.Sizes.{covered_is_less}

-- ===== one turn that narrows

module _ (clauses : Program) (depth : ℕ) (store : Row) (a : Asked) (given : Row) (row : IsRow store) (h : HasVerdictUnder clauses depth store a (narrow given)) where
  pub next_row : IsRow (apply store a.goal given)
  next_row = apply_is_row store a.goal given row (given_is_row clauses depth a.mode a.goal.shape (face store a.goal) given h (face_is_row store a.goal row).wide)

  pub less_after : All IsFinite store.domains → All IsFinite (apply store a.goal given).domains × (sum_of_sizes (apply store a.goal given).domains < sum_of_sizes store.domains)
  less_after finite =
      let narrowing = is_narrowing clauses depth a.mode a.goal.shape (face store a.goal) given h in
      let l = covered_is_less store (apply store a.goal given) row next_row.canonical finite (store_covers store a.goal given narrowing.covered) in (
        l.0,
        elim l.1 [
          | inl f ↦ f
          | inr e ↦ absurd (face_changes store a.goal given narrowing (ap (λ r. face r a.goal) e))
        ],
      )

pub narrowing_shrinks : NarrowingShrinks
narrowing_shrinks clauses depth store a given row finite h = less_after clauses depth store a given row h finite

-- ===== what is left

few_woken : (old new : Row) (waiting : List ℕ) (first : ℕ) (goals : List Asked) → length (woken old new waiting first goals) ≤ length goals
few_woken old new waiting first [] = omega arith
few_woken old new waiting first (a ∷ goals) = one_more (not (same_row (face old a.goal) (face new a.goal)) && not (has nat_eq waiting first)) first (woken old new waiting (suc first) goals) (length goals) (few_woken old new waiting (suc first) goals)
  where
    one_more : (b : Bool) (k : ℕ) (ks : List ℕ) (n : ℕ) → length ks ≤ n → length (cond b (k ∷ ks) ks) ≤ suc n
    one_more true k ks n l = omega (arith, l)
    one_more false k ks n l = omega (arith, l)

more_times : (g n m : ℕ) → n < m → g * n + g ≤ g * m
more_times g n m l = let k : g * (n + 1) ≤ g * m = mul-le-mul_left g (let e : n + 1 ≤ m = omega (arith, l) in e) in omega (arith, k, one_more g n)
  where
    one_more : (g n : ℕ) → g * (n + 1) ≡ g * n + g
    one_more g n = grind arith

all_numbers : (first n : ℕ) → length (numbers_from first n) ≡ n
all_numbers first zero = refl
all_numbers first (suc n) = ap suc (all_numbers (suc first) n)

module _ (clauses : Program) (goals : List Asked) (depth : ℕ) where
  -- a turn for each goal that waits, and one for each goal and each integer in the domains
  abbrev left : State → ℕ
  left s = length s.waiting + length goals * sum_of_sizes s.store.domains

  record IsFiniteState (s : State) : Type 0 where
    row : IsRow s.store
    finite : All IsFinite s.store.domains

  some_is : (s t : State) → Some s ≡ Some t → s ≡ t
  some_is s t e = cc (e)

  abbrev IsLater : State → State → Type 0
  IsLater s t = IsFiniteState t × (left t < left s)

  -- the store stays
  quiet : (s t : State) (k : ℕ) (later : List ℕ) → s.waiting ≡ k ∷ later → t.waiting ≡ later → t.store ≡ s.store → IsFiniteState s → IsLater s t
  quiet s t k later w v e p = (
    record { row = subst (λ r. IsRow r) (sym e) p.row; finite = subst (λ (r : Row). All IsFinite r.domains) (sym e) p.finite },
    (let n : length s.waiting ≡ suc (length later) = ap length w in
        let m : length t.waiting ≡ length later = ap length v in
        let x : length goals * sum_of_sizes t.store.domains ≡ length goals * sum_of_sizes s.store.domains = ap (λ (r : Row). length goals * sum_of_sizes r.domains) e in
        omega (arith, n, m, x)),
  )

  later_state : (s t : State) (later : List ℕ) (k : ℕ) (a : Asked) (v : Verdict) → s.waiting ≡ k ∷ later → HasVerdictUnder clauses depth s.store a v → Some t ≡ turned goals later k a v s → IsFiniteState s → IsLater s t
  later_state s t later k a fail w h e p = let f : Some t ≡ None = e in absurd (cc (f))
  later_state s t later k a same w h e p = let is = some_is t _ e in quiet s t k later w (ap (λ (x : State). x.waiting) is) (ap (λ (x : State). x.store) is) p
  later_state s t later k a nothing w h e p = let is = some_is t _ e in quiet s t k later w (ap (λ (x : State). x.waiting) is) (ap (λ (x : State). x.store) is) p
  later_state s t later k a unfinished w h e p = let is = some_is t _ e in quiet s t k later w (ap (λ (x : State). x.waiting) is) (ap (λ (x : State). x.store) is) p
  later_state s t later k a (narrow given) w h e p =
      let is = some_is t _ e in
      let new = apply s.store a.goal given in
      let less = less_after clauses depth s.store a given p.row h p.finite in
      let store : t.store ≡ new = ap (λ (x : State). x.store) is in
      let waiting : length t.waiting ≡ length later + length (woken s.store new later 1 goals) = ap (λ (x : State). length x.waiting) is ∙ length-append later (woken s.store new later 1 goals) in
      let few = few_woken s.store new later 1 goals in
      let n : length s.waiting ≡ suc (length later) = ap length w in
      let x : length goals * sum_of_sizes t.store.domains ≡ length goals * sum_of_sizes new.domains = ap (λ (r : Row). length goals * sum_of_sizes r.domains) store in
      let y = more_times (length goals) (sum_of_sizes new.domains) (sum_of_sizes s.store.domains) less.1 in (
        record { row = subst (λ r. IsRow r) (sym store) (next_row clauses depth s.store a given p.row h); finite = subst (λ (r : Row). All IsFinite r.domains) (sym store) less.0 },
        omega (arith, waiting, few, n, x, y),
      )

  turns_leave : (n : ℕ) (s t : State) → Turns clauses goals depth n s t → IsFiniteState s → left t + n ≤ left s
  turns_leave zero s t e p = let x : left s ≡ left t = ap left e in omega (arith, x)
  turns_leave (suc n) s t h p =
      let step = later_state s h.1 h.2.later h.0.goal h.2.asked h.0.verdict h.2.first h.2.has_verdict h.2.leads p in
      let rest = turns_leave n h.1 t h.3 step.0 in
      let l = step.1 in
      omega (arith, rest, l)

  none_left : (ks : List ℕ) → length ks ≤ 0 → ks ≡ []
  none_left [] l = refl
  none_left (k ∷ ks) l = absurd (omega (arith, l))

  not_stopped : (rest : ℕ) (s : State) (r : Run) → (rest ≡ 0 → s.waiting ≡ []) → Ends clauses goals depth rest s r → r.end ≡ stopped → ⊥
  not_stopped rest s r none (none_waits w e) f = let g : yes ≡ stopped = sym (ap (λ (x : Run). x.end) e) ∙ f in absurd (cc (g))
  not_stopped rest s r none (turns_are_made w z e) f = w (none z)
  not_stopped rest s r none (goal_fails more l c h e) f = let g : no ≡ stopped = sym (ap (λ (x : Run). x.end) e) ∙ f in absurd (cc (g))

  pub enough : (turns : ℕ) (store : Row) (r : Run) → IsRunFrom clauses goals depth turns store r → AreEnoughTurns goals store turns → r.end ≡ stopped → ⊥
  enough turns store r h m =
      let start : IsFiniteState (opening goals store) = record { row = m.row; finite = m.finite } in
      let l = turns_leave h.made (opening goals store) h.last h.leads start in
      let n : length (numbers_from 1 (length goals)) ≡ length goals = all_numbers 1 (length goals) in
      let x : length goals * (sum_of_sizes store.domains + 1) ≡ length goals * sum_of_sizes store.domains + length goals = times_one (length goals) (sum_of_sizes store.domains) in
      let y = m.many in
      let within = h.within in
      not_stopped h.left h.last r (λ z. none_left h.last.waiting (omega (arith, l, n, x, y, within, z))) h.ends
    where
      times_one : (g k : ℕ) → g * (k + 1) ≡ g * k + g
      times_one g k = grind arith

pub turns_are_enough : TurnsAreEnough
turns_are_enough clauses goals depth turns store r h m f = enough clauses goals depth turns store r h m f
