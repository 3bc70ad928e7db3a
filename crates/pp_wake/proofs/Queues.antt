-- A queue of goals and their flags, as goals come and go.
use Rattle.std.proofs.Common.{◌≡◌, ℕ, zero, suc, ◌+◌, ◌-◌, ◌<◌, ◌≤◌, inl, inr, Bool, true, false, List, [], ◌∷◌, ◌++◌, length, All, get_or, set, replicate, refl, ap, sym, ◌∙◌, subst, arith}
use Rattle.std.specs.Prelude.{nat_eq, ◌||◌, cond}
use Rattle.std.specs.List.{count_by}
use Rattle.std.proofs.lemmas.Bool.{cases_eq, ne_eqb}
use Rattle.std.proofs.lemmas.List.{get_or-set_same, get_or-set_other, length-set, length-replicate, get_or-replicate}
use Rattle.std.proofs.lemmas.List.Elements.{All-nil, All-cons, All-head, All-tail, All-push, All-weaker}
use Rattle.std.proofs.lemmas.List.Sums.{sum_by-set, count_by-le-length}
use Rattle.std.proofs.lemmas.List.Folds.{sum_by-replicate}
use Rattle.pp_algebra.specs.Canon.{has, firsts, Distinct}
use Rattle.pp_algebra.proofs.Bools.{nat_same}
use Rattle.pp_algebra.proofs.CanonLemmas.{nat_eq-IsSame, has-append}
use Rattle.pp_algebra.proofs.OneCanon.{distinct_push}
use Rattle.pp_propagation.specs.Histories.{numbers_from}
use Rattle.pp_wake.specs.Waiting.{IsGoalOf}
use Rattle.pp_wake.specs.Flags.{Agree}
use Rattle.std.proofs.Math.Bool.{or-true, or-false}

-- ===== all goals

pub numbers_push : (first n : ℕ) → numbers_from first (suc n) ≡ numbers_from first n ++ (first + n) ∷ []
numbers_push first zero = ap (λ k. k ∷ []) (omega arith)
numbers_push first (suc n) = ap (λ ks. first ∷ ks) (numbers_push (suc first) n ∙ ap (λ k. numbers_from (suc first) n ++ k ∷ []) (omega arith))

pub numbers_next : (n k m : ℕ) (old new : List ℕ) → old ≡ numbers_from 1 n → k ≡ n + 1 → new ≡ old ++ k ∷ [] → m ≡ n + 1 → new ≡ numbers_from 1 m
numbers_next n k m old new e f g h =
    let s : m ≡ suc n = omega (arith, h) in
    let t : k ≡ 1 + n = omega (arith, f) in
    g ∙ ap (λ ks. ks ++ k ∷ []) e ∙ ap (λ j. numbers_from 1 n ++ j ∷ []) t ∙ sym (numbers_push 1 n) ∙ ap (numbers_from 1) (sym s)

numbers_before : (first n v : ℕ) → v < first → has nat_eq (numbers_from first n) v ≡ false
numbers_before first zero v h = refl
numbers_before first (suc n) v h =
    let e : nat_eq first v ≡ false = ne_eqb first v (λ f. absurd (omega (arith, h, f))) in
    rw e (numbers_before (suc first) n v (omega (arith, h)))

numbers_among : (first n v : ℕ) → first ≤ v → v < first + n → has nat_eq (numbers_from first n) v ≡ true
numbers_among first zero v h l = absurd (omega (arith, h, l))
numbers_among first (suc n) v h l = elim (cases_eq first v) [
  | inl e ↦ rw (e, nat_same v) refl
  | inr f ↦ (let e : nat_eq first v ≡ false = ne_eqb first v f in rw e (numbers_among (suc first) n v (omega (arith, h, f)) (omega (arith, l))))
]

numbers_distinct : (first n : ℕ) → Distinct nat_eq (numbers_from first n)
numbers_distinct first zero = tt
numbers_distinct first (suc n) = (numbers_before (suc first) n first (omega arith), numbers_distinct (suc first) n)

numbers_are_goals : (goals first n : ℕ) → 1 ≤ first → first + n ≤ goals + 1 → All (IsGoalOf goals) (numbers_from first n)
numbers_are_goals goals first zero h l = All-nil (IsGoalOf goals)
numbers_are_goals goals first (suc n) h l = All-cons (IsGoalOf goals) first (numbers_from (suc first) n) (h, omega (arith, l)) (numbers_are_goals goals (suc first) n (omega arith) (omega (arith, l)))

pub all_agree : (n len room : ℕ) (flags : List Bool) (queue : List ℕ) → flags ≡ replicate n true → queue ≡ numbers_from 1 n → len ≡ n → n ≤ room → Agree flags queue len room
all_agree n len room flags queue e f g h =
    let many : length flags ≡ n = ap length e ∙ length-replicate n true in
    record {
      goals = subst (λ ks. All (IsGoalOf (length flags)) ks) (sym f) (numbers_are_goals (length flags) 1 n (omega arith) (omega (arith, many)));
      distinct = subst (Distinct nat_eq) (sym f) (numbers_distinct 1 n);
      flag = λ k l. ap (λ fs. get_or fs k false) e ∙ get_or-replicate n k true false (omega (arith, l, many)) ∙ sym (ap (λ ks. has nat_eq ks (suc k)) f ∙ numbers_among 1 n (suc k) (omega arith) (omega (arith, l, many)));
      counted = g ∙ sym (ap (λ fs. count_by (λ b. b) fs) e ∙ sum_by-replicate (λ b. cond b 1 0) n true ∙ omega arith);
      has_room = omega (arith, many, h);
    }

-- ===== one goal less

abbrev one_of : Bool → ℕ
one_of b = cond b 1 0

pub all_goals : (flags : List Bool) (queue : List ℕ) (len room : ℕ) → Agree flags queue len room → All (IsGoalOf (length flags)) queue
all_goals flags queue len room a = a.goals

pub first_is_goal : (flags : List Bool) (queue later : List ℕ) (goal len room : ℕ) → Agree flags queue len room → queue ≡ goal ∷ later → IsGoalOf (length flags) goal
first_is_goal flags queue later goal len room a e = All-head (IsGoalOf (length flags)) goal later (subst (λ ks. All (IsGoalOf (length flags)) ks) e a.goals)

-- the flag of a goal that waits, and of one that doesn't
flag_of : (flags : List Bool) (queue : List ℕ) (len room goal : ℕ) → Agree flags queue len room → IsGoalOf (length flags) goal → get_or flags (goal - 1) false ≡ has nat_eq queue goal
flag_of flags queue len room goal a h =
    let e : suc (goal - 1) ≡ goal = omega (arith, h.0) in
    a.flag (goal - 1) (omega (arith, h.0, h.1)) ∙ ap (has nat_eq queue) e

pub taken_agree : (flags new : List Bool) (queue later : List ℕ) (goal len rest room after : ℕ) → Agree flags queue len room → queue ≡ goal ∷ later
    → new ≡ set flags (goal - 1) false → rest + 1 ≡ len → after ≡ room → Agree new later rest after
taken_agree flags new queue later goal len rest room after a e f g h =
    let is = first_is_goal flags queue later goal len room a e in
    let many : length new ≡ length flags = ap length f ∙ length-set flags (goal - 1) false in
    let apart = subst (Distinct nat_eq) e a.distinct in
    let number : suc (goal - 1) ≡ goal = omega (arith, is.0) in
    let was : get_or flags (goal - 1) false ≡ true = flag_of flags queue len room goal a is ∙ ap (λ ks. has nat_eq ks goal) e ∙ ap (λ b. b || has nat_eq later goal) (nat_same goal) in
    let fewer : count_by (λ b. b) (set flags (goal - 1) false) + one_of (get_or flags (goal - 1) false) ≡ count_by (λ b. b) flags + 0 = sum_by-set one_of flags (goal - 1) false false (omega (arith, is.0, is.1)) in
    let one : one_of (get_or flags (goal - 1) false) ≡ 1 = ap one_of was in
    let now : count_by (λ b. b) new ≡ count_by (λ b. b) (set flags (goal - 1) false) = ap (λ fs. count_by (λ b. b) fs) f in
    record {
      goals = All-weaker (IsGoalOf (length flags)) (IsGoalOf (length new)) (λ k w. (w.0, omega (arith, w.1, many))) later (All-tail (IsGoalOf (length flags)) goal later (subst (λ ks. All (IsGoalOf (length flags)) ks) e a.goals));
      distinct = apart.1;
      flag = λ k l. ap (λ fs. get_or fs k false) f ∙ flag_now k (omega (arith, l, many)) number;
      counted = omega (arith, fewer, one, now, a.counted, g);
      has_room = omega (arith, many, h, a.has_room);
    }
  where
    flag_now : (k : ℕ) → k < length flags → suc (goal - 1) ≡ goal → get_or (set flags (goal - 1) false) k false ≡ has nat_eq later (suc k)
    flag_now k l number = elim (cases_eq k (goal - 1)) [
      | inl same ↦ (let there : suc k ≡ goal = omega (arith, same, number) in ap (λ j. get_or (set flags (goal - 1) false) j false) same ∙ get_or-set_same flags (goal - 1) false false (omega (arith, same, l)) ∙ sym (ap (has nat_eq later) there ∙ (subst (Distinct nat_eq) e a.distinct).0))
      | inr other ↦ (let elsewhere : nat_eq goal (suc k) ≡ false = ne_eqb goal (suc k) (λ x. other (omega (arith, x, number))) in
          get_or-set_other flags (goal - 1) k false false other ∙ a.flag k l ∙ ap (λ ks. has nat_eq ks (suc k)) e ∙ ap (λ b. b || has nat_eq later (suc k)) elsewhere)
    ]

-- ===== one goal more

has_last : (vs : List ℕ) (x v : ℕ) → has nat_eq (vs ++ x ∷ []) v ≡ (has nat_eq vs v || nat_eq x v)
has_last vs x v = has-append nat_eq vs (x ∷ []) v ∙ ap (λ b. has nat_eq vs v || b) (or-false (nat_eq x v))

-- the goals that don't wait have room in the queue
pub has_room : (flags : List Bool) (queue : List ℕ) (len room goal : ℕ) → Agree flags queue len room → IsGoalOf (length flags) goal → get_or flags (goal - 1) false ≡ false → len < room
has_room flags queue len room goal a h e =
    let more : count_by (λ b. b) (set flags (goal - 1) true) + one_of (get_or flags (goal - 1) false) ≡ count_by (λ b. b) flags + 1 = sum_by-set one_of flags (goal - 1) true false (omega (arith, h.0, h.1)) in
    let none : one_of (get_or flags (goal - 1) false) ≡ 0 = ap one_of e in
    let most : count_by (λ b. b) (set flags (goal - 1) true) ≤ length (set flags (goal - 1) true) = count_by-le-length (λ b. b) (set flags (goal - 1) true) in
    let many : length (set flags (goal - 1) true) ≡ length flags = length-set flags (goal - 1) true in
    omega (arith, more, none, most, many, a.counted, a.has_room)

pub woken_agree : (flags new : List Bool) (queue longer : List ℕ) (goal len more room after : ℕ) → Agree flags queue len room → IsGoalOf (length flags) goal → get_or flags (goal - 1) false ≡ false
    → new ≡ set flags (goal - 1) true → longer ≡ queue ++ goal ∷ [] → more ≡ len + 1 → after ≡ room → Agree new longer more after
woken_agree flags new queue longer goal len more room after a is was f e g h =
    let many : length new ≡ length flags = ap length f ∙ length-set flags (goal - 1) true in
    let rested : has nat_eq queue goal ≡ false = sym (flag_of flags queue len room goal a is) ∙ was in
    let greater : count_by (λ b. b) (set flags (goal - 1) true) + one_of (get_or flags (goal - 1) false) ≡ count_by (λ b. b) flags + 1 = sum_by-set one_of flags (goal - 1) true false (omega (arith, is.0, is.1)) in
    let none : one_of (get_or flags (goal - 1) false) ≡ 0 = ap one_of was in
    let now : count_by (λ b. b) new ≡ count_by (λ b. b) (set flags (goal - 1) true) = ap (λ fs. count_by (λ b. b) fs) f in
    let all : All (IsGoalOf (length flags)) (queue ++ goal ∷ []) = All-push (IsGoalOf (length flags)) queue goal a.goals is in
    record {
      goals = subst (λ ks. All (IsGoalOf (length new)) ks) (sym e) (All-weaker (IsGoalOf (length flags)) (IsGoalOf (length new)) (λ k w. (w.0, omega (arith, w.1, many))) (queue ++ goal ∷ []) all);
      distinct = subst (Distinct nat_eq) (sym e) (distinct_push nat_eq nat_eq-IsSame queue goal a.distinct rested);
      flag = λ k l. ap (λ fs. get_or fs k false) f ∙ flag_now k (omega (arith, l, many)) ∙ sym (ap (λ ks. has nat_eq ks (suc k)) e ∙ has_last queue goal (suc k));
      counted = omega (arith, greater, none, now, a.counted, g);
      has_room = omega (arith, many, h, a.has_room);
    }
  where
    flag_now : (k : ℕ) → k < length flags → get_or (set flags (goal - 1) true) k false ≡ (has nat_eq queue (suc k) || nat_eq goal (suc k))
    flag_now k l = elim (cases_eq k (goal - 1)) [
      | inl same ↦ (let there : goal ≡ suc k = omega (arith, same, is.0) in ap (λ j. get_or (set flags (goal - 1) true) j false) same ∙ get_or-set_same flags (goal - 1) true false (omega (arith, same, l)) ∙ sym (ap (λ b. has nat_eq queue (suc k) || b) (ap (λ j. nat_eq j (suc k)) there ∙ nat_same (suc k)) ∙ or-true (has nat_eq queue (suc k))))
      | inr other ↦ (let elsewhere : nat_eq goal (suc k) ≡ false = ne_eqb goal (suc k) (λ x. other (omega (arith, x, is.0))) in
          get_or-set_other flags (goal - 1) k true false other ∙ a.flag k l ∙ sym (ap (λ b. has nat_eq queue (suc k) || b) elsewhere ∙ or-false (has nat_eq queue (suc k))))
    ]

-- ===== what the flags tell

pub waits_is : (flags : List Bool) (queue : List ℕ) (len room goal : ℕ) (b : Bool) → Agree flags queue len room → IsGoalOf (length flags) goal → b ≡ get_or flags (goal - 1) false → b ≡ has nat_eq queue goal
waits_is flags queue len room goal b a h e = e ∙ flag_of flags queue len room goal a h

-- a goal that waits stays where it is, and one that doesn't comes last
pub put_in : (queue : List ℕ) (goal : ℕ) (b : Bool) → has nat_eq queue goal ≡ b → firsts nat_eq queue (goal ∷ []) ≡ cond b queue (queue ++ goal ∷ [])
put_in queue goal b e = ap (λ c. cond c queue (queue ++ goal ∷ [])) e
