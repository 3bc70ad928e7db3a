-- The goals whose face changed are woken one after another.
use Rattle.std.proofs.Common.{◌≡◌, ℕ, suc, ◌+◌, ◌<◌, ◌≤◌, Bool, true, false, List, [], ◌∷◌, ◌++◌, length, All, get_or, take, append-nil, append_assoc, refl, ap, sym, ◌∙◌, arith}
use Rattle.std.specs.Prelude.{nat_eq, not, ◌&&◌, ◌||◌, cond}
use Rattle.std.proofs.lemmas.Bool.{ne_eqb}
use Rattle.std.proofs.lemmas.List.{take_more}
use Rattle.std.proofs.lemmas.List.Elements.{All-nil, All-cons}
use Rattle.pp_algebra.specs.Rows.{Row}
use Rattle.pp_algebra.specs.Canon.{has, firsts, same_row}
use Rattle.pp_propagation.specs.Stores.{Asked, face}
use Rattle.pp_propagation.specs.Turns.{woken}
use Rattle.pp_row.proofs.Numbering.{firsts-append}
use Rattle.pp_wake.specs.Waiting.{IsGoalOf}

has-append : (vs ws : List ℕ) (v : ℕ) → has nat_eq (vs ++ ws) v ≡ (has nat_eq vs v || has nat_eq ws v)
has-append [] ws v = refl
has-append (x ∷ vs) ws v = ap (λ b. nat_eq x v || b) (has-append vs ws v) ∙ or_in (nat_eq x v) (has nat_eq vs v) (has nat_eq ws v)
  where
    or_in : (a b c : Bool) → (a || (b || c)) ≡ ((a || b) || c)
    or_in true b c = refl
    or_in false b c = refl

-- all of them lie below k
abbrev AreBefore : ℕ → List ℕ → Type 0
AreBefore k [] = Unit {0}
AreBefore k (v ∷ vs) = (v < k) × AreBefore k vs

before_has : (k : ℕ) (vs : List ℕ) → AreBefore k vs → has nat_eq vs k ≡ false
before_has k [] h = refl
before_has k (v ∷ vs) h = let e : nat_eq v k ≡ false = ne_eqb v k (λ f. absurd (omega (arith, f, h.0))) in rw e (before_has k vs h.1)

before_later : (k : ℕ) (vs : List ℕ) → AreBefore k vs → AreBefore (suc k) vs
before_later k [] h = tt
before_later k (v ∷ vs) h = (omega (arith, h.0), before_later k vs h.1)

before_push : (k : ℕ) (vs : List ℕ) → AreBefore k vs → AreBefore (suc k) (vs ++ k ∷ [])
before_push k [] h = (omega arith, tt)
before_push k (v ∷ vs) h = (omega (arith, h.0), before_push k vs h.1)

or_none : (b : Bool) → (b || false) ≡ b
or_none true = refl
or_none false = refl

still_has : (waiting more : List ℕ) (k : ℕ) (b : Bool) → AreBefore k more → has nat_eq waiting k ≡ b → has nat_eq (waiting ++ more) k ≡ b
still_has waiting more k b h e = has-append waiting more k ∙ ap (λ c. has nat_eq waiting k || c) (before_has k more h) ∙ or_none (has nat_eq waiting k) ∙ e

-- one goal more: `s` says whether its face is the same, `w` whether it waits
one_more : (waiting more : List ℕ) (k : ℕ) (s w : Bool) (any those : List ℕ) → AreBefore k more → has nat_eq waiting k ≡ w
    → (firsts nat_eq (waiting ++ more) any ≡ (waiting ++ more) ++ those)
    → (firsts nat_eq (waiting ++ (more ++ k ∷ [])) any ≡ (waiting ++ (more ++ k ∷ [])) ++ those)
    → firsts nat_eq (waiting ++ more) (cond (not s && not false) (k ∷ any) any) ≡ (waiting ++ more) ++ cond (not s && not w) (k ∷ those) those
one_more waiting more k true w any those h e f g = f
one_more waiting more k false true any those h e f g =
    ap (λ c. cond c (firsts nat_eq (waiting ++ more) any) (firsts nat_eq ((waiting ++ more) ++ k ∷ []) any)) (still_has waiting more k true h e) ∙ f
one_more waiting more k false false any those h e f g =
    ap (λ c. cond c (firsts nat_eq (waiting ++ more) any) (firsts nat_eq ((waiting ++ more) ++ k ∷ []) any)) (still_has waiting more k false h e)
    ∙ ap (λ vs. firsts nat_eq vs any) (append_assoc waiting more (k ∷ []))
    ∙ g
    ∙ ap (λ vs. vs ++ those) (sym (append_assoc waiting more (k ∷ [])))
    ∙ append_assoc (waiting ++ more) (k ∷ []) those

all_or_later : (n k : ℕ) (b : Bool) (ks : List ℕ) → IsGoalOf n k → All (IsGoalOf n) ks → All (IsGoalOf n) (cond b (k ∷ ks) ks)
all_or_later n k true ks h rest = All-cons (IsGoalOf n) k ks h rest
all_or_later n k false ks h rest = rest

module _ (old new : Row) where
  -- `more` were woken already
  woken_on : (waiting more : List ℕ) (k : ℕ) (goals : List Asked) → AreBefore k more → firsts nat_eq (waiting ++ more) (woken old new [] k goals) ≡ (waiting ++ more) ++ woken old new waiting k goals
  woken_on waiting more k [] h = sym (append-nil (waiting ++ more))
  woken_on waiting more k (a ∷ later) h =
      one_more waiting more k (same_row (face old a.goal) (face new a.goal)) (has nat_eq waiting k) (woken old new [] (suc k) later) (woken old new waiting (suc k) later) h refl
      (woken_on waiting more (suc k) later (before_later k more h))
      (woken_on waiting (more ++ k ∷ []) (suc k) later (before_push k more h))

  pub woken_all : (waiting : List ℕ) (goals : List Asked) → firsts nat_eq waiting (woken old new [] 1 goals) ≡ waiting ++ woken old new waiting 1 goals
  woken_all waiting goals =
      ap (λ vs. firsts nat_eq vs (woken old new [] 1 goals)) (sym (append-nil waiting))
      ∙ woken_on waiting [] 1 goals tt
      ∙ ap (λ vs. vs ++ woken old new waiting 1 goals) (append-nil waiting)

  woken_from : (n k : ℕ) (goals : List Asked) → 1 ≤ k → k + length goals ≤ n + 1 → All (IsGoalOf n) (woken old new [] k goals)
  woken_from n k [] l m = All-nil (IsGoalOf n)
  woken_from n k (a ∷ later) l m =
      all_or_later n k (not (same_row (face old a.goal) (face new a.goal)) && not false) (woken old new [] (suc k) later) (l, omega (arith, m))
      (woken_from n (suc k) later (omega arith) (omega (arith, m)))

  pub woken_are_goals : (goals : List Asked) → All (IsGoalOf (length goals)) (woken old new [] 1 goals)
  woken_are_goals goals = woken_from (length goals) 1 goals (omega arith) (omega arith)

-- one goal more is put in where it doesn't wait
pub put_next : (goals seen before after : List ℕ) (k g d : ℕ) → k < length goals → g ≡ get_or goals k d → before ≡ firsts nat_eq seen (take k goals) → after ≡ firsts nat_eq before (g ∷ []) → after ≡ firsts nat_eq seen (take (k + 1) goals)
put_next goals seen before after k g d l is e f =
    f ∙ ap (λ vs. firsts nat_eq vs (g ∷ [])) e
    ∙ sym (firsts-append nat_eq seen (take k goals) (g ∷ []))
    ∙ ap (firsts nat_eq seen) (ap (λ x. take k goals ++ x ∷ []) is ∙ sym (take_more goals k d l))
