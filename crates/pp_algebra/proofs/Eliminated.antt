-- How many variables items have, how large they are, and that a variable that is eliminated is gone.
use Rattle.std.proofs.Common.{◌≡◌, ℕ, suc, ◌+◌, ◌<◌, ◌≤◌, true, false, Bool, List, [], ◌∷◌, ◌++◌, map, length, refl, ap, subst, ◌⊎◌, inl, inr, arith}
use Rattle.std.specs.Prelude.{cond}
use Rattle.pp_algebra.specs.Terms.{Tree, int, node, variable, Trees, none, more, put, put_all, variables, variables_all, count, size, size_all}
use Rattle.pp_algebra.specs.Rows.{Domains}
use Rattle.pp_algebra.specs.Covers.{IsIn}
use Rattle.pp_algebra.specs.Solve.{Item, equation, membership, AllHold}
use Rattle.pp_algebra.specs.Solve.{put_item, equations}
use Rattle.pp_algebra.proofs.Antisym.{IsIn-either}
use Rattle.pp_algebra.proofs.Order.{IsIn-left, IsIn-right}
use Rattle.pp_algebra.proofs.CanonLemmas.{IsSame}
use Rattle.pp_algebra.proofs.Solution.{single, IsApart}

abbrev pub variables_of : {V : Type 0} → Item V → List V
variables_of (equation a b) = variables a ++ variables b
variables_of (membership t d) = variables t

abbrev pub variables_of_items : {V : Type 0} → List (Item V) → List V
variables_of_items [] = []
variables_of_items (i ∷ is) = variables_of i ++ variables_of_items is

-- all of vs are in ws
abbrev pub IsAmong : {V : Type 0} → List V → List V → Type 0
IsAmong vs ws = (v : _) → IsIn v vs → IsIn v ws

-- at most k different variables
pub record Few {V : Type 0} (k : ℕ) (vs : List V) : Type 0 where
  pub all : List V
  pub few : length all ≤ k
  pub among : IsAmong vs all

pub few-among : {V : Type 0} (k : ℕ) (vs ws : List V) → IsAmong vs ws → Few k ws → Few k vs
few-among k vs ws h f = record { all = f.all; few = f.few; among = λ v i. f.among v (h v i) }

pub few-fewer : {V : Type 0} (j k : ℕ) (vs : List V) → j ≤ k → Few j vs → Few k vs
few-fewer j k vs h f = record { all = f.all; few = omega (arith, f.few); among = f.among }

abbrev pub size_of : {V : Type 0} → List (Item V) → ℕ
size_of [] = 0
size_of (equation a b ∷ is) = size a + size b + size_of is
size_of (membership t d ∷ is) = size t + size_of is

module _ {V W : Type 0} (s : V → Tree W) where
  mutual
    -- a term with x in it is no smaller than what goes to x
    within : (x : V) (t : Tree V) → IsIn x (variables t) → size (s x) ≤ size (put s t)
    within x (int n) i = absurd i
    within x (node f ts) i = let h = within_all x ts i in omega arith
    within x (variable v) (inl e) = rw e (omega arith)
    within x (variable v) (inr e) = absurd e

    within_all : (x : V) (ts : Trees V) → IsIn x (variables_all ts) → size (s x) ≤ size_all (put_all s ts)
    within_all x none i = absurd i
    within_all x (more t ts) i = elim (IsIn-either x (variables t) (variables_all ts) i) [
      | inl a ↦ (let h = within x t a in omega arith)
      | inr b ↦ (let h = within_all x ts b in omega arith)
    ]

  -- no substitution makes x a compound that contains it
  pub no_circle : (x : V) (f : ℕ) (ts : Trees V) → IsIn x (variables_all ts) → s x ≡ put s (node f ts) → ⊥
  no_circle x f ts i e = let h = within_all x ts i in let g : size (s x) ≡ suc (size_all (put_all s ts)) = ap size e in absurd (omega arith)

-- the equations of the arguments
pub equations-size : {V : Type 0} (ts us : Trees V) (is : List (Item V)) → count ts ≡ count us → size_of (equations ts us ++ is) ≤ size_all ts + size_all us + size_of is
equations-size none none is e = omega arith
equations-size none (more u us) is e = absurd (omega (arith, e))
equations-size (more t ts) none is e = absurd (omega (arith, e))
equations-size (more t ts) (more u us) is e = let h = equations-size ts us is (omega (arith, e)) in omega (arith, h)

equations-in : {V : Type 0} (ts us : Trees V) (is : List (Item V)) (v : V) → IsIn v (variables_of_items (equations ts us ++ is)) → (IsIn v (variables_all ts) ⊎ IsIn v (variables_all us)) ⊎ IsIn v (variables_of_items is)
equations-in none us is v i = inr i
equations-in (more t ts) none is v i = inr i
equations-in (more t ts) (more u us) is v i = elim (IsIn-either v (variables t ++ variables u) (variables_of_items (equations ts us ++ is)) i) [
  | inl j ↦ (elim (IsIn-either v (variables t) (variables u) j) [
    | inl k ↦ inl (inl (IsIn-left v (variables t) (variables_all ts) k))
    | inr k ↦ inl (inr (IsIn-left v (variables u) (variables_all us) k))
  ])
  | inr j ↦ (elim (equations-in ts us is v j) [
    | inl k ↦ (elim k [
      | inl l ↦ inl (inl (IsIn-right v (variables t) (variables_all ts) l))
      | inr l ↦ inl (inr (IsIn-right v (variables u) (variables_all us) l))
    ])
    | inr k ↦ inr k
  ])
]

pub equations-variables : {V : Type 0} (ts us : Trees V) (is : List (Item V)) → IsAmong (variables_of_items (equations ts us ++ is)) ((variables_all ts ++ variables_all us) ++ variables_of_items is)
equations-variables ts us is v i = elim (equations-in ts us is v i) [
  | inl k ↦ IsIn-left v (variables_all ts ++ variables_all us) (variables_of_items is) (elim k [ inl l ↦ IsIn-left v (variables_all ts) (variables_all us) l | inr l ↦ IsIn-right v (variables_all ts) (variables_all us) l ])
  | inr k ↦ IsIn-right v (variables_all ts ++ variables_all us) (variables_of_items is) k
]

pub equations-hold : {V : Type 0} (q : Domains ℕ) (b : V → Tree ℕ) (ts us : Trees V) (is : List (Item V)) → count ts ≡ count us → (put_all b ts ≡ put_all b us) × AllHold q b is → AllHold q b (equations ts us ++ is)
equations-hold q b none none is e h = h.1
equations-hold q b none (more u us) is e h = absurd (omega (arith, e))
equations-hold q b (more t ts) none is e h = absurd (omega (arith, e))
equations-hold q b (more t ts) (more u us) is e h = (cc h.0, equations-hold q b ts us is (omega (arith, e)) (cc h.0, h.1))

pub hold-equations : {V : Type 0} (q : Domains ℕ) (b : V → Tree ℕ) (ts us : Trees V) (is : List (Item V)) → count ts ≡ count us → AllHold q b (equations ts us ++ is) → (put_all b ts ≡ put_all b us) × AllHold q b is
hold-equations q b none none is e h = (refl, h)
hold-equations q b none (more u us) is e h = absurd (omega (arith, e))
hold-equations q b (more t ts) none is e h = absurd (omega (arith, e))
hold-equations q b (more t ts) (more u us) is e h = let r = hold-equations q b ts us is (omega (arith, e)) h.1 in (rw (h.0, r.0) refl, r.1)

module _ {V : Type 0} (same : V → V → Bool) (s : IsSame same) where
  abbrev pub without : V → List V → List V
  without x [] = []
  without x (v ∷ vs) = cond (same v x) (without x vs) (v ∷ without x vs)

  without-length : (x : V) (vs : List V) → length (without x vs) ≤ length vs
  without-length x [] = omega arith
  without-length x (v ∷ vs) = elim (same v x) as (λ c. length (cond c (without x vs) (v ∷ without x vs)) ≤ suc (length vs)) [
    | true ↦ (let h = without-length x vs in omega (arith, h))
    | false ↦ (let h = without-length x vs in omega (arith, h))
  ]

  shorter : (x : V) (vs : List V) → IsIn x vs → length (without x vs) < length vs
  shorter x [] i = absurd i
  shorter x (v ∷ vs) (inl e) = let h = without-length x vs in rw (e, s.itself x) (omega (arith, h))
  shorter x (v ∷ vs) (inr i) = elim (same v x) as (λ c. length (cond c (without x vs) (v ∷ without x vs)) < suc (length vs)) [
    | true ↦ (let h = shorter x vs i in omega (arith, h))
    | false ↦ (let h = shorter x vs i in omega (arith, h))
  ]

  still_in : (x v : V) (vs : List V) → same v x ≡ false → IsIn v vs → IsIn v (without x vs)
  still_in x v [] h i = absurd i
  still_in x v (w ∷ vs) h (inl e) = rw (e, h) (inl refl)
  still_in x v (w ∷ vs) h (inr i) = elim (same w x) as (λ c. IsIn v (cond c (without x vs) (w ∷ without x vs))) [ true ↦ still_in x v vs h i | false ↦ inr (still_in x v vs h i) ]

  module _ (x : V) (t : Tree V) (apart : IsApart same x t) where
    abbrev sub : V → Tree V
    sub = single same x t

    -- a variable after the substitution is one of t's, or an earlier one that is not x
    abbrev Came : V → List V → Type 0
    Came v vs = IsIn v (variables t) ⊎ (IsIn v vs × (same v x ≡ false))

    came_left : (v : V) (vs ws : List V) → Came v vs → Came v (vs ++ ws)
    came_left v vs ws c = elim c [ inl i ↦ inl i | inr p ↦ inr (IsIn-left v vs ws p.0, p.1) ]

    came_right : (v : V) (vs ws : List V) → Came v ws → Came v (vs ++ ws)
    came_right v vs ws c = elim c [ inl i ↦ inl i | inr p ↦ inr (IsIn-right v vs ws p.0, p.1) ]

    came_one : (w v : V) (c : Bool) → same w x ≡ c → IsIn v (variables (cond c t (variable w))) → Came v (w ∷ [])
    came_one w v true e i = inl i
    came_one w v false e (inl g) = inr (inl g, subst (λ y. same y x ≡ false) g e)
    came_one w v false e (inr i) = absurd i

    mutual
      came : (a : Tree V) (v : V) → IsIn v (variables (put sub a)) → Came v (variables a)
      came (int n) v i = absurd i
      came (node f ts) v i = came_all ts v i
      came (variable w) v i = came_one w v (same w x) refl i

      came_all : (ts : Trees V) (v : V) → IsIn v (variables_all (put_all sub ts)) → Came v (variables_all ts)
      came_all none v i = absurd i
      came_all (more a ts) v i = elim (IsIn-either v (variables (put sub a)) (variables_all (put_all sub ts)) i) [
        | inl j ↦ came_left v (variables a) (variables_all ts) (came a v j)
        | inr j ↦ came_right v (variables a) (variables_all ts) (came_all ts v j)
      ]

    came_item : (i : Item V) (v : V) → IsIn v (variables_of (put_item sub i)) → Came v (variables_of i)
    came_item (equation a b) v i = elim (IsIn-either v (variables (put sub a)) (variables (put sub b)) i) [
      | inl j ↦ came_left v (variables a) (variables b) (came a v j)
      | inr j ↦ came_right v (variables a) (variables b) (came b v j)
    ]
    came_item (membership a d) v i = came a v i

    came_items : (is : List (Item V)) (v : V) → IsIn v (variables_of_items (map (put_item sub) is)) → Came v (variables_of_items is)
    came_items [] v i = absurd i
    came_items (a ∷ is) v i = elim (IsIn-either v (variables_of (put_item sub a)) (variables_of_items (map (put_item sub) is)) i) [
      | inl j ↦ came_left v (variables_of a) (variables_of_items is) (came_item a v j)
      | inr j ↦ came_right v (variables_of a) (variables_of_items is) (came_items is v j)
    ]

    -- fewer variables are left
    pub fewer : (k : ℕ) (vs : List V) (is : List (Item V)) → IsIn x vs → IsAmong (variables t) vs → IsAmong (variables_of_items is) vs → Few k vs → (j : ℕ) × (j < k) × Few j (variables_of_items (map (put_item sub) is))
    fewer k vs is i ts rest f = (
      length (without x f.all),
      (let h = shorter x f.all (f.among x i) in omega (arith, h, f.few)),
      record {
        all = without x f.all;
        few = omega arith;
        among = λ v j. elim (came_items is v j) [
          | inl c ↦ still_in x v f.all (apart v c) (f.among v (ts v c))
          | inr c ↦ still_in x v f.all c.1 (f.among v (rest v c.0))
        ];
      },
    )
