-- Weights of lists that change at one place, and of what several views have taken.
use Rattle.std.proofs.Common.{◌≡◌, ◌≢◌, ℕ, zero, suc, ◌+◌, List, [], ◌∷◌, ◌++◌, length, refl, sym, ap, ◌∙◌, subst, ⊎_elim, set, arith, drop, flat_map}
use mathlib.Core.Option.{some, some-injective, some-ne-none}
use lib.ListN.{get_elem?}
use Rattle.std.proofs.Math.Seq.{drop-append_seam}
use Rattle.crossbeam_deque.proofs.Lists.{at_set}
use Rattle.pp_deal.specs.Dealt.{weigh, AsOften}

module _ {X : Type 0} where
  pub weigh_set : (f : X → ℕ) (xs : List X) (i : ℕ) (x y : X) → get_elem? xs i ≡ some x → weigh f (set xs i y) + f x ≡ weigh f xs + f y
  weigh_set f [] i x y e = absurd (some-ne-none x (sym e))
  weigh_set f (z ∷ zs) zero x y e = let t : f z ≡ f x = ap f (some-injective z x e) in omega arith
  weigh_set f (z ∷ zs) (suc i) x y e = let r = weigh_set f zs i x y e in omega arith

  pub weigh_append : (f : X → ℕ) (xs ys : List X) → weigh f (xs ++ ys) ≡ weigh f xs + weigh f ys
  weigh_append f [] ys = omega arith
  weigh_append f (x ∷ xs) ys = let r = weigh_append f xs ys in omega arith

  pub weigh_snoc : (f : X → ℕ) (xs : List X) (x : X) → weigh f (xs ++ x ∷ []) ≡ weigh f xs + f x
  weigh_snoc f xs x = let r = weigh_append f xs (x ∷ []) in omega arith

  pub all_set : (P : ℕ → X → Type 0) (xs : List X) (i : ℕ) (y : X) → P i y → ((j : ℕ) (x : X) → j ≢ i → get_elem? xs j ≡ some x → P j x) → (j : ℕ) (x : X) → get_elem? (set xs i y) j ≡ some x → P j x
  all_set P xs i y mine others j x e = ⊎_elim
      (λ (is : (j ≡ i) × (y ≡ x)). subst (λ (z : ℕ × X). P z.0 z.1) (λ k. (sym is.0 k, is.1 k)) mine)
      (λ (is : (j ≢ i) × (get_elem? xs j ≡ some x)). others j x is.0 is.1)
      (at_set xs i j y x e)

  -- one part of a sum that is nothing
  pub none_weighs : (f : X → ℕ) (xs : List X) → weigh f xs ≡ 0 → (i : ℕ) (x : X) → get_elem? xs i ≡ some x → f x ≡ 0
  none_weighs f [] z i x e = absurd (some-ne-none x (sym e))
  none_weighs f (y ∷ ys) z zero x e = let t : f y ≡ f x = ap f (some-injective y x e) in omega arith
  none_weighs f (y ∷ ys) z (suc i) x e = none_weighs f ys (omega arith) i x e

  all_nothing : (f : X → ℕ) (xs : List X) → ((i : ℕ) (x : X) → get_elem? xs i ≡ some x → f x ≡ 0) → weigh f xs ≡ 0
  all_nothing f [] n = refl
  all_nothing f (x ∷ xs) n = let a = n 0 x refl in let r = all_nothing f xs (λ i. n (suc i)) in omega arith

  -- where all other places weigh nothing
  pub only_one : (f : X → ℕ) (xs : List X) (i : ℕ) (x : X) → get_elem? xs i ≡ some x → ((j : ℕ) (y : X) → j ≢ i → get_elem? xs j ≡ some y → f y ≡ 0) → weigh f xs ≡ f x
  only_one f [] i x e n = absurd (some-ne-none x (sym e))
  only_one f (y ∷ ys) zero x e n = let t : f y ≡ f x = ap f (some-injective y x e) in let r = all_nothing f ys (λ j u. n (suc j) u (λ q. omega arith)) in omega arith
  only_one f (y ∷ ys) (suc i) x e n = let a = n 0 y (λ q. omega arith) refl in let r = only_one f ys i x e (λ j u o. n (suc j) u (λ q. o (omega arith))) in omega arith

  ones : (xs : List X) → weigh (λ _. 1) xs ≡ length xs
  ones [] = refl
  ones (x ∷ xs) = let r = ones xs in omega arith

  pub as_long : (xs ys : List X) → AsOften xs ys → length xs ≡ length ys
  as_long xs ys same = sym (ones xs) ∙ (same (λ _. 1) ∙ ones ys)

  -- what stands behind as many as were taken
  pub rest_is : (offered taken gone items : List X) → offered ≡ gone ++ items → AsOften taken gone → drop (length taken) offered ≡ items
  rest_is offered taken gone items all same = rw (all, as_long taken gone same) (drop-append_seam gone items)

pub weigh_flat : {X T : Type 0} (weight : T → ℕ) (f : X → List T) (xs : List X) → weigh weight (flat_map f xs) ≡ weigh (λ x. weigh weight (f x)) xs
weigh_flat weight f [] = refl
weigh_flat weight f (x ∷ xs) = let r = weigh_flat weight f xs in let a = weigh_append weight (f x) (flat_map f xs) in omega arith

-- one more of the peeks came back, and what it stole was taken in
pub one_back : {P T : Type 0} (weight : T → ℕ) (stolen : P → List T) (before after : List P) (p : P) (old new : List T) (total : ℕ)
    → before ≡ after ++ p ∷ [] → new ≡ old ++ stolen p → weigh weight old + weigh (λ q. weigh weight (stolen q)) before ≡ total
    → weigh weight new + weigh (λ q. weigh weight (stolen q)) after ≡ total
one_back weight stolen before after p old new total split taken sum =
    let a = weigh_snoc (λ q. weigh weight (stolen q)) after p in
    let b = ap (weigh (λ q. weigh weight (stolen q))) split in
    let c = weigh_append weight old (stolen p) in
    let d = ap (weigh weight) taken in
    omega arith

-- all of them came back
pub all_back : {P T : Type 0} (weight : T → ℕ) (stolen : P → List T) (peeks none : List P) (old new : List T)
    → none ≡ [] → weigh weight new + weigh (λ q. weigh weight (stolen q)) none ≡ weigh weight old + weigh (λ q. weigh weight (stolen q)) peeks
    → weigh weight new ≡ weigh weight (old ++ flat_map stolen peeks)
all_back weight stolen peeks none old new empty sum =
    let a = ap (weigh (λ q. weigh weight (stolen q))) empty in
    let b = weigh_append weight old (flat_map stolen peeks) in
    let c = weigh_flat weight stolen peeks in
    omega arith
