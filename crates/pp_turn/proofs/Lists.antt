-- Logs, and lists of views.
use Rattle.std.proofs.Common.{◌≡◌, ◌≢◌, ℕ, zero, suc, List, [], ◌∷◌, ◌++◌, length, refl, sym, ap, ◌∙◌, subst, ⊎_elim, inl, inr, ◌⊎◌, set, arith, Some, slice_get, get_or, remove}
use mathlib.Core.Option.{some, some-injective, some-ne-none}
use lib.ListN.{get_elem?}
use Rattle.atomic_table.proofs.Lists.{at_set}
use Rattle.pp_turn.specs.Logs.{Each, Ordered, longer}

module _ {L : Type 0} where
  pub each_append : (P : L → Type 0) (xs ys : List L) → Each P xs → Each P ys → Each P (xs ++ ys)
  each_append P [] ys a b = b
  each_append P (x ∷ xs) ys a b = (a.0, each_append P xs ys a.1 b)

  pub each_end : (P : L → Type 0) (xs ys : List L) → Each P (xs ++ ys) → Each P ys
  each_end P [] ys a = a
  each_end P (x ∷ xs) ys a = each_end P xs ys a.1

  pub each_map : (P Q : L → Type 0) (xs : List L) → ((x : L) → P x → Q x) → Each P xs → Each Q xs
  each_map P Q [] f a = tt
  each_map P Q (x ∷ xs) f a = (f x a.0, each_map P Q xs f a.1)

  pub each_both : (P Q R : L → Type 0) (xs : List L) → ((x : L) → P x → Q x → R x) → Each P xs → Each Q xs → Each R xs
  each_both P Q R [] f a b = tt
  each_both P Q R (x ∷ xs) f a b = (f x a.0 b.0, each_both P Q R xs f a.1 b.1)

  -- a list of which each element is impossible is empty
  pub none_at_all : (P : L → Type 0) (xs : List L) → ((x : L) → P x → ⊥) → Each P xs → xs ≡ []
  none_at_all P [] f a = refl
  none_at_all P (x ∷ xs) f a = absurd (f x a.0)

  pub append_nil : (xs : List L) → xs ++ [] ≡ xs
  append_nil [] = refl
  append_nil (x ∷ xs) = ap (λ (l : List L). x ∷ l) (append_nil xs)

  pub longer_left : (xs more : List L) → longer (xs ++ more) xs ≡ xs ++ more
  longer_left [] [] = refl
  longer_left [] (m ∷ ms) = refl
  longer_left (x ∷ xs) more = ap (λ (l : List L). x ∷ l) (longer_left xs more)

  pub longer_right : (xs more : List L) → longer xs (xs ++ more) ≡ xs ++ more
  longer_right [] more = refl
  longer_right (x ∷ xs) more = ap (λ (l : List L). x ∷ l) (longer_right xs more)

  consed : (x : L) (xs ys : List L) → Ordered xs ys → Ordered (x ∷ xs) (x ∷ ys)
  consed x xs ys = ⊎_elim (λ (p : (more : List L) × (ys ≡ xs ++ more)). inl (p.0, ap (λ (l : List L). x ∷ l) p.1)) (λ (p : (more : List L) × (xs ≡ ys ++ more)). inr (p.0, ap (λ (l : List L). x ∷ l) p.1))

  -- two beginnings of one list
  pub beginnings : (xs ys a b : List L) → xs ++ a ≡ ys ++ b → Ordered xs ys
  beginnings [] ys a b e = inl (ys, refl)
  beginnings (x ∷ xs) [] a b e = inr (x ∷ xs, refl)
  beginnings (x ∷ xs) (y ∷ ys) a b e = let s : x ≡ y = cc in let t : xs ++ a ≡ ys ++ b = cc in subst (λ (z : L). Ordered (x ∷ xs) (z ∷ ys)) s (consed x xs ys (beginnings xs ys a b t))

  pub cancel : (xs a b : List L) → xs ++ a ≡ xs ++ b → a ≡ b
  cancel [] a b e = e
  cancel (x ∷ xs) a b e = cancel xs a b (cc)

-- any two different places of a list are so related
abbrev pub Pairs : {A : Type 0} → (A → A → Type 0) → List A → Type 0
Pairs {A} R vs = (i j : ℕ) (v w : A) → i ≢ j → get_elem? vs i ≡ some v → get_elem? vs j ≡ some w → R v w

module _ {A : Type 0} where
  pub set_mine : (vs : List A) (id : ℕ) (v w : A) → get_elem? vs id ≡ some v → get_elem? (set vs id w) id ≡ some w
  set_mine [] id v w e = absurd (some-ne-none v (sym e))
  set_mine (x ∷ xs) zero v w e = refl
  set_mine (x ∷ xs) (suc id) v w e = set_mine xs id v w e

  -- two values at one place are the same
  pub one_value : (vs : List A) (i j : ℕ) (v w : A) → i ≡ j → get_elem? vs i ≡ some v → get_elem? vs j ≡ some w → v ≡ w
  one_value vs i j v w same a b = some-injective v w (sym a ∙ (subst (λ (k : ℕ). get_elem? vs k ≡ some w) (sym same) b))

  pub set_swap : (vs : List A) (i j : ℕ) (a b : A) → i ≢ j → set (set vs i a) j b ≡ set (set vs j b) i a
  set_swap [] i j a b ne = refl
  set_swap (x ∷ xs) zero zero a b ne = absurd (ne refl)
  set_swap (x ∷ xs) zero (suc j) a b ne = refl
  set_swap (x ∷ xs) (suc i) zero a b ne = refl
  set_swap (x ∷ xs) (suc i) (suc j) a b ne = ap (λ (l : List A). x ∷ l) (set_swap xs i j a b (λ e. ne (ap suc e)))

  pub each_set : (P : A → Type 0) (vs : List A) (id : ℕ) (w : A) → P w → ((j : ℕ) (v : A) → j ≢ id → get_elem? vs j ≡ some v → P v) → (j : ℕ) (v : A) → get_elem? (set vs id w) j ≡ some v → P v
  each_set P vs id w mine others j v e = ⊎_elim (λ (t : (j ≡ id) × (w ≡ v)). subst P t.1 mine) (λ (t : (j ≢ id) × (get_elem? vs j ≡ some v)). others j v t.0 t.1) (at_set vs id j w v e)

  pub pairs_set : (R : A → A → Type 0) (vs : List A) (id : ℕ) (u : A) → Pairs R vs → ((j : ℕ) (v : A) → j ≢ id → get_elem? vs j ≡ some v → R u v × R v u) → Pairs R (set vs id u)
  pairs_set R vs id u a n i j v w ne ei ej = ⊎_elim
      (λ (x : (i ≡ id) × (u ≡ v)). ⊎_elim
      (λ (y : (j ≡ id) × (u ≡ w)). absurd (ne (x.0 ∙ sym y.0)))
      (λ (y : (j ≢ id) × (get_elem? vs j ≡ some w)). subst (λ (z : A). R z w) x.1 (n j w y.0 y.1).0)
      (at_set vs id j u w ej))
      (λ (x : (i ≢ id) × (get_elem? vs i ≡ some v)). ⊎_elim
      (λ (y : (j ≡ id) × (u ≡ w)). subst (λ (z : A). R v z) y.1 (n i v x.0 x.1).1)
      (λ (y : (j ≢ id) × (get_elem? vs j ≡ some w)). a i j v w ne x.1 y.1)
      (at_set vs id j u w ej))
      (at_set vs id i u v ei)

  pub at_end : (l : List A) (a b : A) (j : ℕ) → get_elem? (l ++ a ∷ []) j ≡ some b → (get_elem? l j ≡ some b) ⊎ ((j ≡ length l) × (a ≡ b))
  at_end [] a b zero e = inr (refl, some-injective a b e)
  at_end [] a b (suc j) e = absurd (some-ne-none b (sym e))
  at_end (x ∷ xs) a b zero e = inl e
  at_end (x ∷ xs) a b (suc j) e = ⊎_elim (λ (t : get_elem? xs j ≡ some b). inl t) (λ (t : (j ≡ length xs) × (a ≡ b)). inr (ap suc t.0, t.1)) (at_end xs a b j e)

  pub pairs_snoc : (R : A → A → Type 0) (vs : List A) (u : A) → Pairs R vs → ((j : ℕ) (v : A) → get_elem? vs j ≡ some v → R u v × R v u) → Pairs R (vs ++ u ∷ [])
  pairs_snoc R vs u a n i j v w ne ei ej = ⊎_elim
      (λ (x : get_elem? vs i ≡ some v). ⊎_elim
      (λ (y : get_elem? vs j ≡ some w). a i j v w ne x y)
      (λ (y : (j ≡ length vs) × (u ≡ w)). subst (λ (z : A). R v z) y.1 (n i v x).1)
      (at_end vs u w j ej))
      (λ (x : (i ≡ length vs) × (u ≡ v)). ⊎_elim
      (λ (y : get_elem? vs j ≡ some w). subst (λ (z : A). R z w) x.1 (n j w y).0)
      (λ (y : (j ≡ length vs) × (u ≡ w)). absurd (ne (x.0 ∙ sym y.0)))
      (at_end vs u w j ej))
      (at_end vs u v i ei)

abbrev pub ByPlace : {A : Type 0} → (ℕ → A → Type 0) → List A → Type 0
ByPlace {A} P xs = (i : ℕ) (s : A) → slice_get xs i ≡ Some s → P i s

pub by_place_snoc : {A : Type 0} (P : ℕ → A → Type 0) (xs : List A) (x : A) → ByPlace P xs → P (length xs) x → ByPlace P (xs ++ x ∷ [])
by_place_snoc P [] x h p zero s e = let same : x ≡ s = cc in subst (P 0) same p
by_place_snoc P [] x h p (suc i) s e = let no : ⊥ = cc in absurd no
by_place_snoc P (y ∷ ys) x h p zero s e = h 0 s e
by_place_snoc P (y ∷ ys) x h p (suc i) s e = by_place_snoc (λ j. P (suc j)) ys x (λ j. h (suc j)) p i s e

-- for callers that take the last seat first
pub by_place_init : {A : Type 0} (P : ℕ → A → Type 0) (xs : List A) (x : A) → ByPlace P (xs ++ x ∷ []) → ByPlace P xs × P (length xs) x
by_place_init P [] x h = ((λ i s e. let no : ⊥ = cc in absurd no), h 0 x refl)
by_place_init P (y ∷ ys) x h = let r = by_place_init (λ j. P (suc j)) ys x (λ j. h (suc j)) in (case h r.0, r.1)
  where
    case : ByPlace P (y ∷ (ys ++ x ∷ [])) → ByPlace (λ j. P (suc j)) ys → ByPlace P (y ∷ ys)
    case h r zero s e = h 0 s e
    case h r (suc i) s e = r i s e
