-- Lists that are taken from the front and grow at the end.
use Rattle.std.proofs.Common.{◌≡◌, ℕ, zero, suc, ◌<◌, List, [], ◌∷◌, ◌++◌, length, map, get_or, remove, slice_get, Some, refl, sym, ap, arith}
use Rattle.std.proofs.lemmas.List.{append_assoc}

module _ {A : Type 0} where
  pub at_join : (xs ys : List A) (y : A) → slice_get (xs ++ y ∷ ys) (length xs) ≡ Some y
  at_join [] ys y = refl
  at_join (x ∷ xs) ys y = at_join xs ys y

  pub front : (xs : List A) (x : A) → 0 < length xs → x ≡ get_or xs 0 x → xs ≡ x ∷ remove xs 0
  front [] x lt e = absurd (omega arith)
  front (y ∷ ys) x lt e = ap (λ (z : A). z ∷ ys) (sym e)

  pub shift : (xs ys : List A) (y : A) → xs ++ y ∷ ys ≡ (xs ++ y ∷ []) ++ ys
  shift xs ys y = sym (append_assoc xs (y ∷ []) ys)

module _ {A B : Type 0} (f : A → B) where
  pub map_at : (xs : List A) (i : ℕ) (x : A) → slice_get xs i ≡ Some x → slice_get (map f xs) i ≡ Some (f x)
  map_at [] i x e = let no : ⊥ = cc in absurd no
  map_at (y ∷ ys) zero x e = let same : y ≡ x = cc in ap (λ (z : A). Some (f z)) same
  map_at (y ∷ ys) (suc i) x e = map_at ys i x e
