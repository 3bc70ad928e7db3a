-- The index by first argument: for each top, the ascending places that have it.
use Rattle.std.specs.Prelude.{◌≡◌, ℕ, suc, ◌<◌, ◌≤◌, cond, List, [], ◌∷◌, length, min, Option, Some, None, MatchOption, slice_index_or, slice_index, map, Vec}
use Rattle.std.proofs.Common.{Global}
use Rattle.pp_algebra.specs.Canon.{place}
use Rattle.pp_algebra.specs.Covers.{IsIn}
use Rattle.pp_clause.specs.declared.first.First.{First}
use Rattle.pp_clause.specs.Firsts.{same_first}

-- the places, from n on, of the tops that are this one
abbrev pub places_of : First → ℕ → List First → List ℕ
places_of f n [] = []
places_of f n (t ∷ ts) = cond (same_first f t) (n ∷ places_of f (suc n) ts) (places_of f (suc n) ts)

abbrev pub lists_of : List (Vec ℕ Global) → List (List ℕ)
lists_of vs = map (λ v. v.items) vs

-- the n-th list; where there is none the empty one
abbrev pub list_at : List (Vec ℕ Global) → ℕ → List ℕ
list_at vs n = slice_index_or (lists_of vs) n []

-- the list of each top stands at the place of its key, and those behind are empty
pub record IsIndex (keys : List First) (lists : List (List ℕ)) (ts : List First) : Type 0 where
  pub enough : length keys ≤ length lists
  pub listed : (f : First) → slice_index_or lists (place same_first keys f) [] ≡ places_of f 0 ts
  pub others : (n : ℕ) → length keys ≤ n → slice_index_or lists n [] ≡ []

abbrev pub Ascends : List ℕ → Type 0
Ascends xs = (i j : ℕ) → i ≤ j → j < length xs → slice_index xs i ≤ slice_index xs j

-- the first one from a number on, in an ascending list
abbrev pub IsNextIn : List ℕ → ℕ → Option ℕ → Type 0
IsNextIn xs from o = MatchOption o ((k : ℕ) → IsIn k xs → k < from) (λ a. (from ≤ a) × IsIn a xs × ((k : ℕ) → IsIn k xs → from ≤ k → a ≤ k))

abbrev pub earlier : Option ℕ → Option ℕ → Option ℕ
earlier None b = b
earlier (Some a) None = Some a
earlier (Some a) (Some b) = Some (min a b)
