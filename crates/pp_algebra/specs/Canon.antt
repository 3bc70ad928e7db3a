-- Canonical numbering: the row of a pattern, its variables numbered from 0 by first occurrence. And which trees and rows are the same.
use Rattle.std.specs.Prelude.{◌≡◌, ℕ, suc, ◌⊎◌, Bool, true, false, cond, ◌&&◌, ◌||◌, nat_eq, List, [], ◌∷◌, ◌++◌, map, Option, Some, None}
use Rattle.std.proofs.Common.{inl, inr}
use Rattle.std.specs.Ordering.{int_eq}
use Rattle.std.specs.FinSet as set
use Rattle.pp_algebra.specs.Terms.{Tree, int, node, variable, Trees, none, more, put_all, variables_all}
use Rattle.pp_algebra.specs.Rows.{Domain, Pattern, Row}

abbrev pub has : {V : Type 0} → (V → V → Bool) → List V → V → Bool
has same [] v = false
has same (w ∷ ws) v = same w v || has same ws v

-- the first place of v
abbrev pub place : {V : Type 0} → (V → V → Bool) → List V → V → ℕ
place same [] v = 0
place same (w ∷ ws) v = cond (same w v) 0 (suc (place same ws v))

-- `seen`, and then each one of the list that is new, in order of first occurrence
abbrev pub firsts : {V : Type 0} → (V → V → Bool) → List V → List V → List V
firsts same seen [] = seen
firsts same seen (v ∷ vs) = cond (has same seen v) (firsts same seen vs) (firsts same (seen ++ v ∷ []) vs)

-- variables of two kinds
abbrev pub same_either : ℕ ⊎ ℕ → ℕ ⊎ ℕ → Bool
same_either (inl v) (inl w) = nat_eq v w
same_either (inl v) (inr w) = false
same_either (inr v) (inl w) = false
same_either (inr v) (inr w) = nat_eq v w

-- none stands twice
abbrev pub Distinct : {V : Type 0} → (V → V → Bool) → List V → Type 0
Distinct same [] = Unit {0}
Distinct same (v ∷ vs) = (has same vs v ≡ false) × Distinct same vs

abbrev pub canon : {V : Type 0} → (V → V → Bool) → Pattern V → Row
canon same p =
    let vs = firsts same [] (variables_all p.columns) in
    record { columns = put_all (λ v. variable (place same vs v)) p.columns; domains = map p.domains vs }

abbrev mutual
  pub same_tree : Tree ℕ → Tree ℕ → Bool
  same_tree (int n) (int m) = int_eq n m
  same_tree (node f ts) (node g us) = nat_eq f g && same_trees ts us
  same_tree (variable v) (variable w) = nat_eq v w
  same_tree t u = false

  pub same_trees : Trees ℕ → Trees ℕ → Bool
  same_trees none none = true
  same_trees (more t ts) (more u us) = same_tree t u && same_trees ts us
  same_trees ts us = false

abbrev pub same_list : List (Tree ℕ) → List (Tree ℕ) → Bool
same_list [] [] = true
same_list (t ∷ ts) (u ∷ us) = same_tree t u && same_list ts us
same_list ts us = false

abbrev pub same_domain : Option Domain → Option Domain → Bool
same_domain None None = true
same_domain (Some d) (Some e) = set.is_subset d e && set.is_subset e d
same_domain d e = false

abbrev pub same_domains : List (Option Domain) → List (Option Domain) → Bool
same_domains [] [] = true
same_domains (d ∷ ds) (e ∷ es) = same_domain d e && same_domains ds es
same_domains ds es = false

abbrev pub same_row : Row → Row → Bool
same_row r q = same_trees r.columns q.columns && same_domains r.domains q.domains
