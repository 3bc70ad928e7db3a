-- How terms and rows are stored as data, so that a contract can tell them apart.
use Rattle.std.specs.Prelude.{◌≡◌, ℕ, ℤ, ◌⊎◌, List, [], ◌++◌, refl, Option, Some, option_map, option_and_then}
use Rattle.std.proofs.Common.{sym, ap, ◌∙◌, append_assoc, append-nil, inl, inr}
use Rattle.std.specs.Coded.{Coded, code_by, coded×, coded⊎, coded_list, coded_option, coded_ℕ, coded_ℤ}
use Rattle.std.specs.FinSet as set
use Rattle.pp_row.specs.declared.cell.Cell.{Cell}
use Rattle.pp_row.specs.declared.cell.Cell.TheVariants.{Int, Atom, Compound, Var}
use Rattle.pp_algebra.specs.Terms.{Tree, int, node, variable, Trees, none, more, count, join}
use Rattle.pp_algebra.specs.Rows.{Domain, Row}
use Rattle.pp_row.specs.Cells.{head_of, cells_of, cells_of_all}
use Rattle.pp_row.specs.Reading.{split, step, stack, only, tree_of}
use Rattle.pp_row.specs.Columns.{trees_of, list_of}

pub split-join : (ts us : Trees ℕ) → split (count ts) (join ts us) ≡ Some (ts, us)
split-join none us = refl
split-join (more t ts) us = ap (option_map (λ p. (more t p.0, p.1))) (split-join ts us)

pub step-head : (f : ℕ) (ts us : Trees ℕ) → step (head_of f (count ts)) (join ts us) ≡ Some (more (node f ts) us)
step-head f none us = refl
step-head f (more t ts) us = ap (option_map (λ p. more (node f p.0) p.1)) (split-join (more t ts) us)

mutual
  pub stack-cells_of : (t : Tree ℕ) (cs : List Cell) (us : Trees ℕ) → stack cs ≡ Some us → stack (cells_of t ++ cs) ≡ Some (more t us)
  stack-cells_of (int n) cs us h = ap (option_and_then (step (Int n))) h
  stack-cells_of (node f ts) cs us h = ap (option_and_then (step (head_of f (count ts)))) (stack-cells_of_all ts cs us h) ∙ step-head f ts us
  stack-cells_of (variable v) cs us h = ap (option_and_then (step (Var v))) h

  pub stack-cells_of_all : (ts : Trees ℕ) (cs : List Cell) (us : Trees ℕ) → stack cs ≡ Some us → stack (cells_of_all ts ++ cs) ≡ Some (join ts us)
  stack-cells_of_all none cs us h = h
  stack-cells_of_all (more t ts) cs us h =
      ap stack (append_assoc (cells_of t) (cells_of_all ts) cs) ∙ stack-cells_of t (cells_of_all ts ++ cs) (join ts us) (stack-cells_of_all ts cs us h)

pub tree_of-cells_of : (t : Tree ℕ) → tree_of (cells_of t) ≡ t
tree_of-cells_of t = ap (λ cs. tree_of cs) (sym (append-nil (cells_of t))) ∙ ap only (stack-cells_of t [] none refl)

abbrev cell_to : Cell → ℤ ⊎ (ℕ ⊎ ((ℕ × ℕ) ⊎ ℕ))
cell_to (Int n) = inl n
cell_to (Atom a) = inr (inl a)
cell_to (Compound f k) = inr (inr (inl (f, k)))
cell_to (Var v) = inr (inr (inr v))

abbrev cell_from : ℤ ⊎ (ℕ ⊎ ((ℕ × ℕ) ⊎ ℕ)) → Cell
cell_from (inl n) = Int n
cell_from (inr (inl a)) = Atom a
cell_from (inr (inr (inl p))) = Compound p.0 p.1
cell_from (inr (inr (inr v))) = Var v

pub cell_from-cell_to : (c : Cell) → cell_from (cell_to c) ≡ c
cell_from-cell_to (Int n) = refl
cell_from-cell_to (Atom a) = refl
cell_from-cell_to (Compound f k) = refl
cell_from-cell_to (Var v) = refl

abbrev cell_code : Coded Cell
cell_code = code_by (ℤ ⊎ (ℕ ⊎ ((ℕ × ℕ) ⊎ ℕ))) (coded⊎ coded_ℤ (coded⊎ coded_ℕ (coded⊎ (coded× coded_ℕ coded_ℕ) coded_ℕ))) cell_to cell_from cell_from-cell_to

abbrev pub tree_code : Coded (Tree ℕ)
tree_code = code_by (List Cell) (coded_list cell_code) cells_of tree_of tree_of-cells_of

pub trees_of-list_of : (ts : Trees ℕ) → trees_of (list_of ts) ≡ ts
trees_of-list_of none = refl
trees_of-list_of (more t ts) = ap (more t) (trees_of-list_of ts)

abbrev pub trees_code : Coded (Trees ℕ)
trees_code = code_by (List (Tree ℕ)) (coded_list tree_code) list_of trees_of trees_of-list_of

abbrev pub row_code : Coded Row
row_code = code_by (Trees ℕ × List (Option Domain)) (coded× trees_code (coded_list (coded_option (set.code coded_ℤ)))) (λ r. (r.columns, r.domains)) (λ p. record { columns = p.0; domains = p.1 }) (λ _. refl)
