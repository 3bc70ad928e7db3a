-- Marks by variable while cells and terms are walked.
use Rattle.std.proofs.Common.{◌≡◌, ℕ, zero, suc, ◌+◌, ◌<◌, Bool, ◌||◌, nat_eq, List, [], ◌∷◌, ◌++◌, take, drop, get_or, length, refl, ap, sym, ◌∙◌, append-nil, add-one, arith}
use Rattle.std.proofs.Math.Seq.{drop-cons}
use Rattle.std.proofs.lemmas.List.{drop_all, take_all}
use Rattle.pp_algebra.specs.Terms.{Tree, int, node, variable, Trees, none, more, variables, variables_all, count}
use Rattle.pp_algebra.specs.Canon.{has}
use Rattle.pp_row.specs.declared.cell.Cell.{Cell}
use Rattle.pp_row.specs.declared.cell.Cell.TheVariants.{Int, Atom, Compound, Var}
use Rattle.pp_row.specs.Cells.{head_of, cells_of, cells_of_all}
use Rattle.pp_row.specs.Columns.{trees_of}
use Rattle.pp_print.specs.Marks.{cell_variables, mark_at, AddsMarks}
use Rattle.std.proofs.Math.Bool.{or_assoc}
use Rattle.pp_algebra.proofs.CanonLemmas.{has-append}

variables-append : (cs ds : List Cell) → cell_variables (cs ++ ds) ≡ cell_variables cs ++ cell_variables ds
variables-append [] ds = refl
variables-append (Int n ∷ cs) ds = variables-append cs ds
variables-append (Atom a ∷ cs) ds = variables-append cs ds
variables-append (Compound f k ∷ cs) ds = variables-append cs ds
variables-append (Var v ∷ cs) ds = ap (λ vs. v ∷ vs) (variables-append cs ds)

of_head : (f k : ℕ) (cs : List Cell) → cell_variables (head_of f k ∷ cs) ≡ cell_variables cs
of_head f zero cs = refl
of_head f (suc k) cs = refl

mutual
  variables-cells : (t : Tree ℕ) → cell_variables (cells_of t) ≡ variables t
  variables-cells (int n) = refl
  variables-cells (node f ts) = of_head f (count ts) (cells_of_all ts) ∙ variables-cells-all ts
  variables-cells (variable v) = refl

  variables-cells-all : (ts : Trees ℕ) → cell_variables (cells_of_all ts) ≡ variables_all ts
  variables-cells-all none = refl
  variables-cells-all (more t ts) = variables-append (cells_of t) (cells_of_all ts) ∙ ap (λ vs. vs ++ cell_variables (cells_of_all ts)) (variables-cells t) ∙ ap (λ vs. variables t ++ vs) (variables-cells-all ts)

-- of so many variables exactly those are marked that occur in the terms before this place
pub record MarksFirst (n : ℕ) (ts : List (Tree ℕ)) (i : ℕ) (marks : List Bool) : Type 0 where
  pub size : length marks ≡ n
  pub each : (v : ℕ) → v < n → (mark_at marks v || has nat_eq (variables_all (trees_of (drop i ts))) v) ≡ has nat_eq (variables_all (trees_of ts)) v

pub written_back : (marked old : List Bool) (n : ℕ) → n ≡ length old → length marked ≡ length old → take n (marked ++ drop (length marked) old) ≡ marked
written_back marked old n e s = rw (drop_all (length marked) old (omega arith), append-nil) (take_all n marked (omega arith))

pub marks_more : (n : ℕ) (ts : List (Tree ℕ)) (i : ℕ) (d : Tree ℕ) (cs : List Cell) (old marked : List Bool) → i < length ts → MarksFirst n ts i old → cs ≡ cells_of (get_or ts i d) → length marked ≡ length old → AddsMarks (cell_variables cs) old marked
    → MarksFirst n ts (i + 1) marked
marks_more n ts i d cs old marked l m e s a = record {
  size = s ∙ m.size;
  each = λ v h.
      let t = get_or ts i d in
      let vs : cell_variables cs ≡ variables t = ap cell_variables e ∙ variables-cells t in
      let rest : ℕ → Bool = λ w. has nat_eq (variables_all (trees_of (drop (suc i) ts))) w in
      rw add-one (
      ap (λ b. b || rest v) (a v (omega (arith, m.size)) ∙ ap (λ ws. mark_at old v || has nat_eq ws v) vs)
      ∙ or_assoc (mark_at old v) (has nat_eq (variables t) v) (rest v)
      ∙ ap (λ b. mark_at old v || b) (sym (has-append nat_eq (variables t) (variables_all (trees_of (drop (suc i) ts))) v) ∙ ap (λ us. has nat_eq (variables_all (trees_of us)) v) (sym (drop-cons ts i d l)))
      ∙ m.each v h
      );
}
