-- The terms that the variables of the general row stand for, and the substitutions that give them these terms.
use Rattle.std.specs.Prelude.{◌≡◌, ℕ, pos, ◌<◌, List, map, length, slice_index_or, All}
use Rattle.std.specs.Borrow.{Bor}
use Rattle.pp_algebra.specs.Terms.{Tree, int, Trees, put_all, variables_all}
use Rattle.pp_algebra.specs.Rows.{Domains}
use Rattle.pp_algebra.specs.Covers.{IsIn, MayGo}
use Rattle.pp_row.specs.declared.cell.Cell.{Cell}
use Rattle.pp_row.specs.Reading.{tree_of, IsOneTerm}

-- the terms of the variables from 0 on
abbrev pub terms : List (Bor (List Cell)) → List (Tree ℕ)
terms bs = map (λ b. tree_of b.now) bs

abbrev pub term_of : List (Tree ℕ) → ℕ → Tree ℕ
term_of ts k = slice_index_or ts k (int (pos 0))

-- s gives these variables their terms
abbrev pub Follows : (ℕ → Tree ℕ) → List (Tree ℕ) → Type 0
Follows s ts = (k : ℕ) → k < length ts → s k ≡ term_of ts k

-- s takes the general terms to the special ones, and each variable where its domain lets it go
pub record Takes (ds es : Domains ℕ) (s : ℕ → Tree ℕ) (general special : Trees ℕ) : Type 0 where
  pub terms : put_all s general ≡ special
  pub domains : (v : ℕ) → IsIn v (variables_all general) → MayGo es (ds v) (s v)

-- each variable may go to its term
pub record AreBound (ds es : Domains ℕ) (bs : List (Bor (List Cell))) : Type 0 where
  pub whole : All (λ b. IsOneTerm b.now) bs
  pub goes : (k : ℕ) → k < length bs → MayGo es (ds k) (term_of (terms bs) k)
