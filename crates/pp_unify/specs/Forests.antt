-- Lists of terms that stand as cells, each with the numbers of its variables counted from a first one.
use Rattle.std.specs.Prelude.{ℕ, ◌+◌, ◌<◌, Bool, true, false, List}
use Rattle.pp_algebra.specs.Terms.{Trees, variable, put_all, variables_all, count}
use Rattle.pp_algebra.specs.Rows.{Row}
use Rattle.pp_algebra.specs.Covers.{IsIn}
use Rattle.pp_algebra.specs.Solve.{Item, equations}
use Rattle.pp_unify.specs.Laws.{AreSolved, OneHasNone}

-- the terms with the numbers of their variables counted from a first one
abbrev pub counted_all : ℕ → Trees ℕ → Trees ℕ
counted_all n ts = put_all (λ v. variable (n + v)) ts

-- over the row's variables
abbrev pub AreOver : Row → Trees ℕ → Type 0
AreOver r ts = (v : ℕ) → IsIn v (variables_all ts) → v < count r.columns

-- the equations of two lists of terms, pairwise, each list counted from a first number
abbrev pub pairs : ℕ → Trees ℕ → ℕ → Trees ℕ → List (Item ℕ)
pairs n ts m us = equations (counted_all n ts) (counted_all m us)

-- all items were solved one after another, or one of them has no solution
abbrev pub AreDecided : Row → List (Item ℕ) → Bool → Row → Type 0
AreDecided r items true q = AreSolved r items q
AreDecided r items false q = OneHasNone r items
