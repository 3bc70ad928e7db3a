-- Terms over numbered variables: the variables from a number on, a column by its number, and numbers counted from another one.
use Rattle.std.specs.Prelude.{ℕ, zero, suc, pos, ◌+◌, [], length}
use Rattle.pp_algebra.specs.Terms.{Tree, int, variable, Trees, none, more, put}
use Rattle.pp_algebra.specs.Rows.{Row}

-- the variables from `first` on, `n` of them
abbrev pub variables_from : ℕ → ℕ → Trees ℕ
variables_from first zero = none
variables_from first (suc n) = more (variable first) (variables_from (suc first) n)

-- the n-th column; where there is none the integer 0, which nothing asks for
abbrev pub column : Trees ℕ → ℕ → Tree ℕ
column none v = int (pos 0)
column (more t ts) zero = t
column (more t ts) (suc v) = column ts v

-- the term with the numbers of its variables counted from a first one
abbrev pub counted_from : ℕ → Tree ℕ → Tree ℕ
counted_from first t = put (λ v. variable (first + v)) t

-- the row of a face's distinct variables, with their domains
abbrev pub call : Row → Row
call face = record { columns = variables_from 0 (length face.domains); domains = face.domains }

-- the row of no columns
abbrev pub no_columns : Row
no_columns = record { columns = none; domains = [] }
