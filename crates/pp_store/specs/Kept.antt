-- What a store keeps.
use Rattle.std.specs.Prelude.{◌≡◌, refl}
use Rattle.std.specs.Coded.{Coded, code_by}
use Rattle.pp_algebra.specs.Terms.{count}
use Rattle.pp_algebra.specs.Rows.{Row}
use Rattle.pp_row.specs.Codes.{row_code}
use Rattle.pp_term.specs.declared.query.Query.{Query}

-- the row of the query's variables
pub record Kept : Type 0 where
  pub row : Row

abbrev pub kept_code : Coded Kept
kept_code = code_by Row row_code (λ k. k.row) (λ r. record { row = r }) (λ _. refl)

-- with a column for each of them
abbrev pub IsStoreOf : Query → Kept → Type 0
IsStoreOf q k = count k.row.columns ≡ q.vars
