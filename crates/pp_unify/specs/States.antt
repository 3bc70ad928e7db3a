-- Bindings as the list of kept states, each the row of all variables; the present one is the last.
use Rattle.std.specs.Prelude.{◌≡◌, ℕ, zero, suc, nat_eq, ◌<◌, Bool, true, false, List, [], ◌∷◌, ◌++◌, length, Option, Some, None}
use Rattle.std.specs.Coded.{Coded, coded_list}
use Rattle.pp_algebra.specs.Terms.{Tree, int, node, variable, none, more, put, put_all, variables, count, join}
use Rattle.pp_algebra.specs.Rows.{Domain, Pattern, Row, pattern_of, domain_at}
use Rattle.pp_algebra.specs.Covers.{IsIn}
use Rattle.pp_algebra.specs.Canon.{canon}
use Rattle.pp_algebra.specs.Solve.{Item, IsSolved, HasNone}
use Rattle.pp_algebra.specs.Numbered.{variables_from, column}
use Rattle.pp_row.specs.Codes.{row_code}
use Rattle.pp_row.specs.Columns.{trees_of}
use Rattle.pp_row.specs.declared.cell.Cell.{Cell}
use Rattle.pp_row.specs.declared.cell.Cell.TheVariants as cells
use Rattle.pp_row.specs.Cells.{head_of}
use Rattle.pp_heap.specs.declared.state.Entry.{Entry}
use Rattle.pp_heap.specs.declared.state.State.{State}
use Rattle.pp_heap.specs.Values.{slot_at, slot_domain}
use Rattle.pp_heap.specs.Stores.{Store, store_of, entries_of, before, made}
pub use Rattle.pp_algebra.specs.Numbered.{no_columns}

-- the last one; there is always one
abbrev pub present : List Row → Row
present [] = no_columns
present (r ∷ []) = r
present (r ∷ q ∷ rs) = present (q ∷ rs)

-- variable v is column v
abbrev pub value_in : Row → ℕ → Tree ℕ
value_in r = column r.columns

-- the term with all bindings in place
abbrev pub in_place : Row → Tree ℕ → Tree ℕ
in_place r t = put (value_in r) t

-- over the row's variables
abbrev pub IsOver : Row → Tree ℕ → Type 0
IsOver r t = (v : ℕ) → IsIn v (variables t) → v < count r.columns

-- one variable more, of this domain
abbrev pub with_new : Row → Option Domain → Row
with_new r d = record { columns = join r.columns (more (variable (length r.domains)) none); domains = r.domains ++ d ∷ [] }

-- so many variables more, of any domain
abbrev pub with_many : Row → ℕ → Row
with_many r zero = r
with_many r (suc k) = with_new (with_many r k) None

-- one variable more, which is bound to this term
abbrev pub with_value : Row → Tree ℕ → Row
with_value r t = record { columns = join r.columns (more t none); domains = r.domains }

-- later states may be added after the earlier ones
abbrev pub IsLonger : List Row → List Row → Type 0
IsLonger old new = (later : List Row) × (new ≡ old ++ later)

-- the state where the item holds, or none
abbrev pub IsSolvedBy : Row → Item ℕ → Bool → Row → Type 0
IsSolvedBy r item true q = IsSolved (pattern_of r) (item ∷ []) q
IsSolvedBy r item false q = HasNone (pattern_of r) (item ∷ [])

-- terms as columns, with all bindings in place and the domains of the free variables
abbrev pub row_in : Row → List (Tree ℕ) → Row
row_in r ts = canon nat_eq (record { columns = put_all (value_in r) (trees_of ts); domains = domain_at r.domains })

-- the domain of a free variable
abbrev pub domain_in : Row → Tree ℕ → Option Domain
domain_in r (int n) = None
domain_in r (node f ts) = None
domain_in r (variable v) = domain_at r.domains v

-- the first cell of a term; a variable has none
abbrev pub first_cell : Tree ℕ → Option Cell
first_cell (int n) = Some (cells.Int n)
first_cell (node f ts) = Some (head_of f (count ts))
first_cell (variable v) = None

-- what is known of the variables, before they are numbered
abbrev pub pattern_in : List Entry → Store → Pattern ℕ
pattern_in es st = record {
  columns = put_all (made es st) (variables_from 0 (length st.slots));
  domains = λ v. slot_domain st.domains (slot_at st.slots v);
}

abbrev pub row_at : List Entry → Store → Row
row_at es st = canon nat_eq (pattern_in es st)

-- the states from the first on
abbrev pub states : List Entry → Store → List Row
states [] st = row_at [] st ∷ []
states (e ∷ es) st = states es (before e st) ++ row_at (e ∷ es) st ∷ []

abbrev pub states_of : State → List Row
states_of s = states (entries_of s) (store_of s)

abbrev pub states_code : Coded (List Row)
states_code = coded_list row_code
