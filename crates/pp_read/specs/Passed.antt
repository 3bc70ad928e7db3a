-- The limits that a statement passes, by its parts and its variables.
use Rattle.std.specs.Prelude.{ℕ, suc, Bool, true, false, List, count_by, Option, None}
use Rattle.std.specs.List.{list_any}
use Rattle.pp_language.specs.declared.which.Which.{Which}
use Rattle.pp_language.specs.declared.which.Which.TheVariants.{Clauses, Arity, Variables, Goals}
use Rattle.pp_language.specs.Limits.{is_above, when}
use Rattle.pp_row.specs.Cells.{arity_of}
use Rattle.pp_parse.specs.declared.parts.Part.{Part}
use Rattle.pp_parse.specs.declared.parts.Part.TheVariants.{Term, Mark}
use Rattle.pp_parse.specs.declared.items.Entry.{Entry}
use Rattle.pp_parse.specs.declared.items.Entry.TheVariants.{Call, Equate, Member, Compare, Infer}

-- some atom of the part has more than 255 arguments
abbrev pub is_wide : Part → Bool
is_wide (Term t) = list_any (λ c. is_above 255 (arity_of c)) t.cells.items
is_wide (Mark k) = false

abbrev pub is_infer : Entry → Bool
is_infer (Call a) = false
is_infer (Equate a b) = false
is_infer (Member a d) = false
is_infer (Compare r a b) = false
is_infer (Infer a m) = true

-- of a clause with n clauses before it and so many variables
abbrev pub clause_passed : ℕ → List Part → ℕ → Option Which
clause_passed n ps variables = when (is_above 65535 (suc n)) Clauses (when (list_any is_wide ps) Arity (when (is_above 255 variables) Variables None))

-- of a query with so many variables
abbrev pub query_passed : List Part → ℕ → List Entry → Option Which
query_passed ps variables es = when (list_any is_wide ps) Arity (when (is_above 10000 variables) Variables (when (is_above 1000 (count_by is_infer es)) Goals None))
