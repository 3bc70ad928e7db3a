-- The lines that are written: the answer of a run, and the fixed lines of the other endings.
use Rattle.std.specs.Prelude.{ℕ, zero, suc, Bool, cond, nat_eq, List, [], ◌∷◌, ◌++◌, length, map, Option, Some, None, codes}
use Rattle.std.specs.Fmt.{decimal}
use Rattle.std.specs.List.{flat_map}
use Rattle.pp_algebra.specs.Terms.{Trees, none, more, variables_all}
use Rattle.pp_algebra.specs.Rows.{Domain, Row}
use Rattle.pp_algebra.specs.Canon.{has}
use Rattle.pp_language.specs.declared.which.Which.{Which}
use Rattle.pp_language.specs.declared.which.Which.TheVariants.{Clauses, Arity, Variables, Goals}
use Rattle.pp_language.specs.Texts.{Text}
use Rattle.pp_language.specs.Printing.{term_text, ranged_text}

abbrev pub line : Text → Text
line bs = bs ++ 10 ∷ []

abbrev pub lines : List Text → Text
lines xs = flat_map line xs

-- a line for each named variable, with the term in its column
abbrev pub named_lines : List Text → List Text → Trees ℕ → List Text
named_lines names [] ts = []
named_lines names (x ∷ xs) none = []
named_lines names (x ∷ xs) (more t ts) = (x ++ codes " = " ++ term_text names t) ∷ named_lines names xs ts

abbrev pub first_columns : ℕ → Trees ℕ → Trees ℕ
first_columns zero ts = none
first_columns (suc n) none = none
first_columns (suc n) (more t ts) = more t (first_columns n ts)

-- a line for each variable from `v` on that occurs in these columns and has a finite domain
abbrev pub domain_lines : Trees ℕ → ℕ → List (Option Domain) → List Text
domain_lines columns v [] = []
domain_lines columns v (None ∷ ds) = domain_lines columns (suc v) ds
domain_lines columns v (Some d ∷ ds) = cond (has nat_eq (variables_all columns) v) (ranged_text v d ∷ domain_lines columns (suc v) ds) (domain_lines columns (suc v) ds)

abbrev pub unfinished_line : ℕ → Text
unfinished_line k = codes "unfinished " ++ decimal k

abbrev pub last_line : Bool → Text
last_line stopped = cond stopped (codes "stopped") (codes "yes")

-- the answer of a run that doesn't fail: the store, the unfinished goals, and how it ended
abbrev pub store_text : List Text → List Text → Row → List ℕ → Bool → Text
store_text names named store unfinished stopped =
    lines (named_lines names named store.columns ++ domain_lines (first_columns (length named) store.columns) 0 store.domains ++ map unfinished_line unfinished ++ last_line stopped ∷ [])

abbrev pub no_text : Text
no_text = line (codes "no")

abbrev pub usage_text : Text
usage_text = line (codes "usage: propia run | alone | make N")

-- the sentence of a text's fault
abbrev pub syntax_text : ℕ → Text
syntax_text k = line (codes "syntax in sentence " ++ decimal k)

-- the name of a limit that is passed, for a text that is too long the name `text`
abbrev pub which_name : Which → Text
which_name Clauses = codes "clauses"
which_name Arity = codes "arity"
which_name Variables = codes "variables"
which_name Goals = codes "goals"

abbrev pub limit_text : Text → Text
limit_text name = line (codes "limit: " ++ name)

abbrev pub length_text : Text
length_text = limit_text (codes "text")
