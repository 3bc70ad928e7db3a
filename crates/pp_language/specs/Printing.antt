-- What is printed of terms, domains and rows.
use Rattle.std.specs.Prelude.{ℕ, ℤ, pos, suc, ◌+ℤ◌, cond, nat_eq, List, [], ◌∷◌, ◌++◌, map, Option, Some, None, codes, slice_index_or}
use Rattle.std.specs.Fmt.{decimal, signed_decimal}
use Rattle.std.specs.List.{flat_map}
use Rattle.std.specs.Ordering.{int_eq}
use Rattle.pp_algebra.specs.Members.{members}
use Rattle.pp_algebra.specs.Terms.{Tree, int, node, variable, Trees, none, more}
use Rattle.pp_algebra.specs.Rows.{Domain, Row}
use Rattle.pp_language.specs.Texts.{Text}
use Rattle.pp_language.specs.Kinds.{is_plain_atom}

-- the texts one after another, with a separator between two
abbrev pub joined : Text → List Text → Text
joined between [] = []
joined between (x ∷ []) = x
joined between (x ∷ y ∷ xs) = x ++ between ++ joined between (y ∷ xs)

-- each quote doubled
abbrev pub doubled : Text → Text
doubled bs = flat_map (λ b. cond (nat_eq b 39) (39 ∷ 39 ∷ []) (b ∷ [])) bs

-- an atom is written plainly where it is a token so, and otherwise in quotes
abbrev pub atom_text : Text → Text
atom_text bs = cond (is_plain_atom bs) bs (39 ∷ doubled bs ++ 39 ∷ [])

abbrev pub name_at : List Text → ℕ → Text
name_at names n = slice_index_or names n []

abbrev pub variable_text : ℕ → Text
variable_text v = 95 ∷ decimal v

abbrev mutual
  pub term_text : List Text → Tree ℕ → Text
  term_text names (int n) = signed_decimal n
  term_text names (node f ts) = atom_text (name_at names f) ++ arguments_text names ts
  term_text names (variable v) = variable_text v

  pub arguments_text : List Text → Trees ℕ → Text
  arguments_text names none = []
  arguments_text names (more t ts) = 40 ∷ term_text names t ++ more_arguments_text names ts

  pub more_arguments_text : List Text → Trees ℕ → Text
  more_arguments_text names none = 41 ∷ []
  more_arguments_text names (more t ts) = 44 ∷ term_text names t ++ more_arguments_text names ts

-- the intervals of ascending integers: adjacent ones are one interval
abbrev pub with_intervals : ℤ → List (ℤ × ℤ) → List (ℤ × ℤ)
with_intervals n [] = (n, n) ∷ []
with_intervals n (p ∷ ps) = cond (int_eq (n +ℤ pos 1) p.0) ((n, p.1) ∷ ps) ((n, n) ∷ p ∷ ps)

abbrev pub intervals_of : List ℤ → List (ℤ × ℤ)
intervals_of [] = []
intervals_of (n ∷ ns) = with_intervals n (intervals_of ns)

abbrev pub interval_text : ℤ × ℤ → Text
interval_text p = cond (int_eq p.0 p.1) (signed_decimal p.0) (signed_decimal p.0 ++ codes ".." ++ signed_decimal p.1)

-- ascending integers as their intervals in brackets
abbrev pub integers_text : List ℤ → Text
integers_text ns = 91 ∷ joined (codes ", ") (map interval_text (intervals_of ns)) ++ 93 ∷ []

abbrev pub domain_text : Domain → Text
domain_text d = integers_text (members d)

-- `_n :: ` and the domain
abbrev pub ranged_text : ℕ → Domain → Text
ranged_text v d = variable_text v ++ codes " :: " ++ domain_text d

-- for each variable from `v` on that has a finite domain
abbrev pub ranged_texts : ℕ → List (Option Domain) → List Text
ranged_texts v [] = []
ranged_texts v (None ∷ ds) = ranged_texts (suc v) ds
ranged_texts v (Some d ∷ ds) = ranged_text v d ∷ ranged_texts (suc v) ds

abbrev pub column_texts : List Text → Trees ℕ → List Text
column_texts names none = []
column_texts names (more t ts) = term_text names t ∷ column_texts names ts

-- behind the columns, where some variable has a finite domain
abbrev pub behind_columns : List Text → Text
behind_columns [] = []
behind_columns (x ∷ xs) = codes " | " ++ joined (codes ", ") (x ∷ xs)

-- a row on one line
abbrev pub row_text : List Text → Row → Text
row_text names r = joined (codes ", ") (column_texts names r.columns) ++ behind_columns (ranged_texts 0 r.domains)
