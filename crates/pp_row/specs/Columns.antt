-- Lists of terms as columns, and lists of intervals as domains.
use Rattle.std.specs.Prelude.{ℕ, ℤ, List, [], ◌∷◌, map, Option, option_map}
use Rattle.pp_algebra.specs.Terms.{Tree, Trees, none, more}
use Rattle.pp_algebra.specs.Rows.{Domain, Pattern, Row, domain_at}
use Rattle.pp_domain.specs.Sets.{set_of}

abbrev pub trees_of : List (Tree ℕ) → Trees ℕ
trees_of [] = none
trees_of (t ∷ ts) = more t (trees_of ts)

abbrev pub list_of : Trees ℕ → List (Tree ℕ)
list_of none = []
list_of (more t ts) = t ∷ list_of ts

-- the set of a domain, where there is one
abbrev pub set_by : Option (List (ℤ × ℤ)) → Option Domain
set_by d = option_map set_of d

abbrev pub sets_of : List (Option (List (ℤ × ℤ))) → List (Option Domain)
sets_of ds = map set_by ds

-- columns whose variable n has the n-th domain; a variable without a place has the domain `any`
abbrev pub pattern_by : List (Tree ℕ) → List (Option (List (ℤ × ℤ))) → Pattern ℕ
pattern_by ts ds = record { columns = trees_of ts; domains = domain_at (sets_of ds) }

abbrev pub row_by : List (Tree ℕ) → List (Option (List (ℤ × ℤ))) → Row
row_by ts ds = record { columns = trees_of ts; domains = sets_of ds }
