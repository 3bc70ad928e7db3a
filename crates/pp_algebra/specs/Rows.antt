-- Rows: columns of terms with a domain for each variable, the variables numbered by first occurrence.
use Rattle.std.specs.Prelude.{◌≡◌, ℕ, zero, suc, ◌<◌, ◌≤◌, ◌⊎◌, List, [], ◌∷◌, Option, Some, None, All, length}
use Rattle.std.proofs.Common.{inl, inr}
use Rattle.std.specs.Ordering.{int_cmp}
use Rattle.std.specs.FinSet as set
use Rattle.pp_algebra.specs.Terms.{Trees, variables_all}

-- a finite set of integers
abbrev pub Domain : Type 0
Domain = set.FinSet int_cmp

-- the domains of variables: None is `any`
abbrev pub Domains : Type 0 → Type 0
Domains V = V → Option Domain

-- two kinds of variables side by side, each with its domains
abbrev pub beside : {V W : Type 0} → Domains V → Domains W → Domains (V ⊎ W)
beside ds es (inl v) = ds v
beside ds es (inr w) = es w

-- columns over any variables, with their domains
pub record Pattern (V : Type 0) : Type 0 where
  pub columns : Trees V
  pub domains : Domains V

-- columns over numbered variables, with the domain of each number
pub record Row : Type 0 where
  pub columns : Trees ℕ
  pub domains : List (Option Domain)

abbrev pub domain_at : List (Option Domain) → ℕ → Option Domain
domain_at [] v = None
domain_at (d ∷ ds) zero = d
domain_at (d ∷ ds) (suc v) = domain_at ds v

abbrev pub pattern_of : Row → Pattern ℕ
pattern_of r = record { columns = r.columns; domains = domain_at r.domains }

-- each variable is an earlier one or the next number; `n` of them came before, and `m` there are
abbrev pub IsNumbered : ℕ → List ℕ → ℕ → Type 0
IsNumbered n [] m = n ≡ m
IsNumbered n (v ∷ vs) m = ((v < n) × IsNumbered n vs m) ⊎ ((v ≡ n) × IsNumbered (suc n) vs m)

abbrev pub IsCanonical : Row → Type 0
IsCanonical r = IsNumbered 0 (variables_all r.columns) (length r.domains)

-- the domain of a variable is `any` or has at least two integers
abbrev pub IsWide : Option Domain → Type 0
IsWide None = Unit {0}
IsWide (Some d) = 2 ≤ set.len d

abbrev pub AreWide : List (Option Domain) → Type 0
AreWide ds = All IsWide ds

pub record IsRow (r : Row) : Type 0 where
  pub canonical : IsCanonical r
  pub wide : All IsWide r.domains
