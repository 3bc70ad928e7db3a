-- Solving equations and memberships: the most general row that meets them, or none.
use Rattle.std.specs.Prelude.{◌≡◌, ℕ, List, [], ◌∷◌, Some, ◌⊎◌, ◌↔◌}
use Rattle.pp_algebra.specs.Terms.{Tree, Trees, none, more, put, put_all}
use Rattle.pp_algebra.specs.Rows.{Domain, Domains, Pattern, Row, domain_at, pattern_of, IsRow}
use Rattle.pp_algebra.specs.Covers.{MayGo, Covers, IsIn}

-- two terms are to be equal, or a term is to be an integer in a set
pub data Item (V : Type 0) : Type 0 where
  equation : Tree V → Tree V → Item V
  membership : Tree V → Domain → Item V

abbrev pub put_item : {V W : Type 0} → (V → Tree W) → Item V → Item W
put_item s (equation a b) = equation (put s a) (put s b)
put_item s (membership t d) = membership (put s t) d

-- the equations of two lists of arguments, place by place
abbrev pub equations : {V : Type 0} → Trees V → Trees V → List (Item V)
equations none us = []
equations (more t ts) none = []
equations (more t ts) (more u us) = equation t u ∷ equations ts us

abbrev pub Holds : {V : Type 0} → Domains ℕ → (V → Tree ℕ) → Item V → Type 0
Holds ds s (equation a b) = put s a ≡ put s b
Holds ds s (membership t d) = MayGo ds (Some d) (put s t)

abbrev pub AllHold : {V : Type 0} → Domains ℕ → (V → Tree ℕ) → List (Item V) → Type 0
AllHold ds s [] = Unit {0}
AllHold ds s (i ∷ is) = Holds ds s i × AllHold ds s is

-- the row's columns are those of the pattern under a substitution that meets the items
pub record Meets {V : Type 0} (p : Pattern V) (items : List (Item V)) (q : Row) : Type 0 where
  pub by : V → Tree ℕ
  pub columns : put_all by p.columns ≡ q.columns
  pub domains : (v : V) → MayGo (domain_at q.domains) (p.domains v) (by v)
  pub holds : AllHold (domain_at q.domains) by items

-- the most general row that meets the items
pub record IsSolved {V : Type 0} (p : Pattern V) (items : List (Item V)) (r : Row) : Type 0 where
  pub row : IsRow r
  pub meets : Meets p items r
  pub most : (q : Row) → IsRow q → Meets p items q → Covers (pattern_of r) (pattern_of q)

abbrev pub HasNone : {V : Type 0} → Pattern V → List (Item V) → Type 0
HasNone p items = (q : Row) → IsRow q → Meets p items q → ⊥

-- solving ends, with the most general row, or nothing meets the items
abbrev pub Solvable : {V : Type 0} → Pattern V → List (Item V) → Type 0
Solvable p items = ((r : Row) × IsSolved p items r) ⊎ HasNone p items

-- the same items stand in both lists, in whatever order and however often
abbrev pub SameItems : {V : Type 0} → List (Item V) → List (Item V) → Type 0
SameItems {V} items others = ((i : Item V) → IsIn i items → IsIn i others) × ((i : Item V) → IsIn i others → IsIn i items)

-- a pattern with the items that it is to meet
abbrev pub Problem : Type 0 → Type 0
Problem V = Pattern V × List (Item V)

-- the same row solves both problems, or none does
abbrev pub HaveSameSolution : {V W : Type 0} → Problem V → Problem W → Type 0
HaveSameSolution a b = ((r : Row) → IsSolved a.0 a.1 r ↔ IsSolved b.0 b.1 r) × (HasNone a.0 a.1 ↔ HasNone b.0 b.1)
