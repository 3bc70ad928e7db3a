-- Covering, the instance order on rows with domains: what is special is what is general under a substitution.
use Rattle.std.specs.Prelude.{◌≡◌, ℤ, ◌⊎◌, true, List, [], ◌∷◌, Option, Some, None}
use Rattle.std.specs.FinSet as set
use Rattle.pp_algebra.specs.Terms.{Tree, int, node, variable, put_all, variables_all}
use Rattle.pp_algebra.specs.Rows.{Domain, Domains, Pattern, Row, pattern_of}

-- a finite domain that lies inside d
abbrev pub IsWithin : Domain → Option Domain → Type 0
IsWithin d None = ⊥
IsWithin d (Some e) = (n : ℤ) → set.contains e n ≡ true → set.contains d n ≡ true

-- where a variable of this domain may go: `any` anywhere, a finite domain to an integer in it or to a variable of a domain inside it
abbrev pub MayGo : {W : Type 0} → Domains W → Option Domain → Tree W → Type 0
MayGo ds None t = Unit {0}
MayGo ds (Some d) (int n) = set.contains d n ≡ true
MayGo ds (Some d) (node f ts) = ⊥
MayGo ds (Some d) (variable w) = IsWithin d (ds w)

-- v stands in the list
abbrev pub IsIn : {V : Type 0} → V → List V → Type 0
IsIn v [] = ⊥
IsIn v (w ∷ ws) = (w ≡ v) ⊎ IsIn v ws

-- `by` takes the general columns to the special ones
pub record Covers {V W : Type 0} (r : Pattern V) (q : Pattern W) : Type 0 where
  pub by : V → Tree W
  pub columns : put_all by r.columns ≡ q.columns
  pub domains : (v : V) → IsIn v (variables_all r.columns) → MayGo q.domains (r.domains v) (by v)

-- of rows
abbrev pub RowCovers : Row → Row → Type 0
RowCovers r q = Covers (pattern_of r) (pattern_of q)
