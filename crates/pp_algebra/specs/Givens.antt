-- What is known of the top of a term, under the domains of its variables.
use Rattle.std.specs.Prelude.{ℕ, ℤ, List, [], ◌∷◌, Option, Some, None}
use Rattle.pp_algebra.specs.Terms.{Tree, int, node, variable, Trees, none, more}
use Rattle.pp_algebra.specs.Rows.{Domain, domain_at}

-- an integer, a variable with a finite domain, one of domain `any`, or an atom or compound
pub data Given : Type 0 where
  integer : ℤ → Given
  ranged free other : Given

-- a variable of this domain
abbrev pub given_variable : Option Domain → Given
given_variable None = free
given_variable (Some d) = ranged

abbrev pub given : List (Option Domain) → Tree ℕ → Given
given ds (int n) = integer n
given ds (node f ts) = other
given ds (variable v) = given_variable (domain_at ds v)

abbrev pub givens : List (Option Domain) → Trees ℕ → List Given
givens ds none = []
givens ds (more t ts) = given ds t ∷ givens ds ts
