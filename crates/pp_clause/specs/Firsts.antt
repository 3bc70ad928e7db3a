-- Which clauses may match a goal, by the tops of first arguments.
use Rattle.std.specs.Prelude.{◌≡◌, ℕ, suc, ◌<◌, ◌≤◌, Bool, true, false, cond, ◌&&◌, nat_eq, List, [], ◌∷◌, length, Some, slice_get}
use Rattle.std.specs.Ordering.{int_eq}
use Rattle.pp_algebra.specs.Terms.{Tree, int, node, variable, Trees, none, more, count}
use Rattle.pp_sld.specs.Goals as goals
use Rattle.pp_clause.specs.declared.first.First.{First}
use Rattle.pp_clause.specs.declared.first.First.TheVariants.{Int, Atom, Functor, Free}

-- an integer, an atom, or a functor with its number of arguments
abbrev pub top : Tree ℕ → First
top (int n) = Int n
top (node f none) = Atom f
top (node f (more t ts)) = Functor f (count (more t ts))
top (variable v) = Free

-- the top of the first argument
abbrev pub first_of : Trees ℕ → First
first_of none = Free
first_of (more t ts) = top t

abbrev pub same_first : First → First → Bool
same_first (Int n) (Int m) = int_eq n m
same_first (Atom a) (Atom b) = nat_eq a b
same_first (Functor f k) (Functor g l) = nat_eq f g && nat_eq k l
same_first Free Free = true
same_first a b = false

-- a variable matches everything
abbrev pub may_be : First → First → Bool
may_be Free b = true
may_be (Int n) Free = true
may_be (Int n) b = same_first (Int n) b
may_be (Atom a) Free = true
may_be (Atom a) b = same_first (Atom a) b
may_be (Functor f k) Free = true
may_be (Functor f k) b = same_first (Functor f k) b

abbrev pub may_match : First → goals.Clause → Bool
may_match first c = may_be first (first_of c.head)

-- the first arguments have different tops
abbrev pub CannotMatch : First → goals.Clause → Type 0
CannotMatch first c = may_match first c ≡ false

-- the ascending places, from n on, of the clauses that may match
abbrev pub candidates_from : First → ℕ → List goals.Clause → List ℕ
candidates_from first n [] = []
candidates_from first n (c ∷ cs) = cond (may_match first c) (n ∷ candidates_from first (suc n) cs) (candidates_from first (suc n) cs)

abbrev pub candidates : First → List goals.Clause → List ℕ
candidates first cs = candidates_from first 0 cs

-- none of the clauses at the places between can match
abbrev pub AreLeftOut : First → List goals.Clause → ℕ → ℕ → Type 0
AreLeftOut first cs from to = (k : ℕ) (c : goals.Clause) → from ≤ k → k < to → slice_get cs k ≡ Some c → CannotMatch first c

-- the next place whose clause may match
pub record IsNextPlace (first : First) (cs : List goals.Clause) (from place : ℕ) : Type 0 where
  pub later : from ≤ place
  pub within : place < length cs
  pub matches : (c : goals.Clause) → slice_get cs place ≡ Some c → may_match first c ≡ true
  pub passed : AreLeftOut first cs from place
