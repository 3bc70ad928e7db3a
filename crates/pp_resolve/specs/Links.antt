-- The goals that a branch still has to do: those that are suspended, and behind them what is left of bodies, each a
-- link that names an earlier one.
use Rattle.std.specs.Prelude.{ℕ, suc, ◌+◌, ◌-◌, ◌^◌, ◌<◌, ◌≤◌, cond, nat_eq, List, [], ◌∷◌, ◌++◌, length, map, take, drop, reverse, Option, Some, None}
use Rattle.std.specs.List.{slice_get}
use Rattle.pp_sld.specs.Goals.{Goal, put_goal}
use Rattle.pp_term.specs.declared.clause.Clause.{Clause}
use Rattle.pp_term.specs.Meanings.{goal_of}
use Rattle.pp_term.specs.WellFormed.{IsClause}
use Rattle.pp_resolve.specs.declared.history.Rest.{Rest}
use Rattle.pp_resolve.specs.declared.history.Front.{Front}
use Rattle.pp_resolve.specs.declared.suspended.Suspension.{Suspension}
use Rattle.pp_resolve.specs.Standing.{counted}
use Rattle.pp_resolve.specs.Suspensions.{is_among}
use Rattle.pp_resolve.specs.Kept.{Kept}

abbrev pub goals_at : Option Clause → List (Goal ℕ)
goals_at None = []
goals_at (Some c) = map goal_of c.body

abbrev pub IsFormedAt : Option Clause → Type 0
IsFormedAt None = ⊥
IsFormedAt (Some c) = IsClause c

-- the clause of this number is there, or it is the root goal
abbrev pub IsFormed : List Clause → Option ℕ → Type 0
IsFormed cs None = Unit {0}
IsFormed cs (Some n) = IsFormedAt (slice_get cs n)

-- the same without the first goal
abbrev pub after_first : Rest → Rest
after_first l = record { body = l.body; from = l.from + 1; to = l.to; first = l.first; next = l.next }

-- what the links from this one on come to; the link made last stands first in the list, and 0 is no link
abbrev pub along : (Rest → List (Goal ℕ) → List (Goal ℕ)) → List Rest → ℕ → List (Goal ℕ)
along f [] h = []
along f (l ∷ older) h = cond (nat_eq h (suc (length older))) (f l (along f older l.next)) (along f older h)

module _ (cs : List Clause) (root : Goal ℕ) where
  -- the body of the clause of this number, or the root goal
  abbrev pub body_of : Option ℕ → List (Goal ℕ)
  body_of None = root ∷ []
  body_of (Some n) = goals_at (slice_get cs n)

  -- the goals between two places of a body, with the numbers of their variables counted from a first one
  abbrev pub piece : Rest → List (Goal ℕ)
  piece l = map (put_goal (counted l.first)) (take (l.to - l.from) (drop l.from (body_of l.body)))

  -- the first of them
  abbrev pub first_of : Rest → List (Goal ℕ)
  first_of l = map (put_goal (counted l.first)) (take 1 (drop l.from (body_of l.body)))

  -- what is left: each link stands for goals before those of the link that it names
  abbrev pub below : List Rest → ℕ → List (Goal ℕ)
  below = along (λ l gs. piece l ++ gs)

  -- what is suspended and not done, the places counted from a first one
  abbrev pub open_from : List ℕ → ℕ → List Suspension → List (Goal ℕ)
  open_from ds n [] = []
  open_from ds n (s ∷ ss) = cond (is_among n ds) [] (first_of s.rest) ++ open_from ds (suc n) ss

  abbrev pub goals_in : List Rest → Rest → List (Goal ℕ)
  goals_in links l = piece l ++ below (reverse links) l.next

  -- all goals
  abbrev pub goals_of : Kept → Front → List (Goal ℕ)
  goals_of k f = open_from k.done 0 k.suspended ++ goals_in k.links f.rest

  -- the goals before a place: before a suspended one, or before those that are left
  abbrev pub before : Kept → Option ℕ → List (Goal ℕ)
  before k None = open_from k.done 0 k.suspended
  before k (Some i) = open_from k.done 0 (take i k.suspended)

  -- the goals behind it
  abbrev pub after : Kept → Front → Option ℕ → List (Goal ℕ)
  after k f None = goals_in k.links (after_first f.rest)
  after k f (Some i) = open_from k.done (suc i) (drop (suc i) k.suspended) ++ goals_in k.links f.rest

  -- places in a body, before so many links
  pub record IsRest (n : ℕ) (l : Rest) : Type 0 where
    pub formed : IsFormed cs l.body
    pub from : l.from ≤ l.to
    pub to : l.to ≤ length (body_of l.body)
    pub next : l.next ≤ n
    pub small : l.to < 2 ^ 32

  -- at least one goal, and each link names an earlier one
  abbrev pub AreLinks : List Rest → Type 0
  AreLinks [] = Unit {0}
  AreLinks (l ∷ older) = (l.from < l.to) × IsRest (length older) l × AreLinks older
