-- Works: which part of a search tree is still to be searched, how it is gone through, split and ordered.
use Rattle.std.specs.Prelude.{◌≡◌, ℕ, zero, suc, ◌-◌, ◌<◌, ◌⊎◌, Bool, nat_lt, cond, List, [], ◌∷◌, ◌++◌, map, Option, Some, None}
use Rattle.pp_sld.specs.Trees.{Search, Searches, no_more, child, failed}
use Rattle.pp_sld.specs.Trace.{Leaf, leaves, leaves_all}
use Rattle.pp_sld.specs.Paths.{kids, skip, of_first, at_path}

-- the place of the child that is searched, and where those that are left end
pub record Level : Type 0 where
  pub now : ℕ
  pub end : ℕ

-- nothing is left; or the subtree that the `now` choices reach, and the siblings that are left at each level
pub data Work : Type 0 where
  spent : Work
  at : List Level → Work

abbrev pub level : ℕ → ℕ → Level
level now end = record { now = now; end = end }

abbrev pub places : List Level → List ℕ
places ls = map (λ l. l.now) ls

-- ===== what a work is worth

abbrev pub first_few : ℕ → Searches → Searches
first_few zero ts = no_more
first_few (suc n) no_more = no_more
first_few (suc n) (child t ts) = child t (first_few n ts)
first_few (suc n) (failed ts) = failed (first_few n ts)

-- the children from the place `from` up to `end - 1`
abbrev pub between : ℕ → ℕ → Searches → Searches
between from end ts = first_few (end - from) (skip from ts)

-- the leaves at the path, and those of the siblings that are left, the deepest first
abbrev pub levels_worth : List Level → Search → List Leaf
levels_worth [] t = leaves t
levels_worth (l ∷ ls) t = of_first (levels_worth ls) (skip l.now (kids t)) ++ leaves_all (between (suc l.now) l.end (kids t))

abbrev pub worth : Work → Search → List Leaf
worth spent t = []
worth (at ls) t = levels_worth ls t

-- those at the path alone
abbrev pub path_worth : Work → Search → List Leaf
path_worth spent t = []
path_worth (at ls) t = at_path (places ls) t

-- several works, one behind the other
abbrev pub worths : List Work → Search → List Leaf
worths [] t = []
worths (w ∷ ws) t = worth w t ++ worths ws t

-- ===== down, next, split

-- into a choice of n alternatives
abbrev pub down : ℕ → Work → Work
down n spent = spent
down n (at ls) = at (ls ++ level 0 n ∷ [])

abbrev pub has_sibling : Level → Bool
has_sibling l = nat_lt (suc l.now) l.end

-- on to the next sibling, with those behind it
abbrev pub siblings : Level → Level
siblings l = level (suc l.now) l.end

-- the last level that has a sibling left goes on to it, and the levels behind it are dropped
abbrev pub moved : Level → Option (List Level) → Option (List Level)
moved l (Some ks) = Some (l ∷ ks)
moved l None = cond (has_sibling l) (Some (siblings l ∷ [])) None

abbrev pub next_levels : List Level → Option (List Level)
next_levels [] = None
next_levels (l ∷ ls) = moved l (next_levels ls)

abbrev pub work_of : Option (List Level) → Work
work_of None = spent
work_of (Some ls) = at ls

-- spent where no level has a sibling left
abbrev pub next : Work → Work
next spent = spent
next (at ls) = work_of (next_levels ls)

abbrev pub behind : Level → Option (List Level × List Level) → Option (List Level × List Level)
behind l None = None
behind l (Some p) = Some (l ∷ p.0, l ∷ p.1)

-- at the first level that has a sibling left: the levels without its siblings, and the siblings
abbrev pub split_levels : List Level → Option (List Level × List Level)
split_levels [] = None
split_levels (l ∷ ls) = cond (has_sibling l) (Some (level l.now (suc l.now) ∷ ls, siblings l ∷ [])) (behind l (split_levels ls))

abbrev pub works_of : Option (List Level × List Level) → Option (Work × Work)
works_of None = None
works_of (Some p) = Some (at p.0, at p.1)

-- the work that stays, and the one that is split off; None where no level has a sibling left
abbrev pub split : Work → Option (Work × Work)
split spent = None
split (at ls) = works_of (split_levels ls)

-- ===== which work is later

-- the first path comes after the second in lexicographic order, a path after each of its proper prefixes
abbrev pub ComesAfter : List ℕ → List ℕ → Type 0
ComesAfter [] ks = ⊥
ComesAfter (j ∷ js) [] = Unit {0}
ComesAfter (j ∷ js) (k ∷ ks) = (k < j) ⊎ ((j ≡ k) × ComesAfter js ks)

-- the path of the first comes after that of the second; a spent work isn't later than any
abbrev pub IsLater : Work → Work → Type 0
IsLater (at ls) (at ks) = ComesAfter (places ls) (places ks)
IsLater w v = ⊥
