-- What a work of the code stands for in the definitions of search.
use Rattle.std.specs.Prelude.{◌≡◌, ℕ, zero, suc, ◌+◌, ◌<◌, Bool, true, false, List, [], ◌∷◌, ◌++◌, map, Option, Some, None}
use Rattle.pp_sld.specs.Works as works
use Rattle.pp_path.specs.declared.levels.Level.{Level}

abbrev pub level_by : Level → works.Level
level_by l = record { now = l.now; end = l.end }

abbrev pub code_level : ℕ → ℕ → Level
code_level now end = record { now = now; end = end }

-- no list of levels is spent
abbrev pub work_by : Option (List Level) → works.Work
work_by None = works.spent
work_by (Some ls) = works.at (map level_by ls)

-- the levels of a work, none where it is spent
abbrev pub levels_of : Option (List Level) → List Level
levels_of None = []
levels_of (Some ls) = ls

-- at each level the child that is searched is one of those that there are
abbrev pub AreLevels : List Level → Type 0
AreLevels [] = Unit {0}
AreLevels (l ∷ ls) = (l.now < l.end) × AreLevels ls

-- a child is left after the one that is searched
abbrev pub has_sibling : Level → Bool
has_sibling l = works.has_sibling (level_by l)

-- this is the first level at which a child is left
abbrev pub SplitsAt : List Level → ℕ → Type 0
SplitsAt [] k = ⊥
SplitsAt (l ∷ ls) zero = has_sibling l ≡ true
SplitsAt (l ∷ ls) (suc k) = (has_sibling l ≡ false) × SplitsAt ls k

-- no child is left at any level
abbrev pub AreLast : List Level → Type 0
AreLast [] = Unit {0}
AreLast (l ∷ ls) = (has_sibling l ≡ false) × AreLast ls

-- the two works that a work is split into, where it is
abbrev pub split_by : Option (List Level) → Option (Option (List Level)) → Option (works.Work × works.Work)
split_by stays None = None
split_by stays (Some other) = Some (work_by stays, work_by other)

-- on to the next part so many times
abbrev pub skipped : ℕ → works.Work → works.Work
skipped zero w = w
skipped (suc n) w = skipped n (works.next w)

-- so many children are left at the last level
abbrev pub HasMore : Option (List Level) → ℕ → Type 0
HasMore w n = (ls : List Level) × (l : Level) × (w ≡ Some (ls ++ l ∷ [])) × (l.now + n < l.end)
