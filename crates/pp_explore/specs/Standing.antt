-- Where a walker stands: which path of the search leads to the configuration here and to each choice above it.
use Rattle.std.specs.Prelude.{◌≡◌, ℕ, zero, suc, ◌⊎◌, Bool, true, false, List, [], ◌∷◌, ◌++◌, map, reverse, length, Option, Some, None}
use Rattle.pp_sld.specs.Goals.{Program, Config}
use Rattle.pp_sld.specs.Ways.{Way, IsDead, finished, left_loose, fails, one, choices, next}
use Rattle.pp_sld.specs.Reach.{Stands, Misses}
use Rattle.pp_sld.specs.Works.{places}
use Rattle.pp_walk.specs.Places.{Place}
use Rattle.pp_walk.specs.Moves.{IsAtChoice, Chose}
use Rattle.pp_path.specs.declared.levels.Level.{Level}
use Rattle.pp_path.specs.Works.{level_by}

-- the path of these levels
abbrev pub nows : List Level → List ℕ
nows ls = places (map level_by ls)

module _ (clauses : Program) (root : Config) where
  -- each choice above stands at the places taken before it; both lists have the last first
  abbrev pub AreAbove : List Config → List ℕ → Type 0
  AreAbove [] [] = Unit {0}
  AreAbove [] (k ∷ ks) = ⊥
  AreAbove (b ∷ bs) [] = ⊥
  AreAbove (b ∷ bs) (k ∷ ks) = IsAtChoice clauses b × Stands clauses root (reverse ks) b × AreAbove bs ks

  -- here, where this path leads, and so above
  abbrev pub StandsOver : Place → List ℕ → Type 0
  StandsOver p ks = Stands clauses root ks p.here × AreAbove p.above (reverse ks)

-- over whatever root it stood, it stands
abbrev pub StaysOver : Program → Place → List ℕ → Place → List ℕ → Type 0
StaysOver clauses p ks q js = (root : Config) → StandsOver clauses root p ks → StandsOver clauses root q js

-- over whatever root it stood, this path misses
abbrev pub MissesOver : Program → Place → List ℕ → List ℕ → Type 0
MissesOver clauses p ks js = (root : Config) → StandsOver clauses root p ks → Misses clauses root js

-- so many choices back; at the root there is none
abbrev pub back_by : ℕ → List Config → Config → Place
back_by zero cs e = record { above = cs; here = e }
back_by (suc n) [] e = record { above = []; here = e }
back_by (suc n) (b ∷ bs) e = back_by n bs b

-- the alternative at this place was taken and is the last of the path, or nothing has changed
abbrev pub Took : Program → Place → List ℕ → ℕ → Bool → Place → List ℕ → Type 0
Took clauses p ks k true q js = Chose clauses p k true q × (js ≡ ks ++ k ∷ [])
Took clauses p ks k false q js = Chose clauses p k false q × (js ≡ ks)

-- a choice of so many alternatives comes, or the branch ends
abbrev pub Comes : Program → Config → Option ℕ → Type 0
Comes clauses c (Some n) = (ws : List Way) × (next clauses c ≡ choices ws) × (n ≡ length ws)
Comes clauses c None = (next clauses c ≡ choices [])
    ⊎ ((next clauses c ≡ finished)
    ⊎ ((next clauses c ≡ left_loose) ⊎ ((next clauses c ≡ fails) ⊎ ((w : Way) × (next clauses c ≡ one w) × IsDead w))))
