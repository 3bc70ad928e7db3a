-- The laws of paths, as statements.
use Rattle.std.specs.Prelude.{◌≡◌, ℕ, ◌⊎◌, List, [], ◌∷◌, ◌++◌, Some, None, length}
use Rattle.std.specs.List.{slice_get}
use Rattle.pp_sld.specs.Goals.{Program, Config}
use Rattle.pp_sld.specs.Ways.{Way, Leads, IsDead, finished, left_loose, fails, one, choices, next}
use Rattle.pp_sld.specs.Trees.{Search, IsSearch}
use Rattle.pp_sld.specs.Trace.{leaves}
use Rattle.pp_sld.specs.Paths.{at_path, PathComesTo}
use Rattle.pp_sld.specs.Reach.{Passes, Chosen, Reaches, Stands, Misses}

-- the leaves at a path are those of where it leads
abbrev pub ReachesLeaves : Type 0
ReachesLeaves = (clauses : Program) (c d : Config) (ks : List ℕ) (t u : Search) → Reaches clauses c ks d → IsSearch clauses c t → IsSearch clauses d u → at_path ks t ≡ leaves u

-- a path leads to one configuration, or misses
abbrev pub ReachesOnce : Type 0
ReachesOnce = (clauses : Program) (c d e : Config) (ks : List ℕ) → Reaches clauses c ks d → Reaches clauses c ks e → d ≡ e

abbrev pub ReachesOrMisses : Type 0
ReachesOrMisses = (clauses : Program) (c : Config) (ks : List ℕ) → ((d : Config) × Reaches clauses c ks d) ⊎ Misses clauses c ks

-- a path that misses has no leaves
abbrev pub MissesLeaves : Type 0
MissesLeaves = (clauses : Program) (c : Config) (ks : List ℕ) (t : Search) → Misses clauses c ks → IsSearch clauses c t → at_path ks t ≡ []

-- ===== where a search stands

abbrev pub StandsAtRoot : Type 0
StandsAtRoot = (clauses : Program) (c : Config) → Stands clauses c [] c

-- a built-in was performed; an alternative was taken
abbrev pub StandsPastBuiltIn : Type 0
StandsPastBuiltIn = (clauses : Program) (c : Config) (ks : List ℕ) (b : Config) (w : Way) (d : Config) → Stands clauses c ks b → next clauses b ≡ one w → Leads w d → Stands clauses c ks d

abbrev pub StandsAtAlternative : Type 0
StandsAtAlternative = (clauses : Program) (c : Config) (ks : List ℕ) (b : Config) (k : ℕ) (d : Config) → Stands clauses c ks b → Chosen clauses b k d → Stands clauses c (ks ++ k ∷ []) d

-- back: the choice last taken, and where its alternative led
abbrev pub StandsBack : Type 0
StandsBack = (clauses : Program) (c : Config) (ks : List ℕ) (k : ℕ) (e : Config) → Stands clauses c (ks ++ k ∷ []) e → (b : Config) × (d : Config) × (n : ℕ) × Stands clauses c ks b × Chosen clauses b k d × Passes clauses n d e

-- the leaves at the path are those of where the search stands; at a choice the path comes to as many alternatives
abbrev pub StandsAtLeaves : Type 0
StandsAtLeaves = (clauses : Program) (c : Config) (ks : List ℕ) (b : Config) (t u : Search) → Stands clauses c ks b → IsSearch clauses c t → IsSearch clauses b u → at_path ks t ≡ leaves u

abbrev pub StandsAtChoice : Type 0
StandsAtChoice = (clauses : Program) (c : Config) (ks : List ℕ) (b : Config) (ws : List Way) (t : Search) → Stands clauses c ks b → next clauses b ≡ choices ws → IsSearch clauses c t → PathComesTo (length ws) ks t

-- ===== when a path misses, whatever comes behind it

-- the alternative fails
abbrev pub MissesAtDead : Type 0
MissesAtDead = (clauses : Program) (c : Config) (ks : List ℕ) (b : Config) (ws : List Way) (k : ℕ) (w : Way) (js : List ℕ) → Stands clauses c ks b → next clauses b ≡ choices ws → slice_get ws k ≡ Some w → IsDead w → Misses clauses c (ks ++ k ∷ js)

-- it isn't there
abbrev pub MissesNoPlace : Type 0
MissesNoPlace = (clauses : Program) (c : Config) (ks : List ℕ) (b : Config) (ws : List Way) (k : ℕ) (js : List ℕ) → Stands clauses c ks b → next clauses b ≡ choices ws → slice_get ws k ≡ None → Misses clauses c (ks ++ k ∷ js)

-- the branch ends before
abbrev pub MissesPastEnd : Type 0
MissesPastEnd = (clauses : Program) (c : Config) (ks : List ℕ) (b : Config) (k : ℕ) (js : List ℕ) → Stands clauses c ks b
    → ((next clauses b ≡ finished) ⊎ ((next clauses b ≡ left_loose) ⊎ ((next clauses b ≡ fails) ⊎ ((w : Way) × (next clauses b ≡ one w) × IsDead w))))
    → Misses clauses c (ks ++ k ∷ js)
