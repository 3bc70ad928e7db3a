-- Where a search of a work stands, and what one turn of it does.
use Rattle.std.specs.Prelude.{◌≡◌, ℕ, suc, ◌+◌, ◌*◌, ◌-◌, ◌<◌, ◌≤◌, ◌⊎◌, Bool, true, false, List, [], ◌∷◌, ◌++◌, length, reverse, take, Option, Some, None}
use Rattle.pp_algebra.specs.Rows.{Row}
use Rattle.pp_sld.specs.Goals.{Program, Config}
use Rattle.pp_sld.specs.Trace.{Leaf, trace, trace_all}
use Rattle.pp_sld.specs.Verdicts.{Mode}
use Rattle.pp_sld.specs.Findings.{Finding}
use Rattle.pp_sld.specs.Lattice.{LeavesUnder}
use Rattle.pp_sld.specs.Paths.{kids, skip, count_kids}
use Rattle.pp_sld.specs.Works.{Level, Work, spent, at, places, worth, path_worth, next, IsLater}
use Rattle.pp_sld.specs.Reports.{HasWalked}
use Rattle.pp_sld.proofs.Trees.{tree}
use Rattle.pp_walk.specs.Places.{Place}
use Rattle.pp_walk.specs.Moves.{IsAtChoice, HasChoice, IsDeadAt}
use Rattle.pp_explore.specs.declared.stage.Stage.{Stage}
use Rattle.pp_explore.specs.declared.stage.Stage.TheVariants.{Enter, Try}
use Rattle.pp_explore.specs.declared.stage.Turned.{Turned}
use Rattle.pp_explore.specs.declared.stage.Turned.TheVariants.{Done, On, Tried}
use Rattle.pp_explore.specs.Standing.{StandsOver, back_by}
use Rattle.pp_explore.specs.Exploring.{add_leaves}

-- where a search stands: what it does next, the machine's place, the walker's path, what is left, and what was found
pub record State : Type 0 where
  pub stage : Stage
  pub place : Place
  pub path : List ℕ
  pub work : Work
  pub finding : Finding

abbrev pub state : Stage → Place → List ℕ → Work → Finding → State
state s p ks w f = record { stage = s; place = p; path = ks; work = w; finding = f }

-- how often a work can go on to a next part, at most
abbrev pub places_left : List Level → ℕ
places_left [] = 0
places_left (l ∷ ls) = (l.end - l.now) + 1 + places_left ls

abbrev pub levels_left : Work → ℕ
levels_left spent = 0
levels_left (at ls) = 1 + places_left ls

-- the levels of a work, the last first
abbrev pub upward : Work → List Level
upward spent = []
upward (at ls) = reverse ls

-- the work is that of the task where the stage is Enter, or later
abbrev pub IsOn : Stage → Work → Work → Type 0
IsOn Enter task w = (w ≡ task) ⊎ IsLater w task
IsOn (Try from) task w = IsLater w task

-- the last level of the work is at this place
abbrev pub IsPlaceOf : Work → ℕ → Type 0
IsPlaceOf w k = (ls : List Level) (l : Level) → w ≡ at (ls ++ l ∷ []) → k ≡ l.now

-- the path of these levels but the last
abbrev pub IsAbove : List Level → List ℕ → Type 0
IsAbove levels ks = (ls : List Level) × (l : Level) × (levels ≡ ls ++ l ∷ []) × (ks ≡ places ls)

-- the machine is back at the choice of the next part of the work, or there is none
abbrev pub HasLeft : Place → List ℕ → Work → Bool → Place → List ℕ → Work → Type 0
HasLeft p ks w false q js v = (next w ≡ spent) × (v ≡ spent)
HasLeft p ks w true q js v = (ls : List Level) × (next w ≡ at ls) × (v ≡ at ls) × (js ≡ take (length ls - 1) ks)
    × (q ≡ back_by (length ks - (length ls - 1)) p.above p.here)

module _ (clauses : Program) where
  -- the alternatives from the first place on that come before the second fail
  abbrev pub AreDead : Config → ℕ → ℕ → Type 0
  AreDead c now from = (k : ℕ) → now ≤ k → k < from → HasChoice clauses c k → IsDeadAt clauses c k

  -- the walker stands at the work's path, or at the choice whose alternatives its last level counts
  abbrev pub FitsWork : Stage → Place → List ℕ → Work → Type 0
  FitsWork Enter p ks w = (ls : List Level) × (w ≡ at ls) × (ks ≡ places ls)
  FitsWork (Try from) p ks w = (ls : List Level) × (l : Level) × (w ≡ at (ls ++ l ∷ [])) × (ks ≡ places ls)
      × IsAtChoice clauses p.here × AreDead p.here l.now from

  -- a search can go on from here
  pub record IsReady (call : Row) (s : State) : Type 0 where
    pub root : Config
    pub stands : StandsOver clauses root s.place s.path
    pub under : LeavesUnder call (worth s.work (tree clauses root))
    pub fits : FitsWork s.stage s.place s.path s.work

  -- how much there is from a place of a choice on, where as many places are said to be as end there
  abbrev pub size : Config → ℕ → ℕ → ℕ
  size c now end = 3 * (length (trace_all (skip now (kids (tree clauses c))))
      + ((end - now) - (count_kids (kids (tree clauses c)) - now)))

  -- at the siblings above
  abbrev pub owed : List Config → List Level → ℕ
  owed [] ls = 0
  owed (c ∷ cs) [] = 0
  owed (c ∷ cs) (l ∷ ls) = size c (suc l.now) l.end + 1 + owed cs ls

  abbrev pub owed_here : Place → List Level → ℕ
  owed_here p [] = 0
  owed_here p (l ∷ ls) = size p.here l.now l.end + 1 + owed p.above ls

  -- how far it is to the end
  abbrev pub distance : Stage → Place → Work → ℕ
  distance Enter p w = 3 * length (trace (tree clauses p.here)) + 2 + owed p.above (upward w)
  distance (Try from) p w = owed_here p (upward w)

  -- whatever root the walker stands over, what leads from the work on meets these leaves, and with what is left loses
  -- none
  abbrev pub Keeps : Place → List ℕ → Work → List Leaf → List Work → Type 0
  Keeps p ks w ms rest = (root : Config) → StandsOver clauses root p ks → (task : Work) (xs : List Leaf)
      → HasWalked (tree clauses root) task xs (w ∷ []) → HasWalked (tree clauses root) task (xs ++ ms) rest

  -- the leaves at the path of the work, whatever root it stands over
  abbrev pub PathIs : Place → List ℕ → Work → List Leaf → Type 0
  PathIs p ks w ms = (root : Config) → StandsOver clauses root p ks → path_worth w (tree clauses root) ≡ ms

  -- alternatives here that come before this place are known to fail
  abbrev pub KnownDead : Stage → Place → Work → ℕ → Type 0
  KnownDead Enter p w from = from ≡ 0
  KnownDead (Try k) p w from = (now : ℕ) × IsPlaceOf w now × AreDead p.here now from

module _ (clauses : Program) (m : Mode) (call : Row) where
  -- a turn leads on to here
  pub record Goes (old new : State) : Type 0 where
    pub met : List Leaf
    pub finding : new.finding ≡ add_leaves m met old.finding
    pub keeps : Keeps clauses old.place old.path old.work met (new.work ∷ [])
    pub ready : IsReady clauses call new
    pub nearer : distance clauses new.stage new.place new.work < distance clauses old.stage old.place old.work
    pub later : (task : Work) → IsOn old.stage task old.work → IsOn new.stage task new.work

  -- a turn is the last, since nothing is left
  pub record Ends (old : State) (w : Work) (f : Finding) : Type 0 where
    pub met : List Leaf
    pub finding : f ≡ add_leaves m met old.finding
    pub keeps : Keeps clauses old.place old.path old.work met []

  abbrev pub Turns : State → Turned → Place → List ℕ → Work → Finding → Type 0
  Turns old Done p ks w f = Ends old w f
  Turns old (On s) p ks w f = Goes old (state s p ks w f)
  Turns old (Tried s) p ks w f = Goes old (state s p ks w f)
      × ((task : Work) → IsOn old.stage task old.work → IsLater w task)

-- a turn gives up what the path of the work leads to, whose leaves were met
abbrev pub GivesUp : Program → Place → List ℕ → Work → ℕ → Turned → Place → List ℕ → Work → Type 0
GivesUp clauses p ks w from r q js v = (m : Mode) (call : Row) (s : Stage) (f g : Finding) (ms : List Leaf)
    → IsReady clauses call (state s p ks w f) → KnownDead clauses s p w from → PathIs clauses p ks w ms
    → g ≡ add_leaves m ms f → Turns clauses m call (state s p ks w f) r q js v g

-- a turn passes over alternatives here that are known to fail, with the next one among them, and meets no leaf
abbrev pub PassesOver : Program → Place → List ℕ → Work → ℕ → Turned → Place → List ℕ → Work → Type 0
PassesOver clauses p ks w from r q js v = (m : Mode) (call : Row) (k0 now : ℕ) (f : Finding)
    → IsReady clauses call (state (Try k0) p ks w f) → IsPlaceOf w now → AreDead clauses p.here now from
    → (HasChoice clauses p.here now → IsDeadAt clauses p.here now)
    → Turns clauses m call (state (Try k0) p ks w f) r q js v f

-- a turn tries alternatives here, and meets no leaf
abbrev pub Tries : Program → Place → List ℕ → Work → ℕ → Turned → Place → List ℕ → Work → Type 0
Tries clauses p ks w from r q js v = (m : Mode) (call : Row) (f : Finding)
    → IsReady clauses call (state (Try from) p ks w f) → Turns clauses m call (state (Try from) p ks w f) r q js v f

-- the walker goes to the first part of a work to which a path leads, or there is none
abbrev pub Arrives : Program → Place → List ℕ → Work → Option Stage → Place → List ℕ → Work → Type 0
Arrives clauses p ks w None q js v = Keeps clauses p ks w [] []
Arrives clauses p ks w (Some s) q js v = FitsWork clauses s q js v × Keeps clauses p ks w [] (v ∷ [])
    × ((task : Work) → w ≡ task → IsOn s task v)

-- from a state on, leaves were met and added, and these works are left
abbrev pub HasSearched : Program → Mode → State → List Work → Finding → Type 0
HasSearched clauses m old rest f = (met : List Leaf) × (f ≡ add_leaves m met old.finding)
    × Keeps clauses old.place old.path old.work met rest
