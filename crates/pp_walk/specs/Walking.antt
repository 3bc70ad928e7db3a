-- What a walk has come to, and what it has to meet yet.
use Rattle.std.specs.Prelude.{◌≡◌, ℕ, ◌+◌, ◌*◌, ◌^◌, ◌<◌, ◌≤◌, List, [], ◌∷◌, ◌++◌, length, Option, Some, None}
use Rattle.pp_algebra.specs.Rows.{Row}
use Rattle.pp_sld.specs.Goals.{Program, Config}
use Rattle.pp_sld.specs.Ways.{Way, choices, next}
use Rattle.pp_sld.specs.Trace.{Mark, trace, trace_all, met, reductions, until}
use Rattle.pp_sld.specs.Verdicts.{Mode}
use Rattle.pp_sld.specs.Findings.{Finding, finding_of}
use Rattle.pp_sld.specs.Lattice.{LeavesUnder}
use Rattle.pp_sld.specs.Walks.{settled_by}
use Rattle.pp_sld.specs.Paths.{kids, skip}
use Rattle.pp_sld.proofs.Trees.{tree}
use Rattle.pp_walk.specs.Places.{Place}
use Rattle.pp_walk.specs.declared.stage.Stage.{Stage}
use Rattle.pp_walk.specs.declared.stage.Stage.TheVariants.{Enter, Try, Back}

-- where a walk stands: what it does next, the machine's place, the next alternative of each choice above, the one taken
-- last first, what it found, and what it counted
pub record State : Type 0 where
  pub stage : Stage
  pub place : Place
  pub levels : List ℕ
  pub finding : Finding
  pub steps : ℕ

abbrev pub state : Stage → Place → List ℕ → Finding → ℕ → State
state s p ks f n = record { stage = s; place = p; levels = ks; finding = f; steps = n }

module _ (clauses : Program) where
  -- alternatives that can be counted
  abbrev pub IsCounted : Config → Type 0
  IsCounted c = (ws : List Way) × (next clauses c ≡ choices ws) × (length ws < 2 ^ 64)

  abbrev pub AreTaken : List Config → List ℕ → Type 0
  AreTaken [] [] = Unit {0}
  AreTaken [] (k ∷ ks) = ⊥
  AreTaken (c ∷ cs) [] = ⊥
  AreTaken (c ∷ cs) (k ∷ ks) = IsCounted c × AreTaken cs ks

  abbrev pub FitsHere : Stage → Config → Type 0
  FitsHere Enter c = Unit {0}
  FitsHere (Try k) c = IsCounted c
  FitsHere Back c = Unit {0}

  -- what is to come here, at the choices above, and in all
  abbrev pub ahead : Stage → Config → List Mark
  ahead Enter c = trace (tree clauses c)
  ahead (Try k) c = trace_all (skip k (kids (tree clauses c)))
  ahead Back c = []

  abbrev pub owed : List Config → List ℕ → List Mark
  owed [] ks = []
  owed (c ∷ cs) [] = []
  owed (c ∷ cs) (k ∷ ks) = trace_all (skip k (kids (tree clauses c))) ++ owed cs ks

  abbrev pub remaining : Stage → Place → List ℕ → List Mark
  remaining s p ks = ahead s p.here ++ owed p.above ks

  -- a walk can go on from here, and all that is to come lies under the call
  pub record IsReady (call : Row) (s : Stage) (p : Place) (ks : List ℕ) : Type 0 where
    pub taken : AreTaken p.above ks
    pub here : FitsHere s p.here
    pub under : LeavesUnder call (met (remaining s p ks))

abbrev pub effort : Stage → ℕ
effort Enter = 2
effort (Try k) = 1
effort Back = 0

-- how far it is to the end
abbrev pub distance : Program → Stage → Place → List ℕ → ℕ
distance clauses s p ks = 4 * length (remaining clauses s p ks) + 2 * length ks + effort s

-- the same leaves, and no more reductions
abbrev pub IsThinned : List Mark → List Mark → Type 0
IsThinned ms ns = (met ms ≡ met ns) × (reductions ms ≤ reductions ns)

module _ (clauses : Program) (m : Mode) (call : Row) where
  -- what a walk from this root meets before it stops
  abbrev pub stop : Config → List Mark
  stop root = until (settled_by m call) [] (trace (tree clauses root))

  -- a walk from this root, which began to count there, stands here
  pub record Walked (root : Config) (from : ℕ) (w : State) : Type 0 where
    pub seen : List Mark
    pub under : LeavesUnder call (met seen)
    pub passes : IsThinned (until (settled_by m call) seen (remaining clauses w.stage w.place w.levels)) (stop root)
    pub finding : w.finding ≡ finding_of m (met seen)
    pub steps : w.steps ≤ from + reductions seen

  -- a turn leads on to here
  pub record Goes (old new : State) : Type 0 where
    pub ready : IsReady clauses call new.stage new.place new.levels
    pub nearer : distance clauses new.stage new.place new.levels < distance clauses old.stage old.place old.levels
    pub walked : (root : Config) (from : ℕ) → Walked root from old → Walked root from new

  -- a turn is the last, with this finding and this count
  abbrev pub Ends : State → Finding → ℕ → Type 0
  Ends old f n = (root : Config) (from : ℕ) → Walked root from old
      → (f ≡ finding_of m (met (stop root))) × (n ≤ from + reductions (stop root))

  -- so far it counted no more than the walk makes
  abbrev pub Costs : State → ℕ → Type 0
  Costs old n = (root : Config) (from : ℕ) → Walked root from old → n ≤ from + reductions (stop root)

  -- a turn answers what comes next, or that nothing does, and leaves these
  abbrev pub Turns : State → Option Stage → Place → List ℕ → Finding → ℕ → Type 0
  Turns old None p ks f n = Ends old f n
  Turns old (Some s) p ks f n = Goes old (state s p ks f n)
