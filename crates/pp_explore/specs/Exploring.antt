-- What a search of a work comes to: the leaves that it met, and the works that are left.
use Rattle.std.specs.Prelude.{◌≡◌, ℕ, List, [], ◌∷◌}
use Rattle.pp_algebra.specs.Rows.{Row}
use Rattle.pp_sld.specs.Goals.{Program, Config}
use Rattle.pp_sld.specs.Trees.{Search, IsSearch}
use Rattle.pp_sld.specs.Trace.{Leaf}
use Rattle.pp_sld.specs.Verdicts.{Mode}
use Rattle.pp_sld.specs.Findings.{Finding, finding_of, join_finding}
use Rattle.pp_sld.specs.Lattice.{LeavesUnder, Fits}
use Rattle.pp_sld.specs.Works.{Work, worth}
use Rattle.pp_sld.specs.Reports.{HasWalked}
use Rattle.pp_walk.specs.Places.{Place}
use Rattle.pp_explore.specs.Standing.{StandsOver}

-- a finding with these leaves added, one after another
abbrev pub add_leaves : Mode → List Leaf → Finding → Finding
add_leaves m [] f = f
add_leaves m (x ∷ xs) f = add_leaves m xs (join_finding f (finding_of m (x ∷ [])))

-- the walker stands over a root in whose tree the leaves of the work lie under the call
abbrev pub IsUnderCall : Program → Row → Place → List ℕ → Work → Type 0
IsUnderCall clauses call p ks w = (root : Config) × StandsOver clauses root p ks
    × ((t : Search) → IsSearch clauses root t → LeavesUnder call (worth w t))

-- whatever root the walker stood over, the leaves that were met and those of the works that are left are those of the
-- task
abbrev pub HasExplored : Program → Place → List ℕ → Work → List Leaf → List Work → Type 0
HasExplored clauses p ks task met rest = (root : Config) → StandsOver clauses root p ks → (t : Search)
    → IsSearch clauses root t → HasWalked t task met rest

-- and each was added to what was gathered before
abbrev pub HasGathered : Program → Mode → Place → List ℕ → Work → Finding → List Work → Finding → Type 0
HasGathered clauses m p ks task before rest after = (met : List Leaf) × (after ≡ add_leaves m met before)
    × HasExplored clauses p ks task met rest

-- leaves that are added one after another are joined as one
abbrev pub AddedAreJoined : Type 0
AddedAreJoined = (m : Mode) (call : Row) (f : Finding) (xs : List Leaf) → Fits m call f → LeavesUnder call xs
    → add_leaves m xs f ≡ join_finding f (finding_of m xs)
