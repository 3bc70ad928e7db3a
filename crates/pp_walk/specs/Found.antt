-- What a walk from a configuration finds, and how many reductions it may count.
use Rattle.std.specs.Prelude.{◌≡◌, ℕ, ◌+◌, ◌≤◌, []}
use Rattle.pp_algebra.specs.Rows.{Row}
use Rattle.pp_sld.specs.Goals.{Program, Config}
use Rattle.pp_sld.specs.Trees.{Search, IsSearch}
use Rattle.pp_sld.specs.Trace.{trace, met, until}
use Rattle.pp_sld.specs.Verdicts.{Mode}
use Rattle.pp_sld.specs.Findings.{Finding, finding_of}
use Rattle.pp_sld.specs.Walks.{settled_by, walk}

module _ (clauses : Program) (m : Mode) (call : Row) (root : Config) where
  -- the finding of the leaves up to the first one at which it is settled
  abbrev pub IsWalkFinding : Finding → Type 0
  IsWalkFinding f = (t : Search) → IsSearch clauses root t
      → f ≡ finding_of m (met (until (settled_by m call) [] (trace t)))

  -- from the one count to the other there are no more reductions than up to that leaf
  abbrev pub IsWithinWalk : ℕ → ℕ → Type 0
  IsWithinWalk from n = (t : Search) → IsSearch clauses root t → n ≤ from + walk m call t
