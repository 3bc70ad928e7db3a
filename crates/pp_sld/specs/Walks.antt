-- Walks: a walk from left to right that stops at the first leaf at which the finding is settled.
use Rattle.std.specs.Prelude.{ℕ, Bool, List, []}
use Rattle.pp_algebra.specs.Rows.{Row}
use Rattle.pp_sld.specs.Trees.{Search}
use Rattle.pp_sld.specs.Trace.{Mark, trace, met, reductions, until}
use Rattle.pp_sld.specs.Verdicts.{Mode}
use Rattle.pp_sld.specs.Findings.{finding_of, settled}

-- the finding of the leaves met so far is settled
abbrev pub settled_by : Mode → Row → List Mark → Bool
settled_by m call ms = settled call (finding_of m (met ms))

-- the reductions up to that leaf; all of them where there is no such leaf
abbrev pub walk : Mode → Row → Search → ℕ
walk m call t = reductions (until (settled_by m call) [] (trace t))
