-- Reports: what a walk through a part of a search shows of it, and when what it tells is right.
use Rattle.std.specs.Prelude.{◌≡◌, List, [], ◌∷◌, ◌++◌}
use Rattle.pp_sld.specs.Trees.{Search}
use Rattle.pp_sld.specs.Trace.{Leaf}
use Rattle.pp_sld.specs.Works.{Work, worth, worths}
use Rattle.pp_sld.specs.Verdicts.{Mode}
use Rattle.pp_sld.specs.Findings.{Finding, finding_of, join_finding}

-- these leaves were met, and with those of the works that are left they are the leaves of the work
abbrev pub HasWalked : Search → Work → List Leaf → List Work → Type 0
HasWalked t w ls rest = worth w t ≡ ls ++ worths rest t

-- joined with what was known, what the leaves show is what was found
abbrev pub IsFound : Mode → Finding → List Leaf → Finding → Type 0
IsFound m under ls found = join_finding (finding_of m ls) under ≡ join_finding found under

-- a finding joined with the worths of works, one after another
abbrev pub with_worths : Mode → Search → Finding → List Work → Finding
with_worths m t f [] = f
with_worths m t f (w ∷ ws) = with_worths m t (join_finding f (finding_of m (worth w t))) ws

-- joined with what was known, the worth of the work is what was found and the worths of the works that are left
abbrev pub IsFitReport : Mode → Search → Work → Finding → List Work → Finding → Type 0
IsFitReport m t w under rest found = join_finding (finding_of m (worth w t)) under ≡ join_finding (with_worths m t found rest) under
