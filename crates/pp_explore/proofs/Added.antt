-- Leaves that are added to a finding.
use Rattle.std.proofs.Common.{◌≡◌, List, [], ◌∷◌, ◌++◌, refl, ap, sym, ◌∙◌}
use Rattle.pp_sld.specs.Trace.{Leaf}
use Rattle.pp_sld.specs.Verdicts.{Mode}
use Rattle.pp_sld.specs.Findings.{Finding, finding_of, join_finding}
use Rattle.pp_sld.specs.Lattice.{LeavesUnder}
use Rattle.pp_sld.proofs.Joining.{join-grouped, join-fits, join-unit, join-turned, none-fits}
use Rattle.pp_sld.proofs.Fitting.{under-left, under-right, leaves_fit, leaves_join}
use Rattle.pp_explore.specs.Exploring.{add_leaves, AddedAreJoined}

pub add_leaves-append : (m : Mode) (xs ys : List Leaf) (f : Finding) → add_leaves m (xs ++ ys) f ≡ add_leaves m ys (add_leaves m xs f)
add_leaves-append m [] ys f = refl
add_leaves-append m (x ∷ xs) ys f = add_leaves-append m xs ys (join_finding f (finding_of m (x ∷ [])))

pub added : AddedAreJoined
added m call f [] fits under = sym (join-turned m call f (finding_of m []) fits (none-fits m call) ∙ join-unit m call f fits)
added m call f (x ∷ xs) fits under =
    let one : LeavesUnder call (x ∷ []) = under-left call (x ∷ []) xs under in
    let more : LeavesUnder call xs = under-right call (x ∷ []) xs under in
    let a = leaves_fit m call (x ∷ []) one in
    added m call (join_finding f (finding_of m (x ∷ []))) xs (join-fits m call f (finding_of m (x ∷ [])) fits a) more
    ∙ (join-grouped m call f (finding_of m (x ∷ [])) (finding_of m xs) fits a (leaves_fit m call xs more)
    ∙ ap (join_finding f) (sym (leaves_join m call (x ∷ []) xs under)))
