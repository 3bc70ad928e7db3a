-- What is found from the root of a goal's search is its verdict.
use Rattle.std.proofs.Common.{◌≡◌, ℕ, [], Some, refl, ap, sym, ◌∙◌, subst}
use Rattle.pp_algebra.specs.Rows.{Row}
use Rattle.pp_algebra.specs.Numbered.{call}
use Rattle.pp_sld.specs.Goals.{Shape, Program}
use Rattle.pp_sld.specs.Trees.{Search, IsSearch}
use Rattle.pp_sld.specs.Trace.{trace, met, until, leaves}
use Rattle.pp_sld.specs.Leaves.{root, answer_rows, loose_rows}
use Rattle.pp_sld.specs.Verdicts as verdicts
use Rattle.pp_sld.specs.Verdicts.{Mode, HasVerdict, verdict}
use Rattle.pp_sld.specs.Findings.{Finding, finding_of, outcome}
use Rattle.pp_sld.specs.Lattice.{LeavesUnder}
use Rattle.pp_sld.specs.Walks.{settled_by}
use Rattle.pp_sld.proofs.Trees.{tree, tree-IsSearch}
use Rattle.pp_sld.proofs.Walks.{leaves_under, walk_gives_verdict}
use Rattle.pp_sld.proofs.OneVerdict.{verdict_of_tree}
use Rattle.pp_sld.proofs.Verdicts.{outcome_is}
use Rattle.pp_walk.specs.Places.{Place}
use Rattle.pp_find.specs.declared.verdict.Verdict.{Verdict}
use Rattle.pp_find.specs.Meanings.{verdict_by, verdict_to, outcome_by}
use Rattle.pp_find.specs.Laws.{there}
use Rattle.pp_search.specs.Worths.{worth_of}
use Rattle.pp_infer.specs.Roots.{IsAtRoot, IsAtSomeRoot}

pub verdict_by-verdict_to : (v : verdicts.Verdict) → verdict_by (verdict_to v) ≡ v
verdict_by-verdict_to verdicts.fail = refl
verdict_by-verdict_to verdicts.same = refl
verdict_by-verdict_to verdicts.nothing = refl
verdict_by-verdict_to verdicts.unfinished = refl
verdict_by-verdict_to (verdicts.narrow r) = refl

module _ (clauses : Program) (p : Place) (c : Row) where
  pub all_under : IsAtSomeRoot p c → (t : Search) → IsSearch clauses p.here t → LeavesUnder c (leaves t)
  all_under h t k = subst (λ x. LeavesUnder x (leaves t)) (sym h.4) (leaves_under clauses h.0 h.1 h.2 t (subst (λ x. IsSearch clauses x t) h.3.1 k))

  module _ (m : Mode) (shape : Shape) (face : Row) (depth : ℕ) (at : IsAtRoot p shape face depth) (called : c ≡ call face) where
    -- what is found by a walk from there comes to the verdict
    pub comes_to : (f : Finding) → ((t : Search) → IsSearch clauses p.here t → f ≡ finding_of m (met (until (settled_by m c) [] (trace t)))) → HasVerdict clauses depth m shape face (outcome c f)
    comes_to f h =
        let t = tree clauses (root shape face depth) in
        let k = tree-IsSearch clauses (root shape face depth) in
        let v = verdict m (call face) (answer_rows (leaves t)) (loose_rows (leaves t)) in
        let has : HasVerdict clauses depth m shape face v = verdict_of_tree clauses depth m shape face t k in
        let found : f ≡ finding_of m (met (until (settled_by m (call face)) [] (trace t))) = subst (λ x. f ≡ finding_of m (met (until (settled_by m x) [] (trace t)))) called (h t (subst (λ x. IsSearch clauses x t) (sym at.1) k)) in
        subst (HasVerdict clauses depth m shape face) (sym (ap (λ x. outcome x f) called ∙ ap (outcome (call face)) found ∙ walk_gives_verdict clauses depth m shape face t v k has)) has

    pub is_verdict : (f : Finding) (v : Verdict) → v ≡ verdict_to (outcome c f) → ((t : Search) → IsSearch clauses p.here t → f ≡ finding_of m (met (until (settled_by m c) [] (trace t)))) → HasVerdict clauses depth m shape face (verdict_by v)
    is_verdict f v g h = subst (HasVerdict clauses depth m shape face) (sym (ap verdict_by g ∙ verdict_by-verdict_to (outcome c f))) (comes_to f h)

-- what the whole search is worth comes to the verdict
pub whole_verdict : (clauses : Program) (shape : Shape) (face : Row) (depth : ℕ) (m : Mode) (c : Row) (v : Verdict) → c ≡ call face → v ≡ outcome_by c (worth_of clauses shape face depth m (Some [])) → HasVerdict clauses depth m shape face (verdict_by v)
whole_verdict clauses shape face depth m c v called g =
    let t = tree clauses (root shape face depth) in
    let f = finding_of m (leaves t) in
    let e = ap verdict_by g ∙ (ap (λ z. verdict_by (verdict_to (outcome c z))) (there f) ∙ (verdict_by-verdict_to (outcome c f) ∙ (ap (λ x. outcome x f) called ∙ outcome_is m (call face) (answer_rows (leaves t)) (loose_rows (leaves t))))) in
    subst (HasVerdict clauses depth m shape face) (sym e) (verdict_of_tree clauses depth m shape face t (tree-IsSearch clauses (root shape face depth)))
