-- A configuration has its answers and its loose ends, and a goal under a face one verdict.
use Rattle.std.proofs.Common.{◌≡◌, ℕ, List, refl, ap, sym, ◌∙◌}
use Rattle.pp_algebra.specs.Rows.{Row}
use Rattle.pp_sld.specs.Goals.{Shape, Program, Config}
use Rattle.pp_sld.specs.Trace.{leaves}
use Rattle.pp_sld.specs.Trees.{Search, IsSearch}
use Rattle.pp_sld.specs.Leaves.{root, answer_rows, loose_rows, HasLeaves}
use Rattle.pp_algebra.specs.Numbered.{call}
use Rattle.pp_sld.specs.Verdicts.{Mode, Verdict, verdict, HasVerdict}
use Rattle.pp_sld.specs.Laws.{HasOneListOfLeaves, HasOneVerdict}
use Rattle.pp_sld.proofs.Once.{once}
use Rattle.pp_sld.proofs.Trees.{tree, tree-IsSearch}

pub leaves_once : (clauses : Program) (c : Config) (A C B D : List Row) → HasLeaves clauses c A C → HasLeaves clauses c B D → (A ≡ B) × (C ≡ D)
leaves_once clauses c A C B D h k =
    let e : h.tree ≡ k.tree = once clauses c h.tree k.tree h.is_tree k.is_tree in
    (sym h.answers ∙ ap (λ t. answer_rows (leaves t)) e ∙ k.answers, sym h.loose_ends ∙ ap (λ t. loose_rows (leaves t)) e ∙ k.loose_ends)

pub has_leaves : (clauses : Program) (c : Config) → HasLeaves clauses c (answer_rows (leaves (tree clauses c))) (loose_rows (leaves (tree clauses c)))
has_leaves clauses c = record { tree = tree clauses c; is_tree = tree-IsSearch clauses c; answers = refl; loose_ends = refl }

pub one_list : HasOneListOfLeaves
one_list clauses c = (answer_rows (leaves (tree clauses c)), loose_rows (leaves (tree clauses c)), has_leaves clauses c, λ B D k. leaves_once clauses c _ _ B D (has_leaves clauses c) k)

pub verdict_once : (clauses : Program) (depth : ℕ) (m : Mode) (shape : Shape) (face : Row) (v w : Verdict) → HasVerdict clauses depth m shape face v → HasVerdict clauses depth m shape face w → v ≡ w
verdict_once clauses depth m shape face v w h k =
    let e = leaves_once clauses (root shape face depth) h.answers h.loose_ends k.answers k.loose_ends h.leaves k.leaves in
    sym h.is_verdict ∙ ap (λ x. verdict m (call face) x h.loose_ends) e.0 ∙ ap (λ x. verdict m (call face) k.answers x) e.1 ∙ k.is_verdict

-- the verdict of the leaves of its tree
pub verdict_of_tree : (clauses : Program) (depth : ℕ) (m : Mode) (shape : Shape) (face : Row) (t : Search) → IsSearch clauses (root shape face depth) t → HasVerdict clauses depth m shape face (verdict m (call face) (answer_rows (leaves t)) (loose_rows (leaves t)))
verdict_of_tree clauses depth m shape face t h = record {
  answers = answer_rows (leaves t);
  loose_ends = loose_rows (leaves t);
  leaves = record { tree = t; is_tree = h; answers = refl; loose_ends = refl };
  is_verdict = refl;
}

pub has_verdict : (clauses : Program) (depth : ℕ) (m : Mode) (shape : Shape) (face : Row) → (v : Verdict) × HasVerdict clauses depth m shape face v
has_verdict clauses depth m shape face =
    let t = tree clauses (root shape face depth) in
    (verdict m (call face) (answer_rows (leaves t)) (loose_rows (leaves t)), verdict_of_tree clauses depth m shape face t (tree-IsSearch clauses (root shape face depth)))

pub one_verdict : HasOneVerdict
one_verdict clauses depth m shape face = let h = has_verdict clauses depth m shape face in (h.0, h.1, λ w k. verdict_once clauses depth m shape face h.0 w h.1 k)
