-- A walk that stops when it is settled gives the verdict; and works of a goal's search.
use Rattle.std.proofs.Common.{◌≡◌, ℕ, ◌+◌, Bool, true, false, cond, List, [], ◌∷◌, ◌++◌, refl, ap, sym, ◌∙◌, subst, ◌⊎◌, inl, inr, arith, append_assoc, append-nil}
use Rattle.pp_algebra.specs.Rows.{Row}
use Rattle.pp_sld.specs.Goals.{Program, Shape}
use Rattle.pp_sld.specs.Trees.{Search, IsSearch}
use Rattle.pp_sld.specs.Trace.{Leaf, answers_with, loose_with, Mark, tried, ends, trace, met, reductions, until, leaves}
use Rattle.pp_sld.specs.Leaves.{root, answer_rows, loose_rows}
use Rattle.pp_algebra.specs.Numbered.{call}
use Rattle.pp_sld.specs.Works.{worth}
use Rattle.pp_sld.specs.Verdicts.{Mode, verdict}
use Rattle.pp_sld.specs.Findings.{finding_of, outcome, settled}
use Rattle.pp_sld.specs.Lattice.{IsUnder, LeavesUnder}
use Rattle.pp_sld.specs.Walks.{settled_by}
use Rattle.pp_sld.specs.Laws.{WalkGivesVerdict, WalkIsAtMost, LeafHasNoWalk, WorthIsUnder, WorthFits}
use Rattle.pp_sld.proofs.LeafRows.{met-append, each-leaf-answer, each-answer}
use Rattle.pp_algebra.proofs.Order.{IsIn-left, IsIn-right}
use Rattle.pp_sld.proofs.CallCovers.{leaves_under_call}
use Rattle.pp_sld.proofs.Verdicts.{outcome_is}
use Rattle.pp_sld.proofs.Settled.{settled_stays}
use Rattle.pp_sld.proofs.OneVerdict.{verdict_of_tree, verdict_once}
use Rattle.pp_sld.proofs.Fitting.{under-right, leaves_fit, leaves_join}
use Rattle.pp_sld.proofs.WorkLeaves.{worth_inside}

-- what was met at the stop is a beginning of all; and where something is left, the walk was settled there
abbrev IsBeginning : (List Mark → Bool) → List Mark → List Mark → Type 0
IsBeginning settled seen all = (rest : List Mark) × (seen ++ rest ≡ all) × ((rest ≡ []) ⊎ (settled seen ≡ true))

until_begins : (settled : List Mark → Bool) (seen ms : List Mark) → IsBeginning settled (until settled seen ms) (seen ++ ms)
until_begins settled seen [] = ([], refl, inl refl)
until_begins settled seen (tried ∷ ms) = subst (IsBeginning settled (until settled (seen ++ tried ∷ []) ms)) (append_assoc seen (tried ∷ []) ms) (until_begins settled (seen ++ tried ∷ []) ms)
until_begins settled seen (ends l ∷ ms) = pick (settled (seen ++ ends l ∷ [])) refl (until_begins settled (seen ++ ends l ∷ []) ms)
  where
    pick : (b : Bool) → settled (seen ++ ends l ∷ []) ≡ b → IsBeginning settled (until settled (seen ++ ends l ∷ []) ms) ((seen ++ ends l ∷ []) ++ ms) → IsBeginning settled (cond b (seen ++ ends l ∷ []) (until settled (seen ++ ends l ∷ []) ms)) (seen ++ ends l ∷ ms)
    pick true e h = (ms, append_assoc seen (ends l ∷ []) ms, inr e)
    pick false e h = subst (IsBeginning settled (until settled (seen ++ ends l ∷ []) ms)) (append_assoc seen (ends l ∷ []) ms) h

pub reductions-append : (ms ns : List Mark) → reductions (ms ++ ns) ≡ reductions ms + reductions ns
reductions-append [] ns = omega arith
reductions-append (tried ∷ ms) ns = omega (arith, reductions-append ms ns)
reductions-append (ends l ∷ ms) ns = reductions-append ms ns

pub walk_is_at_most : WalkIsAtMost
walk_is_at_most m c t =
    let b = until_begins (settled_by m c) [] (trace t) in
    let e : reductions (until (settled_by m c) [] (trace t)) + reductions b.0 ≡ reductions (trace t) = sym (reductions-append (until (settled_by m c) [] (trace t)) b.0) ∙ ap reductions b.1 in
    omega (arith, e)

pub leaf_has_no_walk : LeafHasNoWalk
leaf_has_no_walk m c d = (by_answer (settled_by m c (ends (answers_with d) ∷ [])), by_loose (settled_by m c (ends (loose_with d) ∷ [])))
  where
    by_answer : (b : Bool) → reductions (cond b (ends (answers_with d) ∷ []) (ends (answers_with d) ∷ [])) ≡ 0
    by_answer true = refl
    by_answer false = refl

    by_loose : (b : Bool) → reductions (cond b (ends (loose_with d) ∷ []) (ends (loose_with d) ∷ [])) ≡ 0
    by_loose true = refl
    by_loose false = refl

pub leaves_under : (clauses : Program) (shape : Shape) (face : Row) (depth : ℕ) (t : Search) → IsSearch clauses (root shape face depth) t → LeavesUnder (call face) (leaves t)
leaves_under clauses shape face depth t h =
    let k = leaves_under_call clauses shape face depth t h in
    each-leaf-answer (IsUnder (call face)) (leaves t) (λ r i. k r (IsIn-left r (answer_rows (leaves t)) (loose_rows (leaves t)) i)) (λ r i. k r (IsIn-right r (answer_rows (leaves t)) (loose_rows (leaves t)) i))

-- the outcome of a beginning that is settled, or is all
module _ (m : Mode) (c : Row) where
  same_outcome : (xs ys : List Leaf) → LeavesUnder c (xs ++ ys) → (ys ≡ []) ⊎ (settled c (finding_of m xs) ≡ true) → outcome c (finding_of m (xs ++ ys)) ≡ outcome c (finding_of m xs)
  same_outcome xs ys h (inl e) = ap (λ x. outcome c (finding_of m x)) (ap (λ x. xs ++ x) e ∙ append-nil xs)
  same_outcome xs ys h (inr s) =
      ap (outcome c) (leaves_join m c xs ys h)
      ∙ (settled_stays c m (answer_rows xs) (loose_rows xs) (answer_rows ys) (loose_rows ys) (λ q i. (each-answer (IsUnder c) ys (under-right c xs ys h) q i).0) s).1

pub walk_gives_verdict : WalkGivesVerdict
walk_gives_verdict clauses depth m shape face t v h k =
    let c = call face in
    let ms = until (settled_by m c) [] (trace t) in
    let b = until_begins (settled_by m c) [] (trace t) in
    let e : met ms ++ met b.0 ≡ leaves t = sym (met-append ms b.0) ∙ ap met b.1 in
    let under : LeavesUnder c (met ms ++ met b.0) = subst (LeavesUnder c) (sym e) (leaves_under clauses shape face depth t h) in
    let o : (met b.0 ≡ []) ⊎ (settled c (finding_of m (met ms)) ≡ true) = elim b.2 [ inl n ↦ inl (ap met n) | inr s ↦ inr s ] in
    sym (same_outcome m c (met ms) (met b.0) under o)
    ∙ ap (λ x. outcome c (finding_of m x)) e
    ∙ outcome_is m c (answer_rows (leaves t)) (loose_rows (leaves t))
    ∙ verdict_once clauses depth m shape face (verdict m c (answer_rows (leaves t)) (loose_rows (leaves t))) v (verdict_of_tree clauses depth m shape face t h) k

pub worth_is_under : WorthIsUnder
worth_is_under clauses shape face depth t h w x i = leaves_under clauses shape face depth t h x (worth_inside w t x i)

pub worth_fits : WorthFits
worth_fits clauses shape face depth t h m w = leaves_fit m (call face) (worth w t) (worth_is_under clauses shape face depth t h w)
