-- Rows whose variables are all free.
use Rattle.std.proofs.Common.{◌≡◌, ℕ, ℤ, zero, suc, ◌+◌, ◌<◌, ◌⊎◌, inl, inr, List, [], ◌∷◌, ◌++◌, length, take, get_or, All, Option, Some, refl, ap, sym, ◌∙◌, arith, subst, length-append}
use Rattle.std.proofs.lemmas.List.{take_more, map-append}
use Rattle.std.proofs.lemmas.List.Elements.{All-head, All-tail}
use Rattle.pp_algebra.specs.Terms.{Tree, Trees, variable, more, none, join, put_all, variables_all}
use Rattle.pp_algebra.specs.Rows.{Domain, Row, IsNumbered, IsWide, IsRow, IsCanonical}
use Rattle.pp_algebra.specs.Covers.{IsIn}
use Rattle.pp_algebra.proofs.Put.{put_all-variable}
use Rattle.pp_algebra.proofs.Antisym.{put_all-agree}
use Rattle.pp_sld.specs.Goals as goals
use Rattle.pp_sld.specs.Goals.{Config, put_goal, with_goals, row_of}
use Rattle.pp_algebra.specs.Numbered.{variables_from}
use Rattle.pp_sld.specs.Leaves.{root}
use Rattle.pp_row.specs.Columns.{set_by, sets_of, trees_of}
use Rattle.pp_moves.specs.Numbered.{numbered}
use Rattle.pp_moves.proofs.Leaf.{numbered_same}
use Rattle.pp_moves.proofs.Moved.{from-numbered}
use Rattle.pp_unify.specs.States.{value_in, with_new}
use Rattle.pp_unify.specs.Forests.{AreOver}
use Rattle.pp_row.specs.declared.cell.Cell.{Cell}
use Rattle.pp_row.specs.Cells.{cells_of, IsTerm}
use Rattle.pp_row.specs.Reading.{stack, only, all_of, tree_of, forest, IsForest}
use Rattle.pp_row.proofs.OneTerm.{one_of}
use Rattle.pp_unify.proofs.Grown.{reads_one}
use Rattle.pp_heap.proofs.Forests.{stack_append, more_forest}
use Rattle.pp_goal.proofs.Places.{one_forest, one_is_forest}
use Rattle.pp_resolve.specs.Standing.{counted, standing, config_in}
use Rattle.pp_resolve.specs.Starting.{free_row}
use Rattle.pp_algebra.proofs.Numbered.{column-from, from-below, count-from, numbered_below}

from-push : (first n : ℕ) → join (variables_from first n) (more (variable (first + n)) none) ≡ variables_from first (n + 1)
from-push first zero = ap (λ v. more (variable v) none) (omega arith)
from-push first (suc n) =
    let e : suc (n + 1) ≡ suc n + 1 = omega arith in
    ap (more (variable first)) (ap (λ v. join (variables_from (suc first) n) (more (variable v) none)) (omega arith) ∙ from-push (suc first) n) ∙ ap (variables_from first) e

free_more : (ds : List (Option Domain)) (d : Option Domain) → with_new (free_row ds) d ≡ free_row (ds ++ d ∷ [])
free_more ds d =
    let columns : join (variables_from 0 (length ds)) (more (variable (length ds)) none) ≡ variables_from 0 (length (ds ++ d ∷ [])) =
    ap (λ v. join (variables_from 0 (length ds)) (more (variable v) none)) (omega arith) ∙ from-push 0 (length ds) ∙ ap (variables_from 0) (sym (length-append ds (d ∷ []))) in
    rw columns refl

wide_one : (ds : List (Option (List (ℤ × ℤ)))) (i : ℕ) (d : Option (List (ℤ × ℤ))) → All IsWide (sets_of ds) → i < length ds → d ≡ get_or ds i d → IsWide (set_by d)
wide_one [] i d h l e = absurd (omega (arith, l))
wide_one (x ∷ ds) zero d h l e = subst (λ y. IsWide (set_by y)) (sym e) (All-head IsWide (set_by x) (sets_of ds) h)
wide_one (x ∷ ds) (suc i) d h l e = wide_one ds i d (All-tail IsWide (set_by x) (sets_of ds) h) (omega (arith, l)) e

pub wide_copy : (ds : List (Option (List (ℤ × ℤ)))) (i : ℕ) (d copy : Option (List (ℤ × ℤ))) → All IsWide (sets_of ds) → i < length ds → d ≡ get_or ds i d → copy ≡ d → IsWide (set_by copy)
wide_copy ds i d copy h l e f = subst (λ y. IsWide (set_by y)) (sym f) (wide_one ds i d h l e)

pub set_more : (ds : List (Option (List (ℤ × ℤ)))) (i : ℕ) (d copy : Option (List (ℤ × ℤ))) (old new : Row) → i < length ds → d ≡ get_or ds i d → copy ≡ d → old ≡ free_row (sets_of (take i ds)) → new ≡ with_new old (set_by copy) → new ≡ free_row (sets_of (take (i + 1) ds))
set_more ds i d copy old new l e f g h =
    let taken : take (i + 1) ds ≡ take i ds ++ copy ∷ [] = take_more ds i d l ∙ ap (λ x. take i ds ++ x ∷ []) (sym e ∙ sym f) in
    h ∙ ap (λ r. with_new r (set_by copy)) g ∙ free_more (sets_of (take i ds)) (set_by copy)
    ∙ ap free_row (sym (ap sets_of taken ∙ map-append set_by (take i ds) (copy ∷ [])))

-- ===== the cells of columns

trees-push : (ts : List (Tree ℕ)) (t : Tree ℕ) → join (trees_of ts) (more t none) ≡ trees_of (ts ++ t ∷ [])
trees-push [] t = refl
trees-push (u ∷ ts) t = ap (more u) (trees-push ts t)

pub cells_more : (ts : List (Tree ℕ)) (i : ℕ) (t : Tree ℕ) (out cells : List Cell) → i < length ts → t ≡ get_or ts i t → IsForest out → forest out ≡ trees_of (take i ts) → cells ≡ cells_of t → IsTerm t
    → IsForest (out ++ cells) × (forest (out ++ cells) ≡ trees_of (take (i + 1) ts))
cells_more ts i t out cells l e h f c legal =
    let one = one_of t cells legal (sym c) in
    let whole = one_is_forest cells one in
    let tree : tree_of cells ≡ t = ap only (reads_cells t cells c) in
    let taken : take (i + 1) ts ≡ take i ts ++ t ∷ [] = take_more ts i t l ∙ ap (λ x. take i ts ++ x ∷ []) (sym e) in (
      more_forest out cells h whole,
      ap all_of (stack_append out cells h whole)
          ∙ ap (λ xs. join xs (forest cells)) f
          ∙ ap (join (trees_of (take i ts))) (one_forest cells one ∙ ap (λ x. more x none) tree)
          ∙ trees-push (take i ts) t
          ∙ ap trees_of (sym taken),
    )
  where
    reads_cells : (t : Tree ℕ) (cells : List Cell) → cells ≡ cells_of t → stack cells ≡ Some (more t none)
    reads_cells t cells c = ap stack c ∙ reads_one t

-- ===== the root

-- what is numbered stays so with earlier numbers behind it
numbered_more : (n m : ℕ) (vs ws : List ℕ) → IsNumbered n vs m → ((v : ℕ) → IsIn v ws → v < m) → IsNumbered n (vs ++ ws) m
numbered_more n m [] [] h b = h
numbered_more n m [] (w ∷ ws) h b = inl (omega (arith, h, b w (inl refl)), numbered_more n m [] ws h (λ v i. b v (inr i)))
numbered_more n m (v ∷ vs) ws (inl h) b = inl (h.0, numbered_more n m vs ws h.1 b)
numbered_more n m (v ∷ vs) ws (inr h) b = inr (h.0, numbered_more (suc n) m vs ws h.1 b)

module _ (face : Row) (row : IsRow face) (shape : goals.Shape) (depth : ℕ) where
  abbrev n : ℕ
  n = length face.domains

  abbrev free : Row
  free = free_row face.domains

  -- the goal, as it is told from the bindings
  abbrev raw : goals.Goal ℕ
  raw = put_goal (counted 0) (record { shape = shape; arguments = face.columns })

  stays : (ts : Trees ℕ) → ((v : ℕ) → IsIn v (variables_all ts) → v < n) → put_all (value_in free) ts ≡ ts
  stays ts b = put_all-agree (value_in free) variable ts (λ v i. column-from 0 n v (b v i) ∙ ap variable (omega arith)) ∙ put_all-variable ts

  uncounted : put_all (counted 0) face.columns ≡ face.columns
  uncounted = put_all-agree (counted 0) variable face.columns (λ v i. ap variable (omega arith)) ∙ put_all-variable face.columns

  face_below : (v : ℕ) → IsIn v (variables_all face.columns) → v < n
  face_below v i = numbered_below (variables_all face.columns) 0 n v row.canonical i

  calls_below : (v : ℕ) → IsIn v (variables_all (variables_from 0 n)) → v < n
  calls_below v i = omega (arith, from-below 0 n v i)

  standing_root : standing free (raw ∷ []) (variables_from 0 n) depth ≡ root shape face depth
  standing_root =
      let args : put_all (value_in free) (put_all (counted 0) face.columns) ≡ face.columns = ap (put_all (value_in free)) uncounted ∙ stays face.columns face_below in
      ap (λ ts. let c : Config = record { goals = record { shape = shape; arguments = ts } ∷ []; columns = put_all (value_in free) (variables_from 0 n); domains = face.domains; depth = depth } in c) args
      ∙ ap (λ ts. let c : Config = record { goals = record { shape = shape; arguments = face.columns } ∷ []; columns = ts; domains = face.domains; depth = depth } in c) (stays (variables_from 0 n) calls_below)

  root_canonical : IsCanonical (row_of (root shape face depth))
  root_canonical = numbered_more 0 n (variables_all face.columns) (variables_all (variables_from 0 n)) row.canonical calls_below

  pub config_root : config_in free (raw ∷ []) (variables_from 0 n) depth ≡ root shape face depth
  config_root = ap numbered standing_root ∙ numbered_same (root shape face depth) root_canonical

  free_is_row : IsRow free
  free_is_row =
      let e : 0 + n ≡ n = omega arith in
      record { canonical = subst (IsNumbered 0 (variables_all (variables_from 0 n))) e (from-numbered 0 n); wide = row.wide }

  either : (v : ℕ) (vs ws : List ℕ) → IsIn v (vs ++ ws) → IsIn v vs ⊎ IsIn v ws
  either v [] ws i = inr i
  either v (x ∷ vs) ws (inl e) = inl (inl e)
  either v (x ∷ vs) ws (inr i) = elim (either v vs ws i) [ inl j ↦ inl (inr j) | inr j ↦ inr j ]

  pub root_over : AreOver free (with_goals (raw ∷ []) (variables_from 0 n))
  root_over v i =
      let c = count-from 0 n in
      elim (either v (variables_all (put_all (counted 0) face.columns)) (variables_all (variables_from 0 n)) i) [
        | inl j ↦ omega (arith, c, face_below v (subst (λ ts. IsIn v (variables_all ts)) uncounted j))
        | inr j ↦ omega (arith, c, calls_below v j)
      ]

  pub root_row : IsRow free
  root_row = free_is_row
