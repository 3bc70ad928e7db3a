-- Terms from outside on the heap.
use Rattle.std.proofs.Common.{◌≡◌, ℕ, zero, suc, ◌+◌, ◌<◌, List, [], ◌∷◌, ◌++◌, length, pos, All, Some, refl, ap, sym, ◌∙◌, subst, inl, arith, append-nil, length-append}
use Rattle.std.proofs.Math.Seq.{drop-append_seam}
use Rattle.std.proofs.lemmas.List.{get_or-append-add}
use Rattle.pp_row.specs.declared.cell.Cell.{Cell}
use Rattle.pp_row.specs.declared.cell.Cell.TheVariants.{Int, Compound, Var}
use Rattle.pp_algebra.specs.Terms.{Tree, variable, none, more}
use Rattle.pp_algebra.specs.Covers.{IsIn}
use Rattle.pp_algebra.specs.Least.{first}
use Rattle.pp_algebra.proofs.Antisym.{put-agree}
use Rattle.pp_algebra.proofs.Put.{put-variable}
use Rattle.pp_algebra.proofs.Order.{IsIn-left, IsIn-right}
use Rattle.pp_row.specs.Cells.{cells_of, variables_in, IsTerm, IsLegalCell, renamed}
use Rattle.pp_row.specs.Codes.{stack-cells_of, tree_of-cells_of}
use Rattle.pp_row.specs.Reading.{stack, all_of}
use Rattle.pp_row.proofs.Renaming.{among-cells_of, renamed-cells_of, renamed_term}
use Rattle.pp_row.specs.Cells.{variables_among}
use Rattle.pp_heap.specs.declared.state.Slot.{Slot}
use Rattle.pp_heap.specs.Values.{cell_at, term_at, shifted}
use Rattle.pp_heap.specs.Soundness.{IsCompound}
use Rattle.pp_algebra.specs.Numbered.{counted_from}
use Rattle.pp_unify.specs.Tops.{IsAmong}
use Rattle.pp_row.proofs.Next.{one_cell}

-- the cells of one term
pub reads_one : (t : Tree ℕ) → stack (cells_of t) ≡ Some (more t none)
reads_one t = ap stack (sym (append-nil (cells_of t))) ∙ stack-cells_of t [] none refl

-- the cells of the term whose variables are counted from a first number
pub shifted_cells : (first : ℕ) (t : Tree ℕ) (cs : List Cell) → cs ≡ cells_of t → shifted first cs ≡ cells_of (counted_from first t)
shifted_cells first t cs e = ap (shifted first) e ∙ renamed-cells_of (λ v. first + v) t

pub counted_term : (first : ℕ) (t : Tree ℕ) → IsTerm t → IsTerm (counted_from first t)
counted_term first t h =
    let r = renamed_term (λ v. first + v) (cells_of t) (shifted first (cells_of t)) (record { legal = h; whole = ap cells_of (tree_of-cells_of t) }) refl in
    subst (All IsLegalCell) (renamed-cells_of (λ v. first + v) t) r.0.legal

pub counted-zero : (t : Tree ℕ) → counted_from 0 t ≡ t
counted-zero t = put-agree (λ v. variable (0 + v)) variable t (λ v i. ap variable (omega arith)) ∙ put-variable t

-- a compound's cell that is put to the heap
pub last_compound : (heap cs : List Cell) (first at f k : ℕ) → cell_at cs 0 ≡ Compound f k → at ≡ length heap → IsCompound (cell_at (heap ++ shifted first cs) at)
last_compound heap cs first at f k e h =
    let i : at ≡ length heap + 0 = omega (arith, h) in
    rw (i, get_or-append-add heap (shifted first cs) 0 (Int (pos 0))) (go cs e)
  where
    go : (ds : List Cell) → cell_at ds 0 ≡ Compound f k → IsCompound (cell_at (shifted first ds) 0)
    go [] d = absurd (cc)
    go (d ∷ ds) e = subst (λ x. IsCompound (renamed (λ v. first + v) x)) (sym e) tt

pub cell_in : (cs : List Cell) (p v : ℕ) → cell_at cs p ≡ Var v → IsIn v (variables_among cs)
cell_in [] p v e = absurd (cc)
cell_in (c ∷ cs) zero v e = IsIn-left v (variables_in c) (variables_among cs) (subst (λ d. IsIn v (variables_in d)) (sym e) (inl refl))
cell_in (c ∷ cs) (suc p) v e = IsIn-right v (variables_in c) (variables_among cs) (cell_in cs p v e)

pub cells_among : (slots : List Slot) (t : Tree ℕ) (cs : List Cell) → cs ≡ cells_of t → IsAmong slots t → (p v : ℕ) → cell_at cs p ≡ Var v → v < length slots
cells_among slots t cs e h p v f = h v (subst (IsIn v) (among-cells_of t) (cell_in (cells_of t) p v (subst (λ ds. cell_at ds p ≡ Var v) e f)))

-- the term that was put to the heap stands where the heap ended
pub last_term : (heap cs : List Cell) (t : Tree ℕ) (at : ℕ) → cs ≡ cells_of t → at ≡ length heap → term_at (heap ++ cs) at ≡ t
last_term heap cs t at e f = rw (e, f, drop-append_seam heap (cells_of t)) (ap (λ o. first (all_of o)) (reads_one t))

pub last_within : (heap cs : List Cell) (t : Tree ℕ) (at : ℕ) → cs ≡ cells_of t → at ≡ length heap → at < length (heap ++ cs)
last_within heap cs t at e f = omega (arith, length-append heap cs, ap length e, one_cell t, f)
