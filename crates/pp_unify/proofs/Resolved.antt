-- The cells of resolved terms.
use Rattle.std.proofs.Common.{◌≡◌, ℕ, ◌<◌, arith, List, [], ◌∷◌, ◌++◌, length, refl, ap, sym, ◌∙◌, subst, append_assoc}
use Rattle.pp_row.specs.declared.cell.Cell.{Cell}
use Rattle.pp_row.specs.Cells.{cells_of, cells_of_all, head_of}
use Rattle.pp_row.specs.Reading.{IsForest}
use Rattle.pp_row.proofs.Next.{cell_of}
use Rattle.pp_algebra.specs.Terms.{Tree, int, node, variable, Trees, more, put, put_all, join}
use Rattle.pp_algebra.specs.Least.{arguments}
use Rattle.pp_algebra.proofs.Put.{count-put_all}
use Rattle.pp_heap.specs.declared.spans.Span.{Span}
use Rattle.pp_heap.specs.declared.state.State.{State}
use Rattle.pp_heap.specs.declared.state.Value.{Value}
use Rattle.pp_heap.specs.declared.state.Value.TheVariants as values
use Rattle.pp_heap.specs.Values.{cell_at, term_at, value_term}
use Rattle.pp_heap.specs.Stores.{store_of, solution}
use Rattle.pp_heap.specs.Soundness.{IsCompound, IsGood}
use Rattle.pp_heap.specs.Outcomes.{IsNow}
use Rattle.pp_heap.specs.Spans.{terms_of}
use Rattle.pp_unify.specs.Writing.{top_cell, written, IsWritten}
use Rattle.pp_heap.proofs.Forests.{term_cell}
use Rattle.pp_heap.proofs.Solutions.{solution_free}
use Rattle.pp_heap.proofs.Walk.{sizes-join, opened_at, one}
use Rattle.pp_row.proofs.OneTerm.{cells_of_all-join}
use Rattle.pp_algebra.proofs.Joined.{put_all-join}

cells_opened : (s : ℕ → Tree ℕ) (t : Tree ℕ) → IsCompound (cell_of t) → cells_of (put s t) ≡ cell_of t ∷ cells_of_all (put_all s (arguments t))
cells_opened s (int n) h = absurd h
cells_opened s (node f ts) h = ap (λ (k : ℕ). head_of f k ∷ cells_of_all (put_all s ts)) (count-put_all s ts)
cells_opened s (variable v) h = absurd h

pub cells_at : (s : ℕ → Tree ℕ) (heap : List Cell) (p : ℕ) → IsForest heap → p < length heap → IsCompound (cell_at heap p) → cells_of (put s (term_at heap p)) ≡ cell_at heap p ∷ cells_of_all (put_all s (arguments (term_at heap p)))
cells_at s heap p f l h = let e = term_cell heap p f l in cells_opened s (term_at heap p) (subst IsCompound (sym e) h) ∙ ap (λ (c : Cell). c ∷ cells_of_all (put_all s (arguments (term_at heap p)))) e

-- s leaves a free variable
abbrev pub LeavesFree : (ℕ → Tree ℕ) → Value → Type 0
LeavesFree s (values.Variable w) = s w ≡ variable w
LeavesFree s (values.Int n) = Unit {0}
LeavesFree s (values.Atom a) = Unit {0}
LeavesFree s (values.Compound p) = Unit {0}

-- a value that is no compound has one cell
one_cell : (s : ℕ → Tree ℕ) (heap : List Cell) (c : Value) → LeavesFree s c → ((p : ℕ) → c ≡ values.Compound p → ⊥) → cells_of (put s (value_term heap c)) ≡ top_cell heap c ∷ []
one_cell s heap (values.Variable w) f h = ap cells_of f
one_cell s heap (values.Int n) f h = refl
one_cell s heap (values.Atom a) f h = refl
one_cell s heap (values.Compound p) f h = absurd (h p refl)

pub wrote_one : (t : State) (c : Value) (out new : List Cell) (work : List Span) → LeavesFree (solution t) c → ((p : ℕ) → c ≡ values.Compound p → ⊥) → new ≡ out ++ top_cell t.heap.items c ∷ [] → IsWritten t c out new work work
wrote_one t c out new work f h n =
    let s = solution t in
    let o = one (put s (value_term t.heap.items c)) in
    record {
      cells = rw (n, one_cell s t.heap.items c f h) (append_assoc out (top_cell t.heap.items c ∷ []) (written s (terms_of t.heap.items work)));
      less = omega arith;
    }

pub wrote_compound : (t : State) (p : ℕ) (out new : List Cell) (work now : List Span) → IsForest t.heap.items → p < length t.heap.items → IsCompound (cell_at t.heap.items p) → new ≡ out ++ cell_at t.heap.items p ∷ [] → terms_of t.heap.items now ≡ join (arguments (term_at t.heap.items p)) (terms_of t.heap.items work) → IsWritten t (values.Compound p) out new work now
wrote_compound t p out new work now f l h n w =
    let s = solution t in
    let heap = t.heap.items in
    let gs = arguments (term_at heap p) in
    let o = opened_at s heap p f l h in
    record {
      cells = rw (n, w, cells_at s heap p f l h, put_all-join s gs (terms_of heap work), cells_of_all-join (put_all s gs) (put_all s (terms_of heap work))) (append_assoc out (cell_at heap p ∷ []) (written s gs ++ written s (terms_of heap work)));
      less = rw w (omega (arith, sizes-join s gs (terms_of heap work), o.size));
    }

-- a compound of the heap is written before its arguments and the terms after it
pub wrote_inside : (s : ℕ → Tree ℕ) (heap : List Cell) (p : ℕ) (out new : List Cell) (now r : Trees ℕ) → IsForest heap → p < length heap → IsCompound (cell_at heap p) → new ≡ out ++ cell_at heap p ∷ [] → now ≡ join (arguments (term_at heap p)) r → new ++ written s now ≡ out ++ written s (more (term_at heap p) r)
wrote_inside s heap p out new now r f l h n w =
    let gs = arguments (term_at heap p) in
    rw (n, w, cells_at s heap p f l h, put_all-join s gs r, cells_of_all-join (put_all s gs) (put_all s r)) (append_assoc out (cell_at heap p ∷ []) (written s gs ++ written s r))

-- the terms that were taken are written
pub wrote_taken : (s : ℕ → Tree ℕ) (out new rest : List Cell) (t u : Tree ℕ) (r : Trees ℕ) → put s t ≡ put s u → new ++ rest ≡ out ++ (cells_of (put s u) ++ written s r) → new ++ rest ≡ out ++ written s (more t r)
wrote_taken s out new rest t u r e h = h ∙ ap (λ z. out ++ (cells_of z ++ written s r)) (sym e)

pub leaves_free : (t : State) (c : Value) → IsGood t → IsNow (store_of t) c → LeavesFree (solution t) c
leaves_free t (values.Variable w) g n = solution_free t w n.0 g n.1.free
leaves_free t (values.Int k) g n = tt
leaves_free t (values.Atom a) g n = tt
leaves_free t (values.Compound p) g n = tt
