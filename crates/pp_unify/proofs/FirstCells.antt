-- The first cell of a term with all bindings in place.
use Rattle.std.proofs.Common.{◌≡◌, ℕ, ◌<◌, List, length, None, Some, refl, ap, sym, ◌∙◌, subst}
use Rattle.pp_row.specs.declared.cell.Cell.{Cell}
use Rattle.pp_row.specs.declared.cell.Cell.TheVariants.{Int, Atom, Compound, Var}
use Rattle.pp_row.specs.Cells.{head_of}
use Rattle.pp_row.specs.Reading.{IsForest}
use Rattle.pp_row.proofs.Next.{cell_of}
use Rattle.pp_algebra.specs.Terms.{Tree, int, node, variable, put}
use Rattle.pp_algebra.proofs.Put.{count-put_all}
use Rattle.pp_heap.specs.declared.state.State.{State}
use Rattle.pp_heap.specs.declared.state.Value.TheVariants.{Variable}
use Rattle.pp_heap.specs.Values.{cell_at, term_at}
use Rattle.pp_heap.specs.Stores.{store_of, solution}
use Rattle.pp_heap.specs.Soundness.{IsGood, IsCompound}
use Rattle.pp_heap.specs.Outcomes.{IsNow}
use Rattle.pp_heap.proofs.Forests.{term_cell}
use Rattle.pp_heap.proofs.Solutions.{solution_free}
use Rattle.pp_unify.specs.Heads.{IsVariable}
use Rattle.pp_unify.specs.States.{first_cell}
use Rattle.pp_unify.proofs.HeadSteps.{plain_compound}

first_put : (s : ℕ → Tree ℕ) (t : Tree ℕ) → (IsVariable (cell_of t) → ⊥) → first_cell (put s t) ≡ Some (cell_of t)
first_put s (int n) h = refl
first_put s (node f ts) h = ap (λ k. Some (head_of f k)) (count-put_all s ts)
first_put s (variable v) h = absurd (h tt)

-- other numbers for the variables
pub first_renamed : (f : ℕ → ℕ) (t : Tree ℕ) → first_cell (put (λ v. variable (f v)) t) ≡ first_cell t
first_renamed f (int n) = refl
first_renamed f (node g ts) = ap (λ k. Some (head_of g k)) (count-put_all (λ v. variable (f v)) ts)
first_renamed f (variable v) = refl

pub no_variable : (c : Cell) → ((v : ℕ) → c ≡ Var v → ⊥) → IsVariable c → ⊥
no_variable (Int n) h v = v
no_variable (Atom a) h v = v
no_variable (Compound f k) h v = v
no_variable (Var w) h v = h w refl

-- the term at a place that is no variable
pub first_at : (s : ℕ → Tree ℕ) (cs : List Cell) (p : ℕ) → IsForest cs → p < length cs → (IsVariable (cell_at cs p) → ⊥) → first_cell (put s (term_at cs p)) ≡ Some (cell_at cs p)
first_at s cs p f l h =
    let e = term_cell cs p f l in
    first_put s (term_at cs p) (subst (λ z. IsVariable z → ⊥) (sym e) h) ∙ ap Some e

pub first_free : (s : State) (x : ℕ) → IsGood s → IsNow (store_of s) (Variable x) → first_cell (put (solution s) (variable x)) ≡ None
first_free s x g n = ap first_cell (solution_free s x n.0 g n.1.free)

pub first_compound : (s : State) (p : ℕ) → IsGood s → p < length s.heap.items → IsCompound (cell_at s.heap.items p) → first_cell (put (solution s) (term_at s.heap.items p)) ≡ Some (cell_at s.heap.items p)
first_compound s p g l h = first_at (solution s) s.heap.items p g.linked.forest l (plain_compound (cell_at s.heap.items p) h)
