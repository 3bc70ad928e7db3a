-- The top of a term with all bindings in place.
use Rattle.std.proofs.Common.{◌≡◌, ℕ, ℤ, ◌<◌, List, [], length, refl, sym, ◌∙◌, subst}
use Rattle.pp_row.specs.declared.cell.Cell.{Cell}
use Rattle.pp_row.specs.declared.cell.Cell.TheVariants as cells
use Rattle.pp_algebra.specs.Terms.{Tree, int, node, variable, none, put}
use Rattle.pp_row.specs.Cells.{cells_of, IsTerm}
use Rattle.pp_heap.specs.declared.state.Slot.{Slot}
use Rattle.pp_heap.specs.declared.state.Value.{Value}
use Rattle.pp_heap.specs.declared.state.Value.TheVariants.{Variable, Int, Atom, Compound}
use Rattle.pp_heap.specs.declared.state.State.{State}
use Rattle.pp_heap.specs.Values.{cell_at, term_at}
use Rattle.pp_heap.specs.Stores.{store_of, solution}
use Rattle.pp_heap.specs.Soundness.{IsGood, IsCompound}
use Rattle.pp_heap.specs.Outcomes.{IsValue}
use Rattle.pp_unify.specs.Tops.{IsNode, IsTop}
use Rattle.pp_heap.proofs.Forests.{variable_at, int_at, atom_at}
use Rattle.pp_unify.proofs.Heaps.{IsNamed, compound_named}
use Rattle.pp_unify.proofs.Grown.{last_term, last_within}
use Rattle.pp_heap.proofs.Solutions.{own_domains, solution_free, solution_agrees}
use Rattle.pp_row.proofs.InStep.{is_forest}

-- a term by its first cell
module _ (t : Tree ℕ) (cs : List Cell) (e : cs ≡ cells_of t) (h : IsTerm t) where
  pub some_cell : 0 < length cs
  some_cell = last_within [] cs t 0 e refl

  pub int_first : (n : ℤ) → cell_at cs 0 ≡ cells.Int n → t ≡ int n
  int_first n f = sym (last_term [] cs t 0 e refl) ∙ int_at cs 0 n (is_forest t cs e h) some_cell f

  pub atom_first : (a : ℕ) → cell_at cs 0 ≡ cells.Atom a → t ≡ node a none
  atom_first a f = sym (last_term [] cs t 0 e refl) ∙ atom_at cs 0 a (is_forest t cs e h) some_cell f

  pub variable_first : (v : ℕ) → cell_at cs 0 ≡ cells.Var v → t ≡ variable v
  variable_first v f = sym (last_term [] cs t 0 e refl) ∙ variable_at cs 0 v (is_forest t cs e h) some_cell f

  pub named_first : (g k : ℕ) → cell_at cs 0 ≡ cells.Compound g k → IsNamed t
  named_first g k f = subst IsNamed (last_term [] cs t 0 e refl) (compound_named cs 0 (is_forest t cs e h) some_cell (subst IsCompound (sym f) tt))

pub top_named : (slots : List Slot) (s : ℕ → Tree ℕ) (t : Tree ℕ) (c : Value) → IsNamed t → IsNode c → IsTop slots (put s t) c
top_named slots s t c n h = subst (λ u. IsTop slots (put s u) c) (sym n.is) h

-- a term by its value
pub top_value : (s : State) (t : Tree ℕ) (c : Value) → IsGood s → IsValue (store_of s) t c → IsTop s.slots.items (put (solution s) t) c
top_value s t (Variable x) g h = subst (λ u. IsTop s.slots.items u (Variable x)) (sym (h.same (own_domains (store_of s)) (solution s) (solution_agrees s g) ∙ solution_free s x h.now.0 g h.now.1.free)) (refl, h.now.1.within)
top_value s t (Int n) g h = subst (λ u. IsTop s.slots.items u (Int n)) (sym (h.same (own_domains (store_of s)) (solution s) (solution_agrees s g))) (refl, h.now)
top_value s t (Atom a) g h = subst (λ u. IsTop s.slots.items u (Atom a)) (sym (h.same (own_domains (store_of s)) (solution s) (solution_agrees s g))) tt
top_value s t (Compound p) g h =
    subst (λ u. IsTop s.slots.items u (Compound p)) (sym (h.same (own_domains (store_of s)) (solution s) (solution_agrees s g)))
    (top_named s.slots.items (solution s) (term_at s.heap.items p) (Compound p) (compound_named s.heap.items p g.linked.forest h.now.0 h.now.1) tt)
