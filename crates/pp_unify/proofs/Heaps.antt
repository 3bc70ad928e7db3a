-- Terms of the heap: their variables stand in it as cells, and at a compound's cell begins a term with a name.
use Rattle.std.proofs.Common.{◌≡◌, ℕ, zero, suc, ◌+◌, ◌<◌, pos, List, [], ◌∷◌, ◌++◌, length, drop, refl, ap, sym, ◌∙◌, subst, inl, inr}
use Rattle.std.proofs.lemmas.List.{get_or-drop}
use Rattle.pp_row.specs.declared.cell.Cell.{Cell}
use Rattle.pp_row.specs.declared.cell.Cell.TheVariants.{Int, Atom, Compound, Var}
use Rattle.pp_algebra.specs.Terms.{Tree, int, node, variable, Trees, put, put_all, variables}
use Rattle.pp_algebra.specs.Covers.{IsIn}
use Rattle.pp_algebra.specs.Least.{rest}
use Rattle.pp_algebra.proofs.Antisym.{IsIn-either}
use Rattle.pp_algebra.proofs.Order.{IsIn-left}
use Rattle.pp_row.specs.Cells.{cells_of, cells_of_all, variables_in}
use Rattle.pp_row.specs.Reading.{IsForest, from}
use Rattle.pp_row.proofs.Next.{next, cell_of}
use Rattle.pp_row.proofs.Piece.{cells_from, cells_some}
use Rattle.pp_row.proofs.Renaming.{among-append, among-cells_of}
use Rattle.pp_row.specs.Cells.{variables_among}
use Rattle.pp_heap.specs.Values.{cell_at, term_at}
use Rattle.pp_heap.specs.Soundness.{IsCompound}

is_var : (c : Cell) (w : ℕ) → IsIn w (variables_in c) → c ≡ Var w
is_var (Int n) w i = absurd i
is_var (Atom a) w i = absurd i
is_var (Compound f k) w i = absurd i
is_var (Var v) w (inl e) = ap Var e
is_var (Var v) w (inr i) = absurd i

pub cell_among : (cs : List Cell) (w : ℕ) → IsIn w (variables_among cs) → (q : ℕ) × (cell_at cs q ≡ Var w)
cell_among [] w i = absurd i
cell_among (c ∷ cs) w i = elim (IsIn-either w (variables_in c) (variables_among cs) i) [
  | inl j ↦ (zero, is_var c w j)
  | inr j ↦ (let r = cell_among cs w j in (suc r.0, r.1))
]

pub variable_cell : (heap : List Cell) (p w : ℕ) → IsForest heap → p < length heap → IsIn w (variables (term_at heap p)) → (q : ℕ) × (cell_at heap q ≡ Var w)
variable_cell heap p w f l i =
    let t = term_at heap p in
    let others = cells_of_all (rest (from heap p)) in
    let e : drop p heap ≡ cells_of t ++ others = sym (cells_from heap p f) ∙ cells_some (from heap p) (next heap p (Int (pos 0)) f l).some in
    let a : variables_among (drop p heap) ≡ variables t ++ variables_among others = ap variables_among e ∙ among-append (cells_of t) others ∙ ap (λ vs. vs ++ variables_among others) (among-cells_of t) in
    let r = cell_among (drop p heap) w (subst (IsIn w) (sym a) (IsIn-left w (variables t) (variables_among others) i)) in
    (p + r.0, sym (get_or-drop p heap r.0 (Int (pos 0))) ∙ r.1)

pub record IsNamed (t : Tree ℕ) : Type 0 where
  pub name : ℕ
  pub arguments : Trees ℕ
  pub is : t ≡ node name arguments

named : (t : Tree ℕ) (c : Cell) → cell_of t ≡ c → IsCompound c → IsNamed t
named (int n) (Int m) e h = absurd h
named (int n) (Atom a) e h = absurd h
named (int n) (Compound f k) e h = absurd (cc)
named (int n) (Var w) e h = absurd h
named (node f ts) c e h = record { name = f; arguments = ts; is = refl }
named (variable v) (Int m) e h = absurd h
named (variable v) (Atom a) e h = absurd h
named (variable v) (Compound f k) e h = absurd (cc)
named (variable v) (Var w) e h = absurd h

-- at a compound's cell begins a term with a name
pub compound_named : (heap : List Cell) (p : ℕ) → IsForest heap → p < length heap → IsCompound (cell_at heap p) → IsNamed (term_at heap p)
compound_named heap p f l h = named (term_at heap p) (cell_at heap p) (next heap p (Int (pos 0)) f l).cell h

pub named_put : (s : ℕ → Tree ℕ) (t : Tree ℕ) → IsNamed t → IsNamed (put s t)
named_put s t n = record { name = n.name; arguments = put_all s n.arguments; is = ap (put s) n.is }
