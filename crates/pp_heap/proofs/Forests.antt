-- Terms of the heap, and that more cells change none of them.
use Rattle.std.proofs.Common.{◌≡◌, ℕ, ℤ, ◌<◌, ◌≤◌, pos, List, ◌++◌, drop, length, refl, ap, sym, ◌∙◌, arith, Some, slice_index_or}
use Rattle.std.proofs.lemmas.List.{drop-append-le, get_or_append_left, get_or_read_under}
use Rattle.std.proofs.lemmas.List.Elements.{All-append, All-get_or}
use Rattle.pp_row.specs.declared.cell.Cell.{Cell}
use Rattle.pp_row.specs.declared.cell.Cell.TheVariants.{Int, Atom, Var}
use Rattle.pp_row.specs.Cells.{IsLegalCell}
use Rattle.pp_row.specs.Reading.{stack, all_of, forest, IsForest, from}
use Rattle.pp_row.specs.Codes.{stack-cells_of_all}
use Rattle.pp_row.proofs.OneTerm.{stack-is}
use Rattle.pp_row.proofs.Next.{next, cell_of, forest_from, var_term}
use Rattle.pp_algebra.specs.Terms.{Tree, int, node, variable, Trees, none, more, join}
use Rattle.pp_algebra.specs.Least.{first, rest}
use Rattle.pp_heap.specs.Values.{cell_at, term_at}

pub term_cell : (heap : List Cell) (p : ℕ) → IsForest heap → p < length heap → cell_of (term_at heap p) ≡ cell_at heap p
term_cell heap p f l = (next heap p (Int (pos 0)) f l).cell

int_term : (t : Tree ℕ) (n : ℤ) → cell_of t ≡ Int n → t ≡ int n
int_term (int m) n e = let h : m ≡ n = cc in ap int h
int_term (node f none) n e = absurd (cc)
int_term (node f (more t ts)) n e = absurd (cc)
int_term (variable w) n e = absurd (cc)

atom_term : (t : Tree ℕ) (a : ℕ) → cell_of t ≡ Atom a → t ≡ node a none
atom_term (int m) a e = absurd (cc)
atom_term (node f none) a e = let h : f ≡ a = cc in ap (λ g. node g none) h
atom_term (node f (more t ts)) a e = absurd (cc)
atom_term (variable w) a e = absurd (cc)

pub variable_at : (heap : List Cell) (p v : ℕ) → IsForest heap → p < length heap → cell_at heap p ≡ Var v → term_at heap p ≡ variable v
variable_at heap p v f l e = var_term (term_at heap p) v (term_cell heap p f l ∙ e)

pub int_at : (heap : List Cell) (p : ℕ) (n : ℤ) → IsForest heap → p < length heap → cell_at heap p ≡ Int n → term_at heap p ≡ int n
int_at heap p n f l e = int_term (term_at heap p) n (term_cell heap p f l ∙ e)

pub atom_at : (heap : List Cell) (p a : ℕ) → IsForest heap → p < length heap → cell_at heap p ≡ Atom a → term_at heap p ≡ node a none
atom_at heap p a f l e = atom_term (term_at heap p) a (term_cell heap p f l ∙ e)

pub stack_append : (heap cells : List Cell) → IsForest heap → IsForest cells → stack (heap ++ cells) ≡ Some (join (forest heap) (forest cells))
stack_append heap cells f g = ap (λ (l : List Cell). stack (l ++ cells)) (sym (stack-is heap (forest heap) f.legal f.reads)) ∙ stack-cells_of_all (forest heap) cells (forest cells) g.reads

pub more_forest : (heap cells : List Cell) → IsForest heap → IsForest cells → IsForest (heap ++ cells)
more_forest heap cells f g = let e = stack_append heap cells f g in record { legal = All-append IsLegalCell heap cells f.legal g.legal; reads = e ∙ sym (ap Some (ap all_of e)) }

first_join : (ts us : Trees ℕ) → ts ≡ more (first ts) (rest ts) → first (join ts us) ≡ first ts
first_join none us e = absurd (cc)
first_join (more t ts) us e = refl

pub more_term : (heap cells : List Cell) (p : ℕ) → IsForest heap → IsForest cells → p < length heap → term_at (heap ++ cells) p ≡ term_at heap p
more_term heap cells p f g l =
    let n = next heap p (Int (pos 0)) f l in
    let k : p ≤ length heap = omega arith in
    ap (λ (x : List Cell). first (forest x)) (drop-append-le p heap cells k)
    ∙ ap (λ o. first (all_of o)) (stack_append (drop p heap) cells (forest_from heap p f) g)
    ∙ first_join (from heap p) (forest cells) n.some

pub more_cell : (heap cells : List Cell) (p : ℕ) → p < length heap → cell_at (heap ++ cells) p ≡ cell_at heap p
more_cell heap cells p l = get_or_append_left heap cells (Int (pos 0)) p l

-- what a read of the heap gives
pub cell_read : (heap : List Cell) (p : ℕ) (c : Cell) → c ≡ slice_index_or heap p c → p < length heap → cell_at heap p ≡ c
cell_read heap p c e l = sym (get_or_read_under heap p (length heap) c (Int (pos 0)) e l refl)

pub legal_at : (heap : List Cell) (p : ℕ) → IsForest heap → p < length heap → IsLegalCell (cell_at heap p)
legal_at heap p f l = All-get_or IsLegalCell heap p (Int (pos 0)) l f.legal
