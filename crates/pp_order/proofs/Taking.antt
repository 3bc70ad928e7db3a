-- What a substitution takes to what, cell by cell.
use Rattle.std.proofs.Common.{◌≡◌, ℕ, List, refl, ap, ◌∙◌, sym, arith, subst, ◌+◌, ◌<◌, length, get_or, Bool, true, false}
use Rattle.std.specs.Prelude.{not}
use Rattle.pp_row.specs.declared.cell.Cell.{Cell}
use Rattle.pp_row.specs.declared.cell.Cell.TheVariants.{Var}
use Rattle.pp_algebra.specs.Terms.{Tree, int, node, variable, Trees, none, more, count, put, put_all, variables_all, join}
use Rattle.pp_algebra.specs.Rows.{Domains}
use Rattle.pp_algebra.specs.Covers.{IsIn}
use Rattle.pp_algebra.specs.Least.{first, rest, arguments}
use Rattle.pp_algebra.proofs.Put.{count-put_all}
use Rattle.pp_row.specs.contracts.cell.CellPartialEq.TheImpl.{eq-value}
use Rattle.pp_row.proofs.Decide.{cell_decides}
use Rattle.pp_row.specs.Cells.{head_of}
use Rattle.pp_row.specs.Reading.{from, IsForest}
use Rattle.pp_row.proofs.Next.{cell_of, IsNext, next, same_head, int_head, var_head, var_term}
use Rattle.pp_order.specs.Bindings.{Takes}
use Rattle.pp_algebra.proofs.Joined.{variables_all-join, put_all-join}

-- lists of one length that are joined are told apart
unjoin : (xs ys ts us : Trees ℕ) → count xs ≡ count ys → join xs ts ≡ join ys us → (xs ≡ ys) × (ts ≡ us)
unjoin none none ts us e f = (refl, f)
unjoin none (more y ys) ts us e f = absurd (omega arith)
unjoin (more x xs) none ts us e f = absurd (omega arith)
unjoin (more x xs) (more y ys) ts us e f =
    let r = unjoin xs ys ts us (omega arith) (cc) in
    let a : x ≡ y = cc in
    (rw (a, r.0) refl, r.1)

-- the cell is no variable
abbrev pub IsFixed : Cell → Type 0
IsFixed c = (v : ℕ) → c ≡ Var v → ⊥

variables_cell : (t : Tree ℕ) (ts : Trees ℕ) → IsFixed (cell_of t) → variables_all (more t ts) ≡ variables_all (join (arguments t) ts)
variables_cell (int n) ts f = refl
variables_cell (node g xs) ts f = sym (variables_all-join xs ts)
variables_cell (variable v) ts f = absurd (f v refl)

pub variables_next : (c : Cell) (ts rs : Trees ℕ) → IsNext c ts rs → IsFixed c → variables_all ts ≡ variables_all rs
variables_next c ts rs n f = ap variables_all n.some ∙ variables_cell (first ts) (rest ts) (subst IsFixed (sym n.cell) f) ∙ ap variables_all (sym n.inner)

-- a variable stands in front
pub variable_next : (v : ℕ) (ts rs : Trees ℕ) → IsNext (Var v) ts rs → ts ≡ more (variable v) rs
variable_next v ts rs n =
    let a : first ts ≡ variable v = var_term (first ts) v n.cell in
    n.some ∙ ap (λ t. more t (rest ts)) a ∙ ap (more (variable v)) (sym (n.inner ∙ ap (λ t. join (arguments t) (rest ts)) a))

-- cells that `!=` does not tell apart
pub cells_equal : (c d : Cell) (b : Bool) → b ≡ not (eq-value.it c d) → b ≡ false → c ≡ d
cells_equal c d b e f = go (eq-value.it c d) refl
  where
    go : (x : Bool) → eq-value.it c d ≡ x → c ≡ d
    go true g = (cell_decides c d).0 g
    go false g = let h : b ≡ true = e ∙ ap not g in absurd (cc (f, h))

pub cells_differ : (c d : Cell) (b : Bool) → b ≡ not (eq-value.it c d) → b ≡ true → c ≡ d → ⊥
cells_differ c d b e f g = let h : b ≡ false = e ∙ ap not ((cell_decides c d).1 g) in absurd (cc (f, h))

pub ahead_variable : (cs : List Cell) (i : ℕ) (d : Cell) (v : ℕ) → IsForest cs → i < length cs → get_or cs i d ≡ Var v → from cs i ≡ more (variable v) (from cs (i + 1))
ahead_variable cs i d v h l e = variable_next v (from cs i) (from cs (i + 1)) (subst (λ x. IsNext x (from cs i) (from cs (i + 1))) e (next cs i d h l))

pub ahead_term : (cs : List Cell) (i p : ℕ) (d : Cell) (t : Tree ℕ) → IsForest cs → i < length cs → t ≡ first (from cs i) → from cs p ≡ rest (from cs i) → from cs i ≡ more t (from cs p)
ahead_term cs i p d t h l e f = (next cs i d h l).some ∙ ap (λ x. more x (rest (from cs i))) (sym e) ∙ ap (more t) (sym f)

module _ (ds es : Domains ℕ) (s : ℕ → Tree ℕ) where
  same_variables : (ts us xs ys : Trees ℕ) → put_all s ts ≡ us → variables_all ts ≡ variables_all xs → Takes ds es s xs ys → Takes ds es s ts us
  same_variables ts us xs ys e f h = record { terms = e; domains = λ v i. h.domains v (subst (IsIn v) f i) }

  -- what agrees in the first cell
  into_cell : (t u : Tree ℕ) (ts us : Trees ℕ) → cell_of t ≡ cell_of u → IsFixed (cell_of t) → Takes ds es s (more t ts) (more u us) → Takes ds es s (join (arguments t) ts) (join (arguments u) us)
  into_cell (int n) (int m) ts us e f h = let a = h.terms in same_variables ts us (more (int n) ts) (more (int m) us) (cc) refl h
  into_cell (int n) (node g ys) ts us e f h = absurd (int_head n g (count ys) e)
  into_cell (int n) (variable v) ts us e f h = absurd (cc)
  into_cell (node g xs) (int m) ts us e f h = absurd (int_head m g (count xs) (sym e))
  into_cell (node g xs) (node k ys) ts us e f h =
      let a = h.terms in
      let b : put_all s xs ≡ ys = cc in
      let c : put_all s ts ≡ us = cc in
      same_variables (join xs ts) (join ys us) (more (node g xs) ts) (more (node k ys) us) (put_all-join s xs ts ∙ ap (λ z. join z (put_all s ts)) b ∙ ap (join ys) c) (variables_all-join xs ts) h
  into_cell (node g xs) (variable v) ts us e f h = absurd (var_head v g (count xs) (sym e))
  into_cell (variable v) u ts us e f h = absurd (f v refl)

  out_of_cell : (t u : Tree ℕ) (ts us : Trees ℕ) → cell_of t ≡ cell_of u → IsFixed (cell_of t) → Takes ds es s (join (arguments t) ts) (join (arguments u) us) → Takes ds es s (more t ts) (more u us)
  out_of_cell (int n) (int m) ts us e f h = let i : n ≡ m = cc in same_variables (more (int n) ts) (more (int m) us) ts us (rw (i, h.terms) refl) refl h
  out_of_cell (int n) (node g ys) ts us e f h = absurd (int_head n g (count ys) e)
  out_of_cell (int n) (variable v) ts us e f h = absurd (cc)
  out_of_cell (node g xs) (int m) ts us e f h = absurd (int_head m g (count xs) (sym e))
  out_of_cell (node g xs) (node k ys) ts us e f h =
      let i = same_head g k (count xs) (count ys) e in
      let r = unjoin (put_all s xs) ys (put_all s ts) us (count-put_all s xs ∙ i.1) (sym (put_all-join s xs ts) ∙ h.terms) in
      same_variables (more (node g xs) ts) (more (node k ys) us) (join xs ts) (join ys us) (rw (i.0, r.0, r.1) refl) (sym (variables_all-join xs ts)) h
  out_of_cell (node g xs) (variable v) ts us e f h = absurd (var_head v g (count xs) (sym e))
  out_of_cell (variable v) u ts us e f h = absurd (f v refl)

  -- what differs there is not taken
  cell_stays : (t : Tree ℕ) → IsFixed (cell_of t) → cell_of (put s t) ≡ cell_of t
  cell_stays (int n) f = refl
  cell_stays (node g xs) f = ap (head_of g) (count-put_all s xs)
  cell_stays (variable v) f = absurd (f v refl)

  module _ (c d : Cell) (ts us rs qs : Trees ℕ) (n : IsNext c ts rs) (m : IsNext d us qs) where
    pub past_cell : c ≡ d → IsFixed c → Takes ds es s ts us → Takes ds es s rs qs
    past_cell e f h = rw (n.inner, m.inner) (into_cell (first ts) (first us) (rest ts) (rest us) (n.cell ∙ e ∙ sym m.cell) (subst IsFixed (sym n.cell) f) (subst (λ z. Takes ds es s z (more (first us) (rest us))) n.some (subst (Takes ds es s ts) m.some h)))

    pub before_cell : c ≡ d → IsFixed c → Takes ds es s rs qs → Takes ds es s ts us
    before_cell e f h = subst (λ z. Takes ds es s z us) (sym n.some) (subst (Takes ds es s (more (first ts) (rest ts))) (sym m.some) (out_of_cell (first ts) (first us) (rest ts) (rest us) (n.cell ∙ e ∙ sym m.cell) (subst IsFixed (sym n.cell) f) (rw (n.inner, m.inner) at h)))

    pub no_cell : (c ≡ d → ⊥) → IsFixed c → Takes ds es s ts us → ⊥
    no_cell e f h =
        let a : put s (first ts) ≡ first us = ap first (ap (put_all s) (sym n.some) ∙ h.terms) in
        e (sym n.cell ∙ sym (cell_stays (first ts) (subst IsFixed (sym n.cell) f)) ∙ ap cell_of a ∙ m.cell)
