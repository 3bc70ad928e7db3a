-- A compound of the head is put to the heap, and a free variable is bound to the copy.
use Rattle.std.proofs.Common.{◌≡◌, ℕ, ◌+◌, ◌-◌, ◌<◌, ◌≤◌, ◌++◌, List, Bool, drop, take, length, None, ap, sym, ◌∙◌, subst, inl, inr, arith}
use Rattle.pp_algebra.specs.Covers.{IsIn}
use Rattle.pp_algebra.specs.Numbered.{counted_from}
use Rattle.pp_algebra.specs.Terms.{Tree, variable, variables, put}
use Rattle.pp_row.specs.declared.cell.Cell.{Cell}
use Rattle.pp_row.specs.Cells.{variables_among}
use Rattle.pp_row.specs.Reading.{IsForest}
use Rattle.pp_row.proofs.Renaming.{among-cells_of}
use Rattle.pp_heap.specs.declared.state.Slot.{Slot}
use Rattle.pp_heap.specs.declared.state.Slot.TheVariants as slots
use Rattle.pp_heap.specs.declared.state.State.{State}
use Rattle.pp_heap.specs.declared.state.Value.TheVariants.{Int, Atom}
use Rattle.pp_heap.specs.Values.{slot_at, term_at, shifted}
use Rattle.pp_heap.specs.Stores.{store_of, solution}
use Rattle.pp_heap.specs.Soundness.{IsGood}
use Rattle.pp_heap.specs.Outcomes.{IsUnbound, IsGrown, IsLater, IsAnswer}
use Rattle.pp_heap.proofs.Changes.{below_or, at_past}
use Rattle.pp_heap.proofs.Slots.{agrees_bound}
use Rattle.pp_heap.proofs.Solutions.{own_domains, solution_agrees, solution_free}
use Rattle.pp_unify.specs.Heads.{IsPiece, IsGround, AreGround, HasStepped}
use Rattle.pp_unify.specs.Joining.{IsOnward, AreBelow, IsRaised}
use Rattle.pp_unify.proofs.Among.{comes_from}
use Rattle.pp_unify.proofs.Equations.{alike_grown}
use Rattle.pp_unify.proofs.Grown.{last_term}
use Rattle.pp_unify.proofs.Heaps.{cell_among}
use Rattle.pp_unify.proofs.HeadSteps.{cut_cells, cut_shifted, cut_below, answer_verdict}
use Rattle.pp_unify.proofs.Stepping.{copied_stepped}

-- a variable that is bound to an integer or an atom has no variable in it
ground_none : (g : State) (y x : ℕ) (k : Slot) → IsGood g → slot_at g.slots.items y ≡ k → IsGround k → IsIn x (variables (solution g y)) → ⊥
ground_none g y x (slots.Free d) h e q i = q
ground_none g y x (slots.Alias w) h e q i = q
ground_none g y x (slots.Int n) h e q i = subst (λ t. IsIn x (variables t)) (agrees_bound (store_of g) (own_domains (store_of g)) (solution g) y (Int n) (solution_agrees g h) e) i
ground_none g y x (slots.Atom n) h e q i = subst (λ t. IsIn x (variables t)) (agrees_bound (store_of g) (own_domains (store_of g)) (solution g) y (Atom n) (solution_agrees g h) e) i
ground_none g y x (slots.Compound p) h e q i = q

module _ (a m g : State) (k x p n : ℕ) (head : List Cell) (at end : ℕ) (f : IsForest head) (l : at < length head) (c : IsPiece head at end) (o : IsOnward a m) (r : IsRaised a m k) (w : IsGrown m g) (h : g.heap.items ≡ m.heap.items ++ shifted n (take (end - at) (drop at head))) (e : p ≡ length m.heap.items) where
  abbrev copied : List Cell
  copied = take (end - at) (drop at head)

  abbrev term : Tree ℕ
  term = counted_from n (term_at head at)

  copy_same : term_at g.heap.items p ≡ term
  copy_same = ap (λ ds. term_at ds p) h ∙ last_term m.heap.items (shifted n copied) term p (cut_shifted head at end n f l c) e

  kept_slot : (y : ℕ) → slot_at g.slots.items y ≡ slot_at a.slots.items y
  kept_slot y = ap (λ ss. slot_at ss y) w.slots ∙ r.slots y

  -- a variable of the copy
  one_apart : IsUnbound (store_of a) x → (y : ℕ) → (y < length a.slots.items → IsGround (slot_at a.slots.items y)) → IsIn x (variables (solution g y)) → ⊥
  one_apart b y d i = elim (below_or y (length a.slots.items)) [
    | inl q ↦ ground_none g y x (slot_at a.slots.items y) w.good (kept_slot y) (d q) i
    | inr q ↦ other q (subst (λ t. IsIn x (variables t)) (solution_free g y None w.good (kept_slot y ∙ at_past a.slots.items y q)) i)
  ]
    where
      other : length a.slots.items ≤ y → IsIn x (variables (variable y)) → ⊥
      other q (inl z) = absurd (omega (arith, q, z, b.1.within))
      other q (inr z) = z

  pub copy_apart : IsUnbound (store_of a) x → AreGround a.slots.items n copied → IsIn x (variables (put (solution g) (term_at g.heap.items p))) → ⊥
  copy_apart b d i =
      let s = comes_from (solution g) term x (subst (λ t. IsIn x (variables (put (solution g) t))) copy_same i) in
      let t = comes_from (λ v. variable (n + v)) (term_at head at) s.0 s.1 in
      let q = cell_among copied t.0 (subst (IsIn t.0) (sym (ap variables_among (cut_cells head at end n f l c) ∙ among-cells_of (term_at head at))) t.1) in
      named s.0 t.0 (d q.0 t.0 q.1) t.2 s.2
    where
      named : (y v : ℕ) → (n + v < length a.slots.items → IsGround (slot_at a.slots.items (n + v))) → IsIn y (variables (variable (n + v))) → IsIn x (variables (solution g y)) → ⊥
      named y v d (inl z) i = one_apart b (n + v) d (subst (λ u. IsIn x (variables (solution g u))) (sym z) i)
      named y v d (inr z) i = z

  pub copy_stepped : ((j : ℕ) → AreBelow j n copied → k ≤ j) → (d : State) → IsLater g d → (b : Bool) → IsAnswer g d (variable x) (term_at g.heap.items p) b → HasStepped a d (variable x) n head at b
  copy_stepped least d t b v =
      copied_stepped a m g d k x p n head at r w t (λ j q. least j (cut_below head at end n f l c j q)) copy_same (alike_grown m g o.good w) b (answer_verdict g d (variable x) (term_at g.heap.items p) b v)
