-- A term that becomes a term of the head: a variable that was met before or is new, an integer, an atom, or the copy of a compound.
use Rattle.std.proofs.Common.{◌≡◌, ℕ, ◌+◌, ◌<◌, ◌≤◌, List, ◌∷◌, [], ◌++◌, length, All, Bool, true, false, refl, ap, sym, ◌∙◌, subst, arith, length-append}
use Rattle.pp_algebra.specs.Terms.{Tree, variable, put, more}
use Rattle.pp_algebra.specs.Solve.{equation}
use Rattle.pp_algebra.specs.Numbered.{counted_from}
use Rattle.pp_row.specs.declared.cell.Cell.{Cell}
use Rattle.pp_row.specs.declared.cell.Cell.TheVariants as cells
use Rattle.pp_row.specs.Reading.{IsForest}
use Rattle.pp_heap.specs.declared.state.State.{State}
use Rattle.pp_heap.specs.declared.state.Value.{Value}
use Rattle.pp_heap.specs.declared.state.Value.TheVariants.{Variable, Int, Atom, Compound}
use Rattle.pp_heap.specs.Values.{cell_at, slot_of, term_at, value_term}
use Rattle.pp_heap.specs.Stores.{store_of}
use Rattle.pp_heap.specs.Agreement.{Follows, Excludes}
use Rattle.pp_heap.specs.Soundness.{IsGood, IsCompound}
use Rattle.pp_heap.specs.Spans.{IsSpan, terms_of}
use Rattle.pp_heap.specs.declared.spans.Span.{Span}
use Rattle.pp_heap.specs.Outcomes.{IsNow, IsUnbound, IsLater, IsGrown, IsAddedAs, IsVerdict}
use Rattle.pp_heap.proofs.Forests.{variable_at}
use Rattle.pp_unify.specs.Heads.{IsNext, MeetsVariable, HasMetVariable, HasStepped, IsTurned}
use Rattle.pp_unify.specs.Joining.{AreBelow, IsRaised}
use Rattle.pp_unify.proofs.Equations.{AgreeAlike, AreEqual, alike_itself, verdict_same}
use Rattle.pp_unify.proofs.HeadSteps.{same_heap, leaf_next, gone_turned}
use Rattle.pp_unify.proofs.Widths.{wider_same}

-- a variable that has a slot
pub known_met : (a b : State) (t u : Tree ℕ) (x : ℕ) (r : Bool) → IsLater a b → AreEqual a (variable x) u → IsVerdict a b (equation t u) r → HasMetVariable a b t x r
known_met a b t u x true l e v = record {
  more = omega (arith, l.variables);
  bounded = λ n h k. omega (arith, l.variables, h);
  heap = l.heap;
  follows = verdict_same a a b t (variable x) t u true (alike_itself a) (λ ds s w. refl) e v;
}
known_met a b t u x false l e v = verdict_same a a b t (variable x) t u false (alike_itself a) (λ ds s w. refl) e v

-- what a value is stays when free variables are added
pub now_raised : (a b : State) (n : ℕ) (c : Value) → IsRaised a b n → IsNow (store_of a) c → IsNow (store_of b) c
now_raised a b n (Variable x) r k = (k.0, record { within = omega (arith, k.1.within, r.more); free = r.slots x ∙ k.1.free })
now_raised a b n (Int z) r k = k
now_raised a b n (Atom z) r k = k
now_raised a b n (Compound p) r k = (subst (λ cs. p < length cs) (sym r.heap) k.0, subst (λ cs. IsCompound (cell_at cs p)) (sym r.heap) k.1)

pub unbound_raised : (a b : State) (n x : ℕ) → IsRaised a b n → IsUnbound (store_of a) x → IsUnbound (store_of b) x
unbound_raised a b n x r k = now_raised a b n (Variable x) r k

-- a variable without a slot
pub new_met : (a m b : State) (c : Value) (x v : ℕ) → length a.slots.items ≤ x → IsRaised a m x → v ≡ length m.slots.items → IsAddedAs m b c → b.heap.items ≡ m.heap.items → Follows m b (equation (variable v) (value_term m.heap.items c)) → MeetsVariable a b (value_term a.heap.items c) x
new_met a m b c x v l r e d h f =
    let top = r.bounded x l (omega arith) in
    let at : length m.slots.items ≡ x = omega (arith, top, r.reached) in
    let long : length b.slots.items ≡ length m.slots.items + 1 = ap length d.slots ∙ length-append m.slots.items (slot_of c ∷ []) in
    record {
      more = omega (arith, r.more, long);
      bounded = λ n p q. omega (arith, long, at, q);
      heap = h ∙ r.heap;
      follows = λ ds s w.
          let k = f ds s w in
          let i = r.alike ds s in
          let same : put s (value_term m.heap.items c) ≡ put s (value_term a.heap.items c) = ap (λ cs. put s (value_term cs c)) r.heap in
          let name : s v ≡ s x = ap s (e ∙ at) in (
            (λ q. let p = k.0 q in (i.1 p.0, sym same ∙ sym p.1 ∙ name)),
            λ q. k.1 (i.0 q.0, name ∙ sym q.1 ∙ sym same),
          );
    }

-- an integer or an atom
pub fixed_stepped : (a b : State) (t u : Tree ℕ) (n : ℕ) (head : List Cell) (at : ℕ) (r : Bool) → IsLater a b → counted_from n (term_at head at) ≡ u → IsVerdict a b (equation t u) r → HasStepped a b t n head at r
fixed_stepped a b t u n head at true l e v = record {
  wider = wider_same a b n head l.variables;
  heap = same_heap a.heap.items b.heap.items l.heap;
  follows = subst (λ x. Follows a b (equation t x)) (sym e) v;
}
fixed_stepped a b t u n head at false l e v = subst (λ x. Excludes a (equation t x)) (sym e) v

-- a variable of the head
pub variable_stepped : (a b : State) (t : Tree ℕ) (n : ℕ) (head : List Cell) (at x : ℕ) (r : Bool) → IsForest head → at < length head → cell_at head at ≡ cells.Var x → HasMetVariable a b t (n + x) r → HasStepped a b t n head at r
variable_stepped a b t n head at x true f l e m = record {
  wider = record { more = m.more; bounded = λ k h b. m.bounded k h (b at x e) };
  heap = same_heap a.heap.items b.heap.items m.heap;
  follows = subst (λ y. Follows a b (equation t (counted_from n y))) (sym (variable_at head at x f l e)) m.follows;
}
variable_stepped a b t n head at x false f l e m = subst (λ y. Excludes a (equation t (counted_from n y))) (sym (variable_at head at x f l e)) m

-- the copy of a compound
module _ (a m g b : State) (k x p n : ℕ) (head : List Cell) (at : ℕ) (r : IsRaised a m k) (w : IsGrown m g) (l : IsLater g b) (least : (j : ℕ) → AreBelow j n head → k ≤ j) (same : term_at g.heap.items p ≡ counted_from n (term_at head at)) (alike : AgreeAlike m g) where
  copy_alike : AgreeAlike a g
  copy_alike ds s = let i = r.alike ds s in let j = alike ds s in ((λ h. j.0 (i.0 h)), λ h. i.1 (j.1 h))

  pub copied_stepped : (o : Bool) → IsVerdict g b (equation (variable x) (term_at g.heap.items p)) o → HasStepped a b (variable x) n head at o
  copied_stepped true v = record {
    wider = record {
      more = omega (arith, r.more, ap length w.slots, l.variables);
      bounded = λ j h q. let y = least j q in let z = r.bounded j h y in omega (arith, z, ap length w.slots, l.variables);
    };
    heap = (w.heap.0, w.heap.1, l.heap ∙ w.heap.2 ∙ ap (λ cs. cs ++ w.heap.0) r.heap);
    follows = verdict_same a g b (variable x) (counted_from n (term_at head at)) (variable x) (term_at g.heap.items p) true copy_alike (λ ds s h. refl) (λ ds s h. ap (put s) (sym same)) v;
  }
  copied_stepped false v = verdict_same a g b (variable x) (counted_from n (term_at head at)) (variable x) (term_at g.heap.items p) false copy_alike (λ ds s h. refl) (λ ds s h. ap (put s) (sym same)) v

-- the head's next variable, which has no slot, is a value now
pub next_turned : (i j b : State) (us : List Span) (c : Value) (m : ℕ) (head : List Cell) (to x : ℕ) → IsGood j → IsForest head → to < length head → All (IsSpan j.heap.items) us → IsNext i m head to x → MeetsVariable j b (value_term j.heap.items c) x → IsTurned j b (more (value_term j.heap.items c) (terms_of j.heap.items us)) us m head to (to + 1)
next_turned i j b us c m head to x g f l a h k =
    let t = value_term j.heap.items c in
    let e = leaf_next head to f l (λ q. subst IsCompound h.cell q) in
    gone_turned j b us t m head to (to + 1) g f l a e (omega arith) (variable_stepped j b t m head to h.variable true f l h.cell (subst (λ y. MeetsVariable j b t y) h.number k))

-- as many variables as there are
pub raised_itself : (a : State) (n : ℕ) → n ≤ length a.slots.items → IsRaised a a n
raised_itself a n l = record {
  more = omega arith;
  reached = l;
  bounded = λ m h k. h;
  heap = refl;
  slots = λ v. refl;
  alike = λ ds s. ((λ h. h), λ h. h);
}
