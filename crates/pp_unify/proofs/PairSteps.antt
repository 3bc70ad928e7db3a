-- A pair is taken from the work, and what becomes of it.
use Rattle.std.proofs.Common.{◌≡◌, ℕ, ◌+◌, ◌*◌, ◌<◌, ◌≤◌, List, [], ◌∷◌, ◌++◌, length, refl, ap, sym, ◌∙◌, subst, arith, inl, inr}
use Rattle.std.specs.Prelude.{◌↔◌}
use Rattle.pp_row.specs.declared.cell.Cell.{Cell}
use Rattle.pp_row.specs.Reading.{IsForest, from}
use Rattle.pp_row.proofs.Next.{cell_of}
use Rattle.pp_algebra.specs.Terms.{Tree, int, node, variable, Trees, none, more, put, put_all, size}
use Rattle.pp_algebra.specs.Rows.{Domains}
use Rattle.pp_algebra.specs.Least.{rest, arguments}
use Rattle.pp_heap.specs.declared.spans.Span.{Span}
use Rattle.pp_unify.specs.declared.pair.Pair.{Pair}
use Rattle.pp_heap.specs.declared.state.State.{State}
use Rattle.pp_heap.specs.Values.{cell_at, term_at}
use Rattle.pp_heap.specs.Stores.{Store, store_of, solution}
use Rattle.pp_heap.specs.Agreement.{Agrees}
use Rattle.pp_heap.specs.Soundness.{IsCompound, IsGood}
use Rattle.pp_heap.specs.Outcomes.{IsSame, Solves, frees}
use Rattle.pp_unify.specs.Equating.{IsOpen}
use Rattle.pp_heap.specs.Spans.{span_terms, IsSpan, sizes, weight}
use Rattle.pp_unify.specs.Pairs.{left_span, right_span, IsPair, AllEqual, both_sizes, Pushes}
use Rattle.pp_heap.proofs.Forests.{term_cell}
use Rattle.pp_heap.proofs.Keeping.{solution_same}
use Rattle.pp_heap.proofs.Solutions.{own_domains, solution_agrees}
use Rattle.pp_heap.proofs.Walk.{take_first, opened_at, one}
use Rattle.pp_heap.proofs.Sizes.{weight-less, weight-fall}
use Rattle.pp_heap.proofs.Merging.{sizes_same}
use Rattle.pp_unify.proofs.Pairs.{equal_push, sizes_push}

pub head_of_span : (heap : List Cell) (s : Span) → IsSpan heap s → span_terms heap s ≡ more (term_at heap s.at) (rest (span_terms heap s))
head_of_span heap s h = take_first s.count (from heap s.at) h.some h.enough

pub more_equal : (a b : Tree ℕ) (ts us : Trees ℕ) → (more a ts ≡ more b us) ↔ ((ts ≡ us) × (a ≡ b))
more_equal a b ts us = ((λ h. (cc, cc)), λ h. cc)

-- the pair that was taken, as its first terms and the rest
pub popped_equal : (heap : List Cell) (s : ℕ → Tree ℕ) (ws ps qs : List Pair) (p : Pair) → ws ≡ ps ++ p ∷ [] → IsPair heap p → Pushes heap ps qs (rest (span_terms heap (left_span p))) (rest (span_terms heap (right_span p))) → AllEqual heap s ws ↔ (AllEqual heap s qs × (put s (term_at heap p.left) ≡ put s (term_at heap p.right)))
popped_equal heap s ws ps qs p e h k =
    let l = head_of_span heap (left_span p) h.left in
    let r = head_of_span heap (right_span p) h.right in
    let m = more_equal (put s (term_at heap p.left)) (put s (term_at heap p.right)) (put_all s (rest (span_terms heap (left_span p)))) (put_all s (rest (span_terms heap (right_span p)))) in
    let a = equal_push heap s ps p in
    let b = k.equal s in
    rw e (
      (λ q. let x = a.0 q in let y = m.0 (sym (ap (put_all s) l) ∙ x.1 ∙ ap (put_all s) r) in (b.1 (x.0, y.0), y.1)),
      λ q. let x = b.0 q.0 in a.1 (x.0, ap (put_all s) l ∙ m.1 (x.1, q.1) ∙ sym (ap (put_all s) r)),
    )

pub popped_sizes : (heap : List Cell) (s : ℕ → Tree ℕ) (ws ps qs : List Pair) (p : Pair) → ws ≡ ps ++ p ∷ [] → IsPair heap p → Pushes heap ps qs (rest (span_terms heap (left_span p))) (rest (span_terms heap (right_span p))) → both_sizes heap s ws ≡ both_sizes heap s qs + (size (put s (term_at heap p.left)) + size (put s (term_at heap p.right)))
popped_sizes heap s ws ps qs p e h k =
    let l = ap (sizes s) (head_of_span heap (left_span p) h.left) in
    let r = ap (sizes s) (head_of_span heap (right_span p) h.right) in
    let a = sizes_push heap s ps p in
    let b = k.sizes s in
    rw e (omega (arith, a, b, l, r))

both_same : (heap : List Cell) (s r : ℕ → Tree ℕ) (ps : List Pair) → ((v : ℕ) → s v ≡ r v) → both_sizes heap s ps ≡ both_sizes heap r ps
both_same heap s r [] h = refl
both_same heap s r (p ∷ ps) h =
    let a = sizes_same s r (span_terms heap (left_span p)) h in
    let b = sizes_same s r (span_terms heap (right_span p)) h in
    let g = both_same heap s r ps h in
    omega arith

both_shrink : (heap : List Cell) (s s' : ℕ → Tree ℕ) (k : ℕ) (ps : List Pair) → ((ts : Trees ℕ) → sizes s' ts ≤ sizes s ts * k) → both_sizes heap s' ps ≤ both_sizes heap s ps * k
both_shrink heap s s' k [] h = omega arith
both_shrink heap s s' k (p ∷ ps) h =
    let a = h (span_terms heap (left_span p)) in
    let b = h (span_terms heap (right_span p)) in
    let g = both_shrink heap s s' k ps h in
    sums (sizes s' (span_terms heap (left_span p))) (sizes s' (span_terms heap (right_span p))) (both_sizes heap s' ps) (sizes s (span_terms heap (left_span p))) (sizes s (span_terms heap (right_span p))) (both_sizes heap s ps) k a b g
  where
    sums : (a' b' c' a b c k : ℕ) → a' ≤ a * k → b' ≤ b * k → c' ≤ c * k → (a' + b') + c' ≤ ((a + b) + c) * k
    sums a' b' c' a b c k x y z = omega arith

product : (a b : ℕ) → a * b ≤ (a + b) * (a + b)
product a b = omega arith

solved_less : (a b : State) (heap : List Cell) (ws qs : List Pair) (t u : Tree ℕ) → Solves a b t u → both_sizes heap (solution a) ws ≡ both_sizes heap (solution a) qs + (size (put (solution a) t) + size (put (solution a) u)) → weight (frees b.slots.items) (both_sizes heap (solution b) qs) < weight (frees a.slots.items) (both_sizes heap (solution a) ws)
solved_less a b heap ws qs t u h e = elim h.falls [
  | inl i ↦ rw (i.frees, both_same heap (solution b) (solution a) qs i.same) (let o = one (put (solution a) t) in weight-less (frees a.slots.items) _ _ (omega arith))
  | inr i ↦ (
      let m = both_shrink heap (solution a) (solution b) (size (put (solution a) t) + size (put (solution a) u)) qs i.sizes in
      let k = product (both_sizes heap (solution a) qs) (size (put (solution a) t) + size (put (solution a) u)) in
      rw e (weight-fall (frees b.slots.items) (frees a.slots.items) _ _ i.frees (omega arith)))
]

-- the measure after an equation
pub done_less : (a b : State) (ws qs : List Pair) (t u : Tree ℕ) → b.heap.items ≡ a.heap.items → Solves a b t u → both_sizes a.heap.items (solution a) ws ≡ both_sizes a.heap.items (solution a) qs + (size (put (solution a) t) + size (put (solution a) u)) → weight (frees b.slots.items) (both_sizes b.heap.items (solution b) qs) < weight (frees a.slots.items) (both_sizes a.heap.items (solution a) ws)
done_less a b ws qs t u g h e = subst (λ heap. weight (frees b.slots.items) (both_sizes heap (solution b) qs) < weight (frees a.slots.items) (both_sizes a.heap.items (solution a) ws)) (sym g) (solved_less a b a.heap.items ws qs t u h e)

pub opened_less : (heap : List Cell) (k : ℕ) (s : ℕ → Tree ℕ) (ws qs ks : List Pair) (t u : Tree ℕ) (p q : ℕ) → IsForest heap → p < length heap → q < length heap → IsCompound (cell_at heap p) → IsCompound (cell_at heap q) → put s t ≡ put s (term_at heap p) → put s u ≡ put s (term_at heap q) → Pushes heap qs ks (arguments (term_at heap p)) (arguments (term_at heap q)) → both_sizes heap s ws ≡ both_sizes heap s qs + (size (put s t) + size (put s u)) → weight k (both_sizes heap s ks) < weight k (both_sizes heap s ws)
opened_less heap k s ws qs ks t u p q f l m h g a b w e =
    let x = opened_at s heap p f l h in
    let y = opened_at s heap q f m g in
    let z = w.sizes s in
    let i = ap size a in
    let j = ap size b in
    weight-less k _ _ (omega (arith, x.size, y.size))

pub named : (f g : ℕ) (ts us : Trees ℕ) → cell_of (node f ts) ≡ cell_of (node g us) → f ≡ g
named f g none none e = cc
named f g none (more u us) e = absurd (cc)
named f g (more t ts) none e = absurd (cc)
named f g (more t ts) (more u us) e = cc

-- two compounds of one name are equal where their arguments are
pub arguments_equal : (s : ℕ → Tree ℕ) (t u : Tree ℕ) → IsCompound (cell_of t) → IsCompound (cell_of u) → cell_of t ≡ cell_of u → (put s t ≡ put s u) ↔ (put_all s (arguments t) ≡ put_all s (arguments u))
arguments_equal s (int n) u h k e = absurd h
arguments_equal s (variable v) u h k e = absurd h
arguments_equal s (node f ts) (int m) h k e = absurd k
arguments_equal s (node f ts) (variable v) h k e = absurd k
arguments_equal s (node f ts) (node g us) h k e = let n = named f g ts us e in ((λ q. cc), λ q. rw (n, q) refl)

pub opened_equal : (heap : List Cell) (s : ℕ → Tree ℕ) (qs ks : List Pair) (t u : Tree ℕ) (p q : ℕ) → IsForest heap → p < length heap → q < length heap → IsCompound (cell_at heap p) → cell_at heap p ≡ cell_at heap q → put s t ≡ put s (term_at heap p) → put s u ≡ put s (term_at heap q) → Pushes heap qs ks (arguments (term_at heap p)) (arguments (term_at heap q)) → AllEqual heap s ks ↔ (AllEqual heap s qs × (put s t ≡ put s u))
opened_equal heap s qs ks t u p q f l m h c a b w =
    let x = term_cell heap p f l in
    let y = term_cell heap q f m in
    let g = arguments_equal s (term_at heap p) (term_at heap q) (subst IsCompound (sym x) h) (subst IsCompound (sym y) (subst IsCompound c h)) (x ∙ c ∙ sym y) in
    let k = w.equal s in
    ((λ i. let j = k.0 i in (j.0, a ∙ g.1 j.1 ∙ sym b)), λ i. k.1 (i.0, g.0 (sym a ∙ i.1 ∙ b)))

-- the arguments of two compounds are put off
module _ (a b : State) (ws qs ks : List Pair) (t u : Tree ℕ) (p q : ℕ) (g : IsGood a) (same : IsSame a b) (o : IsOpen (store_of a) t u p q) (w : Pushes b.heap.items qs ks (arguments (term_at b.heap.items p)) (arguments (term_at b.heap.items q))) where
  heap_same : b.heap.items ≡ a.heap.items
  heap_same = ap (λ (z : Store). z.heap) same.store

  pushes : Pushes a.heap.items qs ks (arguments (term_at a.heap.items p)) (arguments (term_at a.heap.items q))
  pushes = subst (λ heap. Pushes heap qs ks (arguments (term_at heap p)) (arguments (term_at heap q))) heap_same w

  pub open_less : both_sizes a.heap.items (solution a) ws ≡ both_sizes a.heap.items (solution a) qs + (size (put (solution a) t) + size (put (solution a) u)) → weight (frees b.slots.items) (both_sizes b.heap.items (solution b) ks) < weight (frees a.slots.items) (both_sizes a.heap.items (solution a) ws)
  open_less e =
      let own = own_domains (store_of a) in
      let i = solution_agrees a g in
      let l = opened_less a.heap.items (frees a.slots.items) (solution a) ws qs ks t u p q g.linked.forest o.left_within o.right_within o.compound (subst IsCompound o.same o.compound) (o.left_is own (solution a) i) (o.right_is own (solution a) i) pushes e in
      let f : frees b.slots.items ≡ frees a.slots.items = ap (λ (z : Store). frees z.slots) same.store in
      let k : both_sizes b.heap.items (solution b) ks ≡ both_sizes a.heap.items (solution a) ks = ap (λ heap. both_sizes heap (solution b) ks) heap_same ∙ both_same a.heap.items (solution b) (solution a) ks (solution_same a b same) in
      rw (f, k) l

  pub open_equal : (ds : Domains ℕ) (s : ℕ → Tree ℕ) → (Agrees (store_of b) ds s × AllEqual b.heap.items s ks) ↔ (Agrees (store_of a) ds s × (AllEqual a.heap.items s qs × (put s t ≡ put s u)))
  open_equal ds s = (
    (λ h. let r = subst (λ (z : Store). Agrees z ds s) same.store h.0 in (r, (opens r).0 (subst (λ heap. AllEqual heap s ks) heap_same h.1))),
    λ h. (subst (λ (z : Store). Agrees z ds s) (sym same.store) h.0, subst (λ heap. AllEqual heap s ks) (sym heap_same) ((opens h.0).1 h.1)),
  )
    where
      opens : Agrees (store_of a) ds s → AllEqual a.heap.items s ks ↔ (AllEqual a.heap.items s qs × (put s t ≡ put s u))
      opens r = opened_equal a.heap.items s qs ks t u p q g.linked.forest o.left_within o.right_within o.compound o.same (o.left_is ds s r) (o.right_is ds s r) pushes
