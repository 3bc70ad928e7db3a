-- The occurs check goes over the cells of terms.
use Rattle.std.proofs.Common.{◌≡◌, ℕ, ◌+◌, ◌-◌, ◌<◌, ◌≤◌, Bool, true, false, List, ◌++◌, length, refl, ap, sym, ◌∙◌, subst, arith, inl, inr}
use Rattle.std.specs.Prelude.{◌↔◌}
use Rattle.pp_row.specs.declared.cell.Cell.{Cell}
use Rattle.pp_row.specs.declared.cell.Cell.TheVariants.{Var}
use Rattle.pp_row.specs.Cells.{arity_of}
use Rattle.pp_row.specs.Reading.{from}
use Rattle.pp_row.proofs.Next.{cell_of}
use Rattle.pp_algebra.specs.Terms.{Tree, int, node, variable, Trees, more, put, variables, join, size}
use Rattle.pp_algebra.specs.Covers.{IsIn}
use Rattle.pp_algebra.specs.Least.{arguments, rest}
use Rattle.pp_algebra.proofs.Antisym.{IsIn-either}
use Rattle.pp_algebra.proofs.Joined.{join-join}
use Rattle.pp_algebra.proofs.Order.{IsIn-left, IsIn-right}
use Rattle.pp_heap.specs.declared.spans.Span.{Span}
use Rattle.pp_heap.specs.declared.state.State.{State}
use Rattle.pp_heap.specs.declared.state.Value as Values
use Rattle.pp_heap.specs.declared.state.Value.TheVariants as Value
use Rattle.pp_heap.specs.Values.{cell_at, term_at, value_term}
use Rattle.pp_heap.specs.Stores.{store_of, solution}
use Rattle.pp_heap.specs.Soundness.{IsCompound, IsGood}
use Rattle.pp_heap.specs.Outcomes.{IsNow, IsValue}
use Rattle.pp_heap.specs.Spans.{take_trees, span_terms, terms_of, IsSpan, sizes}
use Rattle.pp_heap.specs.Sights.{seen_in, IsLeft, HasSeen}
use Rattle.pp_heap.proofs.Forests.{term_cell, variable_at}
use Rattle.pp_heap.proofs.Solutions.{own_domains, solution_agrees, solution_free}
use Rattle.pp_heap.proofs.Walk.{vars, vars-join, sizes-join, take_first, IsOpened, opened_at, walked_free, walked_ground, walked_term, sizes_less, sizes_term, no_variables}
use Rattle.pp_heap.proofs.Work.{IsPart, part_span, inside_part, inside_terms}

same_in : (x : ℕ) (vs ws : List ℕ) → vs ≡ ws → IsIn x ws ↔ IsIn x vs
same_in x vs ws e = ((λ i. subst (IsIn x) (sym e) i), λ i. subst (IsIn x) e i)

swapped : (x : ℕ) (us vs ws : List ℕ) → IsIn x (us ++ (vs ++ ws)) → IsIn x (vs ++ (us ++ ws))
swapped x us vs ws i = elim (IsIn-either x us (vs ++ ws) i) [
  | inl j ↦ IsIn-right x vs (us ++ ws) (IsIn-left x us ws j)
  | inr j ↦ elim (IsIn-either x vs ws j) [
    | inl k ↦ IsIn-left x vs (us ++ ws) k
    | inr k ↦ IsIn-right x vs (us ++ ws) (IsIn-right x us ws k)
  ]
]

-- a term that is no variable
plain : (s : ℕ → Tree ℕ) (u : Tree ℕ) → ((v : ℕ) → cell_of u ≡ Var v → ⊥) → IsOpened s u
plain s (int n) h = record { variables = refl; size = refl }
plain s (node f ts) h = record { variables = refl; size = refl }
plain s (variable v) h = absurd (h v refl)

module _ (t : State) (x : ℕ) (g : IsGood t) where
  pub seen_plain : (p : ℕ) (ws : List Span) → p < length t.heap.items → ((v : ℕ) → cell_at t.heap.items p ≡ Var v → ⊥) → HasSeen t x (term_at t.heap.items p) ws ws false
  seen_plain p ws l h = λ ts.
      let s = solution t in
      let u = term_at t.heap.items p in
      let r = join ts (terms_of t.heap.items ws) in
      let o = plain s u (λ v e. h v (sym (term_cell t.heap.items p g.linked.forest l) ∙ e)) in
      record {
        same = same_in x (vars s (more u r)) (vars s (join (arguments u) r)) (walked_term s r u u refl o);
        less = sizes_term s r u u refl o;
      }

  pub seen_variable : (p v : ℕ) (ws new : List Span) (b : Bool) → p < length t.heap.items → cell_at t.heap.items p ≡ Var v → HasSeen t x (variable v) ws new b → HasSeen t x (term_at t.heap.items p) ws new b
  seen_variable p v ws new b l e h = subst (λ u. HasSeen t x u ws new b) (sym (variable_at t.heap.items p v g.linked.forest l e)) h

  -- a variable, by its value
  module _ (v : ℕ) (c : Values.Value) (k : IsValue (store_of t) (variable v) c) where
    now : put (solution t) (variable v) ≡ put (solution t) (value_term t.heap.items c)
    now = k.same (own_domains (store_of t)) (solution t) (solution_agrees t g)

    free : (w : ℕ) → c ≡ Value.Variable w → put (solution t) (variable v) ≡ variable w
    free w q =
        let n = subst (IsNow (store_of t)) q k.now in
        now ∙ ap (λ z. put (solution t) (value_term t.heap.items z)) q ∙ solution_free t w n.0 g n.1.free

    pub seen_free : (ws : List Span) (w : ℕ) (b : Bool) → c ≡ Value.Variable w → ((b ≡ true) ↔ (w ≡ x)) → HasSeen t x (variable v) ws ws b
    seen_free ws w true q h = subst (λ z. IsIn x (variables z)) (sym (free w q)) (inl (h.0 refl))
    seen_free ws w false q h = λ ts.
        let s = solution t in
        let r = join ts (terms_of t.heap.items ws) in
        record { same = walked_free s r (variable v) x w (free w q) (λ e. let f : false ≡ true = h.1 e in absurd (cc)); less = sizes_less s r (variable v) }

    pub seen_ground : (ws : List Span) → ((w : ℕ) → c ≡ Value.Variable w → ⊥) → ((q : ℕ) → c ≡ Value.Compound q → ⊥) → HasSeen t x (variable v) ws ws false
    seen_ground ws h i = λ ts.
        let s = solution t in
        let r = join ts (terms_of t.heap.items ws) in
        let w : vars s (more (variable v) r) ≡ vars s r = walked_ground s r (variable v) (value_term t.heap.items c) now (no_variables s t.heap.items c h i) in
        record { same = same_in x (vars s (more (variable v) r)) (vars s r) w; less = sizes_less s r (variable v) }

    pub seen_compound : (ws new : List Span) (q : ℕ) → c ≡ Value.Compound q → q < length t.heap.items → IsCompound (cell_at t.heap.items q)
        → terms_of t.heap.items new ≡ join (arguments (term_at t.heap.items q)) (terms_of t.heap.items ws) → HasSeen t x (variable v) ws new false
    seen_compound ws new q i m k n = λ ts.
        let s = solution t in
        let u = variable v in
        let d = term_at t.heap.items q in
        let old = terms_of t.heap.items ws in
        let r = join ts old in
        let o = opened_at s t.heap.items q g.linked.forest m k in
        let y : put s u ≡ put s d = now ∙ ap (λ z. put s (value_term t.heap.items z)) i in
        let b : vars s (more u r) ≡ vars s (arguments d) ++ (vars s ts ++ vars s old) = walked_term s r u d y o ∙ vars-join s (arguments d) r ∙ ap (λ z. vars s (arguments d) ++ z) (vars-join s ts old) in
        let f : vars s (join ts (join (arguments d) old)) ≡ vars s ts ++ (vars s (arguments d) ++ vars s old) = vars-join s ts (join (arguments d) old) ∙ ap (λ z. vars s ts ++ z) (vars-join s (arguments d) old) in
        rw n (record {
          same = (
            (λ j. subst (IsIn x) (sym b) (swapped x (vars s ts) (vars s (arguments d)) (vars s old) (subst (IsIn x) f j))),
            λ j. subst (IsIn x) (sym f) (swapped x (vars s (arguments d)) (vars s ts) (vars s old) (subst (IsIn x) b j)),
          );
          less = omega (arith, sizes-join s ts (join (arguments d) old), sizes-join s (arguments d) old, sizes-join s ts old, ap size y, o.size);
        })

-- what is left of a span's terms and the work, after the cells from `first` on
pub record IsSofar (t : State) (x first : ℕ) (s : Span) (ws : List Span) (all : Trees ℕ) : Type 0 where
  pub part : IsPart t.heap.items s
  pub moved : first ≤ s.at
  pub some : 1 ≤ s.count + (s.at - first)
  pub same : IsIn x (seen_in t (join (span_terms t.heap.items s) (terms_of t.heap.items ws))) ↔ IsIn x (seen_in t all)
  pub less : sizes (solution t) (join (span_terms t.heap.items s) (terms_of t.heap.items ws)) + (s.at - first) ≤ sizes (solution t) all

pub sofar_some : (t : State) (x first : ℕ) (s : Span) (ws : List Span) (all : Trees ℕ) → IsGood t → IsSofar t x first s ws all → 1 ≤ s.count → IsSpan t.heap.items s
sofar_some t x first s ws all g h l = part_span t.heap.items s g.linked.forest h.part l

pub sofar_begun : (t : State) (x : ℕ) (s : Span) (ws : List Span) → IsSpan t.heap.items s → IsSofar t x s.at s ws (join (span_terms t.heap.items s) (terms_of t.heap.items ws))
sofar_begun t x s ws h = record {
  part = record { within = omega (arith, h.within); enough = h.enough };
  moved = omega arith;
  some = omega (arith, h.some);
  same = ((λ i. i), λ i. i);
  less = omega arith;
}

-- a span's terms before the work
first_then : (heap : List Cell) (s : Span) (us : Trees ℕ) → IsSpan heap s → join (span_terms heap s) us ≡ more (term_at heap s.at) (join (rest (span_terms heap s)) us)
first_then heap s us h = ap (λ z. join z us) (take_first s.count (from heap s.at) h.some h.enough)

pub sofar_found : (t : State) (x first : ℕ) (s : Span) (ws : List Span) (all : Trees ℕ) → IsSofar t x first s ws all → IsSpan t.heap.items s → IsIn x (variables (put (solution t) (term_at t.heap.items s.at))) → IsIn x (seen_in t all)
sofar_found t x first s ws all h k i =
    let us = join (rest (span_terms t.heap.items s)) (terms_of t.heap.items ws) in
    h.same.0 (subst (λ z. IsIn x (seen_in t z)) (sym (first_then t.heap.items s (terms_of t.heap.items ws) k)) (IsIn-left x (variables (put (solution t) (term_at t.heap.items s.at))) (seen_in t us) i))

pub sofar_more : (t : State) (x first : ℕ) (p n k : ℕ) (ws new : List Span) (all : Trees ℕ) → IsGood t → IsSofar t x first (record { at = p; count = n }) ws all → 1 ≤ n → k ≡ arity_of (cell_at t.heap.items p)
    → HasSeen t x (term_at t.heap.items p) ws new false → IsSofar t x first (record { at = p + 1; count = n - 1 + k }) new all
sofar_more t x first p n k ws new all g h l e d =
    let heap = t.heap.items in
    let f = g.linked.forest in
    let s : Span = record { at = p; count = n } in
    let b = part_span heap s f h.part l in
    let ts = rest (span_terms heap s) in
    let old = terms_of heap ws in
    let y = d ts in
    let i : join (span_terms heap s) old ≡ more (term_at heap p) (join ts old) = first_then heap s old b in
    let j : join (span_terms heap (record { at = p + 1; count = n - 1 + k })) (terms_of heap new) ≡ join (arguments (term_at heap p)) (join ts (terms_of heap new)) = ap (λ z. join z (terms_of heap new)) (inside_terms heap p n k f b e) ∙ sym (join-join (arguments (term_at heap p)) ts (terms_of heap new)) in
    let o = h.moved in
    let q = rw i at h.same in
    record {
      part = inside_part heap p n k f b e;
      moved = omega (arith, o);
      some = omega (arith, o);
      same = rw j ((λ z. q.0 (y.same.0 z)), λ z. y.same.1 (q.1 z));
      less = omega (arith, o, h.less, y.less, ap (sizes (solution t)) i, ap (sizes (solution t)) j);
    }

pub sofar_ended : (t : State) (x first : ℕ) (s : Span) (ws : List Span) (all : Trees ℕ) → IsSofar t x first s ws all → s.count ≡ 0 → IsLeft t x all (terms_of t.heap.items ws)
sofar_ended t x first s ws all h e =
    let z : join (span_terms t.heap.items s) (terms_of t.heap.items ws) ≡ terms_of t.heap.items ws = ap (λ k. join (take_trees k (from t.heap.items s.at)) (terms_of t.heap.items ws)) e in
    record { same = rw z at h.same; less = omega (arith, h.less, h.some, h.moved, e, ap (sizes (solution t)) z) }
