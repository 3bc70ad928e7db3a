-- Two lists of terms are walked in step: what is left of them is equal where both lists are.
use Rattle.std.proofs.Common.{◌≡◌, ℕ, pos, suc, ◌+◌, ◌<◌, ◌≤◌, List, [], ◌∷◌, length, None, refl, ap, sym, ◌∙◌, subst, arith}
use Rattle.std.specs.Prelude.{◌↔◌}
use Rattle.pp_algebra.specs.Terms.{Tree, Trees, none, more, variable, put, put_all, count, join}
use Rattle.pp_algebra.specs.Rows.{Domains}
use Rattle.pp_algebra.specs.Least.{rest, arguments}
use Rattle.pp_algebra.specs.Numbered.{counted_from}
use Rattle.pp_algebra.proofs.Joined.{count-join}
use Rattle.pp_algebra.proofs.Put.{put_all-put_all, count-put_all}
use Rattle.pp_row.specs.declared.cell.Cell.{Cell}
use Rattle.pp_row.specs.declared.cell.Cell.TheVariants as cells
use Rattle.pp_row.specs.Cells.{arity_of}
use Rattle.pp_row.specs.Reading.{IsForest, forest, from}
use Rattle.pp_row.proofs.Next.{next, cell_of, some_inside}
use Rattle.pp_heap.specs.declared.spans.Span.{Span}
use Rattle.pp_heap.specs.declared.state.State.{State}
use Rattle.pp_heap.specs.declared.state.Value.{Value}
use Rattle.pp_heap.specs.Values.{cell_at, term_at, value_term}
use Rattle.pp_heap.specs.Stores.{store_of}
use Rattle.pp_heap.specs.Agreement.{Agrees, AllWide}
use Rattle.pp_heap.specs.Soundness.{IsGood}
use Rattle.pp_heap.specs.Outcomes.{IsValue, IsGrown}
use Rattle.pp_heap.specs.Spans.{terms_of}
use Rattle.pp_unify.specs.Counting.{counted}
use Rattle.pp_unify.specs.Forests.{counted_all}
use Rattle.pp_unify.specs.Heads.{IsVariable, IsTurned, HasTurned}
use Rattle.pp_unify.specs.Joining.{AreAlike, JoinedBy, NeverAlike, IsWider}
use Rattle.pp_unify.specs.Taking.{left_of, ArePassed, AreThis}
use Rattle.pp_unify.proofs.Equations.{alike_grown}
use Rattle.pp_unify.proofs.HeadSteps.{no_trees, opened_equal, put_top}
use Rattle.pp_unify.proofs.PairSteps.{more_equal}

-- both lists are equal where what is left of them is
abbrev pub Reaches : State → State → List Span → ℕ → List Cell → ℕ → ℕ → List Cell → ℕ → Type 0
Reaches a b ws n goal at m head to = (ds : Domains ℕ) (s : ℕ → Tree ℕ) → AllWide ds → (Agrees (store_of b) ds s × (put_all s (left_of b ws n goal at) ≡ put_all (counted m s) (from head to))) ↔ (Agrees (store_of a) ds s × AreAlike s n (forest goal) m (forest head))

pub counted_all_put : (s : ℕ → Tree ℕ) (n : ℕ) (ts : Trees ℕ) → put_all s (counted_all n ts) ≡ put_all (counted n s) ts
counted_all_put s n ts = put_all-put_all s (λ v. variable (n + v)) ts

pub begun : (a : State) (ws : List Span) (n : ℕ) (goal : List Cell) (m : ℕ) (head : List Cell) → ws ≡ [] → Reaches a a ws n goal 0 m head 0
begun a ws n goal m head e ds s w =
    let c = ap (λ vs. put_all s (left_of a vs n goal 0)) e ∙ counted_all_put s n (forest goal) in
    ((λ q. (q.0, sym c ∙ q.1)), λ q. (q.0, c ∙ q.1))

pub count_counted : (n : ℕ) (ts : Trees ℕ) → count (counted_all n ts) ≡ count ts
count_counted n ts = count-put_all (λ v. variable (n + v)) ts

count_left : (a : State) (ws : List Span) (n : ℕ) (goal : List Cell) (at : ℕ) → count (left_of a ws n goal at) ≡ count (terms_of a.heap.items ws) + count (from goal at)
count_left a ws n goal at = count-join (terms_of a.heap.items ws) (counted_all n (from goal at)) ∙ ap (λ x. count (terms_of a.heap.items ws) + x) (count_counted n (from goal at))

-- ===== a term of the goal is taken

module _ (n : ℕ) (goal : List Cell) (at : ℕ) (f : IsForest goal) (l : at < length goal) where
  -- it is a value
  pub goal_is : (a : State) (c : Value) (on : ℕ) → from goal on ≡ rest (from goal at) → IsValue (store_of a) (counted_from n (term_at goal at)) c → AreThis a (counted_all n (from goal at)) (counted_all n (from goal on)) c
  goal_is a c on ends v =
      let some = (next goal at (cells.Int (pos 0)) f l).some in
      let left : counted_all n (from goal at) ≡ more (counted_from n (term_at goal at)) (counted_all n (from goal on)) = ap (counted_all n) (some ∙ ap (more (term_at goal at)) (sym ends)) in
      record {
        now = v.now;
        counts = ap count left;
        same = λ ds s k. ap (put_all s) left ∙ ap (λ x. more x (put_all s (counted_all n (from goal on)))) (v.same ds s k);
      }

  module _ (head : List Cell) (to : ℕ) (g : IsForest head) (h : to < length head) where
    cell_goal : cell_of (term_at goal at) ≡ cell_at goal at
    cell_goal = (next goal at (cells.Int (pos 0)) f l).cell

    cell_head : cell_of (term_at head to) ≡ cell_at head to
    cell_head = (next head to (cells.Int (pos 0)) g h).cell

    -- its first cell is the head's
    pub goal_passed : (a : State) → cell_at goal at ≡ cell_at head to → (IsVariable (cell_at goal at) → ⊥) → ArePassed a (counted_all n (from goal at)) (counted_all n (from goal (at + 1))) head to
    goal_passed a e v =
        let x = next goal at (cells.Int (pos 0)) f l in
        let y = next head to (cells.Int (pos 0)) g h in
        record {
          counts = omega (arith, x.arity, y.arity, ap arity_of e, ap count x.some, ap count y.some, ap count x.inner, ap count y.inner, count-join (arguments (term_at goal at)) (rest (from goal at)), count-join (arguments (term_at head to)) (rest (from head to)), count_counted n (from goal at), count_counted n (from goal (at + 1)));
          same = λ m ds s w k.
              let o = opened_equal (counted n s) (counted m s) (term_at goal at) (term_at head to) (rest (from goal at)) (rest (from head to)) (subst (λ z. IsVariable z → ⊥) (sym cell_goal) v) (cell_goal ∙ e ∙ sym cell_head) (x.arity ∙ ap arity_of e ∙ sym y.arity) in
              let before = counted_all_put s n (from goal at) ∙ ap (put_all (counted n s)) x.some in
              let after = counted_all_put s n (from goal (at + 1)) ∙ ap (put_all (counted n s)) x.inner in
              let p = ap (put_all (counted m s)) y.some in
              let q = ap (put_all (counted m s)) y.inner in
              ((λ z. before ∙ o.0 (sym after ∙ z ∙ q) ∙ sym p), λ z. after ∙ o.1 (sym before ∙ z ∙ p) ∙ sym q);
        }

    -- it can't be the head's
    pub goal_apart : (cell_at goal at ≡ cell_at head to → ⊥) → (IsVariable (cell_at goal at) → ⊥) → (IsVariable (cell_at head to) → ⊥) → (m : ℕ) (s : ℕ → Tree ℕ) → put_all s (counted_all n (from goal at)) ≡ put_all (counted m s) (from head to) → ⊥
    goal_apart d v u m s q =
        let x = next goal at (cells.Int (pos 0)) f l in
        let y = next head to (cells.Int (pos 0)) g h in
        let e = sym (counted_all_put s n (from goal at) ∙ ap (put_all (counted n s)) x.some) ∙ q ∙ ap (put_all (counted m s)) y.some in
        let t = ((more_equal (put (counted n s) (term_at goal at)) (put (counted m s) (term_at head to)) (put_all (counted n s) (rest (from goal at))) (put_all (counted m s) (rest (from head to)))).0 e).1 in
        let z = sym (put_top (counted n s) (term_at goal at) (subst (λ c. IsVariable c → ⊥) (sym cell_goal) v)) ∙ ap cell_of t ∙ put_top (counted m s) (term_at head to) (subst (λ c. IsVariable c → ⊥) (sym cell_head) u) in
        d (sym cell_goal ∙ z ∙ cell_head)

-- ===== a term of the work is taken

module _ (a : State) (p : ℕ) (bs others : Trees ℕ) (now : List Span) where
  pub span_is : (c : Value) → IsValue (store_of a) (term_at a.heap.items p) c → terms_of a.heap.items now ≡ bs → AreThis a (join (more (term_at a.heap.items p) bs) others) (join (terms_of a.heap.items now) others) c
  span_is c v e = record {
    now = v.now;
    counts = ap (λ x. suc (count (join x others))) (sym e);
    same = λ ds s k. ap (λ x. more x (put_all s (join bs others))) (v.same ds s k) ∙ ap (λ y. more (put s (value_term a.heap.items c)) (put_all s (join y others))) (sym e);
  }

  pub span_passed : (head : List Cell) (to : ℕ) → ((m : ℕ) → IsTurned a a (more (term_at a.heap.items p) bs) now m head to (to + 1)) → ArePassed a (join (more (term_at a.heap.items p) bs) others) (join (terms_of a.heap.items now) others) head to
  span_passed head to t = record {
    counts = omega (arith, (t 0).counts, count-join (more (term_at a.heap.items p) bs) others, count-join (terms_of a.heap.items now) others);
    same = λ m ds s w k. let q = (t m).same others ds s w in ((λ z. (q.0 (k, z)).1), λ z. (q.1 (k, z)).1);
  }

-- more terms on the heap add no variable
pub wider_grown : (i j : State) (m : ℕ) (head : List Cell) → IsGrown i j → IsWider i j m head
wider_grown i j m head g = record { more = omega (arith, ap length g.slots); bounded = λ k p q. omega (arith, p, ap length g.slots) }

-- ===== a turn

module _ (a i j : State) (ws us : List Span) (n : ℕ) (goal : List Cell) (at on m : ℕ) (head : List Cell) (to : ℕ) (good : IsGood i) (grown : IsGrown i j) (r : Reaches a i ws n goal at m head to) where
  pub never : ((m : ℕ) (s : ℕ → Tree ℕ) → put_all s (left_of i ws n goal at) ≡ put_all (counted m s) (from head to) → ⊥) → NeverAlike a n (forest goal) m (forest head)
  never h ds s w k q = let p = (r ds s w).1 (k, q) in h m s p.1

  pub passed : ArePassed j (left_of i ws n goal at) (left_of j us n goal on) head to → Reaches a j us n goal on m head (to + 1)
  passed p ds s w =
      let k = r ds s w in
      let x = alike_grown i j good grown ds s in
      ((λ q. k.0 (x.1 q.0, (p.same m ds s w q.0).0 q.1)), λ q. let z = k.1 q in (x.0 z.0, (p.same m ds s w (x.0 z.0)).1 z.1))

  -- what was taken is a value, which is met with the head's next term
  module _ (b : State) (now : List Span) (c : Value) (o : AreThis j (left_of i ws n goal at) (left_of j us n goal on) c) where
    pub met : (next' : ℕ) → IsTurned j b (more (value_term j.heap.items c) (terms_of j.heap.items us)) now m head to next' → Reaches a b now n goal on m head next'
    met next' t ds s w =
        let k = r ds s w in
        let x = alike_grown i j good grown ds s in
        let y = t.same (counted_all n (from goal on)) ds s w in
        ((λ q. let p = y.0 q in k.0 (x.1 p.0, o.same ds s p.0 ∙ p.1)), λ q. let z = k.1 q in let p = x.0 z.0 in y.1 (p, sym (o.same ds s p) ∙ z.1))

    pub met_counts : (next' : ℕ) → count (left_of i ws n goal at) ≡ count (from head to) → IsTurned j b (more (value_term j.heap.items c) (terms_of j.heap.items us)) now m head to next' → count (left_of b now n goal on) ≡ count (from head next')
    met_counts next' e t = omega (arith, e, t.counts, o.counts, count_left b now n goal on, count_left j us n goal on)

    pub met_apart : HasTurned j b (more (value_term j.heap.items c) (terms_of j.heap.items us)) now m head to None → NeverAlike a n (forest goal) m (forest head)
    met_apart t ds s w k q =
        let z = (r ds s w).1 (k, q) in
        let p = (alike_grown i j good grown ds s).0 z.0 in
        t (counted_all n (from goal on)) ds s w p (sym (o.same ds s p) ∙ z.1)

-- the goal's next term is there, where no work is left
pub goal_within : (i : State) (ws : List Span) (n : ℕ) (goal : List Cell) (at : ℕ) (head : List Cell) (to : ℕ) → ws ≡ [] → IsForest head → to < length head → count (left_of i ws n goal at) ≡ count (from head to) → at < length goal
goal_within i ws n goal at head to e g h k = some_inside goal at (omega (arith, k, count_left i ws n goal at, ap count ((next head to (cells.Int (pos 0)) g h).some), ap (λ vs. count (terms_of i.heap.items vs)) e))

pub some_within : (i : State) (ws : List Span) (n : ℕ) (goal : List Cell) (at : ℕ) → ws ≡ [] → 1 ≤ count (left_of i ws n goal at) → at < length goal
some_within i ws n goal at e k = some_inside goal at (omega (arith, k, count_left i ws n goal at, ap (λ vs. count (terms_of i.heap.items vs)) e))

-- something is left where the head has a term left
pub some_left : (i : State) (ws : List Span) (n : ℕ) (goal : List Cell) (at : ℕ) (head : List Cell) (to : ℕ) → IsForest head → to < length head → count (left_of i ws n goal at) ≡ count (from head to) → 1 ≤ count (left_of i ws n goal at)
some_left i ws n goal at head to g h k = omega (arith, k, ap count ((next head to (cells.Int (pos 0)) g h).some))

-- nothing is left
pub reached : (a i : State) (ws : List Span) (n : ℕ) (goal : List Cell) (at m : ℕ) (head : List Cell) (to : ℕ) → from head to ≡ none → count (left_of i ws n goal at) ≡ count (from head to) → Reaches a i ws n goal at m head to → JoinedBy a i n (forest goal) m (forest head)
reached a i ws n goal at m head to e k r ds s w =
    let j = r ds s w in
    let x : terms_of i.heap.items ws ≡ none = no_trees (terms_of i.heap.items ws) (omega (arith, k, count_left i ws n goal at, ap count e)) in
    let y : from goal at ≡ none = no_trees (from goal at) (omega (arith, k, count_left i ws n goal at, ap count e)) in
    let z : put_all s (left_of i ws n goal at) ≡ put_all (counted m s) (from head to) = rw (x, y, e) refl in
    ((λ h. j.0 (h, z)), λ q. (j.1 q).0)

pub no_items : (ss : List Span) → length ss ≡ 0 → ss ≡ []
no_items [] h = refl
no_items (s ∷ ss) h = absurd (cc)

pub ended : (ws ss : List Span) → ws ≡ [] → ss ≡ ws → ss ≡ []
ended ws ss e f = f ∙ e
