-- A head's cells are walked against terms of the heap.
use Rattle.std.proofs.Common.{◌≡◌, ℕ, zero, suc, ◌+◌, ◌<◌, ◌≤◌, pos, List, [], ◌∷◌, ◌++◌, drop, take, get_or, inl, inr, ◌-◌, length, Bool, true, false, None, refl, ap, sym, ◌∙◌, subst, arith, All, append-nil, length-append}
use Rattle.std.specs.Prelude.{◌↔◌}
use Rattle.std.proofs.lemmas.List.{drop-append-le, get_or-drop, get_or-append-add}
use Rattle.std.proofs.lemmas.List.Elements.{All-drop, All-take}
use Rattle.pp_row.specs.declared.cell.Cell.{Cell}
use Rattle.pp_row.specs.declared.cell.Cell.TheVariants as cells
use Rattle.pp_row.specs.Cells.{arity_of, head_of, cells_of, IsLegalCell, renamed}
use Rattle.pp_row.proofs.Piece.{piece}
use Rattle.pp_row.specs.Reading.{all_of, forest, IsForest, from}
use Rattle.pp_row.proofs.Next.{next, cell_of, forest_from}
use Rattle.pp_algebra.proofs.Joined.{count-join, join-join}
use Rattle.pp_algebra.specs.Terms.{Tree, int, node, variable, Trees, none, more, put, put_all, count, join}
use Rattle.pp_algebra.specs.Least.{rest, arguments}
use Rattle.pp_algebra.specs.Solve.{equation}
use Rattle.pp_algebra.proofs.Put.{put-put, count-put_all}
use Rattle.pp_heap.specs.declared.spans.Span.{Span}
use Rattle.pp_heap.specs.declared.state.Value.{Value}
use Rattle.pp_heap.specs.declared.state.Value.TheVariants.{Variable, Int, Atom, Compound}
use Rattle.pp_heap.specs.declared.state.State.{State}
use Rattle.pp_heap.specs.Values.{cell_at, term_at, value_term, shifted}
use Rattle.pp_unify.specs.Tops.{IsAmong}
use Rattle.pp_heap.specs.declared.state.Slot.{Slot}
use Rattle.pp_algebra.specs.Covers.{IsIn}
use Rattle.pp_algebra.specs.Terms.{variables}
use Rattle.pp_unify.proofs.Among.{comes_from}
use Rattle.pp_unify.proofs.Heaps.{variable_cell}
use Rattle.pp_unify.proofs.Grown.{shifted_cells, counted_term}
use Rattle.pp_heap.specs.Agreement.{Excludes}
use Rattle.pp_heap.specs.Soundness.{IsCompound, IsGood}
use Rattle.pp_heap.specs.Outcomes.{AreMore, IsAnswer, IsVerdict}
use Rattle.pp_heap.specs.Spans.{IsSpan, take_trees, span_terms, terms_of}
use Rattle.pp_algebra.specs.Numbered.{counted_from}
use Rattle.pp_unify.specs.Counting.{counted}
use Rattle.pp_unify.specs.Heads.{IsVariable, IsHead, IsPiece, IsStepped, IsTurned, HasTurned}
use Rattle.pp_unify.specs.Joining.{AreBelow}
use Rattle.pp_unify.proofs.Widths.{wider_itself}
use Rattle.pp_heap.proofs.Forests.{term_cell, stack_append}
use Rattle.pp_heap.proofs.Growing.{empty_forest}
use Rattle.pp_unify.proofs.PairSteps.{named, more_equal}
use Rattle.pp_row.proofs.InStep.{is_forest}

pub counted_put : (s : ℕ → Tree ℕ) (n : ℕ) (t : Tree ℕ) → put s (counted_from n t) ≡ put (counted n s) t
counted_put s n t = put-put s (λ v. variable (n + v)) t

pub no_trees : (ts : Trees ℕ) → count ts ≡ 0 → ts ≡ none
no_trees none e = refl
no_trees (more t ts) e = absurd (cc)

leaf_arity : (c : Cell) → (IsCompound c → ⊥) → arity_of c ≡ 0
leaf_arity (cells.Int n) h = refl
leaf_arity (cells.Atom a) h = refl
leaf_arity (cells.Compound f k) h = absurd (h tt)
leaf_arity (cells.Var v) h = refl

-- a term that is no compound is one cell
pub leaf_next : (head : List Cell) (at : ℕ) → IsForest head → at < length head → (IsCompound (cell_at head at) → ⊥) → from head (at + 1) ≡ rest (from head at)
leaf_next head at f l h =
    let x = next head at (cells.Int (pos 0)) f l in
    x.inner ∙ ap (λ ts. join ts (rest (from head at))) (no_trees (arguments (term_at head at)) (x.arity ∙ leaf_arity (cell_at head at) h))

-- more cells on the heap change no span
module _ (heap cs : List Cell) (f : IsForest heap) (g : IsForest cs) where
  more_from : (p : ℕ) → p < length heap → from (heap ++ cs) p ≡ join (from heap p) (forest cs)
  more_from p l =
      let k : p ≤ length heap = omega arith in
      ap (λ (x : List Cell). forest x) (drop-append-le p heap cs k) ∙ ap (λ o. all_of o) (stack_append (drop p heap) cs (forest_from heap p f) g)

  take_some : (n : ℕ) (ts us : Trees ℕ) → n ≤ count ts → take_trees n (join ts us) ≡ take_trees n ts
  take_some zero ts us h = refl
  take_some (suc n) none us h = absurd (omega (arith, h))
  take_some (suc n) (more t ts) us h = ap (more t) (take_some n ts us (omega (arith, h)))

  more_span : (s : Span) → IsSpan heap s → IsSpan (heap ++ cs) s
  more_span s h = record {
    some = h.some;
    within = omega (arith, h.within, length-append heap cs);
    enough = omega (arith, h.enough, ap count (more_from s.at h.within), count-join (from heap s.at) (forest cs));
  }

  pub more_spans : (ss : List Span) → All (IsSpan heap) ss → All (IsSpan (heap ++ cs)) ss
  more_spans ss a = λ k d l. more_span (get_or ss k d) (a k d l)

  pub more_terms : (ss : List Span) → All (IsSpan heap) ss → terms_of (heap ++ cs) ss ≡ terms_of heap ss
  more_terms [] a = refl
  more_terms (s ∷ ss) a =
      let h : IsSpan heap s = a 0 s (omega arith) in
      ap (λ (z : Trees ℕ). join z (span_terms (heap ++ cs) s)) (more_terms ss (λ k d l. a (suc k) d (omega (arith, l))))
      ∙ ap (join (terms_of heap ss)) (ap (take_trees s.count) (more_from s.at h.within) ∙ take_some s.count (from heap s.at) (forest cs) h.enough)

pub same_heap : (old new : List Cell) → new ≡ old → AreMore old new
same_heap old new e = ([], empty_forest, e ∙ sym (append-nil old))

-- a term is the head's term now
pub gone_turned : (old new : State) (ws : List Span) (t : Tree ℕ) (n : ℕ) (head : List Cell) (at to : ℕ) → IsGood old → IsForest head → at < length head → All (IsSpan old.heap.items) ws → from head to ≡ rest (from head at) → at < to → IsStepped old new t n head at → IsTurned old new (more t (terms_of old.heap.items ws)) ws n head at to
gone_turned old new ws t n head at to g f m a e l p =
    let h = p.heap in
    let same : terms_of new.heap.items ws ≡ terms_of old.heap.items ws = ap (λ c. terms_of c ws) h.2 ∙ more_terms old.heap.items h.0 g.linked.forest h.1 ws a in
    let some = (next head at (cells.Int (pos 0)) f m).some in
    record {
      later = l;
      wider = p.wider;
      all = subst (λ c. All (IsSpan c) ws) (sym h.2) (more_spans old.heap.items h.0 g.linked.forest h.1 ws a);
      counts = omega (arith, ap count same, ap count e, ap count some);
      same = λ after ds s w.
          let k = p.follows ds s w in
          let c = counted_put s n (term_at head at) in
          let x = ap (λ ts. put_all s (join ts after)) same in
          let y = ap (put_all (counted n s)) e in
          let z = ap (put_all (counted n s)) some in
          let q = more_equal (put s t) (put (counted n s) (term_at head at)) (put_all s (join (terms_of old.heap.items ws) after)) (put_all (counted n s) (rest (from head at))) in (
            (λ u. let b = k.0 u.0 in (b.0, q.1 (sym x ∙ u.1 ∙ y, b.1 ∙ c) ∙ sym z)),
            λ u. let b = q.0 (u.1 ∙ z) in (k.1 (u.0, b.1 ∙ sym c), x ∙ b.0 ∙ sym y),
          );
    }

-- a term can't be the head's term
pub apart_turned : (old : State) (t : Tree ℕ) (bs : Trees ℕ) (n : ℕ) (head : List Cell) (at : ℕ) → IsForest head → at < length head → Excludes old (equation t (counted_from n (term_at head at))) → HasTurned old old (more t bs) [] n head at None
apart_turned old t bs n head at f m x after ds s w a e =
    let z = ap (put_all (counted n s)) (next head at (cells.Int (pos 0)) f m).some in
    let q = more_equal (put s t) (put (counted n s) (term_at head at)) (put_all s (join bs after)) (put_all (counted n s) (rest (from head at))) in
    x ds s w a ((q.0 (e ∙ z)).1 ∙ sym (counted_put s n (term_at head at)))

join_equal : (s r : ℕ → Tree ℕ) (a c b d : Trees ℕ) → count a ≡ count b → (put_all s (join a c) ≡ put_all r (join b d)) ↔ ((put_all s a ≡ put_all r b) × (put_all s c ≡ put_all r d))
join_equal s r none c none d e = ((λ q. (refl, q)), λ q. q.1)
join_equal s r none c (more u b) d e = absurd (cc)
join_equal s r (more t a) c none d e = absurd (cc)
join_equal s r (more t a) c (more u b) d e =
    let i = join_equal s r a c b d (omega (arith, e)) in
    let m = more_equal (put s t) (put r u) (put_all s (join a c)) (put_all r (join b d)) in
    let k = more_equal (put s t) (put r u) (put_all s a) (put_all r b) in
    ((λ q. let x = m.0 q in let y = i.0 x.0 in (k.1 (y.0, x.1), y.1)), λ q. let x = k.0 q.0 in m.1 (i.1 (x.0, q.1), x.1))

pub plain_compound : (c : Cell) → IsCompound c → IsVariable c → ⊥
plain_compound (cells.Int n) h v = h
plain_compound (cells.Atom a) h v = h
plain_compound (cells.Compound f k) h v = v
plain_compound (cells.Var v) h w = h

-- terms of one first cell, which is no variable, are equal where their arguments are
pub arguments_alike : (s r : ℕ → Tree ℕ) (t u : Tree ℕ) → (IsVariable (cell_of t) → ⊥) → cell_of t ≡ cell_of u → (put s t ≡ put r u) ↔ (put_all s (arguments t) ≡ put_all r (arguments u))
arguments_alike s r (int n) (int m) h e = let k : n ≡ m = cc in ((λ q. refl), λ q. ap int k)
arguments_alike s r (int n) (node g none) h e = absurd (cc)
arguments_alike s r (int n) (node g (more u us)) h e = absurd (cc)
arguments_alike s r (int n) (variable v) h e = absurd (cc)
arguments_alike s r (variable v) u h e = absurd (h tt)
arguments_alike s r (node f none) (int m) h e = absurd (cc)
arguments_alike s r (node f (more t ts)) (int m) h e = absurd (cc)
arguments_alike s r (node f none) (variable v) h e = absurd (cc)
arguments_alike s r (node f (more t ts)) (variable v) h e = absurd (cc)
arguments_alike s r (node f ts) (node g us) h e = let n = named f g ts us e in ((λ q. cc), λ q. rw (n, q) refl)

-- the arguments of two such terms are put off
pub opened_equal : (s r : ℕ → Tree ℕ) (t u : Tree ℕ) (bs cs : Trees ℕ) → (IsVariable (cell_of t) → ⊥) → cell_of t ≡ cell_of u → count (arguments t) ≡ count (arguments u) → (put_all s (join (arguments t) bs) ≡ put_all r (join (arguments u) cs)) ↔ (put_all s (more t bs) ≡ put_all r (more u cs))
opened_equal s r t u bs cs h e k =
    let j = join_equal s r (arguments t) bs (arguments u) cs k in
    let i = arguments_alike s r t u h e in
    let m = more_equal (put s t) (put r u) (put_all s bs) (put_all r cs) in
    ((λ q. let b = j.0 q in m.1 (b.1, i.1 b.0)), λ q. let b = m.0 q in j.1 (i.0 b.1, b.0))

-- the arguments of a compound of the heap and of one of the head are put off
pub opened_turned : (a : State) (bs : Trees ℕ) (now : List Span) (p n : ℕ) (head : List Cell) (at : ℕ) → IsGood a → p < length a.heap.items → IsCompound (cell_at a.heap.items p) → cell_at a.heap.items p ≡ cell_at head at → IsForest head → at < length head → All (IsSpan a.heap.items) now → terms_of a.heap.items now ≡ join (arguments (term_at a.heap.items p)) bs → IsTurned a a (more (term_at a.heap.items p) bs) now n head at (at + 1)
opened_turned a bs now p n head at g l h c f m all e =
    let heap = a.heap.items in
    let x = next heap p (cells.Int (pos 0)) g.linked.forest l in
    let y = next head at (cells.Int (pos 0)) f m in
    let ps = arguments (term_at heap p) in
    let qs = arguments (term_at head at) in
    let k : count ps ≡ count qs = x.arity ∙ ap arity_of c ∙ sym y.arity in
    record {
      later = omega arith;
      wider = wider_itself a n head;
      all = all;
      counts = omega (arith, k, ap count e, count-join ps bs, ap count y.inner, count-join qs (rest (from head at)), ap count y.some);
      same = λ after ds s w.
          let r = counted n s in
          let o = opened_equal s r (term_at heap p) (term_at head at) (join bs after) (rest (from head at)) (subst (λ z. IsVariable z → ⊥) (sym x.cell) (plain_compound (cell_at heap p) h)) (x.cell ∙ c ∙ sym y.cell) k in
          let u = ap (λ ts. put_all s (join ts after)) e ∙ ap (put_all s) (sym (join-join ps bs after)) in
          let v = ap (put_all r) y.inner in
          let z = ap (put_all r) y.some in (
            (λ q. (q.0, o.0 (sym u ∙ q.1 ∙ v) ∙ sym z)),
            λ q. (q.0, u ∙ o.1 (q.1 ∙ z) ∙ sym v),
          );
    }

-- the first cell stays under a substitution
pub put_top : (s : ℕ → Tree ℕ) (t : Tree ℕ) → (IsVariable (cell_of t) → ⊥) → cell_of (put s t) ≡ cell_of t
put_top s (int n) h = refl
put_top s (node f ts) h = ap (head_of f) (count-put_all s ts)
put_top s (variable v) h = absurd (h tt)

module _ (a : State) (n : ℕ) (head : List Cell) (at : ℕ) (f : IsForest head) (l : at < length head) (h : IsCompound (cell_at head at)) where
  head_top : (s : ℕ → Tree ℕ) → cell_of (put s (counted_from n (term_at head at))) ≡ cell_at head at
  head_top s =
      let e = term_cell head at f l in
      ap cell_of (counted_put s n (term_at head at)) ∙ put_top (counted n s) (term_at head at) (subst (λ z. IsVariable z → ⊥) (sym e) (plain_compound (cell_at head at) h)) ∙ e

  pub apart_compounds : (p : ℕ) → IsGood a → p < length a.heap.items → IsCompound (cell_at a.heap.items p) → (cell_at a.heap.items p ≡ cell_at head at → ⊥) → Excludes a (equation (term_at a.heap.items p) (counted_from n (term_at head at)))
  apart_compounds p g m k d = λ ds s w r e.
      let x = term_cell a.heap.items p g.linked.forest m in
      d (sym (put_top s (term_at a.heap.items p) (subst (λ z. IsVariable z → ⊥) (sym x) (plain_compound (cell_at a.heap.items p) k)) ∙ x) ∙ ap cell_of e ∙ head_top s)

  pub apart_value : (c : Value) → ((x : ℕ) → c ≡ Variable x → ⊥) → ((p : ℕ) → c ≡ Compound p → ⊥) → Excludes a (equation (value_term a.heap.items c) (counted_from n (term_at head at)))
  apart_value (Variable x) i j = absurd (i x refl)
  apart_value (Int z) i j = λ ds s w r e. subst IsCompound (sym (ap cell_of e ∙ head_top s)) h
  apart_value (Atom z) i j = λ ds s w r e. subst IsCompound (sym (ap cell_of e ∙ head_top s)) h
  apart_value (Compound p) i j = absurd (j p refl)

pub answer_verdict : (a b : State) (t u : Tree ℕ) (r : Bool) → IsAnswer a b t u r → IsVerdict a b (equation t u) r
answer_verdict a b t u true v = v.follows
answer_verdict a b t u false v = v

-- a variable's cell among the first ones is there
taken_cell : (k : ℕ) (cs : List Cell) (p v : ℕ) → cell_at (take k cs) p ≡ cells.Var v → cell_at (take k cs) p ≡ cell_at cs p
taken_cell zero cs p v e = absurd (cc)
taken_cell (suc k) [] p v e = absurd (cc)
taken_cell (suc k) (c ∷ cs) zero v e = refl
taken_cell (suc k) (c ∷ cs) (suc p) v e = taken_cell k cs p v e

-- the cells of one term of the head
module _ (head : List Cell) (at end n : ℕ) (h : IsForest head) (l : at < length head) where
  pub head_among : (slots : List Slot) → IsHead slots n head → IsAmong slots (counted_from n (term_at head at))
  head_among slots k w i =
      let r = comes_from (λ v. variable (n + v)) (term_at head at) w i in
      let q = variable_cell head at r.0 h l r.1 in
      go r.0 (k.among q.0 r.0 q.1) r.2
    where
      go : (u : ℕ) → n + u < length slots → IsIn w (variables (variable (n + u))) → w < length slots
      go u m (inl e) = subst (λ x. x < length slots) e m
      go u m (inr j) = absurd j

  module _ (p : IsPiece head at end) where
    abbrev cut : List Cell
    cut = take (end - at) (drop at head)

    pub cut_cells : cut ≡ cells_of (term_at head at)
    cut_cells = piece head at end (cells.Int (pos 0)) h l p.ends p.later p.within

    pub cut_shifted : shifted n cut ≡ cells_of (counted_from n (term_at head at))
    cut_shifted = shifted_cells n (term_at head at) cut cut_cells

    pub cut_forest : IsForest (shifted n cut)
    cut_forest = is_forest (counted_from n (term_at head at)) (shifted n cut) cut_shifted (counted_term n (term_at head at) (subst (All IsLegalCell) cut_cells (All-take IsLegalCell (end - at) (drop at head) (All-drop IsLegalCell at head h.legal))))

    -- its variables are those of the head
    pub cut_below : (k : ℕ) → AreBelow k n head → AreBelow k n cut
    cut_below k b p v e = b (at + p) v (sym (get_or-drop at head p (cells.Int (pos 0))) ∙ sym (taken_cell (end - at) (drop at head) p v e) ∙ e)

pub cut_compound : (heap head : List Cell) (at end n p : ℕ) → at < end → IsCompound (cell_at head at) → p ≡ length heap → IsCompound (cell_at (heap ++ shifted n (take (end - at) (drop at head))) p)
cut_compound heap head at end n p l h e =
    let i : p ≡ length heap + 0 = omega (arith, e) in
    let k : suc (end - at - 1) ≡ end - at = omega (arith, l) in
    let q : at + 0 ≡ at = omega arith in
    let top : IsCompound (cell_at (drop at head) 0) = subst IsCompound (ap (cell_at head) (sym q) ∙ sym (get_or-drop at head 0 (cells.Int (pos 0)))) h in
    rw (i, get_or-append-add heap (shifted n (take (end - at) (drop at head))) 0 (cells.Int (pos 0))) (subst (λ m. IsCompound (cell_at (shifted n (take m (drop at head))) 0)) k (go (drop at head) (end - at - 1) top))
  where
    stays : (c : Cell) → IsCompound c → IsCompound (renamed (λ v. n + v) c)
    stays (cells.Int z) h = h
    stays (cells.Atom a) h = h
    stays (cells.Compound f k) h = h
    stays (cells.Var v) h = h

    go : (cs : List Cell) (m : ℕ) → IsCompound (cell_at cs 0) → IsCompound (cell_at (shifted n (take (suc m) cs)) 0)
    go [] m h = absurd h
    go (c ∷ cs) m h = stays c h

pub shifted_below : (k n : ℕ) (cs : List Cell) → AreBelow k n cs → (p v : ℕ) → cell_at (shifted n cs) p ≡ cells.Var v → v < k
shifted_below k n [] b p v e = absurd (cc)
shifted_below k n (c ∷ cs) b zero v e = go c refl e
  where
    go : (d : Cell) → c ≡ d → renamed (λ x. n + x) d ≡ cells.Var v → v < k
    go (cells.Int z) q e = absurd (cc)
    go (cells.Atom z) q e = absurd (cc)
    go (cells.Compound f z) q e = absurd (cc)
    go (cells.Var x) q e = let y : n + x ≡ v = cc in let l = b zero x q in omega (arith, l, y)
shifted_below k n (c ∷ cs) b (suc p) v e = shifted_below k n cs (λ q w f. b (suc q) w f) p v e

pub head_wider : (old new : List Slot) (n : ℕ) (head : List Cell) → length old ≤ length new → IsHead old n head → IsHead new n head
head_wider old new n head e h = record { forest = h.forest; among = λ p v f. let l = h.among p v f in omega (arith, e, l) }
