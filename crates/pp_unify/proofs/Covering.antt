-- A row's cells are met with terms of the heap.
use Rattle.std.proofs.Common.{◌≡◌, ℕ, zero, suc, ◌+◌, ◌<◌, ◌≤◌, pos, inl, inr, List, [], ◌∷◌, ◌++◌, length, drop, get_or, ℤ, Option, All, Some, refl, ap, sym, ◌∙◌, subst, arith, length-append}
use Rattle.std.specs.Prelude.{nat_eq}
use Rattle.std.proofs.lemmas.List.{get_or_append_left, get_or_read_under}
use Rattle.std.proofs.lemmas.Bool.{cases_lt}
use Rattle.std.proofs.lemmas.List.Elements.{All-push}
use Rattle.pp_row.specs.declared.cell.Cell.{Cell}
use Rattle.pp_row.specs.declared.cell.Cell.TheVariants as cells
use Rattle.std.proofs.Math.ListN.{drop_of_length-le}
use Rattle.pp_row.specs.Cells.{IsTerm, arity_of, cells_of, head_of}
use Rattle.pp_row.specs.Reading.{IsForest, forest, from}
use Rattle.pp_row.specs.Columns.{trees_of, sets_of}
use Rattle.pp_row.proofs.ColumnLists.{put-trees_of}
use Rattle.pp_row.proofs.Next.{IsNext, next, cell_of}
use Rattle.pp_algebra.specs.Terms.{Tree, int, node, variable, Trees, none, more, put, put_all, count, variables, variables_all, join}
use Rattle.pp_algebra.specs.Rows.{Domain, Domains, Row, Pattern, domain_at, pattern_of}
use Rattle.pp_algebra.specs.Canon.{canon}
use Rattle.pp_algebra.specs.Numbered.{counted_from}
use Rattle.pp_algebra.proofs.Order.{covers_through, IsIn-left}
use Rattle.pp_algebra.proofs.Antisym.{IsIn-either}
use Rattle.pp_algebra.proofs.CanonLemmas.{nat_eq-IsSame, covers-canon}
use Rattle.pp_algebra.specs.Covers.{IsIn, IsWithin, MayGo, Covers, RowCovers}
use Rattle.pp_algebra.specs.Least.{arguments}
use Rattle.pp_algebra.proofs.Put.{count-put_all}
use Rattle.pp_algebra.proofs.Joined.{put_all-join}
use Rattle.pp_order.specs.Bindings.{Takes}
use Rattle.pp_order.proofs.Taking.{IsFixed, variable_next, before_cell}
use Rattle.pp_order.proofs.Columns.{columns_from}
use Rattle.pp_heap.specs.declared.spans.Span.{Span}
use Rattle.pp_heap.specs.declared.state.State.{State}
use Rattle.pp_heap.specs.declared.state.Value.{Value}
use Rattle.pp_heap.specs.declared.state.Value.TheVariants as now
use Rattle.pp_heap.specs.Values.{cell_at, term_at, value_term}
use Rattle.pp_heap.specs.Stores.{store_of, solution}
use Rattle.pp_heap.specs.Soundness.{IsGood, IsCompound}
use Rattle.pp_heap.specs.Outcomes.{IsNow, IsUnbound, IsValue}
use Rattle.pp_heap.proofs.Forests.{term_cell}
use Rattle.pp_heap.proofs.Solutions.{own_domains, solution_agrees, solution_free}
use Rattle.pp_unify.specs.Equating.{IsOpen}
use Rattle.pp_unify.specs.Heads.{IsHead, IsLeaf}
use Rattle.pp_unify.specs.States.{present, row_in, states_of, IsOver}
use Rattle.pp_unify.specs.Tops.{IsAmong}
use Rattle.pp_unify.proofs.Grown.{cells_among, counted-zero}
use Rattle.pp_unify.proofs.InPlace.{all_among, resolved_row}
use Rattle.pp_unify.proofs.Whole.{whole_forest, whole_one, whole_term}
use Rattle.pp_unify.specs.declared.cover.Likeness.{Likeness}
use Rattle.pp_unify.specs.declared.cover.Likeness.TheVariants.{Apart, Same, Open}
use Rattle.pp_unify.specs.Covering.{now_term, domains_now, HasLikeness, bound_at, AreBound, Gives, IsBound, TakesNow, IsMet, AreCovered}

-- what a term is now is a value's term
pub seen : (t : State) (a : Tree ℕ) (c : Value) → IsGood t → IsValue (store_of t) a c → put (solution t) a ≡ now_term t c
seen t a c g v = v.same (own_domains (store_of t)) (solution t) (solution_agrees t g)

-- the likeness of values is that of the terms that they are
pub likeness_seen : (t : State) (a b : Tree ℕ) (c d : Value) (r : Likeness) → IsGood t → IsValue (store_of t) a c → IsValue (store_of t) b d → HasLikeness t (value_term t.heap.items c) (value_term t.heap.items d) r → HasLikeness t a b r
likeness_seen t a b c d Apart g v w h = tt
likeness_seen t a b c d Same g v w h = seen t a c g v ∙ h ∙ sym (seen t b d g w)
likeness_seen t a b c d (Open p q) g v w h = record {
  left_within = h.left_within;
  right_within = h.right_within;
  same = h.same;
  compound = h.compound;
  left_is = λ ds s x. v.same ds s x ∙ h.left_is ds s x;
  right_is = λ ds s x. w.same ds s x ∙ h.right_is ds s x;
}

-- one value more
bound_old : (cs : List Value) (c : Value) (k : ℕ) → k < length cs → bound_at (cs ++ c ∷ []) k ≡ bound_at cs k
bound_old cs c k l = get_or_append_left cs (c ∷ []) (now.Int (pos 0)) k l

bound_new : (cs : List Value) (c : Value) → bound_at (cs ++ c ∷ []) (length cs) ≡ c
bound_new [] c = refl
bound_new (d ∷ cs) c = bound_new cs c

pub bound_push : (t : State) (ds : Domains ℕ) (cs : List Value) (v : ℕ) (c : Value) → AreBound t ds cs → IsNow (store_of t) c → v ≡ length cs → MayGo (domains_now t) (ds v) (now_term t c) → IsBound t ds cs (cs ++ c ∷ []) v c
bound_push t ds cs v c a n e m = record {
  bound = record {
    now = All-push (IsNow (store_of t)) cs c a.now n;
    goes = λ k l. elim (cases_lt k (length cs)) [
      | inl i ↦ rw (bound_old cs c k i) (a.goes k i)
      | inr i ↦ (let f : k ≡ length cs = omega (arith, i, l, length-append cs (c ∷ [])) in rw f (rw (bound_new cs c) (rw e at m)))
    ];
  };
  older = λ s g k l. g k (omega (arith, l, length-append cs (c ∷ []))) ∙ ap (now_term t) (bound_old cs c k l);
  within = omega (arith, e, length-append cs (c ∷ []));
  same = ap (now_term t) (ap (bound_at (cs ++ c ∷ [])) e ∙ bound_new cs c);
}

pub bound_again : (t : State) (ds : Domains ℕ) (cs : List Value) (v : ℕ) (c : Value) → AreBound t ds cs → v < length cs → now_term t (bound_at cs v) ≡ now_term t c → IsBound t ds cs cs v c
bound_again t ds cs v c a l e = record { bound = a; older = λ s g. g; within = l; same = e }

head_arity : (f k : ℕ) → arity_of (head_of f k) ≡ k
head_arity f zero = refl
head_arity f (suc k) = refl

-- a term that is no variable, as it is now
now_next : (σ : ℕ → Tree ℕ) (u : Tree ℕ) (ws qs : Trees ℕ) (c : Cell) → IsFixed c → cell_of u ≡ c → qs ≡ join (arguments u) ws → IsNext c (put_all σ (more u ws)) (put_all σ qs)
now_next σ (int n) ws qs c f h e = record { some = refl; inner = ap (put_all σ) e; cell = h; arity = ap arity_of h }
now_next σ (node g xs) ws qs c f h e = record {
  some = refl;
  inner = ap (put_all σ) e ∙ put_all-join σ xs ws;
  cell = ap (head_of g) (count-put_all σ xs) ∙ h;
  arity = count-put_all σ xs ∙ sym (head_arity g (count xs)) ∙ ap arity_of h;
}
now_next σ (variable v) ws qs c f h e = absurd (f v (sym h))

-- a cell that is no variable agrees with a term
pub met_cell : (t : State) (ds : Domains ℕ) (cs : List Value) (c : Cell) (u : Tree ℕ) (ws qs : Trees ℕ) → AreBound t ds cs → IsFixed c → cell_of u ≡ c → qs ≡ join (arguments u) ws → IsMet t ds cs cs c (more u ws) qs
met_cell t ds cs c u ws qs a f h e = record {
  bound = a;
  older = λ s g. g;
  back = λ s ts rs n g k. before_cell ds (domains_now t) s c c ts (put_all (solution t) (more u ws)) rs (put_all (solution t) qs) n (now_next (solution t) u ws qs c f h e) refl f k;
}

-- a variable
pub met_variable : (t : State) (ds : Domains ℕ) (old new : List Value) (v : ℕ) (c : Value) (ws : Trees ℕ) → IsBound t ds old new v c → IsMet t ds old new (cells.Var v) (more (value_term t.heap.items c) ws) ws
met_variable t ds old new v c ws b = record {
  bound = b.bound;
  older = b.older;
  back = λ s ts rs n g k. subst (λ x. TakesNow t ds s x (more (value_term t.heap.items c) ws)) (sym (variable_next v ts rs n)) (takes s rs g k);
}
  where
    given : (s : ℕ → Tree ℕ) → Gives t s new → s v ≡ now_term t c
    given s g = g v b.within ∙ b.same

    goes : (s : ℕ → Tree ℕ) (rs : Trees ℕ) → Gives t s new → TakesNow t ds s rs ws → (w : ℕ) → IsIn w (v ∷ variables_all rs) → MayGo (domains_now t) (ds w) (s w)
    goes s rs g k w (inl e) = subst (λ x. MayGo (domains_now t) (ds x) (s x)) e (subst (MayGo (domains_now t) (ds v)) (sym (g v b.within)) (b.bound.goes v b.within))
    goes s rs g k w (inr i) = k.domains w i

    takes : (s : ℕ → Tree ℕ) (rs : Trees ℕ) → Gives t s new → TakesNow t ds s rs ws → TakesNow t ds s (more (variable v) rs) (more (value_term t.heap.items c) ws)
    takes s rs g k = record { terms = rw (given s g, k.terms) refl; domains = goes s rs g k }

-- a value in place of the term that it is
pub met_seen : (t : State) (ds : Domains ℕ) (old new : List Value) (c : Cell) (u : Tree ℕ) (d : Value) (ws qs : Trees ℕ) → put (solution t) u ≡ now_term t d → IsMet t ds old new c (more (value_term t.heap.items d) ws) qs → IsMet t ds old new c (more u ws) qs
met_seen t ds old new c u d ws qs e m = record {
  bound = m.bound;
  older = m.older;
  back = λ s ts rs n g k. subst (Takes ds (domains_now t) s ts) (ap (λ x. more x (put_all (solution t) ws)) (sym e)) (m.back s ts rs n g k);
}

-- a free variable goes where its domain lies within
pub free_goes : (t : State) (d : Domain) (c : Value) (w : ℕ) → IsGood t → c ≡ now.Variable w → IsNow (store_of t) c → IsWithin d (domains_now t w) → MayGo (domains_now t) (Some d) (now_term t c)
free_goes t d c w g e n h =
    let u : IsUnbound (store_of t) w = subst (IsNow (store_of t)) e n in
    subst (λ x. MayGo (domains_now t) (Some d) (now_term t x)) (sym e) (subst (MayGo (domains_now t) (Some d)) (sym (solution_free t w u.0 g u.1.free)) h)

compound_fixed : (c : Cell) → IsCompound c → IsFixed c
compound_fixed (cells.Int n) h = absurd h
compound_fixed (cells.Atom a) h = absurd h
compound_fixed (cells.Compound f k) h = λ v e. cc
compound_fixed (cells.Var v) h = absurd h

-- a compound, whose arguments are put to the work
pub met_compound : (t : State) (ds : Domains ℕ) (cs : List Value) (c : Cell) (d : Value) (p : ℕ) (ws qs : Trees ℕ) → IsGood t → AreBound t ds cs → d ≡ now.Compound p → IsNow (store_of t) d → cell_at t.heap.items p ≡ c → IsCompound c → qs ≡ join (arguments (term_at t.heap.items p)) ws → IsMet t ds cs cs c (more (value_term t.heap.items d) ws) qs
met_compound t ds cs c d p ws qs g a e n f h q =
    let l : p < length t.heap.items = (subst (IsNow (store_of t)) e n).0 in
    rw e (met_cell t ds cs c (term_at t.heap.items p) ws qs a (compound_fixed c h) (term_cell t.heap.items p g.linked.forest l ∙ f) q)

pub met_int : (t : State) (ds : Domains ℕ) (cs : List Value) (c : Cell) (n : ℤ) (d : Value) (ws : Trees ℕ) → AreBound t ds cs → c ≡ cells.Int n → d ≡ now.Int n → IsMet t ds cs cs c (more (value_term t.heap.items d) ws) ws
met_int t ds cs c n d ws a e f = rw (e, f) (met_cell t ds cs (cells.Int n) (int n) ws ws a (λ v h. cc) refl refl)

pub met_atom : (t : State) (ds : Domains ℕ) (cs : List Value) (c : Cell) (n : ℕ) (d : Value) (ws : Trees ℕ) → AreBound t ds cs → c ≡ cells.Atom n → d ≡ now.Atom n → IsMet t ds cs cs c (more (value_term t.heap.items d) ws) ws
met_atom t ds cs c n d ws a e f = rw (e, f) (met_cell t ds cs (cells.Atom n) (node n none) ws ws a (λ v h. cc) refl refl)

pub met_var : (t : State) (ds : Domains ℕ) (old new : List Value) (c : Cell) (v : ℕ) (d : Value) (ws qs : Trees ℕ) → IsBound t ds old new v d → c ≡ cells.Var v → qs ≡ ws → IsMet t ds old new c (more (value_term t.heap.items d) ws) qs
met_var t ds old new c v d ws qs b e f = rw (e, f) (met_variable t ds old new v d ws b)

-- a compound of the heap, in place of which its arguments are put to the work
pub met_inside : (t : State) (ds : Domains ℕ) (cs : List Value) (c : Cell) (p : ℕ) (ws qs : Trees ℕ) → IsGood t → AreBound t ds cs → p < length t.heap.items → cell_at t.heap.items p ≡ c → IsCompound (cell_at t.heap.items p) → qs ≡ join (arguments (term_at t.heap.items p)) ws → IsMet t ds cs cs c (more (term_at t.heap.items p) ws) qs
met_inside t ds cs c p ws qs g a l f h q = met_cell t ds cs c (term_at t.heap.items p) ws qs a (compound_fixed c (subst IsCompound f h)) (term_cell t.heap.items p g.linked.forest l ∙ f) q

-- two compounds to which two terms are opened
pub open_same : (t : State) (a b : Tree ℕ) (p q : ℕ) → IsGood t → IsOpen (store_of t) a b p q → put (solution t) (term_at t.heap.items p) ≡ put (solution t) (term_at t.heap.items q) → put (solution t) a ≡ put (solution t) b
open_same t a b p q g o e =
    let own = own_domains (store_of t) in
    let i = solution_agrees t g in
    o.left_is own (solution t) i ∙ e ∙ sym (o.right_is own (solution t) i)

-- none is bound yet
pub none_bound : (t : State) (ds : Domains ℕ) (cs : List Value) → cs ≡ [] → AreBound t ds cs
none_bound t ds cs e = rw e (record { now = λ k d l. absurd (omega (arith, l)); goes = λ k l. absurd (omega (arith, l)) })

-- a bound value, as it was read
pub bound_read : (t : State) (cs : List Value) (v : ℕ) (c : Value) → v < length cs → c ≡ get_or cs v c → now_term t (bound_at cs v) ≡ now_term t c
bound_read t cs v c l e = ap (now_term t) (sym (get_or_read_under cs v (length cs) c (now.Int (pos 0)) e l refl))

-- the first cell of a term of the row is met with a value
pub first_met : (t : State) (ds : Domains ℕ) (old new : List Value) (r : Tree ℕ) (cs : List Cell) (d : Value) (ws qs : Trees ℕ) → cs ≡ cells_of r → IsForest cs → 0 < length cs → ws ≡ none → IsMet t ds old new (cell_at cs 0) (more (value_term t.heap.items d) ws) qs → (s : ℕ → Tree ℕ) → Gives t s new → TakesNow t ds s (from cs 1) qs → TakesNow t ds s (more r none) (more (value_term t.heap.items d) none)
first_met t ds old new r cs d ws qs e f l n m s g k =
    let z = m.back s (from cs 0) (from cs 1) (next cs 0 (cells.Int (pos 0)) f l) g k in
    subst (λ z. TakesNow t ds s z (more (value_term t.heap.items d) none)) (whole_one r cs e) (subst (λ z. TakesNow t ds s (from cs 0) (more (value_term t.heap.items d) z)) n z)

-- one more cell is met with the first of the terms that are left
pub next_met : (t : State) (ds : Domains ℕ) (old new : List Value) (cs : List Cell) (at : ℕ) (us vs qs : Trees ℕ) → IsForest cs → at < length cs → vs ≡ us → IsMet t ds old new (cell_at cs at) us qs → (s : ℕ → Tree ℕ) → Gives t s new → TakesNow t ds s (from cs (at + 1)) qs → TakesNow t ds s (from cs at) vs
next_met t ds old new cs at us vs qs f l e m s g k = subst (TakesNow t ds s (from cs at)) (sym e) (m.back s (from cs at) (from cs (at + 1)) (next cs at (cells.Int (pos 0)) f l) g k)

-- a term and those after it
pub both_taken : (t : State) (ds : Domains ℕ) (s : ℕ → Tree ℕ) (r u : Tree ℕ) (rs us : Trees ℕ) → TakesNow t ds s (more r none) (more u none) → TakesNow t ds s rs us → TakesNow t ds s (more r rs) (more u us)
both_taken t ds s r u rs us h k =
    let a = h.terms in
    let b : put s r ≡ put (solution t) u = cc in
    record {
      terms = rw (b, k.terms) refl;
      domains = λ v i. elim (IsIn-either v (variables r) (variables_all rs) i) [ inl x ↦ h.domains v (IsIn-left v (variables r) [] x) | inr y ↦ k.domains v y ];
    }

pub column_taken : (t : State) (ds : Domains ℕ) (s : ℕ → Tree ℕ) (rs us : List (Tree ℕ)) (k : ℕ) (r u : Tree ℕ) → k < length rs → k < length us → r ≡ get_or rs k r → u ≡ get_or us k u → TakesNow t ds s (more r none) (more u none) → TakesNow t ds s (trees_of (drop (k + 1) rs)) (trees_of (drop (k + 1) us)) → TakesNow t ds s (trees_of (drop k rs)) (trees_of (drop k us))
column_taken t ds s rs us k r u l m e f h q =
    subst (TakesNow t ds s (trees_of (drop k rs))) (sym (columns_from us k u m f)) (subst (λ z. TakesNow t ds s z (more u (trees_of (drop (k + 1) us)))) (sym (columns_from rs k r l e)) (both_taken t ds s r u (trees_of (drop (k + 1) rs)) (trees_of (drop (k + 1) us)) h q))

pub no_spans : (ws : List Span) → length ws ≡ 0 → ws ≡ []
no_spans [] h = refl
no_spans (w ∷ ws) h = absurd (cc)

-- nothing is left of a term of the row
pub past_end : (cs : List Cell) (at : ℕ) → length cs ≤ at → from cs at ≡ none
past_end cs at l = ap forest (drop_of_length-le cs l)

-- a row whose terms are taken to the columns covers their row
pub taken_covers : (t : State) (r : Row) (ts us : List (Tree ℕ)) (ds : List (Option (List (ℤ × ℤ)))) (s : ℕ → Tree ℕ) → trees_of ts ≡ r.columns → sets_of ds ≡ r.domains → TakesNow t (domain_at (sets_of ds)) s (trees_of ts) (trees_of us) → RowCovers r (canon nat_eq (record { columns = put_all (solution t) (trees_of us); domains = domains_now t }))
taken_covers t r ts us ds s e f h =
    let p : Pattern ℕ = record { columns = put_all (solution t) (trees_of us); domains = domains_now t } in
    let k = rw (e, f) at h in
    let c : Covers (pattern_of r) p = record { by = s; columns = k.terms; domains = k.domains } in
    covers_through (pattern_of r) p (pattern_of (canon nat_eq p)) c (covers-canon nat_eq nat_eq-IsSame p)

-- the row of columns, with all bindings in place
pub row_now : (t : State) (rs : List Row) (us : List (Tree ℕ)) → states_of t ≡ rs → All (IsOver (present rs)) us → canon nat_eq (record { columns = put_all (solution t) (trees_of us); domains = domains_now t }) ≡ row_in (present rs) us
row_now t rs us e h = ap (λ xs. canon nat_eq (record { columns = xs; domains = domains_now t })) (put-trees_of (solution t) us) ∙ resolved_row t rs us e (all_among t rs us e h)

-- cells of a term over the slots
pub term_head : (t : State) (r : Tree ℕ) (cs : List Cell) → cs ≡ cells_of r → IsTerm r → IsAmong t.slots.items r → IsHead t.slots.items 0 cs
term_head t r cs e w a = record { forest = whole_forest r cs e w; among = λ p v h. omega (arith, cells_among t.slots.items r cs e a p v h) }

-- a column that is no compound, in place of which its value is covered
pub column_covered : (t : State) (ds : Domains ℕ) (old new : List Value) (ts : Trees ℕ) (r : Tree ℕ) (cs : List Cell) (c : Value) → IsGood t → cs ≡ cells_of r → IsLeaf (store_of t) 0 cs 0 c → AreCovered t ds old new ts (more (value_term t.heap.items c) none) → AreCovered t ds old new ts (more r none)
column_covered t ds old new ts r cs c g e l h =
    let x : counted_from 0 (term_at cs 0) ≡ r = whole_term r cs 0 e ∙ counted-zero r in
    let y : put (solution t) r ≡ now_term t c = ap (put (solution t)) (sym x) ∙ seen t (counted_from 0 (term_at cs 0)) c g l.value in
    record {
      bound = h.bound;
      older = h.older;
      takes = λ s k. subst (Takes ds (domains_now t) s ts) (ap (λ z. more z none) (sym y)) (h.takes s k);
    }

-- nothing is left of either
pub nothing_taken : (t : State) (ds : Domains ℕ) (s : ℕ → Tree ℕ) → TakesNow t ds s none none
nothing_taken t ds s = record { terms = refl; domains = λ v i. absurd i }
