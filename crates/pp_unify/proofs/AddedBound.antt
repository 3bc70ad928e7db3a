-- The row with one variable more, which is bound.
use Rattle.std.proofs.Common.{◌≡◌, ℕ, suc, ◌+◌, ◌<◌, ◌≤◌, ◌^◌, List, [], ◌∷◌, ◌++◌, true, length, map, None, refl, ap, sym, ◌∙◌, subst, inl, inr, arith, append-nil, length-append}
use Rattle.std.specs.Prelude.{nat_eq}
use Rattle.pp_algebra.specs.Solve.{equation}
use Rattle.pp_heap.specs.Agreement.{Says, Agrees, Follows}
use Rattle.std.proofs.lemmas.List.{get_or_append_left}
use Rattle.std.proofs.Math.Seq.{get_or-append_seam, take-append_seam}
use Rattle.pp_algebra.specs.Terms.{Tree, variable, Trees, none, more, put, put_all, variables, variables_all, join}
use Rattle.pp_algebra.specs.Rows.{Domains}
use Rattle.pp_algebra.specs.Covers.{IsIn}
use Rattle.pp_algebra.specs.Canon.{has, place, firsts, canon}
use Rattle.pp_algebra.proofs.Put.{put-put}
use Rattle.pp_algebra.proofs.Antisym.{put-agree, put_all-agree}
use Rattle.pp_algebra.specs.Numbered.{variables_from}
use Rattle.pp_row.proofs.Numbering.{firsts-append}
use Rattle.pp_heap.specs.declared.state.Slot.TheVariants as slots
use Rattle.pp_heap.specs.declared.state.Value.{Value}
use Rattle.pp_heap.specs.declared.state.Value.TheVariants.{Variable, Int, Atom, Compound}
use Rattle.pp_heap.specs.declared.state.Entry.TheVariants.{Defined}
use Rattle.pp_heap.specs.declared.state.State.{State}
use Rattle.pp_heap.specs.Values.{slot_at, slot_of, slot_term, value_term, slot_domain}
use Rattle.pp_heap.specs.Stores.{Store, store_of, entries_of, before, solution, made, single}
use Rattle.pp_heap.specs.Soundness.{IsLinked, IsTarget, IsStep, IsGood, IsKept}
use Rattle.pp_heap.specs.Outcomes.{IsChange, IsNow, IsValue, IsAddedAs}
use Rattle.pp_unify.specs.States.{in_place, value_in, with_value}
use Rattle.pp_unify.specs.Tops.{IsAmong}
use Rattle.pp_heap.proofs.Made.{single_same, untouched}
use Rattle.pp_heap.proofs.Solutions.{own_domains, solution_free, solution_agrees}
use Rattle.pp_unify.proofs.Heaps.{variable_cell}
use Rattle.pp_unify.proofs.Among.{IsBelow, comes_from, put_below, variable_below, made_among}
use Rattle.pp_heap.proofs.Slots.{never_free, one_value, slot_term-slot_of, bound_says, agrees_bound}
use Rattle.pp_heap.proofs.Changes.{same_or_not, below_or, at_past}
use Rattle.pp_heap.proofs.Growing.{with_slots}
use Rattle.pp_heap.proofs.Keeping.{good_change, kept_change, solution_change}
use Rattle.pp_unify.proofs.Adding.{firsts-from, map-agree, from-push, values_below, more_slot}
use Rattle.pp_unify.proofs.Present.{number, value_now, has_name}
use Rattle.pp_unify.proofs.Verdicts.{row_of}
use Rattle.pp_algebra.proofs.Numbered.{from-below}
use Rattle.pp_algebra.proofs.Joined.{variables_all-join, put_all-join}

-- the variables of a value have slots
value_below : (st : Store) (c : Value) → IsLinked st → IsNow st c → IsBelow (length st.slots) (value_term st.heap c)
value_below st (Variable x) l n = variable_below (length st.slots) x n.1.within
value_below st (Int k) l n = λ w i. absurd i
value_below st (Atom a) l n = λ w i. absurd i
value_below st (Compound p) l n = λ w i. let r = variable_cell st.heap p w l.forest n.0 i in l.variables r.0 w r.1

solved_below : (s : State) (t : Tree ℕ) → IsGood s → IsBelow (length s.slots.items) t → IsBelow (length s.slots.items) (put (solution s) t)
unfolding solution
solved_below s t g b = put_below (length s.slots.items) (made (entries_of s) (store_of s)) t (λ v i. made_among (entries_of s) (store_of s) g.sound g.linked v (b v i))

new_target : (st : Store) (c : Value) → IsNow st c → IsTarget st.heap (length st.slots) c
new_target st (Variable x) n = n.1.within
new_target st (Int k) n = n
new_target st (Atom a) n = n
new_target st (Compound p) n = n

pub few_defined : (old new : State) (c : Value) (n : ℕ) → n ≡ length old.slots.items → n < 2 ^ 32 → IsChange old new (Defined (length old.slots.items)) (with_slots (store_of old) (slot_of c ∷ [])) → length new.slots.items ≤ 2 ^ 32
few_defined old new c n e l h = omega (arith, e, l, ap (λ (z : Store). length z.slots) h.store, length-append old.slots.items (slot_of c ∷ []))

-- a variable was added, bound
module _ (old new : State) (c : Value) (g : IsGood old) (n : IsNow (store_of old) c) (h : IsChange old new (Defined (length old.slots.items)) (with_slots (store_of old) (slot_of c ∷ []))) where
  abbrev last : ℕ
  last = length old.slots.items

  abbrev wider : Store
  wider = with_slots (store_of old) (slot_of c ∷ [])

  abbrev term : Tree ℕ
  term = value_term old.heap.items c

  back : before (Defined last) wider ≡ store_of old
  back = ap (λ x. let r : Store = record { heap = old.heap.items; domains = old.domains.items; slots = x } in r) (take-append_seam old.slots.items (slot_of c ∷ []))

  at_last : slot_at wider.slots last ≡ slot_of c
  at_last = get_or-append_seam old.slots.items (slot_of c) [] (slots.Free None)

  at_others : (v : ℕ) → (v ≡ last → ⊥) → slot_at wider.slots v ≡ slot_at old.slots.items v
  at_others v d = elim (below_or v last) [
    | inl l ↦ get_or_append_left old.slots.items (slot_of c ∷ []) (slots.Free None) v l
    | inr l ↦ at_past wider.slots v (let e = length-append old.slots.items (slot_of c ∷ []) in omega (arith, l, e, other_last v d l)) ∙ sym (at_past old.slots.items v l)
  ]
    where
      other_last : (v : ℕ) → (v ≡ last → ⊥) → last ≤ v → suc last ≤ v
      other_last v d l = elim (below_or last v) [ inl k ↦ k | inr k ↦ absurd (d (omega (arith, l, k))) ]

  below : IsBelow last (put (solution old) term)
  below = solved_below old term g (value_below (store_of old) c g.linked n)

  not_below : (t : Tree ℕ) → IsBelow last t → IsIn last (variables t) → ⊥
  not_below t k i = let l = k last i in absurd (omega (arith, l))

  linked : IsLinked wider
  linked = record {
    forest = g.linked.forest;
    variables = λ p v e. let l = g.linked.variables p v e in omega (arith, l, length-append old.slots.items (slot_of c ∷ []));
    bound = λ v b e. elim (same_or_not v last) [
      | inl i ↦ (
          let k : c ≡ b = one_value c b (sym at_last ∙ ap (slot_at wider.slots) (sym i) ∙ e) in
          subst (λ z. IsTarget old.heap.items v z) k (subst (λ z. IsTarget old.heap.items z c) (sym i) (new_target (store_of old) c n)))
      | inr i ↦ g.linked.bound v b (sym (at_others v i) ∙ e)
    ];
    free = λ v d e. elim (same_or_not v last) [
      | inl i ↦ absurd (never_free c d (sym at_last ∙ ap (slot_at wider.slots) (sym i) ∙ e))
      | inr i ↦ g.linked.free v d (sym (at_others v i) ∙ e)
    ];
    wide = g.linked.wide;
  }

  step : IsStep (Defined last) (entries_of old) wider
  unfolding solution
  step = (
    c,
    at_last,
    (λ i. not_below (put (solution old) term) below (subst (λ (z : Store). IsIn last (variables (put (made (entries_of old) z) term))) back i)),
    length-append old.slots.items (slot_of c ∷ []) ∙ omega arith,
  )

  pub defined_good : length new.slots.items ≤ 2 ^ 32 → IsGood new
  defined_good few = good_change old new (Defined last) wider g h back step linked g.small (subst (λ (z : Store). length z.slots ≤ 2 ^ 32) h.store few)

  pub defined_kept : IsKept old new
  defined_kept = kept_change old new (Defined last) wider h back

  changes : (v : ℕ) → solution new v ≡ put (single last (put (solution old) term)) (solution old v)
  changes v =
      solution_change old new (Defined last) wider h back v
      ∙ ap (λ k. put (single last (put (solution old) (slot_term old.heap.items k last))) (solution old v)) at_last
      ∙ ap (λ t. put (single last (put (solution old) t)) (solution old v)) (slot_term-slot_of old.heap.items c last)

  pub defined_as : IsAddedAs old new c
  defined_as = record {
    slots = ap (λ (z : Store). z.slots) h.store;
    domains = ([], ap (λ (z : Store). z.domains) h.store ∙ sym (append-nil old.domains.items));
    same = λ v l. changes v ∙ untouched last (put (solution old) term) (solution old v) (not_below (solution old v) (solved_below old (variable v) g (variable_below last v l)));
    last = changes last ∙ ap (put (single last (put (solution old) term))) (solution_free old last None g (at_past old.slots.items last (omega arith))) ∙ single_same last (put (solution old) term);
  }

  says_old : (ds : Domains ℕ) (s : ℕ → Tree ℕ) (v : ℕ) → Agrees wider ds s → Says (store_of old) ds s v (slot_at old.slots.items v)
  says_old ds s v a = elim (same_or_not v last) [
    | inl i ↦ subst (Says (store_of old) ds s v) (sym (at_past old.slots.items v (omega (arith, i)))) tt
    | inr i ↦ subst (Says (store_of old) ds s v) (at_others v i) (a v)
  ]

  says_new : (ds : Domains ℕ) (s : ℕ → Tree ℕ) (v : ℕ) → Agrees (store_of old) ds s → s last ≡ put s term → Says (store_of old) ds s v (slot_at wider.slots v)
  says_new ds s v a e = elim (same_or_not v last) [
    | inl i ↦ subst (λ w. Says (store_of old) ds s w (slot_at wider.slots w)) (sym i) (subst (Says (store_of old) ds s last) (sym at_last) (bound_says (store_of old) ds s last c e))
    | inr i ↦ subst (Says (store_of old) ds s v) (sym (at_others v i)) (a v)
  ]

  -- with no occurs check
  pub defined_follows : Follows old new (equation (variable last) term)
  defined_follows ds s w = (
    (λ a. let b : Agrees wider ds s = subst (λ (z : Store). Agrees z ds s) h.store a in ((λ v. says_old ds s v b), agrees_bound wider ds s last c b at_last)),
    λ q. subst (λ (z : Store). Agrees z ds s) (sym h.store) (λ v. says_new ds s v q.0 q.1),
  )

firsts_old : (seen vs : List ℕ) → ((w : ℕ) → IsIn w vs → has nat_eq seen w ≡ true) → firsts nat_eq seen vs ≡ seen
firsts_old seen [] h = refl
firsts_old seen (x ∷ vs) h = rw (h x (inl refl)) (firsts_old seen vs (λ w i. h w (inr i)))

-- a column more whose variables stand in the others
canon_more : (ts : Trees ℕ) (u : Tree ℕ) (D E : Domains ℕ) → ((w : ℕ) → IsIn w (variables u) → has nat_eq (firsts nat_eq [] (variables_all ts)) w ≡ true) → ((w : ℕ) → IsIn w (variables_all ts) → E w ≡ D w) → canon nat_eq (record { columns = join ts (more u none); domains = E }) ≡ with_value (canon nat_eq (record { columns = ts; domains = D })) (put (λ v. variable (place nat_eq (firsts nat_eq [] (variables_all ts)) v)) u)
canon_more ts u D E seen same =
    let vs = firsts nat_eq [] (variables_all ts) in
    let names : firsts nat_eq [] (variables_all (join ts (more u none))) ≡ vs =
    ap (firsts nat_eq []) (variables_all-join ts (more u none)) ∙ firsts-append nat_eq [] (variables_all ts) (variables u ++ []) ∙ firsts_old vs (variables u ++ []) (λ w i. seen w (subst (IsIn w) (append-nil (variables u)) i)) in
    ap (λ ns. record { columns = put_all (λ v. variable (place nat_eq ns v)) (join ts (more u none)); domains = map E ns }) names
    ∙ rw (put_all-join (λ v. variable (place nat_eq vs v)) ts (more u none), map-agree E D vs (λ w i. same w (firsts-from (variables_all ts) w i))) refl

pub added_as_row : (old new : State) (c : Value) → IsGood old → IsNow (store_of old) c → IsAddedAs old new c → row_of new ≡ with_value (row_of old) (put (number (entries_of old) (store_of old)) (put (solution old) (value_term old.heap.items c)))
unfolding solution
added_as_row old new c g n a =
    let es = entries_of old in
    let st = store_of old in
    let k = length old.slots.items in
    let m = made es st in
    let m' = made (entries_of new) (store_of new) in
    let u = put m (value_term old.heap.items c) in
    let ts = put_all m (variables_from 0 k) in
    let longer : length new.slots.items ≡ suc k = ap length a.slots ∙ length-append old.slots.items (slot_of c ∷ []) ∙ omega arith in
    let last : m' (0 + k) ≡ u = ap m' (omega arith) ∙ a.last in
    let columns : put_all m' (variables_from 0 (length new.slots.items)) ≡ join ts (more u none) =
    ap (λ j. put_all m' (variables_from 0 j)) longer ∙ from-push m' 0 k ∙ rw (last, put_all-agree m' m (variables_from 0 k) (λ v i. a.same v (let l = from-below 0 k v i in omega (arith, l)))) refl in
    let E : Domains ℕ = λ w. slot_domain new.domains.items (slot_at new.slots.items w) in
    let D : Domains ℕ = λ w. slot_domain old.domains.items (slot_at old.slots.items w) in
    let same : (w : ℕ) → w < k → E w ≡ D w = λ w l.
    ap (λ ss. slot_domain new.domains.items (slot_at ss w)) a.slots
    ∙ ap (slot_domain new.domains.items) (get_or_append_left old.slots.items (slot_of c ∷ []) (slots.Free None) w l)
    ∙ ap (λ ds. slot_domain ds (slot_at old.slots.items w)) a.domains.1
    ∙ more_slot old.domains.items a.domains.0 (slot_at old.slots.items w) (λ e f. g.linked.free w e f) in
    ap (λ us. canon nat_eq (record { columns = us; domains = E })) columns
    ∙ canon_more ts u D E (λ w i. let r = comes_from m (value_term old.heap.items c) w i in has_name es st r.0 w (value_below st c g.linked n r.0 r.1) r.2) (λ w i. same w (values_below old w g i))

-- the new column is the term that the value is
pub kept_row : (old new : State) (t : Tree ℕ) (c : Value) → IsGood old → IsAmong old.slots.items t → IsValue (store_of old) t c → IsAddedAs old new c → row_of new ≡ with_value (row_of old) (in_place (row_of old) t)
unfolding solution
kept_row old new t c g h v a =
    let es = entries_of old in
    let st = store_of old in
    let m = made es st in
    added_as_row old new c g v.now a
    ∙ ap (with_value (row_of old)) (
    ap (put (number es st)) (sym (v.same (own_domains st) (solution old) (solution_agrees old g)))
    ∙ put-put (number es st) m t
    ∙ put-agree (λ w. put (number es st) (m w)) (value_in (row_of old)) t (λ w i. sym (value_now es st w (h w i)))
    )
