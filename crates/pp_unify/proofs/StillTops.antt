-- Variables whose slots look alike in two states have the same tops in their rows.
use Rattle.std.proofs.Common.{◌≡◌, ℕ, ℤ, zero, suc, ◌<◌, ◌≤◌, Bool, true, false, List, [], ◌∷◌, ◌++◌, length, take, drop, reverse, Option, Some, None, inl, refl, ap, sym, ◌∙◌, subst, arith, take-append-drop, length-drop}
use Rattle.std.specs.List.{list_all}
use Rattle.std.proofs.lemmas.List.{length-reverse, length-take, reverse-append}
use Rattle.std.proofs.Math.Seq.{take-append_seam}
use Rattle.pp_algebra.specs.Terms.{put, variables, count}
use Rattle.pp_algebra.specs.Rows.{Row}
use Rattle.pp_algebra.specs.Covers.{IsIn}
use Rattle.pp_algebra.specs.Givens.{Given, integer, other, given, given_variable}
use Rattle.pp_heap.specs.declared.state.Slot.TheVariants as slots
use Rattle.pp_heap.specs.declared.state.Value.{Value}
use Rattle.pp_heap.specs.declared.state.Value.TheVariants.{Variable, Int, Atom, Compound}
use Rattle.pp_heap.specs.declared.state.Entry.{Entry}
use Rattle.pp_heap.specs.declared.state.State.{State}
use Rattle.pp_heap.specs.Values.{slot_at, slot_of, slot_domain, domain_by, value_term, term_at}
use Rattle.pp_heap.specs.Stores.{Store, store_of, entries_of, undone, made}
use Rattle.pp_heap.specs.Soundness.{IsLinked, IsSound, IsGood}
use Rattle.pp_heap.proofs.Slots.{Kind, is_free, is_bound, kind}
use Rattle.pp_heap.proofs.Made.{made_free, made_equates}
use Rattle.pp_unify.specs.States.{present, value_in, row_at, states, states_of}
use Rattle.pp_unify.specs.Still.{AreStill, is_unseen}
use Rattle.pp_unify.proofs.Heaps.{IsNamed, compound_named}
use Rattle.pp_unify.proofs.Kept.{longer, length-states, length-states_of, present-states, present-states_of}
use Rattle.pp_unify.proofs.Present.{count_row, number, value_now, has_name, domain_named}
use Rattle.pp_unify.proofs.Unseen.{Alike, same, ranged, fewer_undone, sound_undone, alike_undone, all_reversed}

-- what is known of a variable in the row
pub given_at : List Entry → Store → ℕ → Given
given_at es st v = given (row_at es st).domains (value_in (row_at es st) v)

module _ (es : List Entry) (st : Store) (linked : IsLinked st) (sound : IsSound es st) (v : ℕ) (w : v < length st.slots) where
  of_free : (d : Option ℕ) → slot_at st.slots v ≡ slots.Free d → given_at es st v ≡ given_variable (domain_by st.domains d)
  unfolding given_at
  of_free d h =
      let m = made_free es st v d sound h in
      ap (given (row_at es st).domains) (value_now es st v w ∙ ap (put (number es st)) m)
      ∙ ap given_variable (domain_named es st v (has_name es st v v w (subst (λ t. IsIn v (variables t)) (sym m) (inl refl))))
      ∙ ap (λ c. given_variable (slot_domain st.domains c)) h

  bound_is : (c : Value) → slot_at st.slots v ≡ slot_of c → value_in (row_at es st) v ≡ put (number es st) (put (made es st) (value_term st.heap c))
  bound_is c h = value_now es st v w ∙ ap (put (number es st)) (made_equates es st linked sound v c h)

  of_alias : (x : ℕ) → slot_at st.slots v ≡ slots.Alias x → (x < v) × (given_at es st v ≡ given_at es st x)
  unfolding given_at
  of_alias x h =
      let l : x < v = linked.bound v (Variable x) h in
      (l, ap (given (row_at es st).domains) (bound_is (Variable x) h ∙ sym (value_now es st x (omega (arith, l, w)))))

  of_integer : (n : ℤ) → slot_at st.slots v ≡ slots.Int n → given_at es st v ≡ integer n
  unfolding given_at
  of_integer n h = ap (given (row_at es st).domains) (bound_is (Int n) h)

  of_atom : (a : ℕ) → slot_at st.slots v ≡ slots.Atom a → given_at es st v ≡ other
  unfolding given_at
  of_atom a h = ap (given (row_at es st).domains) (bound_is (Atom a) h)

  of_compound : (p : ℕ) → slot_at st.slots v ≡ slots.Compound p → given_at es st v ≡ other
  unfolding given_at
  of_compound p h =
      let t = linked.bound v (Compound p) h in
      let o : IsNamed (term_at st.heap p) = compound_named st.heap p linked.forest t.0 t.1 in
      ap (given (row_at es st).domains) (bound_is (Compound p) h ∙ ap (λ u. put (number es st) (put (made es st) u)) o.is)

same_given : (ds es : List (List (ℤ × ℤ))) (d : Option ℕ) → given_variable (domain_by ds d) ≡ given_variable (domain_by es d)
same_given ds es None = refl
same_given ds es (Some p) = refl

-- r is the earlier state
module _ (es : List Entry) (st : Store) (l : IsLinked st) (s : IsSound es st) (es' : List Entry) (st' : Store) (l' : IsLinked st') (s' : IsSound es' st')
    (k : ℕ) (few : k ≤ length st.slots) (few' : k ≤ length st'.slots) (alike : (v : ℕ) → v < k → Alike (slot_at st.slots v) (slot_at st'.slots v)) where
  same_bound : (v : ℕ) → v < k → ((x : ℕ) → x < v → given_at es' st' x ≡ given_at es st x) → (c : Value) → slot_at st.slots v ≡ slot_of c → slot_at st'.slots v ≡ slot_of c → given_at es' st' v ≡ given_at es st v
  same_bound v b ih (Variable x) h h' =
      let o = of_alias es st l s v (omega (arith, b, few)) x h in
      let o' = of_alias es' st' l' s' v (omega (arith, b, few')) x h' in
      o'.1 ∙ ih x o.0 ∙ sym o.1
  same_bound v b ih (Int n) h h' = of_integer es' st' l' s' v (omega (arith, b, few')) n h' ∙ sym (of_integer es st l s v (omega (arith, b, few)) n h)
  same_bound v b ih (Atom a) h h' = of_atom es' st' l' s' v (omega (arith, b, few')) a h' ∙ sym (of_atom es st l s v (omega (arith, b, few)) a h)
  same_bound v b ih (Compound p) h h' = of_compound es' st' l' s' v (omega (arith, b, few')) p h' ∙ sym (of_compound es st l s v (omega (arith, b, few)) p h)

  same_free : (v : ℕ) → v < k → (d e : Option ℕ) → slot_at st.slots v ≡ slots.Free d → slot_at st'.slots v ≡ slots.Free e → ((ds ds' : List (List (ℤ × ℤ))) → given_variable (domain_by ds' e) ≡ given_variable (domain_by ds d)) → given_at es' st' v ≡ given_at es st v
  same_free v b d e h h' g = of_free es' st' l' s' v (omega (arith, b, few')) e h' ∙ g st.domains st'.domains ∙ sym (of_free es st l s v (omega (arith, b, few)) d h)

  same_kind : (v : ℕ) → v < k → ((x : ℕ) → x < v → given_at es' st' x ≡ given_at es st x) → Kind (slot_at st.slots v) → slot_at st.slots v ≡ slot_at st'.slots v → given_at es' st' v ≡ given_at es st v
  same_kind v b ih (is_free d q) e = same_free v b d d q (sym e ∙ q) (λ ds ds'. same_given ds' ds d)
  same_kind v b ih (is_bound c q) e = same_bound v b ih c q (sym e ∙ q)

  same_alike : (v : ℕ) → v < k → ((x : ℕ) → x < v → given_at es' st' x ≡ given_at es st x) → Alike (slot_at st.slots v) (slot_at st'.slots v) → given_at es' st' v ≡ given_at es st v
  same_alike v b ih (same e) = same_kind v b ih (kind (slot_at st.slots v)) e
  same_alike v b ih (ranged d e p q) = same_free v b (Some d) (Some e) p q (λ ds ds'. refl)

  same_under : (n v : ℕ) → v < n → v < k → given_at es' st' v ≡ given_at es st v
  same_under zero v a b = absurd (omega (arith, a))
  same_under (suc n) v a b = same_alike v b (λ x c. same_under n x (omega (arith, a, c)) (omega (arith, b, c))) (alike v b)

  pub tops_still : AreStill k (row_at es st) (row_at es' st')
  unfolding given_at
  tops_still v b = same_under (suc v) v (omega arith) b

-- the changes since the trail had this length, and those before
module _ (s : State) (rs : List Row) (e : states_of s ≡ rs) (mark : ℕ) (there : mark < length rs) where
  abbrev first : List Entry
  first = reverse (take mark s.trail.items)

  abbrev later : List Entry
  later = reverse (drop mark s.trail.items)

  abbrev earlier : Store
  earlier = undone later (store_of s)

  entries_are : entries_of s ≡ later ++ first
  entries_are = ap reverse (sym (take-append-drop mark s.trail.items)) ∙ reverse-append (take mark s.trail.items) (drop mark s.trail.items)

  pub within : mark ≤ length s.trail.items
  within = omega (arith, there, ap length (sym e), length-states_of s)

  first_size : length first ≡ mark
  first_size = length-reverse (take mark s.trail.items) ∙ omega (arith, within, length-take mark s.trail.items)

  -- the row of the marked state
  pub marked : present (take (suc mark) rs) ≡ row_at first earlier
  marked =
      let m = longer later first (store_of s) in
      let all : rs ≡ states first earlier ++ m.0 = sym e ∙ ap (λ es. states es (store_of s)) entries_are ∙ m.1 in
      ap (λ xs. present (take (suc mark) xs)) all
      ∙ ap (λ n. present (take n (states first earlier ++ m.0))) (sym (length-states first earlier ∙ ap suc first_size))
      ∙ ap present (take-append_seam (states first earlier) m.0)
      ∙ present-states first earlier

  now : present rs ≡ row_at (entries_of s) (store_of s)
  now = ap present (sym e) ∙ present-states_of s

  module _ (good : IsGood s) (k : ℕ) (few : k ≤ count (present (take (suc mark) rs)).columns) where
    few_then : k ≤ length earlier.slots
    few_then = subst (λ n. k ≤ n) (ap (λ r. count r.columns) marked ∙ count_row first earlier) few

    few_now : k ≤ length s.slots.items
    few_now = omega (arith, few_then, fewer_undone later (store_of s))

    pub still_there : k ≤ count (present rs).columns
    still_there = subst (λ n. k ≤ n) (sym (ap (λ r. count r.columns) now ∙ count_row (entries_of s) (store_of s))) few_now

    pub are_still : list_all (is_unseen s.slots.items k) (drop mark s.trail.items) ≡ true → AreStill k (present (take (suc mark) rs)) (present rs)
    are_still u =
        let before = sound_undone later first (store_of s) good.linked (subst (λ es. IsSound es (store_of s)) entries_are good.sound) in
        subst (λ r. AreStill k r (present rs)) (sym marked)
        (subst (λ q. AreStill k (row_at first earlier) q) (sym now)
        (tops_still first earlier before.0 before.1 (entries_of s) (store_of s) good.linked good.sound k few_then few_now
        (alike_undone later (store_of s) k (all_reversed (is_unseen s.slots.items k) (drop mark s.trail.items) u) few_then)))

  -- nothing was changed since
  nothing_since : (p : Entry → Bool) (es : List Entry) → list_all p es ≡ false → 0 < length es
  nothing_since p [] h = absurd (cc)
  nothing_since p (x ∷ es) h = omega arith

  pub some_since : (p : Entry → Bool) → list_all p (drop mark s.trail.items) ≡ false → suc mark < length rs
  some_since p h = let n = nothing_since p (drop mark s.trail.items) h in omega (arith, n, length-drop mark s.trail.items, ap length (sym e), length-states_of s)
