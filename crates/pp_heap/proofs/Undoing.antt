-- The last change is undone.
use Rattle.std.proofs.Common.{◌≡◌, ℕ, ◌<◌, ◌≤◌, ◌^◌, List, [], ◌∷◌, length, sym, subst, arith, length-set}
use Rattle.std.proofs.lemmas.List.{length-take}
use Rattle.pp_heap.specs.declared.state.Entry.{Entry}
use Rattle.pp_heap.specs.declared.state.Entry.TheVariants.{Grown, Held, Bound, Narrowed, Added, Defined}
use Rattle.pp_heap.specs.declared.state.Slot.TheVariants.{Free}
use Rattle.pp_heap.specs.declared.state.State.{State}
use Rattle.pp_heap.specs.Stores.{Store, store_of, entries_of, before}
use Rattle.pp_heap.specs.Soundness.{IsLinked, IsStep, IsSound, IsWithin, IsGood, IsKept}
use Rattle.pp_heap.proofs.Changes.{bound_within}

-- a change names a variable that is there
pub step_within : (e : Entry) (es : List Entry) (st : Store) → IsStep e es st → IsWithin e st
step_within (Grown n) es st h = tt
step_within (Held n) es st h = tt
step_within (Bound x d) es st h = bound_within st.slots x h.0 h.1
step_within (Narrowed x d) es st h = h.2
step_within (Added n) es st h = tt
step_within (Defined n) es st h = tt

smaller : (e : Entry) (st : Store) (n : ℕ) → length st.heap < n → length (before e st).heap < n
smaller (Grown k) st n h = omega (arith, length-take k st.heap)
smaller (Held k) st n h = h
smaller (Bound x d) st n h = h
smaller (Narrowed x d) st n h = h
smaller (Added k) st n h = h
smaller (Defined k) st n h = h

fewer : (e : Entry) (st : Store) (n : ℕ) → length st.slots ≤ n → length (before e st).slots ≤ n
fewer (Grown k) st n h = h
fewer (Held k) st n h = h
fewer (Bound x d) st n h = omega (arith, h, length-set st.slots x (Free d))
fewer (Narrowed x d) st n h = omega (arith, h, length-set st.slots x (Free d))
fewer (Added k) st n h = omega (arith, length-take k st.slots)
fewer (Defined k) st n h = omega (arith, length-take k st.slots)

-- new is old before its last change
pub record IsUndone (old new : State) (e : Entry) : Type 0 where
  pub entries : entries_of old ≡ e ∷ entries_of new
  pub store : store_of new ≡ before e (store_of old)

sound_at : (old new : State) (e : Entry) → IsGood old → IsUndone old new e → IsSound (e ∷ entries_of new) (store_of old)
sound_at old new e g u = subst (λ es. IsSound es (store_of old)) u.entries g.sound

pub undone_good : (old new : State) (e : Entry) → IsGood old → IsUndone old new e → IsGood new
undone_good old new e g u =
    let s = sound_at old new e g u in
    record {
      linked = subst IsLinked (sym u.store) s.1;
      sound = subst (IsSound (entries_of new)) (sym u.store) s.2;
      small = subst (λ (z : Store). length z.heap < 2 ^ 32) (sym u.store) (smaller e (store_of old) (2 ^ 32) g.small);
      few = subst (λ (z : Store). length z.slots ≤ 2 ^ 32) (sym u.store) (fewer e (store_of old) (2 ^ 32) g.few);
    }

pub undone_kept : (old new : State) (e : Entry) → IsUndone old new e → IsKept new old
undone_kept old new e u = record { later = e ∷ []; entries = u.entries; undone = sym u.store }
