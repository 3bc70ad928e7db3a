-- One change more keeps what was known before it.
use Rattle.std.proofs.Common.{◌≡◌, ℕ, ◌<◌, ◌≤◌, ◌^◌, List, [], ◌∷◌, ◌++◌, length, refl, ap, sym, ◌∙◌, subst, append_assoc, reverse}
use Rattle.std.proofs.lemmas.List.{reverse-append}
use Rattle.pp_algebra.specs.Terms.{put}
use Rattle.pp_heap.specs.declared.state.Entry.{Entry}
use Rattle.pp_heap.specs.declared.state.State.{State}
use Rattle.pp_heap.specs.Stores.{Store, store_of, entries_of, before, undone, made, step_by, solution}
use Rattle.pp_heap.specs.Soundness.{IsLinked, IsStep, IsSound, IsGood, IsKept}
use Rattle.pp_heap.specs.Outcomes.{IsChange, IsSame}

pub kept_itself : (t : State) → IsKept t t
kept_itself t = record { later = []; entries = refl; undone = refl }

undone-append : (es fs : List Entry) (st : Store) → undone (es ++ fs) st ≡ undone fs (undone es st)
undone-append [] fs st = refl
undone-append (e ∷ es) fs st = undone-append es fs (before e st)

pub kept_through : (a b c : State) → IsKept a b → IsKept b c → IsKept a c
kept_through a b c k l = record {
  later = l.later ++ k.later;
  entries = l.entries ∙ ap (λ es. l.later ++ es) k.entries ∙ sym (append_assoc l.later k.later (entries_of a));
  undone = undone-append l.later k.later (store_of c) ∙ ap (undone k.later) l.undone ∙ k.undone;
}

pub kept_change : (old new : State) (e : Entry) (st : Store) → IsChange old new e st → before e st ≡ store_of old → IsKept old new
kept_change old new e st c b = record { later = e ∷ []; entries = c.entries; undone = ap (before e) c.store ∙ b }

pub kept_same : (old new : State) → IsSame old new → IsKept old new
kept_same old new s = record { later = []; entries = s.entries; undone = s.store }

small_by : (old new : State) (st : Store) → store_of new ≡ st → length st.heap < 2 ^ 32 → length new.heap.items < 2 ^ 32
small_by old new st e l = subst (λ (z : Store). length z.heap < 2 ^ 32) (sym e) l

few_by : (old new : State) (st : Store) → store_of new ≡ st → length st.slots ≤ 2 ^ 32 → length new.slots.items ≤ 2 ^ 32
few_by old new st e l = subst (λ (z : Store). length z.slots ≤ 2 ^ 32) (sym e) l

pub good_change : (old new : State) (e : Entry) (st : Store) → IsGood old → IsChange old new e st → before e st ≡ store_of old → IsStep e (entries_of old) st → IsLinked st → length st.heap < 2 ^ 32 → length st.slots ≤ 2 ^ 32 → IsGood new
good_change old new e st g c b s l m n = record {
  linked = subst IsLinked (sym c.store) l;
  sound = subst (λ es. IsSound es (store_of new)) (sym c.entries) (subst (IsSound (e ∷ entries_of old)) (sym c.store) (s, subst IsLinked (sym b) g.linked, subst (IsSound (entries_of old)) (sym b) g.sound));
  small = small_by old new st c.store m;
  few = few_by old new st c.store n;
}

pub good_same : (old new : State) → IsGood old → IsSame old new → IsGood new
good_same old new g s = record {
  linked = subst IsLinked (sym s.store) g.linked;
  sound = subst (λ es. IsSound es (store_of new)) (sym s.entries) (subst (IsSound (entries_of old)) (sym s.store) g.sound);
  small = small_by old new (store_of old) s.store g.small;
  few = few_by old new (store_of old) s.store g.few;
}

-- what the change does to the substitution
pub solution_change : (old new : State) (e : Entry) (st : Store) → IsChange old new e st → before e st ≡ store_of old → (v : ℕ) → solution new v ≡ put (step_by e st (solution old)) (solution old v)
unfolding solution
solution_change old new e st c b v =
    ap (λ es. made es (store_of new) v) c.entries
    ∙ ap (λ (z : Store). made (e ∷ entries_of old) z v) c.store
    ∙ ap (λ (z : Store). put (step_by e st (made (entries_of old) z)) (made (entries_of old) z v)) b

pub solution_same : (old new : State) → IsSame old new → (v : ℕ) → solution new v ≡ solution old v
unfolding solution
solution_same old new s v = ap (λ es. made es (store_of new) v) s.entries ∙ ap (λ (z : Store). made (entries_of old) z v) s.store

pub reversed : (es : List Entry) (e : Entry) → reverse (es ++ e ∷ []) ≡ e ∷ reverse es
reversed es e = reverse-append es (e ∷ [])

-- the trail after a push
pub entries_push : (es fs : List Entry) (e : Entry) → fs ≡ es ++ e ∷ [] → reverse fs ≡ e ∷ reverse es
entries_push es fs e h = ap reverse h ∙ reversed es e
