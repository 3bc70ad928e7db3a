-- A variable is bound, or gets another domain.
use Rattle.std.proofs.Common.{◌≡◌, ℕ, suc, ◌+◌, ◌*◌, ◌≤◌, length, Option, ap, sym, ◌∙◌, subst, arith, length-set}
use Rattle.std.proofs.Math.Nat.{mul-le-mul_left}
use Rattle.pp_algebra.specs.Terms.{Tree, Trees, put, put_all, variables, size, size_all}
use Rattle.pp_algebra.specs.Rows.{Domains}
use Rattle.pp_algebra.specs.Covers.{IsIn, MayGo}
use Rattle.pp_algebra.proofs.Put.{put-variable, put_all-put_all}
use Rattle.pp_algebra.proofs.Antisym.{put_all-agree}
use Rattle.pp_heap.specs.declared.state.Slot.{Slot}
use Rattle.pp_heap.specs.declared.state.Slot.TheVariants as slots
use Rattle.pp_heap.specs.declared.state.Value.{Value}
use Rattle.pp_heap.specs.declared.state.Entry.TheVariants.{Bound, Narrowed}
use Rattle.pp_heap.specs.declared.state.State.{State}
use Rattle.pp_heap.specs.Values.{slot_of, slot_term, value_term, domain_by}
use Rattle.pp_heap.specs.Stores.{Store, store_of, entries_of, made, single, solution}
use Rattle.pp_heap.specs.Agreement.{Says, Agrees}
use Rattle.pp_heap.specs.Soundness.{IsTarget, IsPlace, IsStep, IsGood, IsKept}
use Rattle.pp_heap.specs.Outcomes.{IsFree, IsChange, IsLater, IsSteady, Shrinks, frees}
use Rattle.pp_heap.specs.Spans.{sizes}
use Rattle.pp_heap.proofs.Slots.{bound_says, says_bound, slot_term-slot_of}
use Rattle.pp_heap.proofs.Changes.{at_same}
use Rattle.pp_heap.proofs.Keeping.{kept_change, good_change, solution_change}
use Rattle.pp_heap.proofs.Setting.{slot_set, set_before, agrees_set, set_agrees, set_says, linked_bound, linked_given, frees_bound, frees_given}
use Rattle.pp_heap.proofs.Sizes.{size-put_all}

-- the variable x of this domain was bound to c
pub record IsBinding (old new : State) (x : ℕ) (d : Option ℕ) (c : Value) : Type 0 where
  pub good : IsGood old
  pub free : IsFree (store_of old) x d
  pub change : IsChange old new (Bound x d) (slot_set (store_of old) x (slot_of c))

-- it got another domain
pub record IsGiving (old new : State) (x : ℕ) (d g : Option ℕ) : Type 0 where
  pub good : IsGood old
  pub free : IsFree (store_of old) x d
  pub change : IsChange old new (Narrowed x d) (slot_set (store_of old) x (slots.Free g))

later_by : (old new : State) (x : ℕ) (k : Slot) → IsGood new → IsKept old new → store_of new ≡ slot_set (store_of old) x k → IsLater old new
later_by old new x k g h e = record {
  good = g;
  kept = h;
  heap = ap (λ (z : Store). z.heap) e;
  variables = ap (λ (z : Store). length z.slots) e ∙ length-set (store_of old).slots x k;
}

pub binding_later : (old new : State) (x : ℕ) (d : Option ℕ) (c : Value) → IsBinding old new x d c → IsTarget old.heap.items x c → (IsIn x (variables (put (solution old) (value_term old.heap.items c))) → ⊥) → IsLater old new
unfolding solution
binding_later old new x d c b t a =
    let st = store_of old in
    let e = set_before st x d (slot_of c) b.free.free in
    let step : IsStep (Bound x d) (entries_of old) (slot_set st x (slot_of c)) = (
      c,
      at_same st.slots x (slot_of c) b.free.within,
      λ i. a (subst (λ (z : Store). IsIn x (variables (put (made (entries_of old) z) (value_term st.heap c)))) e i),
    ) in
    later_by old new x (slot_of c)
    (good_change old new (Bound x d) (slot_set st x (slot_of c)) b.good b.change e step (linked_bound st x c b.good.linked b.free.within t) b.good.small (omega (arith, b.good.few, length-set st.slots x (slot_of c))))
    (kept_change old new (Bound x d) (slot_set st x (slot_of c)) b.change e)
    b.change.store

pub giving_later : (old new : State) (x : ℕ) (d g : Option ℕ) → IsGiving old new x d g → IsPlace old.domains.items g → IsLater old new
giving_later old new x d g b p =
    let st = store_of old in
    let e = set_before st x d (slots.Free g) b.free.free in
    let step : IsStep (Narrowed x d) (entries_of old) (slot_set st x (slots.Free g)) = (
      g,
      at_same st.slots x (slots.Free g) b.free.within,
      omega (arith, b.free.within, length-set st.slots x (slots.Free g)),
    ) in
    later_by old new x (slots.Free g)
    (good_change old new (Narrowed x d) (slot_set st x (slots.Free g)) b.good b.change e step (linked_given st x g b.good.linked b.free.within p) b.good.small (omega (arith, b.good.few, length-set st.slots x (slots.Free g))))
    (kept_change old new (Narrowed x d) (slot_set st x (slots.Free g)) b.change e)
    b.change.store

-- what agrees after it, before it, and the other way round
pub binding_agrees : (old new : State) (x : ℕ) (d : Option ℕ) (c : Value) (ds : Domains ℕ) (s : ℕ → Tree ℕ) → IsBinding old new x d c → Agrees (store_of new) ds s → MayGo ds (domain_by old.domains.items d) (s x) → Agrees (store_of old) ds s
binding_agrees old new x d c ds s b a h =
    agrees_set (store_of old) ds s x (slot_of c) b.free.within (subst (λ (z : Store). Agrees z ds s) b.change.store a) (subst (Says (store_of old) ds s x) (sym b.free.free) h)

pub binding_says : (old new : State) (x : ℕ) (d : Option ℕ) (c : Value) (ds : Domains ℕ) (s : ℕ → Tree ℕ) → IsBinding old new x d c → Agrees (store_of new) ds s → s x ≡ put s (value_term old.heap.items c)
binding_says old new x d c ds s b a = says_bound (store_of old) ds s x c (set_says (store_of old) ds s x (slot_of c) b.free.within (subst (λ (z : Store). Agrees z ds s) b.change.store a))

pub agrees_binding : (old new : State) (x : ℕ) (d : Option ℕ) (c : Value) (ds : Domains ℕ) (s : ℕ → Tree ℕ) → IsBinding old new x d c → Agrees (store_of old) ds s → s x ≡ put s (value_term old.heap.items c) → Agrees (store_of new) ds s
agrees_binding old new x d c ds s b a h =
    subst (λ (z : Store). Agrees z ds s) (sym b.change.store) (set_agrees (store_of old) ds s x (slot_of c) b.free.within a (bound_says (store_of old) ds s x c h))

pub giving_agrees : (old new : State) (x : ℕ) (d g : Option ℕ) (ds : Domains ℕ) (s : ℕ → Tree ℕ) → IsGiving old new x d g → Agrees (store_of new) ds s → MayGo ds (domain_by old.domains.items d) (s x) → Agrees (store_of old) ds s
giving_agrees old new x d g ds s b a h =
    agrees_set (store_of old) ds s x (slots.Free g) b.free.within (subst (λ (z : Store). Agrees z ds s) b.change.store a) (subst (Says (store_of old) ds s x) (sym b.free.free) h)

pub giving_says : (old new : State) (x : ℕ) (d g : Option ℕ) (ds : Domains ℕ) (s : ℕ → Tree ℕ) → IsGiving old new x d g → Agrees (store_of new) ds s → MayGo ds (domain_by old.domains.items g) (s x)
giving_says old new x d g ds s b a = set_says (store_of old) ds s x (slots.Free g) b.free.within (subst (λ (z : Store). Agrees z ds s) b.change.store a)

pub agrees_giving : (old new : State) (x : ℕ) (d g : Option ℕ) (ds : Domains ℕ) (s : ℕ → Tree ℕ) → IsGiving old new x d g → Agrees (store_of old) ds s → MayGo ds (domain_by old.domains.items g) (s x) → Agrees (store_of new) ds s
agrees_giving old new x d g ds s b a h =
    subst (λ (z : Store). Agrees z ds s) (sym b.change.store) (set_agrees (store_of old) ds s x (slots.Free g) b.free.within a h)

-- the substitution after it
pub binding_solution : (old new : State) (x : ℕ) (d : Option ℕ) (c : Value) → IsBinding old new x d c → (v : ℕ) → solution new v ≡ put (single x (put (solution old) (value_term old.heap.items c))) (solution old v)
binding_solution old new x d c b v =
    let st = store_of old in
    solution_change old new (Bound x d) (slot_set st x (slot_of c)) b.change (set_before st x d (slot_of c) b.free.free) v
    ∙ ap (λ k. put (single x (put (solution old) (slot_term st.heap k x))) (solution old v)) (at_same st.slots x (slot_of c) b.free.within)
    ∙ ap (λ t. put (single x (put (solution old) t)) (solution old v)) (slot_term-slot_of st.heap c x)

pub giving_steady : (old new : State) (x : ℕ) (d g : Option ℕ) → IsGiving old new x d g → IsSteady old new
giving_steady old new x d g b =
    let st = store_of old in
    record {
      frees = ap (λ (z : Store). frees z.slots) b.change.store ∙ frees_given st.slots x d g b.free.within b.free.free;
      same = λ v. solution_change old new (Narrowed x d) (slot_set st x (slots.Free g)) b.change (set_before st x d (slots.Free g) b.free.free) v ∙ put-variable (solution old v);
    }

-- a binding multiplies the sizes at most
pub binding_sizes : (old new : State) (x : ℕ) (d : Option ℕ) (c : Value) (ts : Trees ℕ) → IsBinding old new x d c → sizes (solution new) ts ≤ sizes (solution old) ts * size (put (solution old) (value_term old.heap.items c))
binding_sizes old new x d c ts b =
    let s = solution old in
    let u = put s (value_term old.heap.items c) in
    let e : put_all (solution new) ts ≡ put_all (single x u) (put_all s ts) = put_all-agree (solution new) (λ v. put (single x u) (s v)) ts (λ v i. binding_solution old new x d c b v) ∙ sym (put_all-put_all (single x u) s ts) in
    let h = size-put_all x u (put_all s ts) in
    subst (λ (z : Trees ℕ). size_all z ≤ size_all (put_all s ts) * size u) (sym e) h

pub binding_frees : (old new : State) (x : ℕ) (d : Option ℕ) (c : Value) → IsBinding old new x d c → frees old.slots.items ≡ suc (frees new.slots.items)
binding_frees old new x d c b = frees_bound (store_of old).slots x d c b.free.within b.free.free ∙ ap (λ (z : Store). suc (frees z.slots)) (sym b.change.store)

pub binding_shrinks : (old new : State) (x : ℕ) (d : Option ℕ) (c : Value) (t u : Tree ℕ) → IsBinding old new x d c → size (put (solution old) (value_term old.heap.items c)) ≤ size (put (solution old) t) + size (put (solution old) u) → Shrinks old new t u
binding_shrinks old new x d c t u b h = record {
  frees = let e = binding_frees old new x d c b in omega arith;
  sizes = λ ts. let g = binding_sizes old new x d c ts b in let m = mul-le-mul_left (sizes (solution old) ts) h in omega arith;
}
