-- Two free variables are made one.
use Rattle.std.proofs.Common.{◌≡◌, ℕ, ℤ, ◌+◌, ◌*◌, ◌<◌, ◌≤◌, [], ◌∷◌, length, Option, ap, sym, ◌∙◌, subst, inl, inr, arith, length-set}
use Rattle.std.proofs.Math.Nat.{mul-le-mul_left}
use Rattle.pp_algebra.specs.Terms.{Tree, variable, Trees, variables, size, size_all}
use Rattle.pp_algebra.specs.Rows.{Domains}
use Rattle.pp_algebra.specs.Covers.{IsIn, MayGo}
use Rattle.pp_algebra.specs.Solve.{equation}
use Rattle.pp_algebra.proofs.Antisym.{put_all-agree}
use Rattle.pp_heap.specs.declared.state.Slot.{Slot}
use Rattle.pp_heap.specs.declared.state.Slot.TheVariants as slots
use Rattle.pp_heap.specs.declared.state.Value.TheVariants.{Variable, Int}
use Rattle.pp_heap.specs.declared.bind.Meeting.TheVariants.{One, Many}
use Rattle.pp_heap.specs.declared.state.State.{State}
use Rattle.pp_heap.specs.Values.{slot_at, domain_by}
use Rattle.pp_heap.specs.Stores.{Store, store_of, solution}
use Rattle.pp_heap.specs.Agreement.{Agrees, Follows}
use Rattle.pp_heap.specs.Soundness.{IsPlace, IsGood}
use Rattle.pp_heap.specs.Outcomes.{IsFree, IsSame, IsCalm, IsLater, IsMeeting, Shrinks, Solves, frees}
use Rattle.pp_heap.specs.Spans.{sizes}
use Rattle.pp_heap.proofs.Slots.{agrees_free, agrees_bound}
use Rattle.pp_heap.proofs.Changes.{at_same, at_other}
use Rattle.pp_heap.proofs.Solutions.{solution_free}
use Rattle.pp_heap.proofs.Calm.{calm_same, calm_later, later_through, domain_calm}
use Rattle.pp_heap.proofs.Setting.{slot_set}
use Rattle.pp_heap.proofs.Walk.{one}
use Rattle.pp_heap.proofs.Binding.{IsBinding, IsGiving, binding_later, binding_agrees, binding_says, agrees_binding, binding_sizes, binding_frees, giving_steady}
use Rattle.pp_heap.proofs.Narrowing.{Narrows, narrowed_one, narrowed_many, one_later, many_later}

pub later_same : (old new : State) → IsGood old → IsSame old new → IsLater old new
later_same old new g s = calm_later old new (calm_same old new g s)

pub sizes_same : (s r : ℕ → Tree ℕ) (ts : Trees ℕ) → ((v : ℕ) → s v ≡ r v) → sizes s ts ≡ sizes r ts
sizes_same s r ts h = ap size_all (put_all-agree s r ts (λ v i. h v))

-- another variable stays free
free_set : (st new : Store) (x y : ℕ) (k : Slot) (d : Option ℕ) → new ≡ slot_set st x k → (y ≡ x → ⊥) → IsFree st y d → IsFree new y d
free_set st new x y k d e n f = record {
  within = subst (λ (z : Store). y < length z.slots) (sym e) (omega (arith, f.within, length-set st.slots x k));
  free = ap (λ (z : Store). slot_at z.slots y) e ∙ at_other st.slots x y k n ∙ f.free;
}

module _ (a m b c : State) (low high : ℕ) (dl dh : Option ℕ) (g : IsGood a) (calm : IsCalm a m) (fl : IsFree (store_of a) low dl) (fh : IsFree (store_of a) high dh) (order : low < high) where
  later_is : high ≡ low → ⊥
  later_is e = omega arith

  place : IsPlace a.domains.items dh
  place = g.linked.free high dh fh.free

  goes : (ds : Domains ℕ) (t : Tree ℕ) → b.domains.items ≡ m.domains.items → MayGo ds (domain_by a.domains.items dh) t → MayGo ds (domain_by b.domains.items dh) t
  goes ds t e h = subst (λ o. MayGo ds o t) (sym (ap (λ x. domain_by x dh) e ∙ domain_calm a m dh calm place)) h

  module _ (n : ℤ) (q : IsMeeting m.domains.items (domain_by a.domains.items dl) (domain_by a.domains.items dh) (One n)) (p : IsBinding m b low dl (Int n)) (r : IsBinding b c high dh (Int n)) where
    ones : Narrows a b low (domain_by a.domains.items dh)
    ones = narrowed_one a m low dl (domain_by a.domains.items dh) g calm fl b n q p

    low_is : slot_at c.slots.items low ≡ slots.Int n
    low_is = ap (λ (z : Store). slot_at z.slots low) r.change.store ∙ at_other b.slots.items high low (slots.Int n) (λ e. omega (arith, e))
        ∙ ap (λ (z : Store). slot_at z.slots low) p.change.store ∙ at_same m.slots.items low (slots.Int n) p.free.within

    pub ones_later : IsLater a c
    ones_later = later_through a b c (one_later a m low dl (domain_by a.domains.items dh) g calm fl b n q p) (binding_later b c high dh (Int n) r q.0 (λ i. i))

    ones_follow : Follows a c (equation (variable low) (variable high))
    ones_follow ds s w = (to, λ h. back h.0 h.1)
      where
        to : Agrees (store_of c) ds s → Agrees (store_of a) ds s × (s low ≡ s high)
        to h =
            let sh = binding_says b c high dh (Int n) ds s r h in
            let sl = agrees_bound (store_of c) ds s low (Int n) h low_is in
            let k = goes ds (s high) (ap (λ (z : Store). z.domains) p.change.store) ((q.1 ds (s high) w).0 sh).1 in
            (((ones ds s w).0 (binding_agrees b c high dh (Int n) ds s r h k)).0, sl ∙ sym sh)

        back : Agrees (store_of a) ds s → s low ≡ s high → Agrees (store_of c) ds s
        back h e =
            let k = (ones ds s w).1 (h, subst (MayGo ds (domain_by a.domains.items dh)) (sym e) (agrees_free (store_of a) ds s high dh h fh.free)) in
            agrees_binding b c high dh (Int n) ds s r k (sym e ∙ binding_says m b low dl (Int n) ds s p k)

    ones_shrink : Shrinks a c (variable low) (variable high)
    ones_shrink = record {
      frees = let i = binding_frees m b low dl (Int n) p in let j = binding_frees b c high dh (Int n) r in let k = ap frees calm.slots in omega arith;
      sizes = λ ts.
          let i = binding_sizes m b low dl (Int n) ts p in
          let j = binding_sizes b c high dh (Int n) ts r in
          let k = sizes_same (solution m) (solution a) ts calm.same in
          let o = one (solution a low) in
          let z : 1 ≤ size (solution a low) + size (solution a high) = omega arith in
          let x = mul-le-mul_left (sizes (solution a) ts) z in
          omega arith;
    }

    pub ones_solve : Solves a c (variable low) (variable high)
    ones_solve = record { follows = ones_follow; falls = inr ones_shrink }

  module _ (k : Option ℕ) (q : IsMeeting m.domains.items (domain_by a.domains.items dl) (domain_by a.domains.items dh) (Many k)) (p : IsGiving m b low dl k) (r : IsBinding b c high dh (Variable low)) where
    many : Narrows a b low (domain_by a.domains.items dh)
    many = narrowed_many a m low dl (domain_by a.domains.items dh) g calm fl b k q p

    low_given : slot_at b.slots.items low ≡ slots.Free k
    low_given = ap (λ (z : Store). slot_at z.slots low) p.change.store ∙ at_same m.slots.items low (slots.Free k) p.free.within

    low_still : slot_at c.slots.items low ≡ slots.Free k
    low_still = ap (λ (z : Store). slot_at z.slots low) r.change.store ∙ at_other b.slots.items high low (slots.Alias low) (λ e. omega (arith, e)) ∙ low_given

    apart : IsIn high (variables (solution b low)) → ⊥
    apart i = go (subst (λ (t : Tree ℕ). IsIn high (variables t)) (solution_free b low k r.good low_given) i)
      where
        go : IsIn high (low ∷ []) → ⊥
        go (inl e) = omega (arith, e)
        go (inr e) = e

    pub many_merged_later : IsLater a c
    many_merged_later = later_through a b c (many_later a m low dl (domain_by a.domains.items dh) g calm fl b k q p) (binding_later b c high dh (Variable low) r order apart)

    many_follow : Follows a c (equation (variable low) (variable high))
    many_follow ds s w = (to, λ h. back h.0 h.1)
      where
        same : c.domains.items ≡ m.domains.items
        same = ap (λ (z : Store). z.domains) r.change.store ∙ ap (λ (z : Store). z.domains) p.change.store

        to : Agrees (store_of c) ds s → Agrees (store_of a) ds s × (s low ≡ s high)
        to h =
            let sh = binding_says b c high dh (Variable low) ds s r h in
            let gl = subst (λ x. MayGo ds (domain_by x k) (s low)) same (agrees_free (store_of c) ds s low k h low_still) in
            let both = (q.1 ds (s low) w).0 gl in
            let gh = goes ds (s high) (ap (λ (z : Store). z.domains) p.change.store) (subst (MayGo ds (domain_by a.domains.items dh)) (sym sh) both.1) in
            (((many ds s w).0 (binding_agrees b c high dh (Variable low) ds s r h gh)).0, sym sh)

        back : Agrees (store_of a) ds s → s low ≡ s high → Agrees (store_of c) ds s
        back h e =
            let i = (many ds s w).1 (h, subst (MayGo ds (domain_by a.domains.items dh)) (sym e) (agrees_free (store_of a) ds s high dh h fh.free)) in
            agrees_binding b c high dh (Variable low) ds s r i (sym e)

    many_shrink : Shrinks a c (variable low) (variable high)
    many_shrink = record {
      frees = let i = giving_steady m b low dl k p in let j = binding_frees b c high dh (Variable low) r in let l = ap frees calm.slots in omega (arith, i.frees, j, l);
      sizes = λ ts.
          let i = giving_steady m b low dl k p in
          let j = binding_sizes b c high dh (Variable low) ts r in
          let l = sizes_same (solution b) (solution a) ts (λ v. i.same v ∙ calm.same v) in
          let o = ap size (i.same low ∙ calm.same low) in
          let z : size (solution b low) ≤ size (solution a low) + size (solution a high) = omega (arith, o) in
          let x = mul-le-mul_left (sizes (solution a) ts) z in
          let y : sizes (solution c) ts ≤ sizes (solution a) ts * size (solution b low) = subst (λ (w : ℕ). sizes (solution c) ts ≤ w * size (solution b low)) l j in
          omega (arith, x, y);
    }

    pub many_solve : Solves a c (variable low) (variable high)
    many_solve = record { follows = many_follow; falls = inr many_shrink }

  -- the later variable is still free after the earlier one was bound or got another domain
  pub high_free : (k : Slot) → store_of b ≡ slot_set (store_of m) low k → IsFree (store_of b) high dh
  high_free k e = free_set (store_of m) (store_of b) low high k dh e later_is (record { within = subst (λ ss. high < length ss) (sym calm.slots) fh.within; free = ap (λ ss. slot_at ss high) calm.slots ∙ fh.free })
