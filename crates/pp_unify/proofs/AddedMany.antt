-- The row with many free variables more.
use Rattle.std.proofs.Common.{◌≡◌, ℕ, zero, suc, ◌+◌, ◌<◌, ◌≤◌, List, [], ◌∷◌, ◌++◌, length, replicate, None, refl, ap, ◌∙◌, subst, inl, inr, arith, length-append}
use Rattle.std.specs.Prelude.{nat_eq}
use Rattle.std.proofs.lemmas.List.{length-replicate}
use Rattle.pp_algebra.specs.Terms.{variable, Trees, none, more, put_all, variables, variables_all, join}
use Rattle.pp_algebra.specs.Rows.{Domains, Row}
use Rattle.pp_algebra.specs.Covers.{IsIn}
use Rattle.pp_algebra.specs.Canon.{place, firsts, canon}
use Rattle.pp_algebra.proofs.Antisym.{put_all-agree}
use Rattle.pp_algebra.specs.Numbered.{variables_from}
use Rattle.pp_heap.specs.declared.state.Slot.{Slot}
use Rattle.pp_heap.specs.declared.state.Slot.TheVariants as slots
use Rattle.pp_heap.specs.declared.state.Entry.{Entry}
use Rattle.pp_heap.specs.declared.state.State.{State}
use Rattle.pp_heap.specs.Values.{slot_at, slot_domain}
use Rattle.pp_heap.specs.Stores.{Store, store_of, entries_of, solution, made}
use Rattle.pp_heap.specs.Soundness.{IsLinked, IsSound, IsGood}
use Rattle.pp_unify.specs.States.{with_new, with_many, row_at}
use Rattle.pp_heap.proofs.Changes.{below_or, at_past}
use Rattle.pp_heap.proofs.Made.{made_free}
use Rattle.pp_unify.proofs.Among.{made_among, comes_from_all, variable_below}
use Rattle.pp_unify.proofs.Verdicts.{row_of}
use Rattle.pp_unify.proofs.Adding.{canon_added, from-push, map-agree}
use Rattle.pp_algebra.proofs.Numbered.{from-below}

-- a slot that is free says what no slot says
pub free_slots_more : (ss : List Slot) (k v : ℕ) → slot_at (ss ++ replicate k (slots.Free None)) v ≡ slot_at ss v
free_slots_more [] zero v = refl
free_slots_more [] (suc k) zero = refl
free_slots_more [] (suc k) (suc v) = free_slots_more [] k v
free_slots_more (x ∷ ss) k zero = refl
free_slots_more (x ∷ ss) k (suc v) = free_slots_more ss k v

canon_alike : (ts : Trees ℕ) (E D : Domains ℕ) → ((w : ℕ) → E w ≡ D w) → canon nat_eq (record { columns = ts; domains = E }) ≡ canon nat_eq (record { columns = ts; domains = D })
canon_alike ts E D h =
    let vs = firsts nat_eq [] (variables_all ts) in
    ap (λ ds. let r : Row = record { columns = put_all (λ v. variable (place nat_eq vs v)) ts; domains = ds } in r) (map-agree E D vs (λ w i. h w))

module _ (es : List Entry) (st : Store) (k : IsSound es st) (l : IsLinked st) where
  abbrev domain_now : Domains ℕ
  domain_now w = slot_domain st.domains (slot_at st.slots w)

  past : (v : ℕ) → length st.slots ≤ v → made es st v ≡ variable v
  past v h = made_free es st v None k (at_past st.slots v h)

  many_below : (j w : ℕ) → IsIn w (variables_all (put_all (made es st) (variables_from 0 (length st.slots + j)))) → w < length st.slots + j
  many_below j w i =
      let r = comes_from_all (made es st) (variables_from 0 (length st.slots + j)) w i in
      let h = from-below 0 (length st.slots + j) r.0 r.1 in
      elim (below_or r.0 (length st.slots)) [
        | inl a ↦ (let x = made_among es st k l r.0 a w r.2 in omega (arith, x))
        | inr b ↦ variable_below (length st.slots + j) r.0 (omega (arith, h)) w (subst (λ t. IsIn w (variables t)) (past r.0 b) r.2)
      ]

  -- a variable beyond the slots is free
  pub row_many : (j : ℕ) → canon nat_eq (record { columns = put_all (made es st) (variables_from 0 (length st.slots + j)); domains = domain_now }) ≡ with_many (row_at es st) j
  row_many zero = ap (λ x. canon nat_eq (record { columns = put_all (made es st) (variables_from 0 x); domains = domain_now })) (omega arith)
  row_many (suc j) =
      let ts = put_all (made es st) (variables_from 0 (length st.slots + j)) in
      let longer : length st.slots + suc j ≡ suc (length st.slots + j) = omega arith in
      let last : made es st (0 + (length st.slots + j)) ≡ variable (length st.slots + j) = ap (made es st) (omega arith) ∙ past (length st.slots + j) (omega arith) in
      let columns : put_all (made es st) (variables_from 0 (length st.slots + suc j)) ≡ join ts (more (variable (length st.slots + j)) none) =
      ap (λ x. put_all (made es st) (variables_from 0 x)) longer ∙ from-push (made es st) 0 (length st.slots + j) ∙ ap (λ t. join ts (more t none)) last in
      ap (λ us. canon nat_eq (record { columns = us; domains = domain_now })) columns
      ∙ canon_added ts (length st.slots + j) domain_now domain_now None (many_below j) (λ w h. refl) (ap (slot_domain st.domains) (at_past st.slots (length st.slots + j) (omega arith)))
      ∙ ap (λ r. with_new r None) (row_many j)

-- a store that has so many free variables more and is otherwise alike
pub row_many_at : (es : List Entry) (st : Store) (fs : List Entry) (new : Store) (k : ℕ) → IsSound es st → IsLinked st → length new.slots ≡ length st.slots + k → ((v : ℕ) → made fs new v ≡ made es st v) → ((v : ℕ) → slot_at new.slots v ≡ slot_at st.slots v) → new.domains ≡ st.domains → row_at fs new ≡ with_many (row_at es st) k
row_many_at es st fs new k i l longer same slots d =
    let m = made es st in
    let m' = made fs new in
    let columns : put_all m' (variables_from 0 (length new.slots)) ≡ put_all m (variables_from 0 (length st.slots + k)) =
    ap (λ x. put_all m' (variables_from 0 x)) longer ∙ put_all-agree m' m (variables_from 0 (length st.slots + k)) (λ v j. same v) in
    let E : Domains ℕ = λ w. slot_domain new.domains (slot_at new.slots w) in
    let D : Domains ℕ = λ w. slot_domain st.domains (slot_at st.slots w) in
    let alike : (w : ℕ) → E w ≡ D w = λ w. ap (slot_domain new.domains) (slots w) ∙ ap (λ ds. slot_domain ds (slot_at st.slots w)) d in
    ap (λ us. canon nat_eq (record { columns = us; domains = E })) columns
    ∙ canon_alike (put_all m (variables_from 0 (length st.slots + k))) E D alike
    ∙ row_many es st i l k

pub many_row : (old new : State) (k : ℕ) → IsGood old → new.slots.items ≡ old.slots.items ++ replicate k (slots.Free None) → new.domains.items ≡ old.domains.items → ((v : ℕ) → solution new v ≡ solution old v) → row_of new ≡ with_many (row_of old) k
unfolding solution
many_row old new k g e d same =
    let longer : length new.slots.items ≡ length old.slots.items + k = ap length e ∙ length-append old.slots.items (replicate k (slots.Free None)) ∙ ap (λ x. length old.slots.items + x) (length-replicate k (slots.Free None)) in
    row_many_at (entries_of old) (store_of old) (entries_of new) (store_of new) k g.sound g.linked longer same (λ w. ap (λ ss. slot_at ss w) e ∙ free_slots_more old.slots.items k w) d
