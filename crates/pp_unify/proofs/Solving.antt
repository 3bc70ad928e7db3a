-- A store that follows another one under items has the most general row that meets the items; where they are excluded, no row meets them.
use Rattle.std.proofs.Common.{◌≡◌, ℕ, ◌<◌, true, List, [], ◌∷◌, length, map, Option, Some, None, refl, ap, sym, ◌∙◌, subst, inl, inr}
use Rattle.std.specs.Prelude.{nat_eq, ◌↔◌}
use Rattle.std.proofs.lemmas.List.{get_or_past}
use Rattle.pp_algebra.specs.Terms.{Tree, variable, put, put_all, variables}
use Rattle.pp_algebra.specs.Rows.{Domains, Row, domain_at, pattern_of, IsRow}
use Rattle.pp_algebra.specs.Covers.{IsIn, MayGo}
use Rattle.pp_algebra.specs.Canon.{has, place}
use Rattle.pp_algebra.specs.Solve.{Item, equation, membership, put_item, Holds, AllHold, IsSolved, HasNone}
use Rattle.pp_algebra.proofs.Put.{put-put, put_all-put_all, put_all-variable}
use Rattle.pp_algebra.proofs.Antisym.{put-agree, put_all-agree}
use Rattle.pp_algebra.proofs.Order.{may_stay}
use Rattle.pp_algebra.proofs.Resume.{wide_at}
use Rattle.pp_algebra.specs.Numbered.{variables_from}
use Rattle.pp_heap.specs.declared.state.Slot.{Slot}
use Rattle.pp_heap.specs.declared.state.Slot.TheVariants.{Free, Alias, Int, Atom, Compound}
use Rattle.pp_heap.specs.declared.state.Entry.{Entry}
use Rattle.pp_heap.specs.Values.{slot_at, value_term, domain_by, slot_domain}
use Rattle.pp_heap.specs.Stores.{Store, made}
use Rattle.pp_heap.specs.Soundness.{IsLinked, IsSound}
use Rattle.pp_heap.specs.Agreement.{Says, Agrees, AllWide}
use Rattle.pp_unify.specs.States.{value_in, row_at}
use Rattle.pp_heap.proofs.Changes.{below_or}
use Rattle.pp_heap.proofs.Slots.{agrees_bound, agrees_from}
use Rattle.pp_heap.proofs.Made.{made_free, made_most, made_equates}
use Rattle.pp_unify.proofs.Among.{IsBelow}
use Rattle.pp_unify.proofs.Present.{values, names, number, named, value_now, has_name, around_term, around_row, goes_back, domain_named, row_now}

abbrev pub ItemBelow : ℕ → Item ℕ → Type 0
ItemBelow n (equation a b) = IsBelow n a × IsBelow n b
ItemBelow n (membership t d) = IsBelow n t

abbrev pub AllBelow : ℕ → List (Item ℕ) → Type 0
AllBelow n [] = Unit {0}
AllBelow n (i ∷ is) = ItemBelow n i × AllBelow n is

wide_row : (q : Row) → IsRow q → AllWide (domain_at q.domains)
wide_row q r v = wide_at q.domains v r.wide

module _ (es : List Entry) (st : Store) (k : IsSound es st) (l : IsLinked st) where
  abbrev row : Row
  row = row_at es st

  -- a free variable has a name, where it has a slot
  free_name : (v : ℕ) (d : Option ℕ) → slot_at st.slots v ≡ Free d → v < length st.slots → has nat_eq (names es st) v ≡ true
  free_name v d e h = has_name es st v v h (subst (λ t. IsIn v (variables t)) (sym (made_free es st v d k e)) (inl refl))

  -- where the number of a free variable goes as its domain lets it, so does the variable
  free_goes : (ds : Domains ℕ) (by : ℕ → Tree ℕ) → ((i : ℕ) → MayGo ds (domain_at row.domains i) (by i)) → (v : ℕ) (d : Option ℕ) → slot_at st.slots v ≡ Free d → MayGo ds (domain_by st.domains d) (by (place nat_eq (names es st) v))
  free_goes ds by h v d e = elim (below_or v (length st.slots)) [
    | inl i ↦ subst (λ c. MayGo ds c (by (place nat_eq (names es st) v))) (domain_named es st v (free_name v d e i) ∙ ap (slot_domain st.domains) e) (h (place nat_eq (names es st) v))
    | inr i ↦ subst (λ c. MayGo ds (slot_domain st.domains c) (by (place nat_eq (names es st) v))) (sym (get_or_past st.slots v (Free None) i) ∙ e) tt
  ]

  -- a value of each number gives a value of each variable
  abbrev through : (ℕ → Tree ℕ) → ℕ → Tree ℕ
  through by v = put (λ w. by (place nat_eq (names es st) w)) (made es st v)

  through_agrees : (ds : Domains ℕ) (by : ℕ → Tree ℕ) → ((i : ℕ) → MayGo ds (domain_at row.domains i) (by i)) → Agrees st ds (through by)
  through_agrees ds by h =
      let g : ℕ → Tree ℕ = λ w. by (place nat_eq (names es st) w) in
      agrees_from st ds (through by)
      (λ v c e. ap (put g) (made_equates es st l k v c e) ∙ put-put g (made es st) (value_term st.heap c))
      (λ v d e. subst (MayGo ds (domain_by st.domains d)) (sym (ap (put g) (made_free es st v d k e))) (free_goes ds by h v d e))

  -- what agrees goes through what the changes make
  through_made : (ds : Domains ℕ) (s : ℕ → Tree ℕ) → Agrees st ds s → (v : ℕ) → put s (made es st v) ≡ s v
  through_made ds s a = made_most es st s l k (λ v c e. agrees_bound st ds s v c a e)

  through_value : (by : ℕ → Tree ℕ) (v : ℕ) → v < length st.slots → put by (value_in row v) ≡ through by v
  through_value by v h = ap (put by) (value_now es st v h) ∙ put-put by (number es st) (made es st v)

  through_columns : (by : ℕ → Tree ℕ) → put_all (through by) (variables_from 0 (length st.slots)) ≡ put_all by row.columns
  through_columns by = sym (put_all-put_all (λ w. by (place nat_eq (names es st) w)) (made es st) (variables_from 0 (length st.slots))) ∙ sym (put_all-put_all by (number es st) (values es st))

  -- the other way: what agrees gives each number its value
  back_value : (s : ℕ → Tree ℕ) → ((v : ℕ) → put s (made es st v) ≡ s v) → (v : ℕ) → v < length st.slots → put (λ i. put s (named es st i)) (value_in row v) ≡ s v
  back_value s m v h = ap (put (λ i. put s (named es st i))) (value_now es st v h) ∙ around_term es st s (made es st v) (λ w i. has_name es st v w h i) ∙ m v

  back_columns : (s : ℕ → Tree ℕ) → ((v : ℕ) → put s (made es st v) ≡ s v) → put_all (λ i. put s (named es st i)) row.columns ≡ put_all s (variables_from 0 (length st.slots))
  back_columns s m = around_row es st s ∙ put_all-put_all s (made es st) (variables_from 0 (length st.slots)) ∙ put_all-agree (λ v. put s (made es st v)) s (variables_from 0 (length st.slots)) (λ v i. m v)

  back_goes : (ds : Domains ℕ) (s : ℕ → Tree ℕ) → Agrees st ds s → (i : ℕ) → MayGo ds (domain_at row.domains i) (put s (named es st i))
  back_goes ds s a = goes_back es st ds s (λ v. go v (slot_at st.slots v) (a v))
    where
      go : (v : ℕ) (c : Slot) → Says st ds s v c → MayGo ds (slot_domain st.domains c) (s v)
      go v (Free d) h = h
      go v (Alias w) h = tt
      go v (Int n) h = tt
      go v (Atom n) h = tt
      go v (Compound p) h = tt

  -- an item over the variables, and the same item over the numbers
  module _ (ds : Domains ℕ) (by s : ℕ → Tree ℕ) (same : (v : ℕ) → v < length st.slots → put by (value_in row v) ≡ s v) where
    same_term : (t : Tree ℕ) → IsBelow (length st.slots) t → put by (put (value_in row) t) ≡ put s t
    same_term t b = put-put by (value_in row) t ∙ put-agree (λ v. put by (value_in row v)) s t (λ v i. same v (b v i))

    holds_in : (item : Item ℕ) → ItemBelow (length st.slots) item → Holds ds s item → Holds ds by (put_item (value_in row) item)
    holds_in (equation a b) o h = same_term a o.0 ∙ h ∙ sym (same_term b o.1)
    holds_in (membership t d) o h = subst (MayGo ds (Some d)) (sym (same_term t o)) h

    holds_out : (item : Item ℕ) → ItemBelow (length st.slots) item → Holds ds by (put_item (value_in row) item) → Holds ds s item
    holds_out (equation a b) o h = sym (same_term a o.0) ∙ h ∙ same_term b o.1
    holds_out (membership t d) o h = subst (MayGo ds (Some d)) (same_term t o) h

    all_in : (items : List (Item ℕ)) → AllBelow (length st.slots) items → AllHold ds s items → AllHold ds by (map (put_item (value_in row)) items)
    all_in [] o h = tt
    all_in (i ∷ is) o h = (holds_in i o.0 h.0, all_in is o.1 h.1)

    all_out : (items : List (Item ℕ)) → AllBelow (length st.slots) items → AllHold ds by (map (put_item (value_in row)) items) → AllHold ds s items
    all_out [] o h = tt
    all_out (i ∷ is) o h = (holds_out i o.0 h.0, all_out is o.1 h.1)

  pub excluded : (items : List (Item ℕ)) → AllBelow (length st.slots) items → ((ds : Domains ℕ) (s : ℕ → Tree ℕ) → AllWide ds → Agrees st ds s → AllHold ds s items → ⊥) → HasNone (pattern_of row) (map (put_item (value_in row)) items)
  excluded items o h q r m = h (domain_at q.domains) (through m.by) (wide_row q r) (through_agrees (domain_at q.domains) m.by m.domains) (all_out (domain_at q.domains) m.by (through m.by) (through_value m.by) items o m.holds)

module _ (es fs : List Entry) (old new : Store) (k : IsSound es old) (l : IsLinked old) (i : IsSound fs new) (j : IsLinked new) (items : List (Item ℕ)) where
  pub followed :
      length new.slots ≡ length old.slots
      → AllBelow (length old.slots) items
      → ((ds : Domains ℕ) (s : ℕ → Tree ℕ) → AllWide ds → Agrees new ds s ↔ (Agrees old ds s × AllHold ds s items))
      → IsSolved (pattern_of (row_at es old)) (map (put_item (value_in (row_at es old))) items) (row_at fs new)
  followed n o f =
      let r = row_now fs new j in
      let ds = domain_at (row_at fs new).domains in
      let s = through fs new i j variable in
      let a : Agrees new ds s = through_agrees fs new i j ds variable (λ v. may_stay ds v (ds v) refl) in
      let b = (f ds s (wide_row (row_at fs new) r)).0 a in
      let most : (v : ℕ) → put s (made es old v) ≡ s v = through_made es old k l ds s b.0 in
      record {
        row = r;
        meets = record {
          by = λ v. put s (named es old v);
          columns = back_columns es old k l s most ∙ ap (λ m. put_all s (variables_from 0 m)) (sym n) ∙ through_columns fs new i j variable ∙ put_all-variable (row_at fs new).columns;
          domains = back_goes es old k l ds s b.0;
          holds = all_in es old k l ds (λ v. put s (named es old v)) s (back_value es old k l s most) items o b.1;
        };
        most = λ q w m.
            let es' = domain_at q.domains in
            let t = through es old k l m.by in
            let c = (f es' t (wide_row q w)).1 (through_agrees es old k l es' m.by m.domains, all_out es old k l es' m.by t (through_value es old k l m.by) items o m.holds) in
            record {
              by = λ v. put t (named fs new v);
              columns = back_columns fs new i j t (through_made fs new i j es' t c) ∙ ap (λ x. put_all t (variables_from 0 x)) n ∙ through_columns es old k l m.by ∙ m.columns;
              domains = λ v _. back_goes fs new i j es' t c v;
            };
      }
