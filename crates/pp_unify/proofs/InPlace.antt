-- The row of terms with all bindings in place.
use Rattle.std.proofs.Common.{◌≡◌, ℕ, ℤ, ◌+◌, ◌<◌, ◌≤◌, true, get_or, List, [], ◌∷◌, ◌++◌, length, map, take, All, Option, refl, ap, sym, ◌∙◌, subst, inl, inr}
use Rattle.std.specs.Prelude.{nat_eq}
use Rattle.std.proofs.lemmas.List.{take_all, take_more, map-append}
use Rattle.std.proofs.lemmas.List.Elements.{All-head, All-tail}
use Rattle.pp_algebra.specs.Terms.{Tree, variable, Trees, put, put_all, variables, variables_all}
use Rattle.pp_algebra.specs.Rows.{Domains, Row, Pattern, domain_at, pattern_of, IsCanonical, IsRow, AreWide}
use Rattle.pp_algebra.specs.Covers.{IsIn, MayGo, Covers}
use Rattle.pp_algebra.specs.Canon.{has, place, firsts, canon}
use Rattle.pp_algebra.proofs.Put.{put_all-put_all, put_all-variable}
use Rattle.pp_algebra.proofs.Antisym.{put_all-agree, covers_antisymmetric, IsIn-either}
use Rattle.pp_algebra.proofs.Order.{may_stay, covers_through}
use Rattle.pp_algebra.proofs.CanonLemmas.{nat_eq-IsSame, at, name, at-place, canon-IsCanonical, canon-covers, covers-canon}
use Rattle.pp_row.specs.Columns.{trees_of, sets_of, row_by}
use Rattle.pp_row.proofs.Numbering.{placed, names_of, names_push, columns_push}
use Rattle.pp_row.proofs.ColumnLists.{put-trees_of}
use Rattle.pp_heap.specs.declared.state.Slot.{Slot}
use Rattle.pp_heap.specs.declared.state.State.{State}
use Rattle.pp_heap.specs.Values.{slot_at, slot_domain}
use Rattle.pp_heap.specs.Stores.{store_of, entries_of, solution, made}
use Rattle.pp_heap.specs.Soundness.{IsGood}
use Rattle.pp_unify.specs.States.{value_in, row_in, present, states_of, IsOver}
use Rattle.pp_unify.specs.Tops.{IsAmong}
use Rattle.pp_unify.proofs.Among.{comes_from_all}
use Rattle.pp_unify.proofs.Present.{names, number, value_now, has_name, domain_named, wide_map, wide_slot}
use Rattle.pp_unify.proofs.Verdicts.{row_of, present_row, over_among}

-- other names for the variables give the same row
canon_renamed : (ts : Trees ℕ) (D E : Domains ℕ) (f : ℕ → ℕ) (g : ℕ → Tree ℕ) → ((w : ℕ) → IsIn w (variables_all ts) → g (f w) ≡ variable w) → ((w : ℕ) → IsIn w (variables_all ts) → E (f w) ≡ D w) → canon nat_eq (record { columns = ts; domains = D }) ≡ canon nat_eq (record { columns = put_all (λ v. variable (f v)) ts; domains = E })
canon_renamed ts D E f g back same =
    let p : Pattern ℕ = record { columns = ts; domains = D } in
    let q : Pattern ℕ = record { columns = put_all (λ v. variable (f v)) ts; domains = E } in
    let to : Covers p q = record { by = λ v. variable (f v); columns = refl; domains = λ v i. may_stay E (f v) (D v) (same v i) } in
    let from : Covers q p = record {
      by = g;
      columns = put_all-put_all g (λ v. variable (f v)) ts ∙ put_all-agree (λ v. g (f v)) variable ts back ∙ put_all-variable ts;
      domains = λ v i.
          let r = comes_from_all (λ w. variable (f w)) ts v i in
          subst (λ x. MayGo D (E x) (g x)) (named r.0 v r.2) (subst (MayGo D (E (f r.0))) (sym (back r.0 r.1)) (may_stay D r.0 (E (f r.0)) (sym (same r.0 r.1))));
    } in
    covers_antisymmetric (canon nat_eq p) (canon nat_eq q) (canon-IsCanonical nat_eq nat_eq-IsSame p) (canon-IsCanonical nat_eq nat_eq-IsSame q)
    (covers_through (pattern_of (canon nat_eq p)) p (pattern_of (canon nat_eq q)) (canon-covers nat_eq nat_eq-IsSame p) (covers_through p q (pattern_of (canon nat_eq q)) to (covers-canon nat_eq nat_eq-IsSame q)))
    (covers_through (pattern_of (canon nat_eq q)) q (pattern_of (canon nat_eq p)) (canon-covers nat_eq nat_eq-IsSame q) (covers_through q p (pattern_of (canon nat_eq p)) from (covers-canon nat_eq nat_eq-IsSame p)))
  where
    named : (w v : ℕ) → IsIn v (variables (variable (f w))) → f w ≡ v
    named w v (inl e) = e
    named w v (inr i) = absurd i

among_all : (slots : List Slot) (ts : List (Tree ℕ)) (v : ℕ) → All (IsAmong slots) ts → IsIn v (variables_all (trees_of ts)) → v < length slots
among_all slots [] v h i = absurd i
among_all slots (t ∷ ts) v h i = elim (IsIn-either v (variables t) (variables_all (trees_of ts)) i) [
  | inl j ↦ All-head (IsAmong slots) t ts h v j
  | inr j ↦ among_all slots ts v (All-tail (IsAmong slots) t ts h) j
]

pub all_among : (s : State) (rs : List Row) (ts : List (Tree ℕ)) → states_of s ≡ rs → All (IsOver (present rs)) ts → All (IsAmong s.slots.items) ts
all_among s rs ts e h = λ k d l. over_among s rs (get_or ts k d) e (h k d l)

-- the domain of a variable
abbrev pub domain_by_number : State → Domains ℕ
domain_by_number s v = slot_domain s.domains.items (slot_at s.slots.items v)

pub resolved_row : (s : State) (rs : List Row) (ts : List (Tree ℕ)) → states_of s ≡ rs → All (IsAmong s.slots.items) ts → canon nat_eq (record { columns = trees_of (map (put (solution s)) ts); domains = domain_by_number s }) ≡ row_in (present rs) ts
unfolding solution
resolved_row s rs ts e a =
    let es = entries_of s in
    let st = store_of s in
    let m = made es st in
    let us = put_all m (trees_of ts) in
    let vs = names es st in
    let seen : (w : ℕ) → IsIn w (variables_all us) → has nat_eq vs w ≡ true = λ w i. let r = comes_from_all m (trees_of ts) w i in has_name es st r.0 w (among_all s.slots.items ts r.0 a r.1) r.2 in
    ap (λ xs. canon nat_eq (record { columns = xs; domains = domain_by_number s })) (sym (put-trees_of m ts))
    ∙ canon_renamed us (domain_by_number s) (domain_at (row_of s).domains) (place nat_eq vs) (λ k. name nat_eq (at nat_eq vs k))
    (λ w i. ap (name nat_eq) (at-place nat_eq nat_eq-IsSame vs w (seen w i)))
    (λ w i. domain_named es st w (seen w i))
    ∙ ap (λ xs. canon nat_eq (record { columns = xs; domains = domain_at (row_of s).domains })) (
    put_all-put_all (number es st) m (trees_of ts)
    ∙ put_all-agree (λ v. put (number es st) (m v)) (value_in (row_of s)) (trees_of ts) (λ v i. sym (value_now es st v (among_all s.slots.items ts v a i)))
    )
    ∙ ap (λ r. row_in r ts) (present_row s rs e)

-- one more column
pub numbered_more :
    (s : ℕ → Tree ℕ) (ts out : List (Tree ℕ)) (i : ℕ) (d u : Tree ℕ) (old new : List ℕ)
    → i < length ts
    → old ≡ names_of (map (put s) (take i ts))
    → out ≡ map (put (placed old)) (map (put s) (take i ts))
    → new ≡ firsts nat_eq old (variables (put s (get_or ts i d)))
    → u ≡ put (placed new) (put s (get_or ts i d))
    → (new ≡ names_of (map (put s) (take (i + 1) ts))) × (out ++ u ∷ [] ≡ map (put (placed new)) (map (put s) (take (i + 1) ts)))
numbered_more s ts out i d u old new l e f g h =
    let before = map (put s) (take i ts) in
    let t = put s (get_or ts i d) in
    let more : before ++ t ∷ [] ≡ map (put s) (take (i + 1) ts) = sym (ap (map (put s)) (take_more ts i d l) ∙ map-append (put s) (take i ts) (get_or ts i d ∷ [])) in (
      g ∙ ap (λ ns. firsts nat_eq ns (variables t)) e ∙ sym (names_push before t) ∙ ap names_of more,
      columns_push before out t u old new e f g h ∙ ap (map (put (placed new))) more,
    )

-- all columns are numbered, and the domains of their variables are there
module _ (s : State) (rs : List Row) (ts out : List (Tree ℕ)) (i : ℕ) (ns : List ℕ) (ds : List (Option (List (ℤ × ℤ)))) (e : states_of s ≡ rs) (g : IsGood s) (l : length ts ≤ i) (f : ns ≡ names_of (map (put (solution s)) (take i ts))) (c : out ≡ map (put (placed ns)) (map (put (solution s)) (take i ts))) (d : sets_of ds ≡ map (domain_by_number s) ns) where
  abbrev us : List (Tree ℕ)
  us = map (put (solution s)) ts

  numbered : row_by out ds ≡ canon nat_eq (record { columns = trees_of us; domains = domain_by_number s })
  numbered =
      let all : map (put (solution s)) (take i ts) ≡ us = ap (map (put (solution s))) (take_all i ts l) in
      let names : ns ≡ names_of us = f ∙ ap names_of all in
      let columns : trees_of out ≡ put_all (placed (names_of us)) (trees_of us) = ap trees_of (c ∙ ap (map (put (placed ns))) all) ∙ sym (put-trees_of (placed ns) us) ∙ ap (λ xs. put_all (placed xs) (trees_of us)) names in
      rw (columns, d, names) refl

  pub is_row : IsRow (row_by out ds)
  is_row = record {
    canonical = subst IsCanonical (sym numbered) (canon-IsCanonical nat_eq nat_eq-IsSame (record { columns = trees_of us; domains = domain_by_number s }));
    wide = subst AreWide (sym d) (wide_map (domain_by_number s) ns (λ v. wide_slot (entries_of s) (store_of s) g.linked (slot_at s.slots.items v) (λ k h. g.linked.free v k h)));
  }

  pub numbered_row : All (IsOver (present rs)) ts → row_by out ds ≡ row_in (present rs) ts
  numbered_row h = numbered ∙ resolved_row s rs ts e (all_among s rs ts e h)
