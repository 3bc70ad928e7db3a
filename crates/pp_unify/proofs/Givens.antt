-- What a term is in the row of a state, by its top.
use Rattle.std.proofs.Common.{◌≡◌, ℕ, ℤ, ◌<◌, true, false, List, length, Option, Some, None, refl, ap, sym, ◌∙◌, subst, inl}
use Rattle.std.specs.Prelude.{nat_eq, option_map}
use Rattle.std.specs.Option.{is_some}
use Rattle.pp_algebra.specs.Terms.{Tree, int, node, variable, put, put_all, variables}
use Rattle.pp_algebra.specs.Rows.{Domain, Row, domain_at}
use Rattle.pp_algebra.specs.Covers.{IsIn}
use Rattle.pp_algebra.specs.Canon.{has, place}
use Rattle.pp_algebra.specs.Members.{IsInteger}
use Rattle.pp_algebra.proofs.Put.{put-put}
use Rattle.pp_algebra.proofs.Antisym.{put-agree}
use Rattle.pp_algebra.specs.Givens.{ranged, free, given, given_variable}
use Rattle.pp_heap.specs.declared.state.Slot.{Slot}
use Rattle.pp_heap.specs.declared.state.Value.{Value}
use Rattle.pp_heap.specs.declared.state.Value.TheVariants.{Variable, Int}
use Rattle.pp_heap.specs.declared.state.State.{State}
use Rattle.pp_heap.specs.Values.{slot_at, slot_domain}
use Rattle.pp_heap.specs.Stores.{store_of, entries_of, solution, made}
use Rattle.pp_unify.specs.States.{value_in, in_place, present, states_of, domain_in}
use Rattle.pp_unify.specs.Tops.{IsAmong, IsTop}
use Rattle.pp_unify.proofs.Heaps.{IsNamed}
use Rattle.pp_unify.proofs.Among.{comes_from}
use Rattle.pp_unify.proofs.Present.{names, number, value_now, has_name, domain_named}
use Rattle.pp_unify.proofs.Verdicts.{row_of, present_row}

pub top_int : (slots : List Slot) (u : Tree ℕ) (n : ℤ) → IsTop slots u (Int n) → (u ≡ int n) × IsInteger n
top_int slots (int m) n h = let e : n ≡ m = cc in (ap int (sym e), subst IsInteger (sym e) h.1)
top_int slots (node f ts) n h = absurd h
top_int slots (variable x) n h = absurd (cc)

pub top_variable : (slots : List Slot) (u : Tree ℕ) (v : ℕ) → IsTop slots u (Variable v) → (u ≡ variable v) × (v < length slots)
top_variable slots (int m) v h = absurd (cc)
top_variable slots (node f ts) v h = absurd h
top_variable slots (variable x) v h = let e : v ≡ x = cc in (ap variable (sym e), subst (λ w. w < length slots) (sym e) h.1)

-- neither an integer nor a variable
pub top_other : (slots : List Slot) (u : Tree ℕ) (c : Value) → IsTop slots u c → ((v : ℕ) → c ≡ Variable v → ⊥) → ((n : ℤ) → c ≡ Int n → ⊥) → IsNamed u
top_other slots (int m) c h p q = absurd (q m h.0)
top_other slots (node f ts) c h p q = record { name = f; arguments = ts; is = refl }
top_other slots (variable x) c h p q = absurd (p x h.0)

no_domain : (slots : List Slot) (u : Tree ℕ) (c : Value) (r : Row) (f : ℕ → Tree ℕ) → IsTop slots u c → ((v : ℕ) → c ≡ Variable v → ⊥) → domain_in r (put f u) ≡ None
no_domain slots (int m) c r f h p = refl
no_domain slots (node g ts) c r f h p = refl
no_domain slots (variable x) c r f h p = absurd (p x h.0)

module _ (s : State) (rs : List Row) (t : Tree ℕ) (e : states_of s ≡ rs) (a : IsAmong s.slots.items t) where
  abbrev named : ℕ → Tree ℕ
  named = number (entries_of s) (store_of s)

  -- a term in place is the term with all bindings in place, under the numbers
  pub in_place_now : in_place (present rs) t ≡ put named (put (solution s) t)
  unfolding solution
  in_place_now =
      ap (λ r. in_place r t) (sym (present_row s rs e))
      ∙ put-agree (value_in (row_of s)) (λ v. put named (made (entries_of s) (store_of s) v)) t (λ v i. value_now (entries_of s) (store_of s) v (a v i))
      ∙ sym (put-put named (made (entries_of s) (store_of s)) t)

  pub free_named : (w : ℕ) → IsIn w (variables (put (solution s) t)) → has nat_eq (names (entries_of s) (store_of s)) w ≡ true
  unfolding solution
  free_named w i = let r = comes_from (made (entries_of s) (store_of s)) t w i in has_name (entries_of s) (store_of s) r.0 w (a r.0 r.1) r.2

  pub place_int : (n : ℤ) → put (solution s) t ≡ int n → in_place (present rs) t ≡ int n
  place_int n h = in_place_now ∙ ap (put named) h

  pub place_other : (o : IsNamed (put (solution s) t)) → IsNamed (in_place (present rs) t)
  place_other o = record { name = o.name; arguments = put_all named o.arguments; is = in_place_now ∙ ap (put named) o.is }

  pub place_none : (c : Value) → IsTop s.slots.items (put (solution s) t) c → ((v : ℕ) → c ≡ Variable v → ⊥) → domain_in (present rs) (in_place (present rs) t) ≡ None
  place_none c h p = ap (domain_in (present rs)) in_place_now ∙ no_domain s.slots.items (put (solution s) t) c (present rs) named h p

  pub place_variable : (v : ℕ) → put (solution s) t ≡ variable v → domain_in (present rs) (in_place (present rs) t) ≡ slot_domain s.domains.items (slot_at s.slots.items v)
  place_variable v h =
      ap (domain_in (present rs)) (in_place_now ∙ ap (put named) h)
      ∙ ap (λ r. domain_at r.domains (place nat_eq (names (entries_of s) (store_of s)) v)) (sym (present_row s rs e))
      ∙ domain_named (entries_of s) (store_of s) v (free_named v (subst (λ u. IsIn v (variables u)) (sym h) (inl refl)))

  pub place_given : (v : ℕ) → put (solution s) t ≡ variable v → given (present rs).domains (in_place (present rs) t) ≡ given_variable (slot_domain s.domains.items (slot_at s.slots.items v))
  place_given v h =
      ap (given (present rs).domains) (in_place_now ∙ ap (put named) h)
      ∙ ap (λ r. given_variable (domain_at r.domains (place nat_eq (names (entries_of s) (store_of s)) v))) (sym (present_row s rs e))
      ∙ ap given_variable (domain_named (entries_of s) (store_of s) v (free_named v (subst (λ u. IsIn v (variables u)) (sym h) (inl refl))))

pub given_some : {T : Type 0} (f : T → Domain) (o : Option T) (d : Option Domain) → option_map f o ≡ d → true ≡ is_some o → ranged ≡ given_variable d
given_some f None d e h = absurd (cc)
given_some f (Some x) d e h = ap given_variable e

pub given_none : {T : Type 0} (f : T → Domain) (o : Option T) (d : Option Domain) → option_map f o ≡ d → false ≡ is_some o → free ≡ given_variable d
given_none f None d e h = ap given_variable e
given_none f (Some x) d e h = absurd (cc)
