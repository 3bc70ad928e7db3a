-- A domain more changes no term.
use Rattle.std.proofs.Common.{◌≡◌, ℕ, ℤ, ◌<◌, ◌≤◌, List, [], ◌++◌, length, All, Option, Some, None, refl, ap, sym, ◌∙◌, subst, arith, append-nil, append_assoc, length-append}
use Rattle.std.specs.FinSet as set
use Rattle.std.proofs.Math.Seq.{take-append_seam}
use Rattle.std.proofs.lemmas.List.{get_or_append_left}
use Rattle.pp_algebra.specs.Terms.{Tree, put}
use Rattle.pp_algebra.specs.Rows.{Domains}
use Rattle.pp_algebra.specs.Covers.{MayGo}
use Rattle.pp_algebra.proofs.Put.{put-variable}
use Rattle.pp_domain.specs.Sets.{set_of}
use Rattle.pp_heap.specs.declared.state.Entry.TheVariants.{Held}
use Rattle.pp_heap.specs.declared.state.State.{State}
use Rattle.pp_heap.specs.Stores.{Store, store_of, before, solution}
use Rattle.pp_heap.specs.Soundness.{IsLinked, IsPlace, IsGood}
use Rattle.pp_heap.specs.Outcomes.{IsChange, IsSame, IsMore, IsCalm, IsLater, IsFree}
use Rattle.pp_heap.specs.Agreement.{Says, Agrees}
use Rattle.pp_heap.specs.Values.{slot_at, term_at, domain_by}
use Rattle.pp_heap.specs.declared.state.Slot.{Slot}
use Rattle.pp_heap.specs.declared.state.Slot.TheVariants.{Free, Alias, Int, Atom, Compound}
use Rattle.pp_heap.proofs.Keeping.{kept_itself, kept_through, kept_change, kept_same, good_change, good_same, solution_change, solution_same}

pub more_itself : (ds : List (List (ℤ × ℤ))) → IsMore ds ds
more_itself ds = ([], sym (append-nil ds))

pub more_through : (a b c : List (List (ℤ × ℤ))) → IsMore a b → IsMore b c → IsMore a c
more_through a b c m n = (m.0 ++ n.0, n.1 ∙ ap (λ x. x ++ n.0) m.1 ∙ append_assoc a m.0 n.0)

pub calm_itself : (t : State) → IsGood t → IsCalm t t
calm_itself t g = record { good = g; kept = kept_itself t; heap = refl; slots = refl; domains = more_itself t.domains.items; same = λ v. refl }

pub calm_same : (old new : State) → IsGood old → IsSame old new → IsCalm old new
calm_same old new g s = record {
  good = good_same old new g s;
  kept = kept_same old new s;
  heap = ap (λ (z : Store). z.heap) s.store;
  slots = ap (λ (z : Store). z.slots) s.store;
  domains = ([], ap (λ (z : Store). z.domains) s.store ∙ sym (append-nil old.domains.items));
  same = solution_same old new s;
}

place_more : (ds more : List (List (ℤ × ℤ))) (d : Option ℕ) → IsPlace ds d → IsPlace (ds ++ more) d
place_more ds more None h = tt
place_more ds more (Some d) h = omega (arith, length-append ds more)

-- domains that are wide may be added
linked_held : (st : Store) (more : List (List (ℤ × ℤ))) → IsLinked st → All (λ ps. 2 ≤ set.len (set_of ps)) (st.domains ++ more) → IsLinked (record st { domains = st.domains ++ more })
linked_held st more k w = record {
  forest = k.forest;
  variables = k.variables;
  bound = k.bound;
  free = λ v d e. place_more st.domains more d (k.free v d e);
  wide = w;
}

held_before : (st : Store) (more : List (List (ℤ × ℤ))) (n : ℕ) → n ≡ length st.domains → before (Held n) (record st { domains = st.domains ++ more }) ≡ st
held_before st more n e = rw e (ap (λ ds. record { heap = st.heap; domains = ds; slots = st.slots }) (take-append_seam st.domains more))

pub calm_held : (old new : State) (n : ℕ) (more : List (List (ℤ × ℤ))) → IsGood old → n ≡ length old.domains.items → All (λ ps. 2 ≤ set.len (set_of ps)) (old.domains.items ++ more) → IsChange old new (Held n) (record (store_of old) { domains = old.domains.items ++ more }) → IsCalm old new
calm_held old new n more g e w c =
    let st : Store = record (store_of old) { domains = old.domains.items ++ more } in
    let b = held_before (store_of old) more n e in
    record {
      good = good_change old new (Held n) st g c b (omega (arith, length-append old.domains.items more)) (linked_held (store_of old) more g.linked w) g.small g.few;
      kept = kept_change old new (Held n) st c b;
      heap = ap (λ (z : Store). z.heap) c.store;
      slots = ap (λ (z : Store). z.slots) c.store;
      domains = (more, ap (λ (z : Store). z.domains) c.store);
      same = λ v. solution_change old new (Held n) st c b v ∙ put-variable (solution old v);
    }

-- the same of an entry alone
pub calm_entry : (old new : State) (n : ℕ) → IsGood old → n ≡ length old.domains.items → IsChange old new (Held n) (store_of old) → IsCalm old new
calm_entry old new n g e c =
    calm_held old new n [] g e (rw (append-nil old.domains.items) g.linked.wide) (record {
      store = c.store ∙ ap (λ ds. let r : Store = record { heap = old.heap.items; domains = ds; slots = old.slots.items } in r) (sym (append-nil old.domains.items));
      entries = c.entries;
    })

pub calm_later : (old new : State) → IsCalm old new → IsLater old new
calm_later old new h = record { good = h.good; kept = h.kept; heap = h.heap; variables = ap length h.slots }

pub later_through : (a b c : State) → IsLater a b → IsLater b c → IsLater a c
later_through a b c h k = record {
  good = k.good;
  kept = kept_through a b c h.kept k.kept;
  heap = k.heap ∙ h.heap;
  variables = k.variables ∙ h.variables;
}

pub later_itself : (t : State) → IsGood t → IsLater t t
later_itself t g = record { good = g; kept = kept_itself t; heap = refl; variables = refl }

-- the domain at a place stays
domain_more : (ds more : List (List (ℤ × ℤ))) (d : Option ℕ) → IsPlace ds d → domain_by (ds ++ more) d ≡ domain_by ds d
domain_more ds more None h = refl
domain_more ds more (Some d) h = ap (λ ps. Some (set_of ps)) (get_or_append_left ds more [] d h)

pub domain_calm : (a b : State) (d : Option ℕ) → IsCalm a b → IsPlace a.domains.items d → domain_by b.domains.items d ≡ domain_by a.domains.items d
domain_calm a b d h p = ap (λ ds. domain_by ds d) h.domains.1 ∙ domain_more a.domains.items h.domains.0 d p

pub free_calm : (a b : State) (x : ℕ) (d : Option ℕ) → IsCalm a b → IsFree (store_of a) x d → IsFree (store_of b) x d
free_calm a b x d h f = record { within = subst (λ ss. x < length ss) (sym h.slots) f.within; free = ap (λ ss. slot_at ss x) h.slots ∙ f.free }

says_like : (st st' : Store) (ds : Domains ℕ) (s : ℕ → Tree ℕ) (v : ℕ) (k : Slot) → st.heap ≡ st'.heap → ((d : Option ℕ) → k ≡ Free d → domain_by st.domains d ≡ domain_by st'.domains d) → Says st ds s v k → Says st' ds s v k
says_like st st' ds s v (Free d) e f h = subst (λ o. MayGo ds o (s v)) (f d refl) h
says_like st st' ds s v (Alias w) e f h = h
says_like st st' ds s v (Int n) e f h = h
says_like st st' ds s v (Atom a) e f h = h
says_like st st' ds s v (Compound p) e f h = subst (λ heap. s v ≡ put s (term_at heap p)) e h

-- what agrees stays the same
pub agrees_calm : (a b : State) (ds : Domains ℕ) (s : ℕ → Tree ℕ) → IsGood a → IsCalm a b → Agrees (store_of a) ds s → Agrees (store_of b) ds s
agrees_calm a b ds s g h r v = subst (λ ss. Says (store_of b) ds s v (slot_at ss v)) (sym h.slots)
    (says_like (store_of a) (store_of b) ds s v (slot_at a.slots.items v) (sym h.heap) (λ d e. sym (domain_calm a b d h (g.linked.free v d e))) (r v))

pub calm_agrees : (a b : State) (ds : Domains ℕ) (s : ℕ → Tree ℕ) → IsGood a → IsCalm a b → Agrees (store_of b) ds s → Agrees (store_of a) ds s
calm_agrees a b ds s g h r v =
    says_like (store_of b) (store_of a) ds s v (slot_at a.slots.items v) h.heap (λ d e. domain_calm a b d h (g.linked.free v d e)) (subst (λ ss. Says (store_of b) ds s v (slot_at ss v)) h.slots (r v))
