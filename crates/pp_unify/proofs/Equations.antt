-- The verdict on an equation of terms that are others at the moment, and what a value stays when more terms are put to the heap.
use Rattle.std.proofs.Common.{◌≡◌, ℕ, ◌<◌, [], ◌++◌, length, Bool, true, false, refl, ap, sym, ◌∙◌, subst, arith, append_assoc, append-nil, length-append}
use Rattle.std.specs.Prelude.{◌↔◌, nat_eq}
use Rattle.pp_algebra.specs.Terms.{Tree, Trees, put, put_all}
use Rattle.pp_algebra.specs.Rows.{Domains}
use Rattle.pp_algebra.specs.Covers.{MayGo}
use Rattle.pp_algebra.specs.Solve.{equation}
use Rattle.pp_algebra.specs.Canon.{canon}
use Rattle.pp_algebra.proofs.Antisym.{put_all-agree}
use Rattle.pp_algebra.specs.Numbered.{variables_from}
use Rattle.pp_heap.specs.declared.state.Slot.{Slot}
use Rattle.pp_heap.specs.declared.state.Slot.TheVariants as slots
use Rattle.pp_heap.specs.declared.state.Value.{Value}
use Rattle.pp_heap.specs.declared.state.Value.TheVariants.{Variable, Int, Atom, Compound}
use Rattle.pp_heap.specs.declared.state.State.{State}
use Rattle.pp_heap.specs.Values.{slot_at, cell_at, term_at, value_term, domain_by, slot_domain}
use Rattle.pp_heap.specs.Stores.{Store, store_of, entries_of, solution, made}
use Rattle.pp_heap.specs.Agreement.{Says, Agrees}
use Rattle.pp_heap.specs.Soundness.{IsCompound, IsGood}
use Rattle.pp_heap.specs.Outcomes.{IsNow, IsValue, IsSame, IsGrown, IsVerdict}
use Rattle.pp_unify.specs.Equating.{IsOpen}
use Rattle.pp_heap.proofs.Forests.{more_forest, more_term, more_cell}
use Rattle.pp_heap.proofs.Keeping.{kept_itself, kept_through}
use Rattle.pp_heap.proofs.Growing.{empty_forest}
use Rattle.pp_unify.proofs.Verdicts.{row_of}

-- the same substitutions agree with both states
abbrev pub AgreeAlike : State → State → Type 0
AgreeAlike a b = (ds : Domains ℕ) (s : ℕ → Tree ℕ) → Agrees (store_of a) ds s ↔ Agrees (store_of b) ds s

-- the term is this other one at the moment
abbrev pub AreEqual : State → Tree ℕ → Tree ℕ → Type 0
AreEqual a t u = (ds : Domains ℕ) (s : ℕ → Tree ℕ) → Agrees (store_of a) ds s → put s t ≡ put s u

pub verdict_same : (a b c : State) (t u t' u' : Tree ℕ) (r : Bool) → AgreeAlike a b → AreEqual b t t' → AreEqual b u u' → IsVerdict b c (equation t' u') r → IsVerdict a c (equation t u) r
verdict_same a b c t u t' u' true h x y v = λ ds s w. (
  (λ k. let p = (v ds s w).0 k in ((h ds s).1 p.0, x ds s p.0 ∙ p.1 ∙ sym (y ds s p.0))),
  λ k. let p = (h ds s).0 k.0 in (v ds s w).1 (p, sym (x ds s p) ∙ k.1 ∙ y ds s p),
)
verdict_same a b c t u t' u' false h x y v = λ ds s w k e. let p = (h ds s).0 k in v ds s w p (sym (x ds s p) ∙ e ∙ y ds s p)

pub alike_itself : (a : State) → AgreeAlike a a
alike_itself a ds s = ((λ h. h), λ h. h)

alike_same : (a b : State) → IsSame a b → AgreeAlike a b
alike_same a b e ds s = ((λ h. subst (λ (z : Store). Agrees z ds s) (sym e.store) h), λ h. subst (λ (z : Store). Agrees z ds s) e.store h)

-- the arguments of two compounds are left
pub verdict_open : (a b c : State) (t u : Tree ℕ) (p q : ℕ) (r : Bool) → IsSame a b → IsOpen (store_of a) t u p q → IsVerdict b c (equation (term_at b.heap.items p) (term_at b.heap.items q)) r → IsVerdict a c (equation t u) r
verdict_open a b c t u p q r e o v =
    let h = alike_same a b e in
    let heap : a.heap.items ≡ b.heap.items = ap (λ (z : Store). z.heap) (sym e.store) in
    verdict_same a b c t u (term_at b.heap.items p) (term_at b.heap.items q) r h
    (λ ds s k. o.left_is ds s ((h ds s).1 k) ∙ ap (λ cs. put s (term_at cs p)) heap)
    (λ ds s k. o.right_is ds s ((h ds s).1 k) ∙ ap (λ cs. put s (term_at cs q)) heap)
    v

pub grown_itself : (a : State) → IsGood a → IsGrown a a
grown_itself a g = record { good = g; kept = kept_itself a; heap = ([], empty_forest, sym (append-nil a.heap.items)); slots = refl; domains = refl; same = λ v. refl }

pub grown_through : (a b c : State) → IsGrown a b → IsGrown b c → IsGrown a c
grown_through a b c h k = record {
  good = k.good;
  kept = kept_through a b c h.kept k.kept;
  heap = (
    h.heap.0 ++ k.heap.0,
    more_forest h.heap.0 k.heap.0 h.heap.1 k.heap.1,
    k.heap.2 ∙ ap (λ cs. cs ++ k.heap.0) h.heap.2 ∙ append_assoc a.heap.items h.heap.0 k.heap.0,
  );
  slots = k.slots ∙ h.slots;
  domains = k.domains ∙ h.domains;
  same = λ v. k.same v ∙ h.same v;
}

-- a term of the heap stays
module _ (a b : State) (g : IsGood a) (h : IsGrown a b) where
  term_stays : (p : ℕ) → p < length a.heap.items → term_at b.heap.items p ≡ term_at a.heap.items p
  term_stays p l = ap (λ cs. term_at cs p) h.heap.2 ∙ more_term a.heap.items h.heap.0 p g.linked.forest h.heap.1 l

  cell_stays : (p : ℕ) → p < length a.heap.items → cell_at b.heap.items p ≡ cell_at a.heap.items p
  cell_stays p l = ap (λ cs. cell_at cs p) h.heap.2 ∙ more_cell a.heap.items h.heap.0 p l

  longer : (p : ℕ) → p < length a.heap.items → p < length b.heap.items
  longer p l = omega (arith, l, ap length h.heap.2, length-append a.heap.items h.heap.0)

  says_grown : (ds : Domains ℕ) (s : ℕ → Tree ℕ) (v : ℕ) (k : Slot) → slot_at a.slots.items v ≡ k → Says (store_of a) ds s v k ↔ Says (store_of b) ds s v k
  says_grown ds s v (slots.Free d) e = ((λ x. subst (λ es. MayGo ds (domain_by es d) (s v)) (sym h.domains) x), λ x. subst (λ es. MayGo ds (domain_by es d) (s v)) h.domains x)
  says_grown ds s v (slots.Alias w) e = ((λ x. x), λ x. x)
  says_grown ds s v (slots.Int n) e = ((λ x. x), λ x. x)
  says_grown ds s v (slots.Atom n) e = ((λ x. x), λ x. x)
  says_grown ds s v (slots.Compound p) e = let t = ap (put s) (term_stays p (g.linked.bound v (Compound p) e).0) in ((λ x. x ∙ sym t), λ x. x ∙ t)

  pub alike_grown : AgreeAlike a b
  alike_grown ds s = (
    (λ x v. subst (λ ss. Says (store_of b) ds s v (slot_at ss v)) (sym h.slots) ((says_grown ds s v (slot_at a.slots.items v) refl).0 (x v))),
    λ x v. (says_grown ds s v (slot_at a.slots.items v) refl).1 (subst (λ ss. Says (store_of b) ds s v (slot_at ss v)) h.slots (x v)),
  )

  now_grown : (c : Value) → IsNow (store_of a) c → IsNow (store_of b) c
  now_grown (Variable x) n = (n.0, record { within = subst (λ ss. x < length ss) (sym h.slots) n.1.within; free = ap (λ ss. slot_at ss x) h.slots ∙ n.1.free })
  now_grown (Int n) i = i
  now_grown (Atom n) i = i
  now_grown (Compound p) i = (longer p i.0, subst IsCompound (sym (cell_stays p i.0)) i.1)

  term_grown : (c : Value) → IsNow (store_of a) c → value_term b.heap.items c ≡ value_term a.heap.items c
  term_grown (Variable x) n = refl
  term_grown (Int n) i = refl
  term_grown (Atom n) i = refl
  term_grown (Compound p) i = term_stays p i.0

  pub value_grown : (t : Tree ℕ) (c : Value) → IsValue (store_of a) t c → IsValue (store_of b) t c
  value_grown t c v = record {
    now = now_grown c v.now;
    same = λ ds s x. v.same ds s ((alike_grown ds s).1 x) ∙ ap (put s) (sym (term_grown c v.now));
  }

-- the row stays
pub grown_row : (old new : State) → IsGrown old new → row_of new ≡ row_of old
unfolding solution
grown_row old new h =
    let all : ℕ → Trees ℕ = λ n. put_all (made (entries_of new) (store_of new)) (variables_from 0 n) in
    ap (λ n. canon nat_eq (record { columns = all n; domains = λ v. slot_domain new.domains.items (slot_at new.slots.items v) })) (ap length h.slots)
    ∙ ap (λ ts. canon nat_eq (record { columns = ts; domains = λ v. slot_domain new.domains.items (slot_at new.slots.items v) })) (put_all-agree (made (entries_of new) (store_of new)) (made (entries_of old) (store_of old)) (variables_from 0 (length old.slots.items)) (λ v i. h.same v))
    ∙ ap (λ ss. canon nat_eq (record { columns = put_all (made (entries_of old) (store_of old)) (variables_from 0 (length old.slots.items)); domains = λ v. slot_domain new.domains.items (slot_at ss v) })) h.slots
    ∙ ap (λ ds. canon nat_eq (record { columns = put_all (made (entries_of old) (store_of old)) (variables_from 0 (length old.slots.items)); domains = λ v. slot_domain ds (slot_at old.slots.items v) })) h.domains
