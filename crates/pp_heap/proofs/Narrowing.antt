-- A free variable is made to be in a domain.
use Rattle.std.proofs.Common.{ℕ, ℤ, Option, sym, subst}
use Rattle.std.specs.Prelude.{◌↔◌}
use Rattle.pp_algebra.specs.Terms.{Tree}
use Rattle.pp_algebra.specs.Rows.{Domain, Domains}
use Rattle.pp_algebra.specs.Covers.{MayGo}
use Rattle.pp_heap.specs.declared.state.Value.TheVariants.{Int}
use Rattle.pp_heap.specs.declared.bind.Meeting.TheVariants.{Empty, One, Many}
use Rattle.pp_heap.specs.declared.state.State.{State}
use Rattle.pp_heap.specs.Values.{domain_by}
use Rattle.pp_heap.specs.Stores.{store_of}
use Rattle.pp_heap.specs.Agreement.{Agrees, AllWide}
use Rattle.pp_heap.specs.Soundness.{IsPlace, IsGood}
use Rattle.pp_heap.specs.Outcomes.{IsFree, IsCalm, IsLater, IsMeeting}
use Rattle.pp_heap.proofs.Slots.{agrees_free}
use Rattle.pp_heap.proofs.Calm.{calm_later, later_through, domain_calm, agrees_calm, calm_agrees}
use Rattle.pp_heap.proofs.Binding.{IsBinding, IsGiving, binding_later, giving_later, binding_agrees, binding_says, agrees_binding, giving_agrees, giving_says, agrees_giving}

-- s makes the variable be in the domain e too
abbrev pub Narrows : State → State → ℕ → Option Domain → Type 0
Narrows a b x e = (ds : Domains ℕ) (s : ℕ → Tree ℕ) → AllWide ds → Agrees (store_of b) ds s ↔ (Agrees (store_of a) ds s × MayGo ds e (s x))

module _ (a m : State) (x : ℕ) (d : Option ℕ) (e : Option Domain) (g : IsGood a) (calm : IsCalm a m) (f : IsFree (store_of a) x d) where
  place : IsPlace a.domains.items d
  place = g.linked.free x d f.free

  goes : (ds : Domains ℕ) (s : ℕ → Tree ℕ) → MayGo ds (domain_by a.domains.items d) (s x) → MayGo ds (domain_by m.domains.items d) (s x)
  goes ds s h = subst (λ o. MayGo ds o (s x)) (sym (domain_calm a m d calm place)) h

  pub narrowed_none : IsMeeting m.domains.items (domain_by a.domains.items d) e Empty → (ds : Domains ℕ) (s : ℕ → Tree ℕ) → AllWide ds → Agrees (store_of a) ds s → MayGo ds e (s x) → ⊥
  narrowed_none q ds s w r h = q ds (s x) w (agrees_free (store_of a) ds s x d r f.free) h

  pub narrowed_one : (b : State) (n : ℤ) → IsMeeting m.domains.items (domain_by a.domains.items d) e (One n) → IsBinding m b x d (Int n) → Narrows a b x e
  narrowed_one b n q k ds s w = (
    (λ r. let h = (q.1 ds (s x) w).0 (binding_says m b x d (Int n) ds s k r) in (calm_agrees a m ds s g calm (binding_agrees m b x d (Int n) ds s k r (goes ds s h.0)), h.1)),
    λ r. agrees_binding m b x d (Int n) ds s k (agrees_calm a m ds s g calm r.0) ((q.1 ds (s x) w).1 (agrees_free (store_of a) ds s x d r.0 f.free, r.1)),
  )

  pub narrowed_many : (b : State) (k : Option ℕ) → IsMeeting m.domains.items (domain_by a.domains.items d) e (Many k) → IsGiving m b x d k → Narrows a b x e
  narrowed_many b k q i ds s w = (
    (λ r. let h = (q.1 ds (s x) w).0 (giving_says m b x d k ds s i r) in (calm_agrees a m ds s g calm (giving_agrees m b x d k ds s i r (goes ds s h.0)), h.1)),
    λ r. agrees_giving m b x d k ds s i (agrees_calm a m ds s g calm r.0) ((q.1 ds (s x) w).1 (agrees_free (store_of a) ds s x d r.0 f.free, r.1)),
  )

  pub one_later : (b : State) (n : ℤ) → IsMeeting m.domains.items (domain_by a.domains.items d) e (One n) → IsBinding m b x d (Int n) → IsLater a b
  one_later b n q k = later_through a m b (calm_later a m calm) (binding_later m b x d (Int n) k q.0 (λ i. i))

  pub many_later : (b : State) (k : Option ℕ) → IsMeeting m.domains.items (domain_by a.domains.items d) e (Many k) → IsGiving m b x d k → IsLater a b
  many_later b k q i = later_through a m b (calm_later a m calm) (giving_later m b x d k i q.0)
