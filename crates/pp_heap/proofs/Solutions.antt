-- The substitution of a state agrees with it, and whatever agrees goes through it.
use Rattle.std.proofs.Common.{◌≡◌, ℕ, Option, ap, sym, subst}
use Rattle.pp_algebra.specs.Terms.{Tree, variable, put}
use Rattle.pp_algebra.specs.Rows.{Domains}
use Rattle.pp_algebra.specs.Covers.{MayGo}
use Rattle.pp_algebra.proofs.Order.{may_stay}
use Rattle.pp_heap.specs.declared.state.Slot.TheVariants.{Free}
use Rattle.pp_heap.specs.declared.state.State.{State}
use Rattle.pp_heap.specs.Values.{slot_at, slot_domain, domain_by}
use Rattle.pp_heap.specs.Stores.{Store, store_of, entries_of, solution}
use Rattle.pp_heap.specs.Agreement.{Agrees}
use Rattle.pp_heap.specs.Soundness.{IsGood}
use Rattle.pp_heap.proofs.Slots.{Fits, Equates, agrees_from, agrees_bound}
use Rattle.pp_heap.proofs.Made.{made_free, made_most, made_equates}

-- the domains of the free variables
abbrev pub own_domains : Store → Domains ℕ
own_domains st v = slot_domain st.domains (slot_at st.slots v)

pub solution_free : (t : State) (v : ℕ) (d : Option ℕ) → IsGood t → slot_at (store_of t).slots v ≡ Free d → solution t v ≡ variable v
unfolding solution
solution_free t v d g h = made_free (entries_of t) (store_of t) v d g.sound h

pub solution_equates : (t : State) → IsGood t → Equates (store_of t) (solution t)
unfolding solution
solution_equates t g = made_equates (entries_of t) (store_of t) g.linked g.sound

pub solution_agrees : (t : State) → IsGood t → Agrees (store_of t) (own_domains (store_of t)) (solution t)
solution_agrees t g = agrees_from (store_of t) (own_domains (store_of t)) (solution t) (solution_equates t g) fits
  where
    fits : Fits (store_of t) (own_domains (store_of t)) (solution t)
    fits v d h = subst (MayGo (own_domains (store_of t)) (domain_by (store_of t).domains d)) (sym (solution_free t v d g h)) (may_stay (own_domains (store_of t)) v (domain_by (store_of t).domains d) (ap (slot_domain (store_of t).domains) h))

-- it is most general
pub solution_most : (t : State) (ds : Domains ℕ) (s : ℕ → Tree ℕ) → IsGood t → Agrees (store_of t) ds s → (v : ℕ) → put s (solution t v) ≡ s v
unfolding solution
solution_most t ds s g a = made_most (entries_of t) (store_of t) s g.linked g.sound (λ v c h. agrees_bound (store_of t) ds s v c a h)
