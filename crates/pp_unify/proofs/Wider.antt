-- Variables are added on the way: what that changes, and steps one after another.
use Rattle.std.proofs.Common.{◌≡◌, ℕ, ◌+◌, ◌≤◌, Bool, true, false, List, ◌++◌, length, replicate, None, refl, ap, sym, ◌∙◌, subst, arith}
use Rattle.std.specs.Prelude.{◌↔◌}
use Rattle.pp_algebra.specs.Terms.{Tree, put}
use Rattle.pp_algebra.specs.Rows.{Domains}
use Rattle.pp_algebra.specs.Covers.{MayGo}
use Rattle.pp_row.specs.declared.cell.Cell.{Cell}
use Rattle.pp_row.specs.Reading.{forest}
use Rattle.pp_heap.specs.declared.state.Slot.{Slot}
use Rattle.pp_heap.specs.declared.state.Slot.TheVariants.{Free, Alias, Int, Atom, Compound}
use Rattle.pp_heap.specs.declared.state.State.{State}
use Rattle.pp_heap.specs.Values.{slot_at, term_at, domain_by}
use Rattle.pp_heap.specs.Stores.{Store, store_of}
use Rattle.pp_heap.specs.Agreement.{Says, Agrees}
use Rattle.pp_heap.specs.Soundness.{IsGood}
use Rattle.pp_heap.specs.Outcomes.{IsGrown, IsLater}
use Rattle.pp_heap.proofs.Keeping.{kept_itself, kept_through}
use Rattle.pp_unify.specs.Joining.{IsOnward, AreBelow, AreJoined, JoinedBy, IsEntered, IsRaised}
use Rattle.pp_unify.proofs.AddedMany.{free_slots_more}

pub onward_through : (a b c : State) → IsOnward a b → IsOnward b c → IsOnward a c
onward_through a b c h k = record { good = k.good; kept = kept_through a b c h.kept k.kept }

pub onward_itself : (a : State) → IsGood a → IsOnward a a
onward_itself a g = record { good = g; kept = kept_itself a }

pub onward_grown : (a b : State) → IsGrown a b → IsOnward a b
onward_grown a b h = record { good = h.good; kept = h.kept }

pub onward_later : (a b : State) → IsLater a b → IsOnward a b
onward_later a b h = record { good = h.good; kept = h.kept }

-- the same cells, domains and slots say the same
pub says_alike : (old new : Store) (ds : Domains ℕ) (s : ℕ → Tree ℕ) (v : ℕ) (c : Slot) → new.heap ≡ old.heap → new.domains ≡ old.domains → Says old ds s v c ≡ Says new ds s v c
says_alike old new ds s v (Free d) h e = ap (λ es. MayGo ds (domain_by es d) (s v)) (sym e)
says_alike old new ds s v (Alias w) h e = refl
says_alike old new ds s v (Int z) h e = refl
says_alike old new ds s v (Atom z) h e = refl
says_alike old new ds s v (Compound p) h e = ap (λ cs. s v ≡ put s (term_at cs p)) (sym h)

pub many_alike : (old new : State) (k : ℕ) → new.slots.items ≡ old.slots.items ++ replicate k (Free None) → new.heap.items ≡ old.heap.items → new.domains.items ≡ old.domains.items → (ds : Domains ℕ) (s : ℕ → Tree ℕ) → Agrees (store_of old) ds s ↔ Agrees (store_of new) ds s
many_alike old new k e h d ds s =
    let slot : (v : ℕ) → slot_at new.slots.items v ≡ slot_at old.slots.items v = λ v. ap (λ ss. slot_at ss v) e ∙ free_slots_more old.slots.items k v in
    let same : (v : ℕ) (c : Slot) → Says (store_of old) ds s v c ≡ Says (store_of new) ds s v c = λ v c. says_alike (store_of old) (store_of new) ds s v c h d in (
      (λ a v. subst (Says (store_of new) ds s v) (sym (slot v)) (subst (λ t. t) (same v (slot_at old.slots.items v)) (a v))),
      λ a v. subst (λ t. t) (sym (same v (slot_at old.slots.items v))) (subst (Says (store_of new) ds s v) (slot v) (a v)),
    )

below_from : (n m k : ℕ) (head : List Cell) → AreBelow n 0 head → m + n ≤ k → AreBelow k m head
below_from n m k head h l p v e = let b = h p v e in omega (arith, b, l)

pub entered_from : (a b d : State) (n : ℕ) (goal head : List Cell) (base amount end : ℕ) (r : Bool) → base ≡ length a.slots.items → end ≡ length a.slots.items + amount → r ≡ true → AreBelow amount 0 head → AreJoined a b n goal base head r → IsRaised b d end → IsEntered a d n goal head amount r
entered_from a b d n goal head base amount end false e f q h j w = absurd (cc)
entered_from a b d n goal head base amount end true e f q h j w =
    let x = j.0.bounded end (omega (arith, f)) (below_from amount base end head h (omega (arith, e, f))) in
    let y = w.bounded end x (omega arith) in
    let joined = subst (λ m. JoinedBy a b n (forest goal) m (forest head)) e j.1 in (
      omega (arith, y, w.reached, f),
      λ ds s g. let k = joined ds s g in let i = w.alike ds s in ((λ z. k.0 (i.1 z)), λ z. i.0 (k.1 z)),
    )

pub never_from : (a b : State) (n : ℕ) (goal head : List Cell) (base amount : ℕ) (r : Bool) → base ≡ length a.slots.items → r ≡ false → AreJoined a b n goal base head r → IsEntered a b n goal head amount r
never_from a b n goal head base amount true e q j = absurd (cc)
never_from a b n goal head base amount false e q j = subst (λ m. AreJoined a b n goal m head false) e j
