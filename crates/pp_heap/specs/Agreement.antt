-- Which substitutions agree with what is known of the variables.
use Rattle.std.specs.Prelude.{◌≡◌, ℕ, ◌↔◌}
use Rattle.pp_algebra.specs.Terms.{Tree, int, node, none, put}
use Rattle.pp_algebra.specs.Rows.{Domains, IsWide}
use Rattle.pp_algebra.specs.Covers.{MayGo}
use Rattle.pp_algebra.specs.Solve.{Item, Holds}
use Rattle.pp_heap.specs.declared.state.Slot.{Slot}
use Rattle.pp_heap.specs.declared.state.Slot.TheVariants.{Free, Alias, Int, Atom, Compound}
use Rattle.pp_heap.specs.declared.state.State.{State}
use Rattle.pp_heap.specs.Values.{slot_at, term_at, domain_by}
use Rattle.pp_heap.specs.Stores.{Store, store_of}

-- what its slot says of variable v under s, among variables of the domains ds: a free one goes where its domain lets it, a bound one equals what it is bound to
abbrev pub Says : Store → Domains ℕ → (ℕ → Tree ℕ) → ℕ → Slot → Type 0
Says st ds s v (Free d) = MayGo ds (domain_by st.domains d) (s v)
Says st ds s v (Alias w) = s v ≡ s w
Says st ds s v (Int n) = s v ≡ int n
Says st ds s v (Atom a) = s v ≡ node a none
Says st ds s v (Compound p) = s v ≡ put s (term_at st.heap p)

abbrev pub Agrees : Store → Domains ℕ → (ℕ → Tree ℕ) → Type 0
Agrees st ds s = (v : ℕ) → Says st ds s v (slot_at st.slots v)

abbrev pub AllWide : Domains ℕ → Type 0
AllWide ds = (v : ℕ) → IsWide (ds v)

-- what agrees with the later state agrees with the earlier one and makes the item hold
abbrev pub Follows : State → State → Item ℕ → Type 0
Follows old new item = (ds : Domains ℕ) (s : ℕ → Tree ℕ) → AllWide ds → Agrees (store_of new) ds s ↔ (Agrees (store_of old) ds s × Holds ds s item)

-- nothing that agrees with the state makes the item hold
abbrev pub Excludes : State → Item ℕ → Type 0
Excludes old item = (ds : Domains ℕ) (s : ℕ → Tree ℕ) → AllWide ds → Agrees (store_of old) ds s → Holds ds s item → ⊥
