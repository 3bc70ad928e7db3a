-- The contents of bindings, how a change is undone, and the substitution that all changes make.
use Rattle.std.specs.Prelude.{ℕ, ℤ, cond, nat_eq, List, [], ◌∷◌, reverse, take, set}
use Rattle.pp_row.specs.declared.cell.Cell.{Cell}
use Rattle.pp_algebra.specs.Terms.{Tree, variable, put}
use Rattle.pp_heap.specs.declared.state.Slot.{Slot}
use Rattle.pp_heap.specs.declared.state.Slot.TheVariants.{Free}
use Rattle.pp_heap.specs.declared.state.Entry.{Entry}
use Rattle.pp_heap.specs.declared.state.Entry.TheVariants.{Grown, Held, Bound, Narrowed, Added, Defined}
use Rattle.pp_heap.specs.declared.state.State.{State}
use Rattle.pp_heap.specs.Values.{slot_at, slot_term}

pub record Store : Type 0 where
  pub heap : List Cell
  pub domains : List (List (ℤ × ℤ))
  pub slots : List Slot

abbrev pub store_of : State → Store
store_of s = record { heap = s.heap.items; domains = s.domains.items; slots = s.slots.items }

-- the changes, the last one first
abbrev pub entries_of : State → List Entry
entries_of s = reverse s.trail.items

-- the contents before a change
abbrev pub before : Entry → Store → Store
before (Grown n) st = record st { heap = take n st.heap }
before (Held n) st = record st { domains = take n st.domains }
before (Bound x d) st = record st { slots = set st.slots x (Free d) }
before (Narrowed x d) st = record st { slots = set st.slots x (Free d) }
before (Added n) st = record st { slots = take n st.slots }
before (Defined n) st = record st { slots = take n st.slots }

-- before all of these, the last one of them first
abbrev pub undone : List Entry → Store → Store
undone [] st = st
undone (e ∷ es) st = undone es (before e st)

-- t for x
abbrev pub single : ℕ → Tree ℕ → ℕ → Tree ℕ
single x t v = cond (nat_eq v x) t (variable v)

-- what a change does to terms: a variable that was bound is replaced
abbrev pub step_by : Entry → Store → (ℕ → Tree ℕ) → ℕ → Tree ℕ
step_by (Grown n) st earlier v = variable v
step_by (Held n) st earlier v = variable v
step_by (Bound x d) st earlier v = single x (put earlier (slot_term st.heap (slot_at st.slots x) x)) v
step_by (Narrowed x d) st earlier v = variable v
step_by (Added n) st earlier v = variable v
step_by (Defined n) st earlier v = single n (put earlier (slot_term st.heap (slot_at st.slots n) n)) v

-- the substitution that the changes make
abbrev pub made : List Entry → Store → ℕ → Tree ℕ
made [] st v = variable v
made (e ∷ es) st v = put (step_by e st (made es (before e st))) (made es (before e st) v)

unfoldable pub solution : State → ℕ → Tree ℕ
solution s = made (entries_of s) (store_of s)
