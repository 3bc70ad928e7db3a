-- What the variables of a row stand for while its cells are met with terms of the heap, and what has been met.
use Rattle.std.specs.Prelude.{◌≡◌, ℕ, pos, ◌<◌, List, length, slice_index_or, All}
use Rattle.pp_row.specs.declared.cell.Cell.{Cell}
use Rattle.pp_row.proofs.Next.{IsNext}
use Rattle.pp_algebra.specs.Terms.{Tree, Trees, put, put_all}
use Rattle.pp_algebra.specs.Rows.{Domains}
use Rattle.pp_algebra.specs.Covers.{MayGo}
use Rattle.pp_order.specs.Bindings.{Takes}
use Rattle.pp_heap.specs.declared.state.State.{State}
use Rattle.pp_heap.specs.declared.state.Value.{Value}
use Rattle.pp_heap.specs.declared.state.Value.TheVariants.{Int}
use Rattle.pp_heap.specs.Values.{slot_at, slot_domain, value_term}
use Rattle.pp_heap.specs.Stores.{store_of, solution}
use Rattle.pp_heap.specs.Outcomes.{IsNow}
use Rattle.pp_unify.specs.Equating.{IsOpen}
use Rattle.pp_unify.specs.declared.cover.Likeness.{Likeness}
use Rattle.pp_unify.specs.declared.cover.Likeness.TheVariants.{Apart, Same, Open}

-- the term of a value, with all bindings in place, and the domains of the variables
abbrev pub now_term : State → Value → Tree ℕ
now_term t c = put (solution t) (value_term t.heap.items c)

abbrev pub domains_now : State → Domains ℕ
domains_now t v = slot_domain t.domains.items (slot_at t.slots.items v)

-- what is known of two terms: nothing, that they are the same now, or that they are these compounds of one name
abbrev pub HasLikeness : State → Tree ℕ → Tree ℕ → Likeness → Type 0
HasLikeness t a b Apart = Unit {0}
HasLikeness t a b Same = put (solution t) a ≡ put (solution t) b
HasLikeness t a b (Open p q) = IsOpen (store_of t) a b p q

abbrev pub bound_at : List Value → ℕ → Value
bound_at cs k = slice_index_or cs k (Int (pos 0))

-- each of the row's variables from 0 on stands for a value, to which its domain lets it go
pub record AreBound (t : State) (ds : Domains ℕ) (cs : List Value) : Type 0 where
  pub now : All (IsNow (store_of t)) cs
  pub goes : (k : ℕ) → k < length cs → MayGo (domains_now t) (ds k) (now_term t (bound_at cs k))

-- s gives these variables the terms of their values
abbrev pub Gives : State → (ℕ → Tree ℕ) → List Value → Type 0
Gives t s cs = (k : ℕ) → k < length cs → s k ≡ now_term t (bound_at cs k)

-- the variable stands for the value now, as do those that did before
pub record IsBound (t : State) (ds : Domains ℕ) (old new : List Value) (v : ℕ) (c : Value) : Type 0 where
  pub bound : AreBound t ds new
  pub older : (s : ℕ → Tree ℕ) → Gives t s new → Gives t s old
  pub within : v < length new
  pub same : now_term t (bound_at new v) ≡ now_term t c

-- s takes terms of the row to what these terms are now
abbrev pub TakesNow : State → Domains ℕ → (ℕ → Tree ℕ) → Trees ℕ → Trees ℕ → Type 0
TakesNow t ds s ts us = Takes ds (domains_now t) s ts (put_all (solution t) us)

-- a cell of the row and the first of the terms us agree where what is behind the cell and the terms qs do
pub record IsMet (t : State) (ds : Domains ℕ) (old new : List Value) (c : Cell) (us qs : Trees ℕ) : Type 0 where
  pub bound : AreBound t ds new
  pub older : (s : ℕ → Tree ℕ) → Gives t s new → Gives t s old
  pub back : (s : ℕ → Tree ℕ) (ts rs : Trees ℕ) → IsNext c ts rs → Gives t s new → TakesNow t ds s rs qs → TakesNow t ds s ts us

-- the terms ts of the row cover the terms us
pub record AreCovered (t : State) (ds : Domains ℕ) (old new : List Value) (ts us : Trees ℕ) : Type 0 where
  pub bound : AreBound t ds new
  pub older : (s : ℕ → Tree ℕ) → Gives t s new → Gives t s old
  pub takes : (s : ℕ → Tree ℕ) → Gives t s new → TakesNow t ds s ts us
