-- Variables that are at their tops what they were in an earlier state.
use Rattle.std.specs.Prelude.{◌≡◌, ℕ, ◌<◌, Bool, true, false, ◌||◌, nat_le, List, Option, Some, None}
use Rattle.pp_algebra.specs.Givens.{given}
use Rattle.pp_algebra.specs.Rows.{Row}
use Rattle.pp_heap.specs.declared.state.Slot.{Slot}
use Rattle.pp_heap.specs.declared.state.Slot.TheVariants as slots
use Rattle.pp_heap.specs.declared.state.Entry.{Entry}
use Rattle.pp_heap.specs.declared.state.Entry.TheVariants.{Grown, Held, Bound, Narrowed, Added, Defined}
use Rattle.pp_heap.specs.Values.{slot_at}
use Rattle.pp_unify.specs.States.{value_in}

-- those below the number, in the earlier row r and the later one q
abbrev pub AreStill : ℕ → Row → Row → Type 0
AreStill k r q = (v : ℕ) → v < k → given q.domains (value_in q v) ≡ given r.domains (value_in r v)

-- a variable is free, with a finite domain exactly where it had one at this place
abbrev pub is_as_free : Slot → Option ℕ → Bool
is_as_free (slots.Free None) None = true
is_as_free (slots.Free None) (Some d) = false
is_as_free (slots.Free (Some e)) None = false
is_as_free (slots.Free (Some e)) (Some d) = true
is_as_free (slots.Alias w) d = false
is_as_free (slots.Int n) d = false
is_as_free (slots.Atom a) d = false
is_as_free (slots.Compound p) d = false

-- nothing is seen now of what a change did to the variables below a number
abbrev pub is_unseen : List Slot → ℕ → Entry → Bool
is_unseen slots k (Grown n) = true
is_unseen slots k (Held n) = true
is_unseen slots k (Bound x d) = nat_le k x
is_unseen slots k (Narrowed x d) = nat_le k x || is_as_free (slot_at slots x) d
is_unseen slots k (Added n) = true
is_unseen slots k (Defined n) = true
