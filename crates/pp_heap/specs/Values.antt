-- What slots and values stand for: terms of the heap, integers, atoms, variables, and domains by their places.
use Rattle.std.specs.Prelude.{ℕ, ℤ, pos, ◌+◌, List, [], map, Option, Some, None, slice_index_or}
use Rattle.pp_row.specs.declared.cell.Cell.{Cell}
use Rattle.pp_row.specs.declared.cell.Cell.TheVariants as cells
use Rattle.pp_row.specs.Cells.{renamed}
use Rattle.pp_row.specs.Reading.{from}
use Rattle.pp_algebra.specs.Terms.{Tree, int, node, variable, none}
use Rattle.pp_algebra.specs.Rows.{Domain}
use Rattle.pp_algebra.specs.Least.{first}
use Rattle.pp_domain.specs.Sets.{set_of}
use Rattle.pp_heap.specs.declared.state.Slot.{Slot}
use Rattle.pp_heap.specs.declared.state.Slot.TheVariants as slots
use Rattle.pp_heap.specs.declared.state.Value.{Value}
use Rattle.pp_heap.specs.declared.state.Value.TheVariants.{Variable, Int, Atom, Compound}

-- a variable beyond the slots is free
abbrev pub slot_at : List Slot → ℕ → Slot
slot_at ss v = slice_index_or ss v (slots.Free None)

abbrev pub cell_at : List Cell → ℕ → Cell
cell_at heap p = slice_index_or heap p (cells.Int (pos 0))

-- the cells with the numbers of their variables counted from a first one
abbrev pub shifted : ℕ → List Cell → List Cell
shifted first = map (renamed (λ v. first + v))

-- the term that begins at this place
abbrev pub term_at : List Cell → ℕ → Tree ℕ
term_at heap p = first (from heap p)

abbrev pub value_term : List Cell → Value → Tree ℕ
value_term heap (Variable w) = variable w
value_term heap (Int n) = int n
value_term heap (Atom a) = node a none
value_term heap (Compound p) = term_at heap p

-- the slot of a variable that is bound to this value
abbrev pub slot_of : Value → Slot
slot_of (Variable w) = slots.Alias w
slot_of (Int n) = slots.Int n
slot_of (Atom a) = slots.Atom a
slot_of (Compound p) = slots.Compound p

-- what a bound variable is bound to; a free one is itself
abbrev pub slot_term : List Cell → Slot → ℕ → Tree ℕ
slot_term heap (slots.Free d) v = variable v
slot_term heap (slots.Alias w) v = variable w
slot_term heap (slots.Int n) v = int n
slot_term heap (slots.Atom a) v = node a none
slot_term heap (slots.Compound p) v = term_at heap p

-- the domain at a place
abbrev pub domain_by : List (List (ℤ × ℤ)) → Option ℕ → Option Domain
domain_by ds None = None
domain_by ds (Some d) = Some (set_of (slice_index_or ds d []))

-- of a free variable; a bound one has none
abbrev pub slot_domain : List (List (ℤ × ℤ)) → Slot → Option Domain
slot_domain ds (slots.Free d) = domain_by ds d
slot_domain ds (slots.Alias w) = None
slot_domain ds (slots.Int n) = None
slot_domain ds (slots.Atom a) = None
slot_domain ds (slots.Compound p) = None
