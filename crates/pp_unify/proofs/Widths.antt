-- How many variables there are on the way: none more than the head has.
use Rattle.std.proofs.Common.{◌≡◌, ℕ, List, length, arith}
use Rattle.pp_row.specs.declared.cell.Cell.{Cell}
use Rattle.pp_heap.specs.declared.state.State.{State}
use Rattle.pp_unify.specs.Joining.{IsWider}

pub wider_itself : (a : State) (n : ℕ) (head : List Cell) → IsWider a a n head
wider_itself a n head = record { more = omega arith; bounded = λ k h b. h }

pub wider_through : (a b c : State) (n : ℕ) (head : List Cell) → IsWider a b n head → IsWider b c n head → IsWider a c n head
wider_through a b c n head h k = record { more = omega (arith, h.more, k.more); bounded = λ m l b. k.bounded m (h.bounded m l b) b }

pub wider_same : (a b : State) (n : ℕ) (head : List Cell) → length b.slots.items ≡ length a.slots.items → IsWider a b n head
wider_same a b n head e = record { more = omega (arith, e); bounded = λ m l h. omega (arith, e, l) }
