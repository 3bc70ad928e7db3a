-- What each kind of step tells the hand or the peek that makes it.
use Rattle.std.specs.Prelude.{◌≡◌, ℕ, ◌+◌, ◌-◌, true, false, List, [], ◌++◌, length, drop}
use mathlib.Core.Option.{some}
use lib.ListN.{get_elem?}
use Rattle.pp_deal.specs.Dealt.{Dealt, AreAccounted, tally}
use Rattle.pp_deal.specs.declared.tally.Tally.{Tally}

module _ {T : Type 0} where
  -- at a moment at which this was known, the deque held these items
  abbrev pub Held : List T → Tally T → Type 0
  Held items v = (views : List (Tally T)) × (place : ℕ) × Dealt items views × (get_elem? views place ≡ some v)

  abbrev pub HeldNone : Tally T → Type 0
  HeldNone v = Held [] v

  abbrev pub offers : Tally T → List T → Tally T → Type 0
  offers v xs w = w ≡ tally v.leads v.is_out v.peeks (v.offered ++ xs) v.taken

  abbrev pub has_taken : Tally T → List T → Tally T
  has_taken v xs = tally v.leads v.is_out v.peeks v.offered (v.taken ++ xs)

  -- the items stood at the front
  abbrev pub takes : Tally T → List T → Tally T → Type 0
  takes v xs w = (w ≡ has_taken v xs) × ((rest : List T) × Held (xs ++ rest) v)

  -- what is left, where nobody else takes
  abbrev pub left_of : Tally T → List T
  left_of v = drop (length v.taken) v.offered

  abbrev pub takes_left : Tally T → List T → Tally T → Type 0
  takes_left v xs w = (w ≡ has_taken v xs) × (left_of v ≡ xs ++ left_of w)

  abbrev pub LeavesNone : Tally T → Type 0
  LeavesNone v = left_of v ≡ []

  -- a peek is given
  abbrev pub gives : Tally T → Tally T
  gives v = tally v.leads v.is_out (v.peeks + 1) v.offered v.taken

  abbrev pub given : Tally T → Tally T
  given v = tally false true 0 [] []

  -- a peek comes back
  abbrev pub takes_in : Tally T → Tally T → Tally T
  takes_in v w = tally v.leads v.is_out (v.peeks - 1) v.offered (v.taken ++ w.taken)

  abbrev pub Accounts : Tally T → List T → Type 0
  Accounts v items = AreAccounted v.offered v.taken items
