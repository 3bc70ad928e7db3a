-- The laws of solving item after item, as statements.
use Rattle.std.specs.Prelude.{◌≡◌, ℕ, ◌⊎◌, ◌↔◌, true, false, List, [], ◌∷◌, map, All}
use Rattle.pp_algebra.specs.Rows.{Row, pattern_of, IsRow}
use Rattle.pp_algebra.specs.Solve.{Item, equation, membership, put_item, IsSolved, HasNone, SameItems}
use Rattle.pp_unify.specs.States.{value_in, IsOver, IsSolvedBy}

-- an item over the variables of the bindings, with all bindings in place
abbrev pub item_in : Row → Item ℕ → Item ℕ
item_in r i = put_item (value_in r) i

abbrev pub IsItemOver : Row → Item ℕ → Type 0
IsItemOver r (equation a b) = IsOver r a × IsOver r b
IsItemOver r (membership t d) = IsOver r t

-- each item is solved on the row that those before it gave
abbrev pub AreSolved : Row → List (Item ℕ) → Row → Type 0
AreSolved r [] p = r ≡ p
AreSolved r (i ∷ is) p = (q : Row) × IsSolvedBy r (item_in r i) true q × AreSolved q is p

-- at one of them nothing solves it on the row that those before it gave
abbrev pub OneHasNone : Row → List (Item ℕ) → Type 0
OneHasNone r [] = ⊥
OneHasNone r (i ∷ is) = IsSolvedBy r (item_in r i) false r ⊎ ((q : Row) × IsSolvedBy r (item_in r i) true q × OneHasNone q is)

-- one after another they give what all of them give at once
abbrev pub SolvedInTurn : Type 0
SolvedInTurn = (r : Row) (items : List (Item ℕ)) → IsRow r → All (IsItemOver r) items
    → ((p : Row) → AreSolved r items p ↔ IsSolved (pattern_of r) (map (item_in r) items) p) × (OneHasNone r items ↔ HasNone (pattern_of r) (map (item_in r) items))

-- their order doesn't matter, nor how often one stands in the list
abbrev pub SolvedInAnyTurn : Type 0
SolvedInAnyTurn = (r : Row) (items others : List (Item ℕ)) → IsRow r → All (IsItemOver r) items → All (IsItemOver r) others → SameItems items others
    → ((p : Row) → AreSolved r items p ↔ AreSolved r others p) × (OneHasNone r items ↔ OneHasNone r others)
