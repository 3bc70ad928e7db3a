-- The built-ins on integers: when each waits, holds, fails, binds a value or splits into values.
use Rattle.std.specs.Prelude.{ℕ, ℤ, pos, negsuc, ◌+ℤ◌, ◌-ℤ◌, ◌*ℤ◌, Bool, true, false, cond, not, ◌&&◌, ◌||◌, int_lt, int_le, List, [], ◌∷◌}
use Rattle.std.specs.Ordering.{int_eq}
use Rattle.pp_algebra.specs.Givens.{Given, integer, ranged, free, other}
use Rattle.pp_algebra.specs.Members.{least_integer, greatest_integer}

pub data Test : Type 0 where
  less at_most equal differ plus times indomain : Test

pub data Decision : Type 0 where
  wait fail hold split : Decision
  bind : ℕ → ℤ → Decision

-- one of the integers of the language
abbrev pub is_integer : ℤ → Bool
is_integer n = int_le least_integer n && int_le n greatest_integer

abbrev pub is_other : Given → Bool
is_other (integer n) = false
is_other ranged = false
is_other free = false
is_other other = true

abbrev pub has_other : List Given → Bool
has_other [] = false
has_other (g ∷ gs) = is_other g || has_other gs

abbrev pub when : Bool → Decision
when b = cond b hold fail

-- bound at this place, where the value is an integer of the language
abbrev pub bind_within : ℕ → ℤ → Decision
bind_within i n = cond (is_integer n) (bind i n) fail

abbrev pub compare : (ℤ → ℤ → Bool) → List Given → Decision
compare test (integer n ∷ integer m ∷ []) = when (test n m)
compare test gs = wait

abbrev pub decide_plus : List Given → Decision
decide_plus (integer x ∷ integer y ∷ integer z ∷ []) = when (int_eq (x +ℤ y) z)
decide_plus (integer x ∷ integer y ∷ g ∷ []) = bind_within 2 (x +ℤ y)
decide_plus (integer x ∷ g ∷ integer z ∷ []) = bind_within 1 (z -ℤ x)
decide_plus (g ∷ integer y ∷ integer z ∷ []) = bind_within 0 (z -ℤ y)
decide_plus gs = wait

-- the range of the product is tested before anything else
abbrev pub decide_times : List Given → Decision
decide_times (integer x ∷ integer y ∷ integer z ∷ []) = when (is_integer (x *ℤ y) && int_eq (x *ℤ y) z)
decide_times (integer x ∷ integer y ∷ g ∷ []) = bind_within 2 (x *ℤ y)
decide_times gs = wait

abbrev pub decide_indomain : List Given → Decision
decide_indomain (integer n ∷ []) = hold
decide_indomain (ranged ∷ []) = split
decide_indomain gs = wait

-- each built-in where no argument is an atom or compound
abbrev pub table : Test → List Given → Decision
table less gs = compare int_lt gs
table at_most gs = compare int_le gs
table equal gs = compare int_eq gs
table differ gs = compare (λ n m. not (int_eq n m)) gs
table plus gs = decide_plus gs
table times gs = decide_times gs
table indomain gs = decide_indomain gs

-- an atom or compound among the arguments makes every built-in fail, before any waiting
abbrev pub decide : Test → List Given → Decision
decide t gs = cond (has_other gs) fail (table t gs)
