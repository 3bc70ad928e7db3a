-- What a built-in decides can be performed: a value is bound at one of its places, and is an integer of the language.
use Rattle.std.proofs.Common.{◌≡◌, ℕ, ℤ, ◌<◌, ◌+ℤ◌, ◌-ℤ◌, ◌*ℤ◌, Bool, true, false, cond, ◌&&◌, [], ◌∷◌, refl, arith}
use Rattle.std.specs.Ordering.{int_eq}
use Rattle.pp_algebra.specs.Givens.{Given, integer, ranged, free, other}
use Rattle.pp_algebra.specs.Members.{IsInteger, least_integer, greatest_integer}
use Rattle.pp_sld.specs.BuiltIns.{fail, bind, is_integer, has_other, when, bind_within, compare, decide, decide_plus, decide_times, decide_indomain}
use Rattle.std.specs.Prelude.{int_le, int_lt, not}
use Rattle.pp_domain.proofs.Words.{Decides-int_le}
use Rattle.pp_tests.specs.declared.built_in.Decision.TheVariants as decisions
use Rattle.pp_tests.specs.declared.built_in.Decision as answers
use Rattle.pp_tests.specs.declared.built_in.Test.{Test}
use Rattle.pp_tests.specs.declared.built_in.Test.TheVariants as tests
use Rattle.pp_tests.specs.Decisions.{test_of, decision_of}
use Rattle.pp_goal.specs.Arguments.{arity_of}
use Rattle.pp_goal.specs.Acts.{IsMade, IsReady, acted}

both_true : (a b : Bool) → (a && b) ≡ true → (a ≡ true) × (b ≡ true)
both_true true true e = (refl, refl)
both_true true false e = absurd (cc e)
both_true false b e = absurd (cc e)

pub integer_by : (n : ℤ) → is_integer n ≡ true → IsInteger n
integer_by n e =
    let h = both_true (int_le least_integer n) (int_le n greatest_integer) e in
    record { at_least = (Decides-int_le least_integer n).0 h.0; at_most = (Decides-int_le n greatest_integer).0 h.1 }

when_made : (k : ℕ) (b : Bool) → IsMade k (when b)
when_made k true = tt
when_made k false = tt

within_made : (k i : ℕ) (n : ℤ) → i < k → IsMade k (bind_within i n)
within_made k i n l = go (is_integer n) refl
  where
    go : (b : Bool) → is_integer n ≡ b → IsMade k (cond b (bind i n) fail)
    go true e = (l, integer_by n e)
    go false e = tt

pub compare_made : (f : ℤ → ℤ → Bool) (x y : Given) → IsMade 2 (cond (has_other (x ∷ y ∷ [])) fail (compare f (x ∷ y ∷ [])))
compare_made f (integer n) (integer m) = when_made 2 (f n m)
compare_made f (integer n) ranged = tt
compare_made f (integer n) free = tt
compare_made f (integer n) other = tt
compare_made f ranged (integer m) = tt
compare_made f ranged ranged = tt
compare_made f ranged free = tt
compare_made f ranged other = tt
compare_made f free (integer m) = tt
compare_made f free ranged = tt
compare_made f free free = tt
compare_made f free other = tt
compare_made f other (integer m) = tt
compare_made f other ranged = tt
compare_made f other free = tt
compare_made f other other = tt

pub plus_made : (x y z : Given) → IsMade 3 (cond (has_other (x ∷ y ∷ z ∷ [])) fail (decide_plus (x ∷ y ∷ z ∷ [])))
plus_made (integer a) (integer b) (integer c) = when_made 3 (int_eq (a +ℤ b) c)
plus_made (integer a) (integer b) ranged = within_made 3 2 (a +ℤ b) (omega arith)
plus_made (integer a) (integer b) free = within_made 3 2 (a +ℤ b) (omega arith)
plus_made (integer a) (integer b) other = tt
plus_made (integer a) ranged (integer c) = within_made 3 1 (c -ℤ a) (omega arith)
plus_made (integer a) ranged ranged = tt
plus_made (integer a) ranged free = tt
plus_made (integer a) ranged other = tt
plus_made (integer a) free (integer c) = within_made 3 1 (c -ℤ a) (omega arith)
plus_made (integer a) free ranged = tt
plus_made (integer a) free free = tt
plus_made (integer a) free other = tt
plus_made (integer a) other (integer c) = tt
plus_made (integer a) other ranged = tt
plus_made (integer a) other free = tt
plus_made (integer a) other other = tt
plus_made ranged (integer b) (integer c) = within_made 3 0 (c -ℤ b) (omega arith)
plus_made ranged (integer b) ranged = tt
plus_made ranged (integer b) free = tt
plus_made ranged (integer b) other = tt
plus_made ranged ranged (integer c) = tt
plus_made ranged ranged ranged = tt
plus_made ranged ranged free = tt
plus_made ranged ranged other = tt
plus_made ranged free (integer c) = tt
plus_made ranged free ranged = tt
plus_made ranged free free = tt
plus_made ranged free other = tt
plus_made ranged other (integer c) = tt
plus_made ranged other ranged = tt
plus_made ranged other free = tt
plus_made ranged other other = tt
plus_made free (integer b) (integer c) = within_made 3 0 (c -ℤ b) (omega arith)
plus_made free (integer b) ranged = tt
plus_made free (integer b) free = tt
plus_made free (integer b) other = tt
plus_made free ranged (integer c) = tt
plus_made free ranged ranged = tt
plus_made free ranged free = tt
plus_made free ranged other = tt
plus_made free free (integer c) = tt
plus_made free free ranged = tt
plus_made free free free = tt
plus_made free free other = tt
plus_made free other (integer c) = tt
plus_made free other ranged = tt
plus_made free other free = tt
plus_made free other other = tt
plus_made other (integer b) (integer c) = tt
plus_made other (integer b) ranged = tt
plus_made other (integer b) free = tt
plus_made other (integer b) other = tt
plus_made other ranged (integer c) = tt
plus_made other ranged ranged = tt
plus_made other ranged free = tt
plus_made other ranged other = tt
plus_made other free (integer c) = tt
plus_made other free ranged = tt
plus_made other free free = tt
plus_made other free other = tt
plus_made other other (integer c) = tt
plus_made other other ranged = tt
plus_made other other free = tt
plus_made other other other = tt

pub times_made : (x y z : Given) → IsMade 3 (cond (has_other (x ∷ y ∷ z ∷ [])) fail (decide_times (x ∷ y ∷ z ∷ [])))
times_made (integer a) (integer b) (integer c) = when_made 3 (is_integer (a *ℤ b) && int_eq (a *ℤ b) c)
times_made (integer a) (integer b) ranged = within_made 3 2 (a *ℤ b) (omega arith)
times_made (integer a) (integer b) free = within_made 3 2 (a *ℤ b) (omega arith)
times_made (integer a) (integer b) other = tt
times_made (integer a) ranged (integer c) = tt
times_made (integer a) ranged ranged = tt
times_made (integer a) ranged free = tt
times_made (integer a) ranged other = tt
times_made (integer a) free (integer c) = tt
times_made (integer a) free ranged = tt
times_made (integer a) free free = tt
times_made (integer a) free other = tt
times_made (integer a) other (integer c) = tt
times_made (integer a) other ranged = tt
times_made (integer a) other free = tt
times_made (integer a) other other = tt
times_made ranged (integer b) (integer c) = tt
times_made ranged (integer b) ranged = tt
times_made ranged (integer b) free = tt
times_made ranged (integer b) other = tt
times_made ranged ranged (integer c) = tt
times_made ranged ranged ranged = tt
times_made ranged ranged free = tt
times_made ranged ranged other = tt
times_made ranged free (integer c) = tt
times_made ranged free ranged = tt
times_made ranged free free = tt
times_made ranged free other = tt
times_made ranged other (integer c) = tt
times_made ranged other ranged = tt
times_made ranged other free = tt
times_made ranged other other = tt
times_made free (integer b) (integer c) = tt
times_made free (integer b) ranged = tt
times_made free (integer b) free = tt
times_made free (integer b) other = tt
times_made free ranged (integer c) = tt
times_made free ranged ranged = tt
times_made free ranged free = tt
times_made free ranged other = tt
times_made free free (integer c) = tt
times_made free free ranged = tt
times_made free free free = tt
times_made free free other = tt
times_made free other (integer c) = tt
times_made free other ranged = tt
times_made free other free = tt
times_made free other other = tt
times_made other (integer b) (integer c) = tt
times_made other (integer b) ranged = tt
times_made other (integer b) free = tt
times_made other (integer b) other = tt
times_made other ranged (integer c) = tt
times_made other ranged ranged = tt
times_made other ranged free = tt
times_made other ranged other = tt
times_made other free (integer c) = tt
times_made other free ranged = tt
times_made other free free = tt
times_made other free other = tt
times_made other other (integer c) = tt
times_made other other ranged = tt
times_made other other free = tt
times_made other other other = tt

pub indomain_made : (x : Given) → IsMade 1 (cond (has_other (x ∷ [])) fail (decide_indomain (x ∷ [])))
indomain_made (integer n) = tt
indomain_made ranged = refl
indomain_made free = tt
indomain_made other = tt

-- the act that carries the decision out can be performed
pub made_ready : (k : ℕ) (d : answers.Decision) → IsMade k (decision_of d) → IsReady k (acted d)
made_ready k decisions.Wait h = tt
made_ready k decisions.Fail h = tt
made_ready k decisions.Hold h = tt
made_ready k (decisions.Bind i n) h = h
made_ready k decisions.Split h = h

-- ===== by the number of arguments

pub made_one : (t : Test) (x : Given) → arity_of t ≡ 1 → IsMade 1 (decide (test_of t) (x ∷ []))
made_one tests.Less x e = absurd (omega (arith, e))
made_one tests.AtMost x e = absurd (omega (arith, e))
made_one tests.Equal x e = absurd (omega (arith, e))
made_one tests.Differ x e = absurd (omega (arith, e))
made_one tests.Plus x e = absurd (omega (arith, e))
made_one tests.Times x e = absurd (omega (arith, e))
made_one tests.Indomain x e = indomain_made x

pub made_two : (t : Test) (x y : Given) → arity_of t ≡ 2 → IsMade 2 (decide (test_of t) (x ∷ y ∷ []))
made_two tests.Less x y e = compare_made int_lt x y
made_two tests.AtMost x y e = compare_made int_le x y
made_two tests.Equal x y e = compare_made int_eq x y
made_two tests.Differ x y e = compare_made (λ n m. not (int_eq n m)) x y
made_two tests.Plus x y e = absurd (omega (arith, e))
made_two tests.Times x y e = absurd (omega (arith, e))
made_two tests.Indomain x y e = absurd (omega (arith, e))

pub made_three : (t : Test) (x y z : Given) → arity_of t ≡ 3 → IsMade 3 (decide (test_of t) (x ∷ y ∷ z ∷ []))
made_three tests.Less x y z e = absurd (omega (arith, e))
made_three tests.AtMost x y z e = absurd (omega (arith, e))
made_three tests.Equal x y z e = absurd (omega (arith, e))
made_three tests.Differ x y z e = absurd (omega (arith, e))
made_three tests.Plus x y z e = plus_made x y z
made_three tests.Times x y z e = times_made x y z
made_three tests.Indomain x y z e = absurd (omega (arith, e))
