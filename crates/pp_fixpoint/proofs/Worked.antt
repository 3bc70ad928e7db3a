-- The worked examples hold.
use Rattle.std.proofs.Common.{◌≡◌, [], ◌∷◌, Some, None, refl, inr, arith}
use Rattle.std.specs.FinSet as set
use Rattle.std.proofs.lemmas.List.Elements.{All-nil, All-cons, All-head}
use Rattle.pp_algebra.specs.Rows.{IsWide}
use Rattle.pp_algebra.specs.Examples.{one_or_two, two_or_three}
use Rattle.pp_fixpoint.specs.Fixpoints.{IsFinite}
use Rattle.pp_fixpoint.specs.Examples.{FourteenAreEnough, TwoAreEnough, AnyIsLeftOut}

size_one_or_two : set.len one_or_two ≡ 2
size_one_or_two = grind (arith, set.members)

size_two_or_three : set.len two_or_three ≡ 2
size_two_or_three = grind (arith, set.members)

pub fourteen_are_enough : FourteenAreEnough
fourteen_are_enough = (
  record {
    row = record {
      canonical = inr (refl, inr (refl, inr (refl, refl)));
      wide =
          All-cons IsWide (Some one_or_two) (Some two_or_three ∷ Some one_or_two ∷ []) (omega (arith, size_one_or_two))
          (All-cons IsWide (Some two_or_three) (Some one_or_two ∷ []) (omega (arith, size_two_or_three)) (All-cons IsWide (Some one_or_two) [] (omega (arith, size_one_or_two)) (All-nil IsWide)));
    };
    finite = All-cons IsFinite (Some one_or_two) (Some two_or_three ∷ Some one_or_two ∷ []) tt (All-cons IsFinite (Some two_or_three) (Some one_or_two ∷ []) tt (All-cons IsFinite (Some one_or_two) [] tt (All-nil IsFinite)));
    many = omega (arith, size_one_or_two, size_two_or_three);
  },
  λ h. absurd (omega (arith, size_one_or_two, size_two_or_three, h.many)),
)

pub two_are_enough : TwoAreEnough
two_are_enough = record { row = record { canonical = refl; wide = All-nil IsWide }; finite = All-nil IsFinite; many = omega arith }

pub any_is_left_out : AnyIsLeftOut
any_is_left_out h = All-head IsFinite None (None ∷ None ∷ []) h.finite
