-- What a load of the stop word says that saw no bit.
use Rattle.std.proofs.Common.{◌≡◌, ℕ, ◌+◌, Bool, true, false, ◌||◌, cond, refl, ap, arith}
use Rattle.pp_stop.specs.Words.{up_of}
use Rattle.pp_stop.specs.declared.up.Up.TheVariants.{No}

pub no_bit : (a b : Bool) → up_of a b ≡ No → (a || b) ≡ false
no_bit true b e = absurd (cc e)
no_bit false true e = absurd (cc e)
no_bit false false e = refl

-- no bit was seen before
pub none_before : (a b c d : Bool) → (a ≡ true → c ≡ true) → (b ≡ true → d ≡ true) → up_of c d ≡ No → (a || b) ≡ true → ⊥
none_before a b true d f g e h = (cc e)
none_before a b false true f g e h = (cc e)
none_before true b false false f g e h = (cc (f refl))
none_before false true false false f g e h = (cc (g refl))
none_before false false false false f g e h = (cc h)

-- and it was not late
pub same_late : (seen : Bool) (first old new : ℕ) → seen ≡ false → old ≡ first → new ≡ old + cond seen 1 0 → new ≡ first
same_late seen first old new unseen is e =
    let last : old + cond seen 1 0 ≡ old + 0 = ap (λ b. old + cond b 1 0) unseen in
    omega (arith, last, is, e)
