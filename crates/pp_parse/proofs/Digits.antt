-- The number that digits write, digit by digit.
use Rattle.std.proofs.Common.{◌≡◌, ℕ, suc, ◌+◌, ◌-◌, ◌*◌, ◌<◌, length, drop, get_or, ap, sym, ◌∙◌, arith}
use Rattle.std.proofs.Math.Seq.{drop-cons}
use Rattle.pp_language.specs.Texts.{Text}
use Rattle.pp_language.specs.Kinds.{value_of}

pub value_on : (bs : Text) (i n b : ℕ) → i < length bs → b ≡ get_or bs i 0 → value_of n (drop i bs) ≡ value_of (10 * n + (b - 48)) (drop (i + 1) bs)
value_on bs i n b l e =
    let step : i + 1 ≡ suc i = omega arith in
    rw step (ap (value_of n) (drop-cons bs i 0 l) ∙ ap (λ x. value_of (10 * n + (x - 48)) (drop (suc i) bs)) (sym e))
