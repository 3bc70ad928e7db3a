-- The greatest height of a span that is cut.
use Rattle.std.proofs.Common.{◌≡◌, ℕ, zero, suc, ◌+◌, ◌-◌, ◌≤◌, max, ap, sym, ◌∙◌, arith}
use Rattle.pp_worker_tests.specs.Heights.{between, greatest, height_of}
use Rattle.pp_worker_tests.specs.HeightLaws.{max_grouped, max_none}

pub cut : (low n m : ℕ) → greatest low (n + m) ≡ max (greatest low n) (greatest (low + n) m)
cut low zero m =
    let a : 0 + m ≡ m = omega arith in
    let b : low ≡ low + 0 = omega arith in
    (λ i. greatest (b i) (a i)) ∙ sym (max_none (greatest (low + 0) m))
cut low (suc n) m =
    let a : suc n + m ≡ suc (n + m) = omega arith in
    let b : (low + 1) + n ≡ low + suc n = omega arith in
    let h = height_of low in
    ap (λ k. greatest low k) a ∙ (ap (λ k. max h k) (cut (low + 1) n m) ∙ (sym (max_grouped h (greatest (low + 1) n) (greatest ((low + 1) + n) m)) ∙ ap (λ k. max (max h (greatest (low + 1) n)) (greatest k m)) b))

-- one number more
pub one_more : (low n : ℕ) → greatest low (n + 1) ≡ max (greatest low n) (height_of (low + n))
one_more low n = cut low n 1 ∙ ap (λ k. max (greatest low n) k) (omega arith)

-- a number between the ends
pub cut_between : (low mid high : ℕ) → low ≤ mid → mid ≤ high → between low high ≡ max (between low mid) (between mid high)
cut_between low mid high a b =
    let n : high - low ≡ (mid - low) + (high - mid) = omega (arith, a, b) in
    let at : low + (mid - low) ≡ mid = omega (arith, a) in
    ap (λ k. greatest low k) n ∙ (cut low (mid - low) (high - mid) ∙ ap (λ k. max (greatest low (mid - low)) (greatest k (high - mid))) at)

-- two halves joined to a value, and what was seen with what is left
pub halves_joined : (v low mid high : ℕ) → low ≤ mid → mid ≤ high → max (max v (between low mid)) (between mid high) ≡ max v (between low high)
halves_joined v low mid high a b = max_grouped v (between low mid) (between mid high) ∙ ap (λ k. max v k) (sym (cut_between low mid high a b))

pub seen_and_left : (low high n : ℕ) → n ≤ high - low → between low high ≡ max (greatest low n) (between (low + n) high)
seen_and_left low high n within =
    let k : high - low ≡ n + (high - (low + n)) = omega (arith, within) in
    ap (λ m. greatest low m) k ∙ cut low n (high - (low + n))
