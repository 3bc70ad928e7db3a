-- How much terms grow when a variable is bound.
use Rattle.std.proofs.Common.{◌≡◌, ℕ, zero, suc, ◌+◌, ◌-◌, ◌*◌, ◌<◌, ◌≤◌, Bool, true, false, cond, subst, arith}
use Rattle.std.specs.Prelude.{nat_eq}
use Rattle.pp_algebra.specs.Terms.{Tree, int, node, variable, Trees, none, more, put, put_all, size, size_all}
use Rattle.pp_heap.specs.Stores.{single}
use Rattle.pp_heap.specs.Spans.{weight}
use Rattle.pp_heap.proofs.Walk.{one}

single_size : (x : ℕ) (u : Tree ℕ) (v : ℕ) → size (single x u v) ≤ size u
single_size x u v = go (nat_eq v x)
  where
    go : (b : Bool) → size (cond b u (variable v)) ≤ size u
    go true = omega arith
    go false = one u

mutual
  -- a substitution of one variable multiplies the size at most
  size-put : (x : ℕ) (u t : Tree ℕ) → size (put (single x u) t) ≤ size t * size u
  size-put x u (int n) = let o = one u in omega arith
  size-put x u (node f ts) = let o = one u in let h = size-put_all x u ts in omega arith
  size-put x u (variable v) = let h = single_size x u v in omega arith

  pub size-put_all : (x : ℕ) (u : Tree ℕ) (ts : Trees ℕ) → size_all (put_all (single x u) ts) ≤ size_all ts * size u
  size-put_all x u none = omega arith
  size-put_all x u (more t ts) = let h = size-put x u t in let g = size-put_all x u ts in omega arith

square : (a k : ℕ) → a * a ≤ (a + k) * (a + k)
square a k = omega arith

squares : (a b : ℕ) → a ≤ b → a * a ≤ b * b
squares a b h = let e : a + (b - a) ≡ b = omega arith in subst (λ (z : ℕ). a * a ≤ z * z) e (square a (b - a))

pub weight-le : (k m n : ℕ) → m ≤ n → weight k m ≤ weight k n
unfolding weight
weight-le zero m n h = h
weight-le (suc k) m n h = let g = weight-le k (m * m) (n * n) (squares m n h) in omega arith

pub weight-less : (k m n : ℕ) → m < n → weight k m < weight k n
unfolding weight
weight-less zero m n h = h
weight-less (suc k) m n h = let g = weight-le k (m * m) (n * n) (squares m n (omega arith)) in omega arith

below_square : (n : ℕ) → n ≤ n * n
below_square zero = omega arith
below_square (suc n) = omega arith

weight-suc : (k n : ℕ) → weight k n ≤ weight (suc k) n
unfolding weight
weight-suc k n = let g = weight-le k n (n * n) (below_square n) in omega arith

-- it grows with the number of free variables
weight-more : (j d n : ℕ) → weight j n ≤ weight (j + d) n
weight-more j zero n = let e : j + zero ≡ j = omega arith in rw e (omega arith)
weight-more j (suc d) n = let g = weight-more j d n in let h = weight-suc (j + d) n in let e : j + suc d ≡ suc (j + d) = omega arith in rw e (omega arith)

weight-falls : (j d m n : ℕ) → m ≤ n * n → weight j m < weight (suc (j + d)) n
unfolding weight
weight-falls j d m n h = let g = weight-le j m (n * n) h in let i = weight-more j d (n * n) in omega arith

pub weight-fall : (j k m n : ℕ) → j < k → m ≤ n * n → weight j m < weight k n
weight-fall j k m n l h = let e : suc (j + (k - suc j)) ≡ k = omega arith in subst (λ (z : ℕ). weight j m < weight z n) e (weight-falls j (k - suc j) m n h)
