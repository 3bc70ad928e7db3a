-- The laws of substitution, as lemmas.
use Rattle.std.proofs.Common.{◌≡◌, refl, ap}
use Rattle.pp_algebra.specs.Terms.{Tree, int, node, variable, Trees, none, more, put, put_all, count}

mutual
  pub put-variable : {V : Type 0} (t : Tree V) → put variable t ≡ t
  put-variable (int n) = refl
  put-variable (node f ts) = ap (node f) (put_all-variable ts)
  put-variable (variable v) = refl

  pub put_all-variable : {V : Type 0} (ts : Trees V) → put_all variable ts ≡ ts
  put_all-variable none = refl
  put_all-variable (more t ts) = rw (put-variable t, put_all-variable ts) refl

mutual
  pub put-put : {U V W : Type 0} (r : V → Tree W) (s : U → Tree V) (t : Tree U) → put r (put s t) ≡ put (λ v. put r (s v)) t
  put-put r s (int n) = refl
  put-put r s (node f ts) = ap (node f) (put_all-put_all r s ts)
  put-put r s (variable v) = refl

  pub put_all-put_all : {U V W : Type 0} (r : V → Tree W) (s : U → Tree V) (ts : Trees U) → put_all r (put_all s ts) ≡ put_all (λ v. put r (s v)) ts
  put_all-put_all r s none = refl
  put_all-put_all r s (more t ts) = rw (put-put r s t, put_all-put_all r s ts) refl

pub count-put_all : {V W : Type 0} (s : V → Tree W) (ts : Trees V) → count (put_all s ts) ≡ count ts
count-put_all s none = refl
count-put_all s (more t ts) = rw (count-put_all s ts) refl
