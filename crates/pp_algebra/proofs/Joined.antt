-- Laws of lists of terms that are joined.
use Rattle.std.proofs.Common.{◌≡◌, ◌+◌, ◌++◌, refl, ap, sym, ◌∙◌, arith, append_assoc}
use Rattle.pp_algebra.specs.Terms.{Tree, Trees, none, more, count, put, put_all, variables, variables_all, join, size_all}

module _ {V : Type 0} where
  pub join-none : (ts : Trees V) → join ts none ≡ ts
  join-none none = refl
  join-none (more t ts) = ap (more t) (join-none ts)

  pub join-join : (ts us vs : Trees V) → join ts (join us vs) ≡ join (join ts us) vs
  join-join none us vs = refl
  join-join (more t ts) us vs = ap (more t) (join-join ts us vs)

  pub count-join : (ts us : Trees V) → count (join ts us) ≡ count ts + count us
  count-join none us = omega arith
  count-join (more t ts) us = omega (arith, count-join ts us)

  pub size_all-join : (ts us : Trees V) → size_all (join ts us) ≡ size_all ts + size_all us
  size_all-join none us = omega arith
  size_all-join (more t ts) us = omega (arith, size_all-join ts us)

  pub variables_all-join : (ts us : Trees V) → variables_all (join ts us) ≡ variables_all ts ++ variables_all us
  variables_all-join none us = refl
  variables_all-join (more t ts) us = ap (λ vs. variables t ++ vs) (variables_all-join ts us) ∙ sym (append_assoc (variables t) (variables_all ts) (variables_all us))

  pub put_all-join : {W : Type 0} (s : V → Tree W) (ts us : Trees V) → put_all s (join ts us) ≡ join (put_all s ts) (put_all s us)
  put_all-join s none us = refl
  put_all-join s (more t ts) us = ap (more (put s t)) (put_all-join s ts us)
