-- Fresh variables behind those of a row.
use Rattle.std.proofs.Common.{◌≡◌, ℕ, zero, suc, ◌+◌, ◌<◌, inl, inr, [], ◌∷◌, ◌++◌, length, None, refl, ap, sym, ◌∙◌, subst, arith, append_assoc, append-nil, length-append}
use Rattle.pp_algebra.specs.Terms.{Tree, Trees, none, more, variable, count, join}
use Rattle.pp_algebra.specs.Rows.{Row, IsRow}
use Rattle.pp_algebra.proofs.Solving.{below_or}
use Rattle.pp_algebra.specs.Numbered.{column}
use Rattle.pp_unify.specs.States.{value_in, with_new, with_many}
use Rattle.pp_moves.proofs.TwoKinds.{anys}

-- `p` is `r` with this many variables more, each of domain `any`
pub record HasFresh (r : Row) (k : ℕ) (p : Row) : Type 0 where
  pub size : count p.columns ≡ count r.columns + k
  pub old : (v : ℕ) → v < count r.columns → value_in p v ≡ value_in r v
  pub new : (v : ℕ) → v < k → value_in p (count r.columns + v) ≡ variable (length r.domains + v)
  pub domains : p.domains ≡ r.domains ++ anys k
  pub row : IsRow p

column-left : (ts us : Trees ℕ) (v : ℕ) → v < count ts → column (join ts us) v ≡ column ts v
column-left none us v l = absurd (omega arith)
column-left (more t ts) us zero l = refl
column-left (more t ts) us (suc v) l = column-left ts us v (omega arith)

column-last : (ts : Trees ℕ) (t : Tree ℕ) → column (join ts (more t none)) (count ts) ≡ t
column-last none t = refl
column-last (more u ts) t = column-last ts t

count-last : (ts : Trees ℕ) (t : Tree ℕ) → count (join ts (more t none)) ≡ count ts + 1
count-last none t = refl
count-last (more u ts) t = ap suc (count-last ts t) ∙ omega arith

any-push : (k : ℕ) → anys k ++ None ∷ [] ≡ anys (k + 1)
any-push zero = refl
any-push (suc k) = let e : suc (k + 1) ≡ suc k + 1 = omega arith in ap (λ ds. None ∷ ds) (any-push k) ∙ ap anys e

length-anys : (k : ℕ) → length (anys k) ≡ k
length-anys zero = refl
length-anys (suc k) = ap suc (length-anys k)

-- the same but for what is asked of the row
pub record IsWith (r : Row) (k : ℕ) (p : Row) : Type 0 where
  pub size : count p.columns ≡ count r.columns + k
  pub old : (v : ℕ) → v < count r.columns → value_in p v ≡ value_in r v
  pub new : (v : ℕ) → v < k → value_in p (count r.columns + v) ≡ variable (length r.domains + v)
  pub domains : p.domains ≡ r.domains ++ anys k

with_none : (r : Row) → IsWith r 0 r
with_none r = record { size = omega arith; old = λ v l. refl; new = λ v l. absurd (omega (arith, l)); domains = sym (append-nil r.domains) }

with_one : (r : Row) (k : ℕ) (p q : Row) → IsWith r k p → q ≡ with_new p None → IsWith r (k + 1) q
with_one r k p q h e =
    let wide : length p.domains ≡ length r.domains + k = ap length h.domains ∙ length-append r.domains (anys k) ∙ ap (λ n. length r.domains + n) (length-anys k) in
    let last = more (variable (length p.domains)) none in
    subst (IsWith r (k + 1)) (sym e) (record {
      size = count-last p.columns (variable (length p.domains)) ∙ omega (arith, h.size);
      old = λ v l. column-left p.columns last v (omega (arith, l, h.size)) ∙ h.old v l;
      new = λ v l. elim (below_or v k) [
        | inl m ↦ column-left p.columns last (count r.columns + v) (omega (arith, m, h.size)) ∙ h.new v m
        | inr m ↦
            let w : v ≡ k = omega (arith, l, m) in
            let at : count r.columns + v ≡ count p.columns = omega (arith, w, h.size) in
            ap (λ n. column (join p.columns last) n) at ∙ column-last p.columns (variable (length p.domains)) ∙ ap variable (omega (arith, wide, w))
      ];
      domains = ap (λ ds. ds ++ None ∷ []) h.domains ∙ append_assoc r.domains (anys k) (None ∷ []) ∙ ap (λ ds. r.domains ++ ds) (any-push k);
    })

fresh_of : (r : Row) (k : ℕ) (p : Row) → IsWith r k p → IsRow p → HasFresh r k p
fresh_of r k p h row = record { size = h.size; old = h.old; new = h.new; domains = h.domains; row = row }

-- so many variables more
many : (r : Row) (k : ℕ) → IsWith r k (with_many r k)
many r zero = with_none r
many r (suc k) = let e : k + 1 ≡ suc k = omega arith in subst (λ n. IsWith r n (with_many r (suc k))) e (with_one r k (with_many r k) (with_many r (suc k)) (many r k) refl)

pub fresh_many : (r : Row) (k : ℕ) → IsRow (with_many r k) → HasFresh r k (with_many r k)
fresh_many r k row = fresh_of r k (with_many r k) (many r k) row

pub no_fresh : (r : Row) → IsRow r → HasFresh r 0 r
no_fresh r row = fresh_of r 0 r (with_none r) row
