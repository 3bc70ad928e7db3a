-- Whether one row covers another, column by column.
use Rattle.std.proofs.Common.{◌≡◌, ℕ, ℤ, suc, ◌+◌, ◌<◌, ◌≤◌, inl, inr, List, [], ◌∷◌, ◌++◌, length, drop, get_or, Option, refl, ap, ◌∙◌, sym, arith, subst, drop-cons, add-one}
use Rattle.std.specs.Prelude.{◌↔◌}
use Rattle.std.proofs.Math.ListN.{drop_of_length-le}
use Rattle.pp_algebra.specs.Terms.{Tree, Trees, none, more, put, variables, variables_all}
use Rattle.pp_algebra.specs.Rows.{Domains, Row, IsNumbered, domain_at}
use Rattle.pp_algebra.specs.Covers.{RowCovers}
use Rattle.pp_algebra.proofs.Order.{IsIn-left, IsIn-right}
use Rattle.pp_algebra.proofs.Antisym.{IsIn-either}
use Rattle.pp_row.specs.Columns.{trees_of, sets_of}
use Rattle.pp_order.specs.Bindings.{Follows, Takes}
use Rattle.pp_order.proofs.Walking.{Walked}

-- numbers of two lists, one after the other
numbered_parts : (vs ws : List ℕ) (n m : ℕ) → IsNumbered n (vs ++ ws) m → (p : ℕ) × IsNumbered n vs p × IsNumbered p ws m
numbered_parts [] ws n m h = (n, refl, h)
numbered_parts (v ∷ vs) ws n m (inl h) = let r = numbered_parts vs ws n m h.1 in (r.0, inl (h.0, r.1), r.2)
numbered_parts (v ∷ vs) ws n m (inr h) = let r = numbered_parts vs ws (suc n) m h.1 in (r.0, inr (h.0, r.1), r.2)

pub columns_from : (ts : List (Tree ℕ)) (k : ℕ) (t : Tree ℕ) → k < length ts → t ≡ get_or ts k t → trees_of (drop k ts) ≡ more t (trees_of (drop (k + 1) ts))
columns_from ts k t l e = ap trees_of (drop-cons ts k t l) ∙ ap (λ x. more x (trees_of (drop (suc k) ts))) (sym e) ∙ ap (λ n. more t (trees_of (drop n ts))) (sym (add-one k))

pub all_columns : (ts us : List (Tree ℕ)) (k : ℕ) → length ts ≡ length us → length ts ≤ k → (trees_of (drop k ts) ≡ none) × (trees_of (drop k us) ≡ none)
all_columns ts us k l h = (ap trees_of (drop_of_length-le ts h), ap trees_of (drop_of_length-le us (omega (arith, l, h))))

module _ (ds es : Domains ℕ) where
  first_of : (s : ℕ → Tree ℕ) (t u : Tree ℕ) (ts us : Trees ℕ) → Takes ds es s (more t ts) (more u us) → Takes ds es s (more t none) (more u none)
  first_of s t u ts us h = let a = h.terms in (let b : put s t ≡ u = cc in record {
    terms = ap (λ x. more x none) b;
    domains = λ v i. h.domains v (elim (IsIn-either v (variables t) [] i) [ inl x ↦ IsIn-left v (variables t) (variables_all ts) x | inr y ↦ absurd y ]);
  })

  rest_of : (s : ℕ → Tree ℕ) (t u : Tree ℕ) (ts us : Trees ℕ) → Takes ds es s (more t ts) (more u us) → Takes ds es s ts us
  rest_of s t u ts us h = let a = h.terms in record { terms = cc; domains = λ v i. h.domains v (IsIn-right v (variables t) (variables_all ts) i) }

  both_of : (s : ℕ → Tree ℕ) (t u : Tree ℕ) (ts us : Trees ℕ) → Takes ds es s (more t none) (more u none) → Takes ds es s ts us → Takes ds es s (more t ts) (more u us)
  both_of s t u ts us h k = let a = h.terms in (let b : put s t ≡ u = cc in record {
    terms = rw (b, k.terms) refl;
    domains = λ v i. elim (IsIn-either v (variables t) (variables_all ts) i) [ inl x ↦ h.domains v (IsIn-left v (variables t) [] x) | inr y ↦ k.domains v y ];
  })

  module _ (start now : List (Tree ℕ)) (general special ahead left ts us : Trees ℕ) (t u : Tree ℕ) (w : Walked ds es start general special ahead left now) (a : ahead ≡ more t ts) (b : left ≡ more u us) where
    here : Walked ds es start general special (more t ts) (more u us) now
    here = subst (λ x. Walked ds es start general special x (more u us) now) a (subst (λ x. Walked ds es start general special ahead x now) b w)

    pub column_numbered : (m : ℕ) → IsNumbered (length start) (variables_all general) m → (p : ℕ) × IsNumbered (length now) (variables t) p
    column_numbered m h = let r = numbered_parts (variables t) (variables_all ts) (length now) m (here.numbered m h) in (r.0, r.1)

    -- past a column that is covered
    pub past_column : (new : List (Tree ℕ)) → ((m : ℕ) → IsNumbered (length now) (variables t) m → length new ≡ m) → ((s : ℕ → Tree ℕ) → (Follows s now × Takes ds es s (more t none) (more u none)) ↔ Follows s new) → Walked ds es start general special ts us new
    past_column new n c = record {
      onward = λ s f h. let r = here.onward s f h in ((c s).0 (r.0, first_of s t u ts us r.1), rest_of s t u ts us r.1);
      back = λ s f h. let r = (c s).1 f in here.back s r.0 (both_of s t u ts us r.1 h);
      numbered = λ m h. let r = numbered_parts (variables t) (variables_all ts) (length now) m (here.numbered m h) in subst (λ x. IsNumbered x (variables_all ts) m) (sym (n r.0 r.1)) r.2;
    }

    -- one that is not
    pub other_column : ((s : ℕ → Tree ℕ) → Follows s now → Takes ds es s (more t none) (more u none) → ⊥) → (s : ℕ → Tree ℕ) → Follows s start → Takes ds es s general special → ⊥
    other_column c s f h = let r = here.onward s f h in c s r.0 (first_of s t u ts us r.1)

module _ (g q : Row) (ts us : List (Tree ℕ)) (ds es : List (Option (List (ℤ × ℤ)))) (a : trees_of ts ≡ g.columns) (b : trees_of us ≡ q.columns) (d : sets_of ds ≡ g.domains) (e : sets_of es ≡ q.domains) where
  pub taken : (c : RowCovers g q) → Takes (domain_at (sets_of ds)) (domain_at (sets_of es)) c.by (trees_of ts) (trees_of us)
  taken c = rw (a, b, d, e) (record { terms = c.columns; domains = c.domains })

  pub covered : (s : ℕ → Tree ℕ) → Takes (domain_at (sets_of ds)) (domain_at (sets_of es)) s (trees_of ts) (trees_of us) → RowCovers g q
  covered s h = let k = rw (a, b, d, e) at h in record { by = s; columns = k.terms; domains = k.domains }
