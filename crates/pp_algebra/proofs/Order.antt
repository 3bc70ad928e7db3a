-- Covering is an order.
use Rattle.std.proofs.Common.{◌≡◌, ℤ, true, List, [], ◌∷◌, ◌++◌, Option, Some, None, refl, ap, sym, ◌∙◌, subst, inl, inr, append-nil}
use Rattle.std.specs.List.{flat_map}
use Rattle.std.proofs.lemmas.List.Concat.{flat_map-append}
use Rattle.std.specs.FinSet as set
use Rattle.pp_algebra.specs.Terms.{Tree, int, node, variable, Trees, none, more, put, put_all, variables, variables_all}
use Rattle.pp_algebra.specs.Rows.{Domain, Domains, Pattern}
use Rattle.pp_algebra.specs.Covers.{IsWithin, MayGo, IsIn, Covers}
use Rattle.pp_algebra.proofs.Put.{put_all-variable, put_all-put_all}

pub may_stay : {V : Type 0} (ds : Domains V) (v : V) (d : Option Domain) → ds v ≡ d → MayGo ds d (variable v)
may_stay ds v None e = tt
may_stay ds v (Some d) e = rw e (λ n h. h)

pub covers_itself : {V : Type 0} (r : Pattern V) → Covers r r
covers_itself r = record {
  by = variable;
  columns = put_all-variable r.columns;
  domains = λ v _. may_stay r.domains v (r.domains v) refl;
}

within_within : (d e : Domain) (f : Option Domain) → ((n : ℤ) → set.contains e n ≡ true → set.contains d n ≡ true) → IsWithin e f → IsWithin d f
within_within d e None h k = k
within_within d e (Some f) h k = λ n m. h n (k n m)

within_goes : {W : Type 0} (ds : Domains W) (d : Domain) (e : Option Domain) (t : Tree W) → IsWithin d e → MayGo ds e t → MayGo ds (Some d) t
within_goes ds d None t h k = absurd h
within_goes ds d (Some e) (int n) h k = h n k
within_goes ds d (Some e) (node f ts) h k = k
within_goes ds d (Some e) (variable w) h k = within_within d e (ds w) h k

-- the variables after a substitution
mutual
  pub variables-put : {V W : Type 0} (s : V → Tree W) (t : Tree V) → variables (put s t) ≡ flat_map (λ v. variables (s v)) (variables t)
  variables-put s (int n) = refl
  variables-put s (node f ts) = variables_all-put_all s ts
  variables-put s (variable v) = sym (append-nil (variables (s v)))

  pub variables_all-put_all : {V W : Type 0} (s : V → Tree W) (ts : Trees V) → variables_all (put_all s ts) ≡ flat_map (λ v. variables (s v)) (variables_all ts)
  variables_all-put_all s none = refl
  variables_all-put_all s (more t ts) = rw (variables-put s t, variables_all-put_all s ts, flat_map-append (λ v. variables (s v)) (variables t) (variables_all ts)) refl

pub IsIn-left : {V : Type 0} (v : V) (vs ws : List V) → IsIn v vs → IsIn v (vs ++ ws)
IsIn-left v [] ws h = absurd h
IsIn-left v (x ∷ vs) ws (inl e) = inl e
IsIn-left v (x ∷ vs) ws (inr h) = inr (IsIn-left v vs ws h)

pub IsIn-right : {V : Type 0} (v : V) (vs ws : List V) → IsIn v ws → IsIn v (vs ++ ws)
IsIn-right v [] ws h = h
IsIn-right v (x ∷ vs) ws h = inr (IsIn-right v vs ws h)

pub IsIn-flat_map : {V W : Type 0} (f : V → List W) (v : V) (w : W) (vs : List V) → IsIn v vs → IsIn w (f v) → IsIn w (flat_map f vs)
IsIn-flat_map f v w [] h k = absurd h
IsIn-flat_map f v w (x ∷ vs) (inl e) k = IsIn-left w (f x) (flat_map f vs) (rw e k)
IsIn-flat_map f v w (x ∷ vs) (inr h) k = IsIn-right w (f x) (flat_map f vs) (IsIn-flat_map f v w vs h k)

pub goes_further : {V W : Type 0} (ds : Domains V) (es : Domains W) (s : V → Tree W) (d : Option Domain) (t : Tree V) → ((v : V) → IsIn v (variables t) → MayGo es (ds v) (s v)) → MayGo ds d t → MayGo es d (put s t)
goes_further ds es s None t h k = tt
goes_further ds es s (Some d) (int n) h k = k
goes_further ds es s (Some d) (node f ts) h k = k
goes_further ds es s (Some d) (variable v) h k = within_goes es d (ds v) (s v) k (h v (inl refl))

pub covers_through : {U V W : Type 0} (r : Pattern U) (q : Pattern V) (p : Pattern W) → Covers r q → Covers q p → Covers r p
covers_through r q p a b = record {
  by = λ v. put b.by (a.by v);
  columns = sym (put_all-put_all b.by a.by r.columns) ∙ ap (put_all b.by) a.columns ∙ b.columns;
  domains = λ u i. goes_further q.domains p.domains b.by (r.domains u) (a.by u)
      (λ v j. b.domains v (subst (λ ts. IsIn v (variables_all ts)) a.columns (rw variables_all-put_all (IsIn-flat_map (λ x. variables (a.by x)) u v (variables_all r.columns) i j))))
      (a.domains u i);
}
