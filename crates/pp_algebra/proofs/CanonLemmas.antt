-- A pattern's row is canonical, and the two cover each other.
use Rattle.std.proofs.Common.{◌≡◌, ℕ, zero, suc, ◌<◌, pos, true, false, Bool, List, [], ◌∷◌, ◌++◌, map, length, Option, Some, None, refl, ap, sym, ◌∙◌, inl, inr, append-nil, append_assoc, arith, length-append}
use Rattle.std.specs.Prelude.{cond, ◌||◌, nat_eq}
use Rattle.std.proofs.lemmas.List.Concat.{flat_map_single}
use Rattle.std.proofs.Math.ListN.{length-map}
use Rattle.pp_algebra.specs.Terms.{Tree, int, node, variable, Trees, none, more, put_all, variables_all}
use Rattle.pp_algebra.specs.Rows.{Domains, IsNumbered, Pattern, IsCanonical, pattern_of, domain_at}
use Rattle.pp_algebra.specs.Covers.{MayGo, IsIn, Covers}
use Rattle.pp_algebra.specs.Canon.{has, place, firsts, canon, same_tree, same_trees, same_list}
use Rattle.pp_algebra.proofs.Put.{put_all-put_all, put_all-variable}
use Rattle.pp_algebra.proofs.Bools.{int_same, int_is, nat_same, nat_is, both_true, left_true, right_true}
use Rattle.pp_algebra.proofs.Order.{variables_all-put_all, may_stay}
use Rattle.pp_algebra.proofs.Antisym.{put_all-agree}
use Rattle.std.proofs.Math.Bool.{or_assoc}

-- a test of equality
pub record IsSame {V : Type 0} (same : V → V → Bool) : Type 0 where
  pub itself : (v : V) → same v v ≡ true
  pub is : (v w : V) → same v w ≡ true → v ≡ w

mutual
  same_tree-itself : (t : Tree ℕ) → same_tree t t ≡ true
  same_tree-itself (int n) = int_same n
  same_tree-itself (node f ts) = both_true _ _ (nat_same f) (same_trees-itself ts)
  same_tree-itself (variable v) = nat_same v

  pub same_trees-itself : (ts : Trees ℕ) → same_trees ts ts ≡ true
  same_trees-itself none = refl
  same_trees-itself (more t ts) = both_true _ _ (same_tree-itself t) (same_trees-itself ts)

mutual
  same_tree-is : (t u : Tree ℕ) → same_tree t u ≡ true → t ≡ u
  same_tree-is (int n) (int m) h = ap int (int_is n m h)
  same_tree-is (int n) (node g us) h = absurd (cc)
  same_tree-is (int n) (variable w) h = absurd (cc)
  same_tree-is (node f ts) (int m) h = absurd (cc)
  same_tree-is (node f ts) (node g us) h = rw (nat_is f g (left_true _ _ h), same_trees-is ts us (right_true (nat_eq f g) _ h)) refl
  same_tree-is (node f ts) (variable w) h = absurd (cc)
  same_tree-is (variable v) (int m) h = absurd (cc)
  same_tree-is (variable v) (node g us) h = absurd (cc)
  same_tree-is (variable v) (variable w) h = ap variable (nat_is v w h)

  pub same_trees-is : (ts us : Trees ℕ) → same_trees ts us ≡ true → ts ≡ us
  same_trees-is none none h = refl
  same_trees-is none (more u us) h = absurd (cc)
  same_trees-is (more t ts) none h = absurd (cc)
  same_trees-is (more t ts) (more u us) h = rw (same_tree-is t u (left_true _ _ h), same_trees-is ts us (right_true (same_tree t u) _ h)) refl

same_list-itself : (ts : List (Tree ℕ)) → same_list ts ts ≡ true
same_list-itself [] = refl
same_list-itself (t ∷ ts) = both_true _ _ (same_tree-itself t) (same_list-itself ts)

same_list-is : (ts us : List (Tree ℕ)) → same_list ts us ≡ true → ts ≡ us
same_list-is [] [] h = refl
same_list-is [] (u ∷ us) h = absurd (cc)
same_list-is (t ∷ ts) [] h = absurd (cc)
same_list-is (t ∷ ts) (u ∷ us) h = rw (same_tree-is t u (left_true _ _ h), same_list-is ts us (right_true (same_tree t u) _ h)) refl

pub same_list-IsSame : IsSame same_list
same_list-IsSame = record { itself = same_list-itself; is = same_list-is }

pub nat_eq-IsSame : IsSame nat_eq
nat_eq-IsSame = record { itself = nat_same; is = nat_is }

module _ {V : Type 0} (same : V → V → Bool) where
  pub has-append : (vs ws : List V) (v : V) → has same (vs ++ ws) v ≡ (has same vs v || has same ws v)
  has-append [] ws v = refl
  has-append (x ∷ vs) ws v = ap (λ b. same x v || b) (has-append vs ws v) ∙ sym (or_assoc (same x v) (has same vs v) (has same ws v))

  has-front : (vs ws : List V) (v : V) → has same vs v ≡ true → has same (vs ++ ws) v ≡ true
  has-front [] ws v h = absurd (cc)
  has-front (x ∷ vs) ws v h = elim (same x v) as (λ b. (b || has same vs v) ≡ true → (b || has same (vs ++ ws) v) ≡ true) [ true ↦ λ h. refl | false ↦ λ h. has-front vs ws v h ] h

  pub place-front : (vs ws : List V) (v : V) → has same vs v ≡ true → place same (vs ++ ws) v ≡ place same vs v
  place-front [] ws v h = absurd (cc)
  place-front (x ∷ vs) ws v h = elim (same x v) as (λ b. (b || has same vs v) ≡ true → cond b 0 (suc (place same (vs ++ ws) v)) ≡ cond b 0 (suc (place same vs v))) [ true ↦ λ h. refl | false ↦ λ h. ap suc (place-front vs ws v h) ] h

  -- a new one stands at the end
  place-new : IsSame same → (vs : List V) (v : V) → has same vs v ≡ false → (place same (vs ++ v ∷ []) v ≡ length vs) × (has same (vs ++ v ∷ []) v ≡ true)
  place-new s [] v h = rw (s.itself v) (refl, refl)
  place-new s (x ∷ vs) v h = elim (same x v) as (λ b. (b || has same vs v) ≡ false → (cond b 0 (suc (place same (vs ++ v ∷ []) v)) ≡ suc (length vs)) × ((b || has same (vs ++ v ∷ []) v) ≡ true)) [
    | true ↦ λ h. absurd (cc)
    | false ↦ λ h. let r = place-new s vs v h in (ap suc r.0, r.1)
  ] h

  place-within : (vs : List V) (v : V) → has same vs v ≡ true → place same vs v < length vs
  place-within [] v h = absurd (cc)
  place-within (x ∷ vs) v h = elim (same x v) as (λ b. (b || has same vs v) ≡ true → cond b 0 (suc (place same vs v)) < suc (length vs)) [ true ↦ λ h. omega arith | false ↦ λ h. let r = place-within vs v h in omega arith ] h

  -- the seen ones keep their places
  pub firsts-more : (seen vs : List V) → (ws : List V) × (firsts same seen vs ≡ seen ++ ws)
  firsts-more seen [] = ([], sym (append-nil seen))
  firsts-more seen (v ∷ vs) = elim (has same seen v) as (λ b. (ws : List V) × (cond b (firsts same seen vs) (firsts same (seen ++ v ∷ []) vs) ≡ seen ++ ws)) [
    | true ↦ firsts-more seen vs
    | false ↦ (let r = firsts-more (seen ++ v ∷ []) vs in (v ∷ r.0, r.1 ∙ append_assoc seen (v ∷ []) r.0))
  ]

  kept : (seen vs : List V) (v : V) → has same seen v ≡ true → (has same (firsts same seen vs) v ≡ true) × (place same (firsts same seen vs) v ≡ place same seen v)
  kept seen vs v h = let r = firsts-more seen vs in rw r.1 (has-front seen r.0 v h, place-front seen r.0 v h)

  pub has-all : IsSame same → (seen vs : List V) (v : V) → IsIn v vs → has same (firsts same seen vs) v ≡ true
  has-all s seen [] v i = absurd i
  has-all s seen (x ∷ vs) v (inl e) =
      elim (has same seen x) as (λ b. has same seen x ≡ b → has same (cond b (firsts same seen vs) (firsts same (seen ++ x ∷ []) vs)) v ≡ true) [
        | true ↦ λ h. rw (← e) (kept seen vs x h).0
        | false ↦ λ h. rw (← e) (kept (seen ++ x ∷ []) vs x (place-new s seen x h).1).0
      ] refl
  has-all s seen (x ∷ vs) v (inr i) =
      elim (has same seen x) as (λ b. has same (cond b (firsts same seen vs) (firsts same (seen ++ x ∷ []) vs)) v ≡ true) [ true ↦ has-all s seen vs v i | false ↦ has-all s (seen ++ x ∷ []) vs v i ]

  pub numbered : IsSame same → (seen vs : List V) → IsNumbered (length seen) (map (place same (firsts same seen vs)) vs) (length (firsts same seen vs))
  numbered s seen [] = refl
  numbered s seen (x ∷ vs) =
      elim (has same seen x) as (λ b. has same seen x ≡ b → IsNumbered (length seen) (map (place same (cond b (firsts same seen vs) (firsts same (seen ++ x ∷ []) vs))) (x ∷ vs)) (length (cond b (firsts same seen vs) (firsts same (seen ++ x ∷ []) vs)))) [
        | true ↦ λ h. inl (rw (kept seen vs x h).1 (place-within seen x h), numbered s seen vs)
        | false ↦ λ h. let r = place-new s seen x h in inr ((kept (seen ++ x ∷ []) vs x r.1).1 ∙ r.0, (let l : length (seen ++ x ∷ []) ≡ suc (length seen) = length-append seen (x ∷ []) ∙ omega arith in rw l at (numbered s (seen ++ x ∷ []) vs)))
      ] refl

  abbrev pub at : List V → ℕ → Option V
  at [] k = None
  at (v ∷ vs) zero = Some v
  at (v ∷ vs) (suc k) = at vs k

  abbrev pub name : Option V → Tree V
  name None = int (pos 0)
  name (Some v) = variable v

  pub at-place : IsSame same → (vs : List V) (v : V) → has same vs v ≡ true → at vs (place same vs v) ≡ Some v
  at-place s [] v h = absurd (cc)
  at-place s (x ∷ vs) v h = elim (same x v) as (λ b. same x v ≡ b → (b || has same vs v) ≡ true → at (x ∷ vs) (cond b 0 (suc (place same vs v))) ≡ Some v) [
    | true ↦ λ e h. ap Some (s.is x v e)
    | false ↦ λ e h. at-place s vs v h
  ] refl h

  pub goes_at : (ds : Domains V) (vs : List V) (k : ℕ) → MayGo ds (domain_at (map ds vs) k) (name (at vs k))
  goes_at ds [] k = tt
  goes_at ds (v ∷ vs) zero = may_stay ds v (ds v) refl
  goes_at ds (v ∷ vs) (suc k) = goes_at ds vs k

  pub domain_at-place : IsSame same → (ds : Domains V) (vs : List V) (v : V) → has same vs v ≡ true → domain_at (map ds vs) (place same vs v) ≡ ds v
  domain_at-place s ds [] v h = absurd (cc)
  domain_at-place s ds (x ∷ vs) v h = elim (same x v) as (λ b. same x v ≡ b → (b || has same vs v) ≡ true → domain_at (map ds (x ∷ vs)) (cond b 0 (suc (place same vs v))) ≡ ds v) [
    | true ↦ λ e h. ap ds (s.is x v e)
    | false ↦ λ e h. domain_at-place s ds vs v h
  ] refl h

  variables-renamed : (f : V → ℕ) (ts : Trees V) → variables_all (put_all (λ v. variable (f v)) ts) ≡ map f (variables_all ts)
  variables-renamed f ts = variables_all-put_all (λ v. variable (f v)) ts ∙ flat_map_single f (variables_all ts)

  pub canon-IsCanonical : IsSame same → (p : Pattern V) → IsCanonical (canon same p)
  canon-IsCanonical s p =
      let vs = firsts same [] (variables_all p.columns) in
      rw (variables-renamed (place same vs) p.columns, length-map) (numbered s [] (variables_all p.columns))

  pub canon-covers : IsSame same → (p : Pattern V) → Covers (pattern_of (canon same p)) p
  canon-covers s p =
      let vs = firsts same [] (variables_all p.columns) in
      record {
        by = λ k. name (at vs k);
        columns =
            put_all-put_all (λ k. name (at vs k)) (λ v. variable (place same vs v)) p.columns
            ∙ put_all-agree (λ v. name (at vs (place same vs v))) variable p.columns (λ v i. ap name (at-place s vs v (has-all s [] (variables_all p.columns) v i)))
            ∙ put_all-variable p.columns;
        domains = λ k _. goes_at p.domains vs k;
      }

  pub covers-canon : IsSame same → (p : Pattern V) → Covers p (pattern_of (canon same p))
  covers-canon s p =
      let vs = firsts same [] (variables_all p.columns) in
      record {
        by = λ v. variable (place same vs v);
        columns = refl;
        domains = λ v i. may_stay (domain_at (map p.domains vs)) (place same vs v) (p.domains v) (domain_at-place s p.domains vs v (has-all s [] (variables_all p.columns) v i));
      }
