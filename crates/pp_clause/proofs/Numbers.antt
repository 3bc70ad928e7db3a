-- Predicates by number.
use Rattle.std.proofs.Common.{◌≡◌, ℕ, true, false, cond, List, [], ◌∷◌, ◌++◌, map, refl, ap, sym, ◌∙◌, inl, append-nil, append_assoc}
use Rattle.std.specs.Prelude.{nat_eq, ◌||◌}
use Rattle.std.specs.List.{list_any, position_or_len}
use Rattle.pp_algebra.specs.Canon.{has, place, firsts}
use Rattle.pp_algebra.proofs.Bools.{nat_same, nat_is, left_true, right_true}
use Rattle.pp_algebra.proofs.CanonLemmas.{IsSame, has-all, place-front}
use Rattle.pp_row.proofs.Keys.{taken, place_now, position_place}
use Rattle.pp_term.specs.declared.pred.Pred.{Pred}
use Rattle.pp_clause.specs.Predicates.{same_pred}
use Rattle.pp_clause.specs.Table.{pred_of, IsGrown, IsNumber}

abbrev make_pred : ℕ → ℕ → Pred
make_pred n k = record { name = n; arity = k }

pub same_pred-itself : (p : Pred) → same_pred p p ≡ true
same_pred-itself p = rw (nat_same p.name, nat_same p.arity) refl

pub same_pred-is : (a b : Pred) → same_pred a b ≡ true → a ≡ b
same_pred-is a b e =
    let name : a.name ≡ b.name = nat_is a.name b.name (left_true _ _ e) in
    let arity : a.arity ≡ b.arity = nat_is a.arity b.arity (right_true (nat_eq a.name b.name) _ e) in
    ap (λ k. make_pred k a.arity) name ∙ ap (make_pred b.name) arity

pub same_pred-IsSame : IsSame same_pred
same_pred-IsSame = record { itself = same_pred-itself; is = same_pred-is }

pub grown_none : {A : Type 0} (xs : List A) → IsGrown xs xs
grown_none xs = ([], sym (append-nil xs))

pub grown_more : {A : Type 0} (xs ys zs : List A) → ys ≡ xs ++ zs → IsGrown xs ys
grown_more xs ys zs e = (zs, e)

pub grown_twice : {A : Type 0} (xs ys zs : List A) → IsGrown xs ys → IsGrown ys zs → IsGrown xs zs
grown_twice xs ys zs a b = (a.0 ++ b.0, b.1 ∙ ap (λ k. k ++ b.0) a.1 ∙ append_assoc xs a.0 b.0)

pub grown_firsts : (seen vs new : List Pred) → new ≡ firsts same_pred seen vs → IsGrown seen new
grown_firsts seen [] new e = ([], e ∙ sym (append-nil seen))
grown_firsts seen (v ∷ vs) new e = elim (has same_pred seen v) as (λ b. new ≡ cond b (firsts same_pred seen vs) (firsts same_pred (seen ++ v ∷ []) vs) → IsGrown seen new) [
  | true ↦ λ e. grown_firsts seen vs new e
  | false ↦ λ e. let r = grown_firsts (seen ++ v ∷ []) vs new e in (v ∷ r.0, r.1 ∙ append_assoc seen (v ∷ []) r.0)
] e

has-front : (vs ws : List Pred) (v : Pred) → has same_pred vs v ≡ true → has same_pred (vs ++ ws) v ≡ true
has-front [] ws v h = absurd (cc)
has-front (x ∷ vs) ws v h = elim (same_pred x v) as (λ b. (b || has same_pred vs v) ≡ true → (b || has same_pred (vs ++ ws) v) ≡ true) [ true ↦ λ h. refl | false ↦ λ h. has-front vs ws v h ] h

-- a number stays while predicates are added
pub number_stays : (ps qs : List Pred) (n : ℕ) (p : Pred) → IsGrown ps qs → IsNumber ps n p → IsNumber qs n p
number_stays ps qs n p g h = record {
  is_there = ap (λ rs. has same_pred rs p) g.1 ∙ has-front ps g.0 p h.is_there;
  number = ap (λ rs. place same_pred rs p) g.1 ∙ place-front same_pred ps g.0 p h.is_there ∙ h.number;
}

-- taking in a key
module _ (old new : List (ℕ × ℕ)) (p : Pred) (e : new ≡ cond (list_any (λ j. same_pred p (pred_of j)) old) old (old ++ (p.name, p.arity) ∷ [])) where
  pub taken_pred : map pred_of new ≡ firsts same_pred (map pred_of old) (p ∷ [])
  taken_pred = taken same_pred same_pred-IsSame pred_of old new (p.name, p.arity) e

  pub number_taken : (n : ℕ) → n ≡ position_or_len (λ j. same_pred p (pred_of j)) old → IsNumber (map pred_of new) n p
  number_taken n h = record {
    is_there = ap (λ ps. has same_pred ps p) taken_pred ∙ has-all same_pred same_pred-IsSame (map pred_of old) (p ∷ []) p (inl refl);
    number = sym (place_now same_pred same_pred-IsSame pred_of old new (p.name, p.arity) n e (h ∙ position_place same_pred same_pred-IsSame pred_of old p));
  }

  pub taken_grown : IsGrown (map pred_of old) (map pred_of new)
  taken_grown = grown_firsts (map pred_of old) (p ∷ []) (map pred_of new) taken_pred
