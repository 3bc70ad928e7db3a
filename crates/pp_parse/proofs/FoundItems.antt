-- What the code finds of an item is the item that the parts begin with.
use Rattle.std.proofs.Common.{◌≡◌, ℕ, ◌+◌, ◌≤◌, true, List, [], ◌∷◌, length, drop, Option, Some, None, refl, ap, sym, ◌∙◌, arith}
use Rattle.std.proofs.lemmas.List.{drop-drop}
use Rattle.pp_sld.specs.Verdicts as verdicts
use Rattle.pp_language.specs.declared.token.Kind.{Kind}
use Rattle.pp_language.specs.declared.token.Kind.TheVariants.{Comma, Infers, Equals, InDomain, Less, AtMost, Equal, Differ}
use Rattle.pp_language.specs.Phrases.{Phrase, said, Part, term_part, mark}
use Rattle.pp_language.specs.Statements.{calls, equates, belongs, compares, asks}
use Rattle.pp_language.specs.Meanings.{relation_of}
use Rattle.pp_language.specs.Fronts.{Front, front_as, has_term, has_callable, set_in, term_in, callable_in, mode_in, infer_by, infer_in, call_in, item_in}
use Rattle.pp_term.specs.declared.pred.Mode.{Mode}
use Rattle.pp_term.specs.declared.pred.Relation.{Relation}
use Rattle.pp_term.specs.declared.pred.Relation.TheVariants as relations
use Rattle.pp_term.specs.Meanings.{test_of, mode_of}
use Rattle.pp_parse.specs.declared.items.Entry.{Entry}
use Rattle.pp_parse.specs.declared.items.Entry.TheVariants.{Call, Equate, Compare, Infer}
use Rattle.pp_parse.specs.declared.items.Operator.{Operator}
use Rattle.pp_parse.specs.declared.items.Operator.TheVariants as operators
use Rattle.pp_parse.specs.Items.{operator_in, kind_of}
use Rattle.pp_parse.specs.Found.{FoundAt}
use Rattle.pp_parse.specs.Layouts.{IsMember, IsEntry}
use Rattle.pp_parse.proofs.Fronts.{next_place}
use Rattle.pp_parse.proofs.Bounds.{room}

-- ===== terms

term_front : (ps : List Part) → has_term ps ≡ true → (p : Phrase) × (ps ≡ term_part p ∷ drop 1 ps)
term_front [] e = absurd (cc (e))
term_front (term_part p ∷ ps) e = (p, refl)
term_front (mark k ∷ ps) e = absurd (cc (e))

term_some : (ps : List Part) → has_term ps ≡ true → (p : Phrase) × (term_in ps ≡ Some (p, drop 1 ps)) × (1 ≤ length ps)
term_some [] e = absurd (cc (e))
term_some (term_part p ∷ ps) e = (p, refl, omega arith)
term_some (mark k ∷ ps) e = absurd (cc (e))

callable_some : (ps : List Part) → has_callable ps ≡ true → (p : Phrase) × (callable_in ps ≡ Some (p, drop 1 ps)) × (1 ≤ length ps)
callable_some [] e = absurd (cc (e))
callable_some (term_part (said w us) ∷ ps) e = (said w us, refl, omega arith)
callable_some (term_part p ∷ ps) e = absurd (cc (e))
callable_some (mark k ∷ ps) e = absurd (cc (e))

module _ {E : Type 0} (qs : List Part) (i : ℕ) (e : E) where
  pub with_term : has_term (drop i qs) ≡ true → FoundAt term_in (λ _ d. d ≡ e) qs i (Some (e, i + 1))
  with_term h = let t = term_some (drop i qs) h in (t.0, t.1 ∙ ap (λ ps. Some (t.0, ps)) (sym (next_place i qs)), refl, omega arith, room 1 i qs (omega arith) t.2)

  pub with_callable : has_callable (drop i qs) ≡ true → FoundAt callable_in (λ _ d. d ≡ e) qs i (Some (e, i + 1))
  with_callable h = let t = callable_some (drop i qs) h in (t.0, t.1 ∙ ap (λ ps. Some (t.0, ps)) (sym (next_place i qs)), refl, omega arith, room 1 i qs (omega arith) t.2)

-- ===== annotated goals

mode_some : (ps : List Part) (m : verdicts.Mode) → mode_in ps ≡ Some m → 1 ≤ length ps
mode_some [] m e = absurd (cc (e))
mode_some (p ∷ ps) m e = omega arith

pub no_goal : (qs : List Part) (i : ℕ) → None ≡ mode_in (drop (i + 2) qs) → infer_in (drop i qs) ≡ None
no_goal qs i e =
    ap (λ m. infer_by (callable_in (drop i qs)) m (drop 3 (drop i qs))) (ap mode_in (drop-drop 2 i qs) ∙ sym e) ∙ none (callable_in (drop i qs))
  where
    none : (s : Front Phrase) → infer_by s None (drop 3 (drop i qs)) ≡ None
    none None = refl
    none (Some r) = refl

pub goal_found : (qs : List Part) (i : ℕ) (m : Mode) → true ≡ has_callable (drop i qs) → Some (mode_of m) ≡ mode_in (drop (i + 2) qs) → FoundAt infer_in (IsEntry i) qs i (Some (Infer i m, i + 3))
goal_found qs i m h e =
    let s = callable_some (drop i qs) (sym h) in (
      asks s.0 (mode_of m),
      ap (λ f. infer_by f (mode_in (drop 2 (drop i qs))) (drop 3 (drop i qs))) s.1
          ∙ ap (λ o. infer_by (Some (s.0, drop 1 (drop i qs))) o (drop 3 (drop i qs))) (ap mode_in (drop-drop 2 i qs) ∙ sym e)
          ∙ ap (λ ps. Some (asks s.0 (mode_of m), ps)) (drop-drop 3 i qs),
      (m, refl, refl),
      omega arith,
      (let r = room 1 (i + 2) qs (omega arith) (mode_some (drop (i + 2) qs) (mode_of m) (sym e)) in omega arith),
    )

-- ===== items by what stands behind their first term

-- the mark that is this operator
abbrev mark_of : Operator → Kind
mark_of operators.Equals = Equals
mark_of operators.InDomain = InDomain
mark_of (operators.Compares r) = kind_of r
mark_of operators.Infers = Infers
mark_of operators.Other = Comma

operator_front : (ps : List Part) (o : Operator) → operator_in ps ≡ o → (operators.Other ≡ o → ⊥) → ps ≡ mark (mark_of o) ∷ drop 1 ps
operator_front [] o e h = absurd (h e)
operator_front (term_part p ∷ ps) o e h = absurd (h e)
operator_front (mark Equals ∷ ps) o e h = ap (λ x. mark (mark_of x) ∷ ps) e
operator_front (mark InDomain ∷ ps) o e h = ap (λ x. mark (mark_of x) ∷ ps) e
operator_front (mark Infers ∷ ps) o e h = ap (λ x. mark (mark_of x) ∷ ps) e
operator_front (mark Less ∷ ps) o e h = ap (λ x. mark (mark_of x) ∷ ps) e
operator_front (mark AtMost ∷ ps) o e h = ap (λ x. mark (mark_of x) ∷ ps) e
operator_front (mark Equal ∷ ps) o e h = ap (λ x. mark (mark_of x) ∷ ps) e
operator_front (mark Differ ∷ ps) o e h = ap (λ x. mark (mark_of x) ∷ ps) e
operator_front (mark k ∷ ps) o e h = absurd (h e)

no_operator : (p : Phrase) (ps : List Part) → operator_in ps ≡ operators.Other → item_in (term_part p ∷ ps) ≡ call_in (term_part p ∷ ps)
no_operator p [] e = refl
no_operator p (term_part q ∷ ps) e = refl
no_operator p (mark Equals ∷ ps) e = absurd (cc (e))
no_operator p (mark InDomain ∷ ps) e = absurd (cc (e))
no_operator p (mark Infers ∷ ps) e = absurd (cc (e))
no_operator p (mark Less ∷ ps) e = absurd (cc (e))
no_operator p (mark AtMost ∷ ps) e = absurd (cc (e))
no_operator p (mark Equal ∷ ps) e = absurd (cc (e))
no_operator p (mark Differ ∷ ps) e = absurd (cc (e))
no_operator p (mark k ∷ ps) e = refl

comparison_in_front : (r : Relation) (p : Phrase) (ps : List Part) → item_in (term_part p ∷ mark (kind_of r) ∷ ps) ≡ front_as (compares (kind_of r) p) (term_in ps)
comparison_in_front relations.Less p ps = refl
comparison_in_front relations.AtMost p ps = refl
comparison_in_front relations.Equal p ps = refl
comparison_in_front relations.Differ p ps = refl

test_of_kind : (r : Relation) → test_of r ≡ relation_of (kind_of r)
test_of_kind relations.Less = refl
test_of_kind relations.AtMost = refl
test_of_kind relations.Equal = refl
test_of_kind relations.Differ = refl

operator_some : (ps : List Part) (o : Operator) → operator_in ps ≡ o → (operators.Other ≡ o → ⊥) → 1 ≤ length ps
operator_some [] o e h = absurd (h e)
operator_some (p ∷ ps) o e h = omega arith

-- there is a place behind the operator
pub operator_room : (qs : List Part) (i : ℕ) (o : Operator) → operator_in (drop (i + 1) qs) ≡ o → (operators.Other ≡ o → ⊥) → i + 2 ≤ length qs
operator_room qs i o e h = let r = room 1 (i + 1) qs (omega arith) (operator_some (drop (i + 1) qs) o e h) in omega arith

third_place : (i : ℕ) (ps : List Part) → drop (i + 2) ps ≡ drop 1 (drop (i + 1) ps)
third_place i ps = sym (drop-drop 1 (i + 1) ps ∙ ap (λ n. drop n ps) (let e : i + 1 + 1 ≡ i + 2 = omega arith in e))

-- what is found of a part of the item is found of the item
found_as : {I J R : Type 0} (f : I → J) (read : List Part → Front J) (inner : List Part → Front I) (Is : J → R → Type 0) (IsInner : I → R → Type 0) (qs : List Part) (i j : ℕ) (r : Option (R × ℕ))
    → read (drop i qs) ≡ front_as f (inner (drop j qs)) → ((x : I) (e : R) → IsInner x e → Is (f x) e) → i ≤ j → FoundAt inner IsInner qs j r → FoundAt read Is qs i r
found_as f read inner Is IsInner qs i j None e g l h = e ∙ ap (front_as f) h
found_as f read inner Is IsInner qs i j (Some r) e g l h = (f h.0, e ∙ ap (front_as f) h.1, g h.0 r.0 h.2, omega (arith, l, h.3), h.4)

module _ (qs : List Part) (i : ℕ) (first : has_term (drop i qs) ≡ true) where
  item_front : (o : Operator) → operator_in (drop (i + 1) qs) ≡ o → (operators.Other ≡ o → ⊥) → (p : Phrase) × (drop i qs ≡ term_part p ∷ mark (mark_of o) ∷ drop (i + 2) qs)
  item_front o e h =
      let t = term_front (drop i qs) first in
      let f = operator_front (drop (i + 1) qs) o e h in
      (t.0, t.1 ∙ ap (λ ps. term_part t.0 ∷ ps) (sym (next_place i qs) ∙ f ∙ ap (λ ps. mark (mark_of o) ∷ ps) (sym (third_place i qs))))

  pub equation_found : (r : Option (Entry × ℕ)) → operator_in (drop (i + 1) qs) ≡ operators.Equals → FoundAt term_in (λ _ e. e ≡ Equate i (i + 2)) qs (i + 2) r → FoundAt item_in (IsEntry i) qs i r
  equation_found r e h =
      let f = item_front operators.Equals e (λ e. absurd (cc (e))) in
      found_as (equates f.0) item_in term_in (IsEntry i) (λ _ e. e ≡ Equate i (i + 2)) qs i (i + 2) r (ap item_in f.1) (λ q e k. k) (omega arith) h

  pub comparison_found : (r : Option (Entry × ℕ)) (l : Relation) → operator_in (drop (i + 1) qs) ≡ operators.Compares l → FoundAt term_in (λ _ e. e ≡ Compare l i (i + 2)) qs (i + 2) r → FoundAt item_in (IsEntry i) qs i r
  comparison_found r l e h =
      let f = item_front (operators.Compares l) e (λ e. absurd (cc (e))) in
      found_as (compares (kind_of l) f.0) item_in term_in (IsEntry i) (λ _ e. e ≡ Compare l i (i + 2)) qs i (i + 2) r
      (ap item_in f.1 ∙ comparison_in_front l f.0 (drop (i + 2) qs)) (λ q e k. (l, k, test_of_kind l)) (omega arith) h

  pub membership_found : (r : Option (Entry × ℕ)) → operator_in (drop (i + 1) qs) ≡ operators.InDomain → FoundAt set_in (IsMember i) qs (i + 2) r → FoundAt item_in (IsEntry i) qs i r
  membership_found r e h =
      let f = item_front operators.InDomain e (λ e. absurd (cc (e))) in
      found_as (belongs f.0) item_in set_in (IsEntry i) (IsMember i) qs i (i + 2) r (ap item_in f.1) (λ s e k. k) (omega arith) h

  pub infer_found : (r : Option (Entry × ℕ)) → operator_in (drop (i + 1) qs) ≡ operators.Infers → FoundAt infer_in (IsEntry i) qs i r → FoundAt item_in (IsEntry i) qs i r
  infer_found r e h = go r h
    where
      same : item_in (drop i qs) ≡ infer_in (drop i qs)
      same = let f = item_front operators.Infers e (λ e. absurd (cc (e))) in ap item_in f.1 ∙ ap infer_in (sym f.1)

      go : (r : Option (Entry × ℕ)) → FoundAt infer_in (IsEntry i) qs i r → FoundAt item_in (IsEntry i) qs i r
      go None h = same ∙ h
      go (Some r) h = (h.0, same ∙ h.1, h.2, h.3, h.4)

  pub call_found : (r : Option (Entry × ℕ)) → operator_in (drop (i + 1) qs) ≡ operators.Other → FoundAt callable_in (λ _ e. e ≡ Call i) qs i r → FoundAt item_in (IsEntry i) qs i r
  call_found r e h =
      let t = term_front (drop i qs) first in
      let f = t.1 ∙ ap (λ ps. term_part t.0 ∷ ps) (sym (next_place i qs)) in
      found_as calls item_in callable_in (IsEntry i) (λ _ e. e ≡ Call i) qs i i r (ap item_in f ∙ no_operator t.0 (drop (i + 1) qs) e ∙ ap call_in (sym f)) (λ q e k. k) (omega arith) h
