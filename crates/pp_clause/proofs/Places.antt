-- The clause at a place of its predicate, by its number.
use Rattle.std.proofs.Common.{◌≡◌, ℕ, zero, suc, ◌+◌, ◌<◌, Bool, true, false, cond, min, List, [], ◌∷◌, length, take, All, Some, Option, None, MatchOption, option_map, refl, ap, sym, ◌∙◌, subst, inl, inr, arith}
use Rattle.std.specs.Prelude.{slice_get}
use Rattle.std.proofs.Math.ListN.{length-map}
use Rattle.std.proofs.lemmas.Option.{slice_get-map}
use Rattle.pp_algebra.specs.Canon.{place}
use Rattle.pp_sld.specs.Goals as goals
use Rattle.pp_term.specs.declared.pred.Pred.{Pred}
use Rattle.pp_term.specs.declared.clause.Clause.{Clause}
use Rattle.pp_term.specs.Meanings.{predicate_of, program, clause_of}
use Rattle.pp_term.specs.WellFormed.{IsClause}
use Rattle.pp_clause.specs.declared.first.First.{First}
use Rattle.pp_clause.specs.Firsts.{first_of, AreLeftOut, IsNextPlace}
use Rattle.pp_clause.specs.Places.{IsClauseAt}
use Rattle.pp_clause.specs.Predicates.{same_pred, predicates, Names}
use Rattle.pp_clause.specs.Table.{IsGrown, numbers_from, tops, AreOut, IsNextTop}
use Rattle.pp_clause.proofs.Numbers.{same_pred-is}
use Rattle.pp_clause.proofs.Groups.{place-min, cases_within, get_all, get_within}

record Is (p : Pred) (n : ℕ) (cs : List Clause) (k m i : ℕ) (c : Clause) : Type 0 where
  pub number : m ≡ n + i
  pub at : slice_get cs i ≡ Some c
  pub predicate : c.pred ≡ p
  pub before : length (program (take i cs) (predicate_of p)) ≡ k
  pub nth : slice_get (program cs (predicate_of p)) k ≡ Some (clause_of c).1

module _ (p : Pred) where
  abbrev Found : ℕ → List Clause → ℕ → ℕ → Type 0
  Found n cs k m = (i : ℕ) × (c : Clause) × Is p n cs k m i c

  later : (n : ℕ) (x : Clause) (xs : List Clause) (k j m : ℕ) (b : Bool) → same_pred x.pred p ≡ b → j ≡ cond b (suc k) k → Found (suc n) xs k m → Found n (x ∷ xs) j m
  later n x xs k j m true e t r = (
    suc r.0,
    r.1,
    record {
      number = (let h = r.2.number in omega (arith, h));
      at = r.2.at;
      predicate = r.2.predicate;
      before = ap (λ b. length (cond b ((clause_of x).1 ∷ program (take r.0 xs) (predicate_of p)) (program (take r.0 xs) (predicate_of p)))) e ∙ ap suc r.2.before ∙ sym t;
      nth = ap (λ b. slice_get (cond b ((clause_of x).1 ∷ program xs (predicate_of p)) (program xs (predicate_of p))) j) e ∙ ap (slice_get ((clause_of x).1 ∷ program xs (predicate_of p))) t ∙ r.2.nth;
    },
  )
  later n x xs k j m false e t r = (
    suc r.0,
    r.1,
    record {
      number = (let h = r.2.number in omega (arith, h));
      at = r.2.at;
      predicate = r.2.predicate;
      before = ap (λ b. length (cond b ((clause_of x).1 ∷ program (take r.0 xs) (predicate_of p)) (program (take r.0 xs) (predicate_of p)))) e ∙ r.2.before ∙ sym t;
      nth = ap (λ b. slice_get (cond b ((clause_of x).1 ∷ program xs (predicate_of p)) (program xs (predicate_of p))) j) e ∙ ap (slice_get (program xs (predicate_of p))) t ∙ r.2.nth;
    },
  )

  here : (n : ℕ) (x : Clause) (xs : List Clause) (m : ℕ) → same_pred x.pred p ≡ true → n ≡ m → Found n (x ∷ xs) 0 m
  here n x xs m e t = (
    0,
    x,
    record {
      number = omega (arith, t);
      at = refl;
      predicate = same_pred-is x.pred p e;
      before = refl;
      nth = ap (λ b. slice_get (cond b ((clause_of x).1 ∷ program xs (predicate_of p)) (program xs (predicate_of p))) 0) e;
    },
  )

  found-by : (n : ℕ) (x : Clause) (xs : List Clause) (k m : ℕ) (b : Bool) → same_pred x.pred p ≡ b → slice_get (cond b (n ∷ numbers_from p (suc n) xs) (numbers_from p (suc n) xs)) k ≡ Some m → ((j : ℕ) → slice_get (numbers_from p (suc n) xs) j ≡ Some m → Found (suc n) xs j m) → Found n (x ∷ xs) k m
  found-by n x xs zero m true e h f = here n x xs m e (cc)
  found-by n x xs (suc k) m true e h f = later n x xs k (suc k) m true e refl (f k h)
  found-by n x xs k m false e h f = later n x xs k k m false e refl (f k h)

  found : (n : ℕ) (cs : List Clause) (k m : ℕ) → slice_get (numbers_from p n cs) k ≡ Some m → Found n cs k m
  found n [] k m e = absurd (cc)
  found n (x ∷ xs) k m e = found-by n x xs k m (same_pred x.pred p) refl e (λ j. found (suc n) xs j m)

  pub clause_at : (cs : List Clause) (k m : ℕ) → All IsClause cs → slice_get (numbers_from p 0 cs) k ≡ Some m → (c : Clause) × IsClauseAt cs p k m c
  clause_at cs k m f e =
      let r = found 0 cs k m e in
      let i : r.0 ≡ m = (let h = r.2.number in omega (arith, h)) in
      let at : slice_get cs m ≡ Some r.1 = ap (slice_get cs) (sym i) ∙ r.2.at in (
        r.1,
        record {
          within = get_within cs m r.1 at;
          at = at;
          predicate = r.2.predicate;
          before = ap (λ j. length (program (take j cs) (predicate_of p))) (sym i) ∙ r.2.before;
          nth = r.2.nth;
          formed = get_all IsClause cs m r.1 f at;
        },
      )

-- the number of a predicate
pub named_by : (cs : List Clause) (qs : List Pred) (n k m : ℕ) (p : Pred) → IsGrown (predicates cs) qs → n ≡ length (predicates cs) → k ≡ place same_pred qs p → m ≡ min k n → Names cs m p
named_by cs qs n k m p g l e f =
    let r = place-min p (predicates cs) g.0 k (ap (λ vs. place same_pred vs p) (sym g.1) ∙ sym e) in
    elim (cases_within k (length (predicates cs))) [
      | inl a ↦ r.0 a ∙ omega (arith, a, l, f)
      | inr a ↦ r.1 a ∙ omega (arith, a, l, f)
    ]

-- tops that may not match are of clauses that may not
module _ (f : First) (ms : List goals.Clause) where
  top_at : (k : ℕ) (m : goals.Clause) → slice_get ms k ≡ Some m → slice_get (tops ms) k ≡ Some (first_of m.head)
  top_at k m e = slice_get-map (λ m. first_of m.head) ms k ∙ ap (option_map (λ m. first_of m.head)) e

  pub left_out : (a b : ℕ) → AreOut f (tops ms) a b → AreLeftOut f ms a b
  left_out a b h = λ k m l u e. h k (first_of m.head) l u (top_at k m e)

  pub next_place : (a k : ℕ) → IsNextTop f (tops ms) a k → IsNextPlace f ms a k
  next_place a k h = record {
    later = h.later;
    within = (let l = length-map ms (λ m. first_of m.head) in omega (arith, l, h.within));
    matches = λ m e. h.matches (first_of m.head) (top_at k m e);
    passed = left_out a k h.passed;
  }

-- a number below the length
pub get_some : {A : Type 0} (xs : List A) (n : ℕ) → n < length xs → (x : A) × (slice_get xs n ≡ Some x)
get_some [] n l = absurd (omega (arith, l))
get_some (x ∷ xs) zero l = (x, refl)
get_some (x ∷ xs) (suc n) l = get_some xs n (omega (arith, l))

-- where there is no clause, none is left out
pub left_out_none : (f : First) (ms : List goals.Clause) (a b : ℕ) → ms ≡ [] → AreLeftOut f ms a b
left_out_none f [] a b e = λ k m l u s. absurd (cc)
left_out_none f (m ∷ ms) a b e = absurd (cc)

-- the answer of a group is one of its predicate
pub answer : (f : First) (cs : List Clause) (p : Pred) (a : ℕ) (o : Option ℕ) (fs : List First) → fs ≡ tops (program cs (predicate_of p)) → MatchOption o (AreOut f fs a (length fs)) (IsNextTop f fs a)
    → MatchOption o (AreLeftOut f (program cs (predicate_of p)) a (length (program cs (predicate_of p)))) (IsNextPlace f (program cs (predicate_of p)) a)
answer f cs p a None fs e h =
    let ms = program cs (predicate_of p) in
    let l : length fs ≡ length ms = ap length e ∙ length-map ms (λ m. first_of m.head) in
    left_out f ms a (length ms) (subst (λ gs. AreOut f gs a (length ms)) e (subst (AreOut f fs a) l h))
answer f cs p a (Some k) fs e h = next_place f (program cs (predicate_of p)) a k (subst (λ gs. IsNextTop f gs a k) e h)
