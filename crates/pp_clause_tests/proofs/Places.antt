-- One clause alone is at a place of a predicate.
use Rattle.std.proofs.Common.{◌≡◌, ◌<◌, ℕ, zero, suc, true, false, cond, List, [], ◌∷◌, length, take, Some, ap, sym, ◌∙◌, subst, inl, inr, arith}
use Rattle.std.specs.Prelude.{slice_get}
use Rattle.std.proofs.lemmas.Bool.{cases_order}
use Rattle.pp_term.specs.declared.pred.Pred.{Pred}
use Rattle.pp_term.specs.declared.clause.Clause.{Clause}
use Rattle.pp_term.specs.Meanings.{predicate_of, program, clause_of}
use Rattle.pp_clause.specs.Places.{IsClauseAt}
use Rattle.pp_clause.specs.Predicates.{same_pred}
use Rattle.pp_clause.proofs.Numbers.{same_pred-itself}

module _ (p : Pred) where
  -- how many of the first n clauses are of the predicate
  abbrev amount : ℕ → List Clause → ℕ
  amount n cs = length (program (take n cs) (predicate_of p))

  some_is : (c d : Clause) → Some c ≡ Some d → c ≡ d
  some_is c d e = cc

  -- there are more of them behind one
  more : (cs : List Clause) (n m : ℕ) (c : Clause) → slice_get cs n ≡ Some c → c.pred ≡ p → n < m → amount n cs < amount m cs
  more [] n m c e q l = absurd (cc)
  more (x ∷ xs) n zero c e q l = absurd (omega (arith, l))
  more (x ∷ xs) zero (suc m) c e q l =
      let same : same_pred x.pred p ≡ true = subst (λ r. same_pred x.pred r ≡ true) (ap (λ d. d.pred) (some_is x c e) ∙ q) (same_pred-itself x.pred) in
      subst (λ b. 0 < length (cond b ((clause_of x).1 ∷ program (take m xs) (predicate_of p)) (program (take m xs) (predicate_of p)))) (sym same) (omega arith)
  more (x ∷ xs) (suc n) (suc m) c e q l =
      let h : amount n xs < amount m xs = more xs n m c e q (omega (arith, l)) in
      elim (same_pred x.pred p) as (λ b. length (cond b ((clause_of x).1 ∷ program (take n xs) (predicate_of p)) (program (take n xs) (predicate_of p))) < length (cond b ((clause_of x).1 ∷ program (take m xs) (predicate_of p)) (program (take m xs) (predicate_of p)))) [
        | true ↦ omega (arith, h)
        | false ↦ h
      ]

  pub one_clause : (cs : List Clause) (k n m : ℕ) (c d : Clause) → IsClauseAt cs p k n c → IsClauseAt cs p k m d → c ≡ d
  one_clause cs k n m c d g h = elim (cases_order n m) [
    | inl e ↦ some_is c d (sym g.at ∙ ap (slice_get cs) e ∙ h.at)
    | inr r ↦ elim r [
      | inl l ↦ absurd (omega (arith, more cs n m c g.at g.predicate l, g.before, h.before))
      | inr l ↦ absurd (omega (arith, more cs m n d h.at h.predicate l, g.before, h.before))
    ]
  ]
