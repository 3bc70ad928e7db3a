-- The row of some of the columns of what was solved.
use Rattle.std.proofs.Common.{ℕ, List, [], ◌∷◌, length, Some, ap, sym, ◌∙◌, subst, inl, inr, arith}
use Rattle.std.specs.Prelude.{nat_eq}
use Rattle.std.proofs.lemmas.Bool.{cases_lt}
use Rattle.pp_algebra.specs.Terms.{Tree, Trees, put, put_all, variables_all}
use Rattle.pp_algebra.specs.Rows.{Domains, Row, pattern_of, domain_at}
use Rattle.pp_algebra.specs.Covers.{IsIn, MayGo, Covers}
use Rattle.pp_algebra.specs.Canon.{canon}
use Rattle.pp_algebra.specs.Solve.{Item, equation, membership, AllHold, Meets, IsSolved, HasNone}
use Rattle.pp_algebra.specs.Rows.{IsRow}
use Rattle.pp_algebra.proofs.Put.{put-put, put_all-put_all}
use Rattle.pp_algebra.proofs.CanonLemmas.{nat_eq-IsSame, canon-covers}
use Rattle.pp_algebra.proofs.Antisym.{occurs}
use Rattle.pp_algebra.proofs.Order.{goes_further, covers_through}
use Rattle.pp_algebra.proofs.Resume.{Members, pattern, X, ren, ren-goes, ren-columns, canon-IsRow, put_all-on, put_all-at, beyond}

module _ {U : Type 0} (members : Members) (D : Domains U) (E : List (Item U)) where
  -- a solution for other columns
  module _ (q : Row) (row : IsRow q) (by : U → Tree ℕ) (goes : (u : U) → MayGo (domain_at q.domains) (D u) (by u)) (holds : AllHold (domain_at q.domains) by E) (P : Trees U) where
    abbrev rn : ℕ → Tree ℕ
    rn = ren members q row (put_all by P)

    abbrev x : Row
    x = canon nat_eq (X members q row (put_all by P))

    still : (is : List (Item U)) → AllHold (domain_at q.domains) by is → AllHold (domain_at x.domains) (λ u. put rn (by u)) is
    still [] g = tt
    still (equation a b ∷ is) g = (sym (put-put rn by a) ∙ ap (put rn) g.0 ∙ put-put rn by b, still is g.1)
    still (membership t d ∷ is) g = (
      subst (MayGo (domain_at x.domains) (Some d)) (put-put rn by t) (goes_further (domain_at q.domains) (domain_at x.domains) rn (Some d) (put by t) (λ v i. ren-goes members q row (put_all by P) v) g.0),
      still is g.1,
    )

    pub other_meets : Meets (pattern P D) E x
    other_meets = record {
      by = λ u. put rn (by u);
      columns = sym (put_all-put_all rn by P) ∙ ren-columns members q row (put_all by P);
      domains = λ u. goes_further (domain_at q.domains) (domain_at x.domains) rn (D u) (by u) (λ v i. ren-goes members q row (put_all by P) v) (goes u);
      holds = still E holds;
    }

  module _ (P : Trees U) (r : Row) (h : IsSolved (pattern P D) E r) (P1 : Trees U) (within : (u : U) → IsIn u (variables_all P1) → IsIn u (variables_all P)) where
    -- the row of these columns
    abbrev pub part : Row
    part = canon nat_eq (X members r h.row (put_all h.meets.by P1))

    most : (q : Row) → IsRow q → Meets (pattern P1 D) E q → Covers (pattern_of part) (pattern_of q)
    most q n m =
        let all = X members q n (put_all m.by P) in
        let f = covers_through (pattern_of r) (pattern_of (canon nat_eq all)) all (h.most (canon nat_eq all) (canon-IsRow members q n (put_all m.by P)) (other_meets q n m.by m.domains m.holds P)) (canon-covers nat_eq nat_eq-IsSame all) in
        let goes = λ (v : ℕ). elim (cases_lt v (length r.domains)) as (λ _. MayGo (domain_at q.domains) (domain_at r.domains v) (f.by v)) [
          | inl l ↦ f.domains v (occurs (variables_all r.columns) 0 (length r.domains) v h.row.canonical (omega arith) l)
          | inr l ↦ subst (λ d. MayGo (domain_at q.domains) d (f.by v)) (sym (beyond r.domains v l)) tt
        ] in
        covers_through (pattern_of part) (X members r h.row (put_all h.meets.by P1)) (pattern_of q) (canon-covers nat_eq nat_eq-IsSame (X members r h.row (put_all h.meets.by P1))) (record {
          by = f.by;
          columns = put_all-put_all f.by h.meets.by P1
              ∙ put_all-on (λ u. put f.by (h.meets.by u)) m.by P1 (λ u i. put_all-at (λ u. put f.by (h.meets.by u)) m.by P (sym (put_all-put_all f.by h.meets.by P) ∙ ap (put_all f.by) h.meets.columns ∙ f.columns) u (within u i))
              ∙ m.columns;
          domains = λ v i. goes v;
        })

    -- solving and taking some of the columns is solving for these columns
    pub restricted : IsSolved (pattern P1 D) E part
    restricted = record {
      row = canon-IsRow members r h.row (put_all h.meets.by P1);
      meets = other_meets r h.row h.meets.by h.meets.domains h.meets.holds P1;
      most = most;
    }

  -- no solution whichever the columns
  pub none_for : (P P1 : Trees U) → HasNone (pattern P D) E → HasNone (pattern P1 D) E
  none_for P P1 n q k m = n (canon nat_eq (X members q k (put_all m.by P))) (canon-IsRow members q k (put_all m.by P)) (other_meets q k m.by m.domains m.holds P)
