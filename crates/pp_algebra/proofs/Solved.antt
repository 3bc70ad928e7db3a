-- Every pattern of wide domains and every list of items have a most general row, or nothing meets them.
use Rattle.std.proofs.Common.{◌≡◌, ℕ, zero, suc, ◌<◌, pos, true, false, Bool, List, [], ◌∷◌, map, length, get_or, Option, Some, None, refl, ap, sym, ◌∙◌, subst, ◌⊎◌, inl, inr, arith}
use Rattle.std.specs.Prelude.{cond, nat_eq}
use Rattle.pp_algebra.specs.Terms.{Tree, Trees, int, variable, put, put_all, variables_all}
use Rattle.pp_algebra.specs.Rows.{Domain, Domains, Pattern, Row, pattern_of, domain_at}
use Rattle.pp_algebra.specs.Covers.{MayGo, Covers}
use Rattle.pp_algebra.specs.Canon.{has, place, firsts, canon, same_either}
use Rattle.pp_algebra.specs.Solve.{Item, membership, AllHold, Meets, IsSolved, Solvable}
use Rattle.pp_algebra.specs.Rows.{IsWide, AreWide, IsRow}
use Rattle.pp_algebra.proofs.Put.{put_all-put_all}
use Rattle.pp_algebra.proofs.Bools.{nat_same, nat_is}
use Rattle.pp_algebra.proofs.Member.{members}
use Rattle.pp_algebra.proofs.Antisym.{put_all-agree}
use Rattle.pp_algebra.proofs.Order.{may_stay, covers_through}
use Rattle.pp_algebra.proofs.CanonLemmas.{IsSame, nat_eq-IsSame, has-all, domain_at-place, canon-IsCanonical, canon-covers}
use Rattle.pp_algebra.proofs.Resume.{wide_at}
use Rattle.pp_algebra.proofs.Solution.{AllWide, Good, Solution}
use Rattle.pp_algebra.proofs.Steps.{solve_items}

-- a value of a wide domain
abbrev spare : (d : Option Domain) → IsWide d → Tree ℕ
spare None w = int (pos 0)
spare (Some d) w = int (members d w).0

spare-goes : (ds : Domains ℕ) (d : Option Domain) (w : IsWide d) → MayGo ds d (spare d w)
spare-goes ds None w = tt
spare-goes ds (Some d) w = (members d w).1

all_wide : {V : Type 0} (ds : Domains V) (vs : List V) → AllWide ds → (k : ℕ) (e : Option Domain) → k < length (map ds vs) → IsWide (get_or (map ds vs) k e)
all_wide ds [] h k e l = absurd (omega (arith, l))
all_wide ds (v ∷ vs) h zero e l = h v
all_wide ds (v ∷ vs) h (suc k) e l = all_wide ds vs h k e (omega (arith, l))

module _ {V : Type 0} (same : V → V → Bool) (s : IsSame same) (p : Pattern V) (items : List (Item V)) where
  module _ (a : Solution p.domains items) where
    abbrev pub after : Pattern V
    after = record { columns = put_all a.by p.columns; domains = a.domains }

    abbrev vs : List V
    vs = firsts same [] (variables_all after.columns)

    abbrev pub row_after : Row
    row_after = canon same after

    -- the variables outside the columns become values
    abbrev ren : V → Tree ℕ
    ren v = cond (has same vs v) (variable (place same vs v)) (spare (a.domains v) (a.wide v))

    ren-goes : (v : V) → MayGo (domain_at row_after.domains) (a.domains v) (ren v)
    ren-goes v = go (has same vs v) refl
      where
        go : (c : Bool) → has same vs v ≡ c → MayGo (domain_at row_after.domains) (a.domains v) (cond c (variable (place same vs v)) (spare (a.domains v) (a.wide v)))
        go true e = may_stay (domain_at row_after.domains) (place same vs v) (a.domains v) (domain_at-place same s a.domains vs v e)
        go false e = spare-goes (domain_at row_after.domains) (a.domains v) (a.wide v)

    ren-columns : put_all ren after.columns ≡ row_after.columns
    ren-columns = put_all-agree ren (λ v. variable (place same vs v)) after.columns (λ v i. ap (λ c. cond c (variable (place same vs v)) (spare (a.domains v) (a.wide v))) (has-all same s [] (variables_all after.columns) v i))

    most : (q : Row) → IsRow q → Meets p items q → Covers (pattern_of row_after) (pattern_of q)
    most q k m =
        let c = a.complete (domain_at q.domains) m.by (λ v. wide_at q.domains v k.wide) (m.domains, m.holds) in
        covers_through (pattern_of row_after) after (pattern_of q) (canon-covers same s after) (record {
          by = m.by;
          columns = put_all-put_all m.by a.by p.columns ∙ put_all-agree (λ v. put m.by (a.by v)) m.by p.columns (λ v i. c.0 v) ∙ m.columns;
          domains = λ v i. c.1 v;
        })

    -- its row is the most general one
    pub row_solves : IsSolved p items row_after
    row_solves =
        let f = a.sound (domain_at row_after.domains) ren ren-goes in
        record {
          row = record { canonical = canon-IsCanonical same s after; wide = all_wide a.domains vs a.wide };
          meets = record {
            by = λ v. put ren (a.by v);
            columns = sym (put_all-put_all ren a.by p.columns) ∙ ren-columns;
            domains = f.0;
            holds = f.1;
          };
          most = most;
        }

  pub solved : AllWide p.domains → Solvable p items
  solved w = elim (solve_items same s p.domains items w) [
    | inl a ↦ inl (row_after a, row_solves a)
    | inr n ↦ inr (λ q k m. n (domain_at q.domains) m.by (λ v. wide_at q.domains v k.wide) (m.domains, m.holds))
  ]

-- the domains of a list, as memberships
abbrev limit : {V : Type 0} → Option Domain → V → List (Item V) → List (Item V)
limit None x is = is
limit (Some d) x is = membership (variable x) d ∷ is

abbrev limits : {V : Type 0} → (ℕ → V) → List (Option Domain) → List (Item V) → List (Item V)
limits name [] is = is
limits name (d ∷ ds) is = limit d (name zero) (limits (λ v. name (suc v)) ds is)

limit-hold : {V : Type 0} (q : Domains ℕ) (b : V → Tree ℕ) (d : Option Domain) (x : V) (is : List (Item V)) → MayGo q d (b x) → AllHold q b is → AllHold q b (limit d x is)
limit-hold q b None x is h k = k
limit-hold q b (Some d) x is h k = (h, k)

hold-limit : {V : Type 0} (q : Domains ℕ) (b : V → Tree ℕ) (d : Option Domain) (x : V) (is : List (Item V)) → AllHold q b (limit d x is) → MayGo q d (b x) × AllHold q b is
hold-limit q b None x is h = (tt, h)
hold-limit q b (Some d) x is h = h

limits-hold : {V : Type 0} (q : Domains ℕ) (b : V → Tree ℕ) (name : ℕ → V) (ds : List (Option Domain)) (is : List (Item V)) → ((v : ℕ) → MayGo q (domain_at ds v) (b (name v))) → AllHold q b is → AllHold q b (limits name ds is)
limits-hold q b name [] is h k = k
limits-hold q b name (d ∷ ds) is h k = limit-hold q b d (name zero) (limits (λ v. name (suc v)) ds is) (h zero) (limits-hold q b (λ v. name (suc v)) ds is (λ v. h (suc v)) k)

hold-limits : {V : Type 0} (q : Domains ℕ) (b : V → Tree ℕ) (name : ℕ → V) (ds : List (Option Domain)) (is : List (Item V)) → AllHold q b (limits name ds is) → ((v : ℕ) → MayGo q (domain_at ds v) (b (name v))) × AllHold q b is
hold-limits q b name [] is h = ((λ v. tt), h)
hold-limits q b name (d ∷ ds) is h =
    let k = hold-limit q b d (name zero) (limits (λ v. name (suc v)) ds is) h in
    let l = hold-limits q b (λ v. name (suc v)) ds is k.1 in
    ((λ v. at v k.0 l.0), l.1)
  where
    at : (v : ℕ) → MayGo q d (b (name zero)) → ((v : ℕ) → MayGo q (domain_at ds v) (b (name (suc v)))) → MayGo q (domain_at (d ∷ ds) v) (b (name v))
    at zero h k = h
    at (suc v) h k = k v

-- finitely many domains, whichever they are: those of one value or of none too
module _ {V : Type 0} (same : V → V → Bool) (s : IsSame same) (p : Pattern V) (items : List (Item V)) (name : ℕ → V) (ds : List (Option Domain)) (here : (v : ℕ) → p.domains (name v) ≡ domain_at ds v) (rest : (q : Domains ℕ) (b : V → Tree ℕ) → ((v : ℕ) → MayGo q (p.domains (name v)) (b (name v))) → Good q p.domains b) where
  abbrev open_ : Pattern V
  open_ = record { columns = p.columns; domains = λ v. None }

  abbrev more_items : List (Item V)
  more_items = limits name ds items

  to_open : (q : Row) → Meets p items q → Meets open_ more_items q
  to_open q m = record {
    by = m.by;
    columns = m.columns;
    domains = λ v. tt;
    holds = limits-hold (domain_at q.domains) m.by name ds items (λ v. subst (λ o. MayGo (domain_at q.domains) o (m.by (name v))) (here v) (m.domains (name v))) m.holds;
  }

  from_open : (q : Row) → Meets open_ more_items q → Meets p items q
  from_open q m =
      let h = hold-limits (domain_at q.domains) m.by name ds items m.holds in
      record {
        by = m.by;
        columns = m.columns;
        domains = rest (domain_at q.domains) m.by (λ v. subst (λ o. MayGo (domain_at q.domains) o (m.by (name v))) (sym (here v)) (h.0 v));
        holds = h.1;
      }

  pub solved_listed : Solvable p items
  solved_listed = elim (solved same s open_ more_items (λ v. tt)) [
    | inl a ↦ inl (a.0, record { row = a.1.row; meets = from_open a.0 a.1.meets; most = λ q k m. a.1.most q k (to_open q m) })
    | inr n ↦ inr (λ q k m. n q k (to_open q m))
  ]

-- variables of two kinds
same_either-itself : (v : ℕ ⊎ ℕ) → same_either v v ≡ true
same_either-itself (inl v) = nat_same v
same_either-itself (inr v) = nat_same v

same_either-is : (v w : ℕ ⊎ ℕ) → same_either v w ≡ true → v ≡ w
same_either-is (inl v) (inl w) h = ap inl (nat_is v w h)
same_either-is (inl v) (inr w) h = absurd (cc)
same_either-is (inr v) (inl w) h = absurd (cc)
same_either-is (inr v) (inr w) h = ap inr (nat_is v w h)

pub same_either-IsSame : IsSame same_either
same_either-IsSame = record { itself = same_either-itself; is = same_either-is }

-- a row with wide domains, and items over its variables
pub rows_solve : (ds : List (Option Domain)) (ts : Trees ℕ) (items : List (Item ℕ)) → AreWide ds → Solvable (record { columns = ts; domains = domain_at ds }) items
rows_solve ds ts items w = solved nat_eq nat_eq-IsSame (record { columns = ts; domains = domain_at ds }) items (λ v. wide_at ds v w)
