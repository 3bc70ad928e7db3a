-- The most general row and the rows that meet the items; items in any order, with repeats and with more that hold already.
use Rattle.std.proofs.Common.{ℕ, ◌<◌, ◌≤◌, ◌⊎◌, List, [], ◌∷◌, length, Some, refl, ap, sym, ◌∙◌, subst, inl, inr, arith}
use Rattle.std.specs.Prelude.{◌↔◌}
use Rattle.std.proofs.lemmas.Bool.{cases_lt}
use Rattle.pp_algebra.specs.Terms.{Tree, put, put_all, variables_all}
use Rattle.pp_algebra.specs.Rows.{Domains, Pattern, Row, domain_at, IsRow}
use Rattle.pp_algebra.specs.Covers.{MayGo, IsIn, RowCovers}
use Rattle.pp_algebra.specs.Solve.{Item, equation, membership, Holds, AllHold, Meets, IsSolved, HasNone, SameItems}
use Rattle.pp_algebra.specs.Laws.{SolvedForSome, NoneForAny, SolvedInStages}
use Rattle.pp_algebra.proofs.Put.{put-put, put_all-put_all}
use Rattle.pp_algebra.proofs.Member.{members}
use Rattle.pp_algebra.proofs.Antisym.{occurs}
use Rattle.pp_algebra.proofs.Order.{goes_further}
use Rattle.pp_algebra.proofs.Resume.{beyond, meets_last, resumed, at_once, none_resumed}
use Rattle.pp_algebra.proofs.Restrict.{restricted, none_for}

-- under a cover of a canonical row each number goes where its domain lets it
pub below_or : (v n : ℕ) → (v < n) ⊎ (n ≤ v)
below_or v n = cases_lt v n

pub covers-goes : (r q : Row) → IsRow r → (c : RowCovers r q) → (v : ℕ) → MayGo (domain_at q.domains) (domain_at r.domains v) (c.by v)
covers-goes r q h c v = elim (cases_lt v (length r.domains)) [
  | inl l ↦ c.domains v (occurs (variables_all r.columns) 0 (length r.domains) v h.canonical (omega arith) l)
  | inr l ↦ subst (λ d. MayGo (domain_at q.domains) d (c.by v)) (sym (beyond r.domains v l)) tt
]

module _ {V : Type 0} where
  still : (ds es : Domains ℕ) (s : ℕ → Tree ℕ) → ((v : ℕ) → MayGo es (ds v) (s v)) → (by : V → Tree ℕ) (is : List (Item V)) → AllHold ds by is → AllHold es (λ v. put s (by v)) is
  still ds es s go by [] h = tt
  still ds es s go by (equation a b ∷ is) h = (sym (put-put s by a) ∙ ap (put s) h.0 ∙ put-put s by b, still ds es s go by is h.1)
  still ds es s go by (membership t d ∷ is) h = (subst (MayGo es (Some d)) (put-put s by t) (goes_further ds es s (Some d) (put by t) (λ v i. go v) h.0), still ds es s go by is h.1)

  -- a row that a row which meets the items covers meets them too
  pub covered-meets : (p : Pattern V) (items : List (Item V)) (r q : Row) → IsRow r → Meets p items r → RowCovers r q → Meets p items q
  covered-meets p items r q h m c = record {
    by = λ v. put c.by (m.by v);
    columns = sym (put_all-put_all c.by m.by p.columns) ∙ ap (put_all c.by) m.columns ∙ c.columns;
    domains = λ v. goes_further (domain_at r.domains) (domain_at q.domains) c.by (p.domains v) (m.by v) (λ w i. covers-goes r q h c w) (m.domains v);
    holds = still (domain_at r.domains) (domain_at q.domains) c.by (covers-goes r q h c) m.by items m.holds;
  }

  pub solved_covers : (p : Pattern V) (items : List (Item V)) (r : Row) → IsSolved p items r → (q : Row) → IsRow q → Meets p items q ↔ RowCovers r q
  solved_covers p items r h q n = (h.most q n, covered-meets p items r q h.row h.meets)

  -- items as a set
  one_holds : (ds : Domains ℕ) (by : V → Tree ℕ) (is : List (Item V)) (i : Item V) → AllHold ds by is → IsIn i is → Holds ds by i
  one_holds ds by [] i h k = absurd k
  one_holds ds by (j ∷ is) i h (inl e) = subst (Holds ds by) e h.0
  one_holds ds by (j ∷ is) i h (inr k) = one_holds ds by is i h.1 k

  each_holds : (ds : Domains ℕ) (by : V → Tree ℕ) (is : List (Item V)) → ((i : Item V) → IsIn i is → Holds ds by i) → AllHold ds by is
  each_holds ds by [] h = tt
  each_holds ds by (i ∷ is) h = (h i (inl refl), each_holds ds by is (λ j k. h j (inr k)))

  meets_fewer : (p : Pattern V) (items fewer : List (Item V)) → ((i : Item V) → IsIn i fewer → IsIn i items) → (q : Row) → Meets p items q → Meets p fewer q
  meets_fewer p items fewer s q m = record {
    by = m.by;
    columns = m.columns;
    domains = m.domains;
    holds = each_holds (domain_at q.domains) m.by fewer (λ i k. one_holds (domain_at q.domains) m.by items i m.holds (s i k));
  }

  pub solved_in_any_order : (p : Pattern V) (items others : List (Item V)) (r : Row) → SameItems items others → IsSolved p items r → IsSolved p others r
  solved_in_any_order p items others r s h = record {
    row = h.row;
    meets = meets_fewer p items others s.1 r h.meets;
    most = λ q n m. h.most q n (meets_fewer p others items s.0 q m);
  }

  pub none_in_any_order : (p : Pattern V) (items others : List (Item V)) → SameItems items others → HasNone p items → HasNone p others
  none_in_any_order p items others s h q n m = h q n (meets_fewer p others items s.0 q m)

  -- an item that holds already
  pub solved_with_more : (p : Pattern V) (items : List (Item V)) (i : Item V) (r : Row) (h : IsSolved p items r) → Holds (domain_at r.domains) h.meets.by i → IsSolved p (i ∷ items) r
  solved_with_more p items i r h k = record {
    row = h.row;
    meets = record { by = h.meets.by; columns = h.meets.columns; domains = h.meets.domains; holds = (k, h.meets.holds) };
    most = λ q n m. h.most q n (meets_fewer p (i ∷ items) items (λ j l. inr l) q m);
  }

  pub any_order : (p : Pattern V) (items others : List (Item V)) → SameItems items others → ((r : Row) → IsSolved p items r ↔ IsSolved p others r) × (HasNone p items ↔ HasNone p others)
  any_order p items others s = (
    (λ r. (solved_in_any_order p items others r s, solved_in_any_order p others items r (s.1, s.0))),
    (none_in_any_order p items others s, none_in_any_order p others items (s.1, s.0)),
  )

  pub for_some : SolvedForSome V
  for_some ts us ds items r h w = restricted members ds items ts r h us w

  pub none_for_any : NoneForAny V
  none_for_any ts us ds items n = none_for members ds items ts us n

pub in_stages : {U W : Type 0} → SolvedInStages U W
in_stages {U} {W} ts ds items r h us later i j = (
  (λ q. ((λ k. resumed W members ts ds items r h us later q k i j), (λ k. at_once W members ts ds items r h us later q k i j))),
  ((λ n. none_resumed W ts ds items r h us later n), (λ n s k m. n s k (meets_last W members ts ds items r h us later s k m i j))),
)
