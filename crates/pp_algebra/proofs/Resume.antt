-- Solving more, from the row of what was solved.
use Rattle.std.proofs.Common.{◌≡◌, ℕ, zero, suc, ◌<◌, ◌≤◌, Bool, true, false, List, [], ◌∷◌, ◌++◌, map, length, get_or, Option, Some, None, refl, ap, sym, ◌∙◌, subst, ◌⊎◌, inl, inr, arith}
use Rattle.std.proofs.lemmas.Bool.{cases_lt}
use Rattle.pp_algebra.specs.Terms.{Tree, int, node, variable, Trees, none, more, put, put_all, variables, variables_all}
use Rattle.pp_algebra.specs.Rows.{Domain, Domains, Pattern, Row, pattern_of, domain_at}
use Rattle.pp_algebra.specs.Covers.{IsIn, MayGo, Covers}
use Rattle.pp_algebra.specs.Solve.{Item, equation, membership, AllHold, Meets, IsSolved, HasNone}
use Rattle.pp_algebra.specs.Rows.{IsRow}
use Rattle.pp_algebra.specs.Solve.{put_item}
pub use Rattle.pp_algebra.specs.Stages.{pattern, with_fresh, kept, moved}
use Rattle.pp_algebra.specs.Stages.{ColumnsSpeakOf, TermSpeaksOf, ItemsSpeakOf}
use Rattle.pp_algebra.proofs.Put.{put-put, put_all-put_all}
use Rattle.std.specs.Prelude.{ℤ, pos, cond, nat_eq, All}
use Rattle.std.specs.FinSet as set
use Rattle.pp_algebra.specs.Rows.{IsWide}
use Rattle.pp_algebra.specs.Canon.{has, place, firsts, canon}
use Rattle.pp_algebra.proofs.CanonLemmas.{nat_eq-IsSame, has-all, domain_at-place, canon-IsCanonical, canon-covers}
use Rattle.pp_algebra.proofs.Antisym.{occurs, IsIn-either}
use Rattle.pp_algebra.proofs.Order.{goes_further, IsIn-left, IsIn-right, may_stay, covers_through}

mutual
  put-on : {V W : Type 0} (f g : V → Tree W) (t : Tree V) → ((v : V) → IsIn v (variables t) → f v ≡ g v) → put f t ≡ put g t
  put-on f g (int n) h = refl
  put-on f g (node k ts) h = ap (node k) (put_all-on f g ts h)
  put-on f g (variable v) h = h v (inl refl)

  pub put_all-on : {V W : Type 0} (f g : V → Tree W) (ts : Trees V) → ((v : V) → IsIn v (variables_all ts) → f v ≡ g v) → put_all f ts ≡ put_all g ts
  put_all-on f g none h = refl
  put_all-on f g (more t ts) h = rw (put-on f g t (λ v i. h v (IsIn-left v (variables t) (variables_all ts) i)), put_all-on f g ts (λ v i. h v (IsIn-right v (variables t) (variables_all ts) i))) refl

mutual
  put-at : {V W : Type 0} (f g : V → Tree W) (t : Tree V) → put f t ≡ put g t → (v : V) → IsIn v (variables t) → f v ≡ g v
  put-at f g (int n) e v i = absurd i
  put-at f g (node k ts) e v i = put_all-at f g ts (cc) v i
  put-at f g (variable w) e v i = elim i [ inl p ↦ subst (λ x. f x ≡ g x) p e | inr n ↦ absurd n ]

  pub put_all-at : {V W : Type 0} (f g : V → Tree W) (ts : Trees V) → put_all f ts ≡ put_all g ts → (v : V) → IsIn v (variables_all ts) → f v ≡ g v
  put_all-at f g none e v i = absurd i
  put_all-at f g (more t ts) e v i = elim (IsIn-either v (variables t) (variables_all ts) i) [ inl j ↦ put-at f g t (cc) v j | inr j ↦ put_all-at f g ts (cc) v j ]

pub wide_at : (ds : List (Option Domain)) (v : ℕ) → All IsWide ds → IsWide (domain_at ds v)
wide_at [] v h = tt
wide_at (d ∷ ds) zero h = h 0 None (omega arith)
wide_at (d ∷ ds) (suc v) h = wide_at ds v (λ k e l. h (suc k) e (omega (arith, l)))

all_wide : (ds : List (Option Domain)) (vs : List ℕ) → All IsWide ds → (k : ℕ) (e : Option Domain) → k < length (map (domain_at ds) vs) → IsWide (get_or (map (domain_at ds) vs) k e)
all_wide ds [] h k e l = absurd (omega (arith, l))
all_wide ds (v ∷ vs) h zero e l = wide_at ds v h
all_wide ds (v ∷ vs) h (suc k) e l = all_wide ds vs h k e (omega (arith, l))

pub beyond : (ds : List (Option Domain)) (v : ℕ) → length ds ≤ v → domain_at ds v ≡ None
beyond [] v h = refl
beyond (d ∷ ds) zero h = absurd (omega arith)
beyond (d ∷ ds) (suc v) h = beyond ds v (omega arith)

holds-append : {V : Type 0} (ds : Domains ℕ) (s : V → Tree ℕ) (is js : List (Item V)) → AllHold ds s is → AllHold ds s js → AllHold ds s (is ++ js)
holds-append ds s [] js h k = k
holds-append ds s (i ∷ is) js h k = (h.0, holds-append ds s is js h.1 k)

module _ {U : Type 0} (W : Type 0) (P : Trees U) (D : Domains U) (E : List (Item U)) (r : Row) (h : IsSolved (pattern P D) E r) where
  abbrev m : U ⊎ W → Tree (ℕ ⊎ W)
  m = moved W h.meets.by

  module _ (s : Row) (b : ℕ ⊎ W → Tree ℕ) (goes : (v : ℕ ⊎ W) → MayGo (domain_at s.domains) (with_fresh W (domain_at r.domains) v) (b v)) where
    abbrev back : U ⊎ W → Tree ℕ
    back v = put b (m v)

    back_old : (t : Tree U) → put back (put (kept W) t) ≡ put (λ v. b (inl v)) (put h.meets.by t)
    back_old t = put-put back (kept W) t ∙ put-on (λ u. put b (put (kept W) (h.meets.by u))) (λ u. put (λ v. b (inl v)) (h.meets.by u)) t (λ u i. put-put b (kept W) (h.meets.by u)) ∙ sym (put-put (λ v. b (inl v)) h.meets.by t)

    old_holds : (is : List (Item U)) → AllHold (domain_at r.domains) h.meets.by is → AllHold (domain_at s.domains) back (map (put_item (kept W)) is)
    old_holds [] k = tt
    old_holds (equation x y ∷ is) k = (back_old x ∙ ap (put (λ v. b (inl v))) k.0 ∙ sym (back_old y), old_holds is k.1)
    old_holds (membership t d ∷ is) k = (subst (MayGo (domain_at s.domains) (Some d)) (sym (back_old t)) (goes_further (domain_at r.domains) (domain_at s.domains) (λ v. b (inl v)) (Some d) (put h.meets.by t) (λ v i. goes (inl v)) k.0), old_holds is k.1)

    new_holds : (is : List (Item (U ⊎ W))) → AllHold (domain_at s.domains) b (map (put_item m) is) → AllHold (domain_at s.domains) back is
    new_holds [] k = tt
    new_holds (equation x y ∷ is) k = (sym (put-put b m x) ∙ k.0 ∙ put-put b m y, new_holds is k.1)
    new_holds (membership t d ∷ is) k = (subst (MayGo (domain_at s.domains) (Some d)) (put-put b m t) k.0, new_holds is k.1)

    back_goes : (v : U ⊎ W) → MayGo (domain_at s.domains) (with_fresh W D v) (back v)
    back_goes (inl u) = subst (MayGo (domain_at s.domains) (D u)) (sym (put-put b (kept W) (h.meets.by u))) (goes_further (domain_at r.domains) (domain_at s.domains) (λ v. b (inl v)) (D u) (h.meets.by u) (λ v i. goes (inl v)) (h.meets.domains u))
    back_goes (inr w) = tt

  -- what meets the rest, from the row on, meets all from the beginning
  pub meets_all : (P2 : Trees (U ⊎ W)) (F : List (Item (U ⊎ W))) (s : Row) → Meets (pattern (put_all m P2) (with_fresh W (domain_at r.domains))) (map (put_item m) F) s → Meets (pattern P2 (with_fresh W D)) (map (put_item (kept W)) E ++ F) s
  meets_all P2 F s k = record {
    by = back s k.by k.domains;
    columns = sym (put_all-put_all k.by m P2) ∙ k.columns;
    domains = back_goes s k.by k.domains;
    holds = holds-append (domain_at s.domains) (back s k.by k.domains) (map (put_item (kept W)) E) F (old_holds s k.by k.domains E h.meets.holds) (new_holds s k.by k.domains F k.holds);
  }

  -- no solution from the beginning: none from the row on
  pub none_resumed : (P2 : Trees (U ⊎ W)) (F : List (Item (U ⊎ W))) → HasNone (pattern P2 (with_fresh W D)) (map (put_item (kept W)) E ++ F) → HasNone (pattern (put_all m P2) (with_fresh W (domain_at r.domains))) (map (put_item m) F)
  none_resumed P2 F n s i k = n s i (meets_all P2 F s k)

-- a variable of a wide domain has a value
abbrev pub Members : Type 0
Members = (d : Domain) → 2 ≤ set.len d → (n : ℤ) × (set.contains d n ≡ true)

-- any row may be told apart from what its variables were: those outside the columns become values
module _ (members : Members) (q : Row) (row : IsRow q) (ts : Trees ℕ) where
  abbrev pub X : Pattern ℕ
  X = pattern ts (domain_at q.domains)

  abbrev pub vs : List ℕ
  vs = firsts nat_eq [] (variables_all ts)

  abbrev pub spare : (d : Option Domain) → IsWide d → Tree ℕ
  spare None w = int (pos 0)
  spare (Some d) w = int (members d w).0

  spare-goes : (ds : Domains ℕ) (d : Option Domain) (w : IsWide d) → MayGo ds d (spare d w)
  spare-goes ds None w = tt
  spare-goes ds (Some d) w = (members d w).1

  abbrev pub ren : ℕ → Tree ℕ
  ren v = cond (has nat_eq vs v) (variable (place nat_eq vs v)) (spare (domain_at q.domains v) (wide_at q.domains v row.wide))

  ren-goes_by : (v : ℕ) (b : Bool) → has nat_eq vs v ≡ b → MayGo (domain_at (canon nat_eq X).domains) (domain_at q.domains v) (cond b (variable (place nat_eq vs v)) (spare (domain_at q.domains v) (wide_at q.domains v row.wide)))
  ren-goes_by v true e = may_stay (domain_at (canon nat_eq X).domains) (place nat_eq vs v) (domain_at q.domains v) (domain_at-place nat_eq nat_eq-IsSame (domain_at q.domains) vs v e)
  ren-goes_by v false e = spare-goes (domain_at (canon nat_eq X).domains) (domain_at q.domains v) (wide_at q.domains v row.wide)

  pub ren-goes : (v : ℕ) → MayGo (domain_at (canon nat_eq X).domains) (domain_at q.domains v) (ren v)
  ren-goes v = ren-goes_by v (has nat_eq vs v) refl

  pub ren-columns : put_all ren ts ≡ (canon nat_eq X).columns
  ren-columns = put_all-on ren (λ v. variable (place nat_eq vs v)) ts (λ v i. ap (λ b. cond b (variable (place nat_eq vs v)) (spare (domain_at q.domains v) (wide_at q.domains v row.wide))) (has-all nat_eq nat_eq-IsSame [] (variables_all ts) v i))

  pub canon-IsRow : IsRow (canon nat_eq X)
  canon-IsRow = record { canonical = canon-IsCanonical nat_eq nat_eq-IsSame X; wide = all_wide q.domains vs row.wide }

module _ {U : Type 0} (W : Type 0) (members : Members) (P : Trees U) (D : Domains U) (E : List (Item U)) (r : Row) (h : IsSolved (pattern P D) E r) (P2 : Trees (U ⊎ W)) (F : List (Item (U ⊎ W))) (q : Row) (row : IsRow q) (k : Meets (pattern P2 (with_fresh W D)) (map (put_item (kept W)) E ++ F) q) where
  abbrev c0 : U → Tree ℕ
  c0 u = k.by (inl u)

  abbrev rn : ℕ → Tree ℕ
  rn = ren members q row (put_all c0 P)

  abbrev x : Row
  x = canon nat_eq (X members q row (put_all c0 P))

  put_c0 : (t : Tree U) → put rn (put k.by (put (kept W) t)) ≡ put (λ u. put rn (c0 u)) t
  put_c0 t = ap (put rn) (put-put k.by (kept W) t) ∙ put-put rn c0 t

  old_items : (is : List (Item U)) → AllHold (domain_at q.domains) k.by (map (put_item (kept W)) is ++ F) → AllHold (domain_at x.domains) (λ u. put rn (c0 u)) is
  old_items [] g = tt
  old_items (equation a b ∷ is) g = (sym (put_c0 a) ∙ ap (put rn) g.0 ∙ put_c0 b, old_items is g.1)
  old_items (membership t d ∷ is) g = (
    subst (MayGo (domain_at x.domains) (Some d)) (put_c0 t) (goes_further (domain_at q.domains) (domain_at x.domains) rn (Some d) (put k.by (put (kept W) t)) (λ v i. ren-goes members q row (put_all c0 P) v) g.0),
    old_items is g.1,
  )

  old_meets : Meets (pattern P D) E x
  old_meets = record {
    by = λ u. put rn (c0 u);
    columns = sym (put_all-put_all rn c0 P) ∙ ren-columns members q row (put_all c0 P);
    domains = λ u. goes_further (domain_at q.domains) (domain_at x.domains) rn (D u) (c0 u) (λ v i. ren-goes members q row (put_all c0 P) v) (k.domains (inl u));
    holds = old_items E k.holds;
  }

  cover : Covers (pattern_of r) (X members q row (put_all c0 P))
  cover = covers_through (pattern_of r) (pattern_of x) (X members q row (put_all c0 P)) (h.most x (canon-IsRow members q row (put_all c0 P)) old_meets) (canon-covers nat_eq nat_eq-IsSame (X members q row (put_all c0 P)))

  abbrev on : ℕ ⊎ W → Tree ℕ
  on (inl v) = cover.by v
  on (inr w) = k.by (inr w)

  on-goes : (v : ℕ ⊎ W) → MayGo (domain_at q.domains) (with_fresh W (domain_at r.domains) v) (on v)
  on-goes (inl v) = elim (cases_lt v (length r.domains)) [
    | inl l ↦ cover.domains v (occurs (variables_all r.columns) 0 (length r.domains) v h.row.canonical (omega arith) l)
    | inr l ↦ subst (λ d. MayGo (domain_at q.domains) d (cover.by v)) (sym (beyond r.domains v l)) tt
  ]
  on-goes (inr w) = tt

  agrees : (v : U ⊎ W) → ((u : U) → v ≡ inl u → IsIn u (variables_all P)) → put on (moved W h.meets.by v) ≡ k.by v
  agrees (inl u) i =
      put-put on (kept W) (h.meets.by u)
      ∙ put_all-at (λ a. put cover.by (h.meets.by a)) c0 P (sym (put_all-put_all cover.by h.meets.by P) ∙ ap (put_all cover.by) h.meets.columns ∙ cover.columns) u (i u refl)
  agrees (inr w) i = refl

  on-tree : (t : Tree (U ⊎ W)) → TermSpeaksOf P t → put on (put (moved W h.meets.by) t) ≡ put k.by t
  on-tree t i = put-put on (moved W h.meets.by) t ∙ put-on (λ v. put on (moved W h.meets.by v)) k.by t (λ v j. agrees v (λ u e. i u (subst (λ z. IsIn z (variables t)) e j)))

  on-items : (is : List (Item (U ⊎ W))) → ItemsSpeakOf P is → AllHold (domain_at q.domains) k.by is → AllHold (domain_at q.domains) on (map (put_item (moved W h.meets.by)) is)
  on-items [] i g = tt
  on-items (equation a b ∷ is) i g = (on-tree a i.0 ∙ g.0 ∙ sym (on-tree b i.1), on-items is i.2 g.1)
  on-items (membership t d ∷ is) i g = (subst (MayGo (domain_at q.domains) (Some d)) (sym (on-tree t i.0)) g.0, on-items is i.1 g.1)

  last_holds : (is : List (Item U)) → AllHold (domain_at q.domains) k.by (map (put_item (kept W)) is ++ F) → AllHold (domain_at q.domains) k.by F
  last_holds [] g = g
  last_holds (equation a b ∷ is) g = last_holds is g.1
  last_holds (membership t d ∷ is) g = last_holds is g.1

  -- what meets all the items meets the last ones, from the row of those before
  pub meets_last : ColumnsSpeakOf P P2 → ItemsSpeakOf P F → Meets (pattern (put_all (moved W h.meets.by) P2) (with_fresh W (domain_at r.domains))) (map (put_item (moved W h.meets.by)) F) q
  meets_last i j = record {
    by = on;
    columns = put_all-put_all on (moved W h.meets.by) P2 ∙ put_all-on (λ v. put on (moved W h.meets.by v)) k.by P2 (λ v l. agrees v (λ u e. i u (subst (λ z. IsIn z (variables_all P2)) e l))) ∙ k.columns;
    domains = on-goes;
    holds = on-items F j (last_holds E k.holds);
  }

module _ {U : Type 0} (W : Type 0) (members : Members) (P : Trees U) (D : Domains U) (E : List (Item U)) (r : Row) (h : IsSolved (pattern P D) E r) (P2 : Trees (U ⊎ W)) (F : List (Item (U ⊎ W))) (q : Row) where
  -- the row of all the items is the row of the last ones, from the row of those before
  pub resumed : IsSolved (pattern P2 (with_fresh W D)) (map (put_item (kept W)) E ++ F) q → ColumnsSpeakOf P P2 → ItemsSpeakOf P F → IsSolved (pattern (put_all (moved W h.meets.by) P2) (with_fresh W (domain_at r.domains))) (map (put_item (moved W h.meets.by)) F) q
  resumed k i j = record {
    row = k.row;
    meets = meets_last W members P D E r h P2 F q k.row k.meets i j;
    most = λ s n g. k.most s n (meets_all W P D E r h P2 F s g);
  }

  -- and the other way round
  pub at_once : IsSolved (pattern (put_all (moved W h.meets.by) P2) (with_fresh W (domain_at r.domains))) (map (put_item (moved W h.meets.by)) F) q → ColumnsSpeakOf P P2 → ItemsSpeakOf P F → IsSolved (pattern P2 (with_fresh W D)) (map (put_item (kept W)) E ++ F) q
  at_once k i j = record {
    row = k.row;
    meets = meets_all W P D E r h P2 F q k.meets;
    most = λ s n g. k.most s n (meets_last W members P D E r h P2 F s n g i j);
  }
