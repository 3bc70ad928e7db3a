-- A row that a row of finite domains covers has smaller domains in all, or it is that row.
use Rattle.std.proofs.Common.{◌≡◌, ℕ, ℤ, zero, suc, ◌+◌, ◌-◌, ◌<◌, ◌≤◌, ◌⊎◌, inl, inr, Bool, true, false, List, [], ◌∷◌, ◌++◌, length, Option, Some, None, All, refl, ap, sym, ◌∙◌, subst, arith}
use Rattle.std.specs.Prelude.{cond, not, ◌&&◌}
use Rattle.std.specs.List.{flat_map}
use Rattle.std.specs.FinSet as set
use Rattle.std.specs.Ordering.{int_cmp, int_eq}
use Rattle.std.specs.Cmp.{int_cmp_total}
use Rattle.std.proofs.lemmas.Bool.{cases_eq}
use Rattle.std.proofs.lemmas.List.Elements.{All-nil, All-cons, All-head, All-tail}
use Rattle.pp_algebra.specs.Terms.{Tree, int, node, variable, variables, variables_all}
use Rattle.pp_algebra.specs.Rows.{Domain, Domains, Row, domain_at, IsNumbered, IsCanonical, IsWide, IsRow}
use Rattle.pp_algebra.specs.Covers.{IsIn, IsWithin, MayGo, RowCovers}
use Rattle.pp_algebra.proofs.Bools.{int_is, both_true, left_true, right_true}
use Rattle.pp_algebra.proofs.Member.{some_in}
use Rattle.pp_algebra.proofs.Put.{put_all-variable}
use Rattle.pp_algebra.proofs.Order.{variables_all-put_all}
use Rattle.pp_algebra.proofs.Antisym.{put_all-agree, same_set, row_of}
use Rattle.pp_algebra.proofs.Numbered.{numbered_grows, numbered_below}
use Rattle.pp_language.specs.Told.{sum_of_sizes}
use Rattle.pp_fixpoint.specs.Fixpoints.{IsFinite}

-- ===== sets

abbrev Inside : Domain → Domain → Type 0
Inside e d = (n : ℤ) → set.contains e n ≡ true → set.contains d n ≡ true

len_without : (d : Domain) (n : ℤ) → set.contains d n ≡ true → set.len (set.remove d n) ≡ set.len d - 1
len_without d n h = set.len-remove int_cmp_total d n ∙ ap (λ b. cond b (set.len d - 1) (set.len d)) h

still_in : (d : Domain) (n k : ℤ) → int_eq k n ≡ false → set.contains d k ≡ true → set.contains (set.remove d n) k ≡ true
still_in d n k e h = set.contains-remove int_cmp_total d n k ∙ both_true _ _ (ap not e) h

was_in : (d : Domain) (n k : ℤ) → set.contains (set.remove d n) k ≡ true → set.contains d k ≡ true
was_in d n k h = right_true (not (int_eq k n)) (set.contains d k) (sym (set.contains-remove int_cmp_total d n k) ∙ h)

inside_without : (d e : Domain) (n : ℤ) → Inside e d → Inside (set.remove e n) (set.remove d n)
inside_without d e n h k i = go (int_eq k n) refl
  where
    gone : int_eq k n ≡ true → set.contains (set.remove d n) k ≡ true
    gone f =
        let a : (not (int_eq k n) && set.contains e k) ≡ true = sym (set.contains-remove int_cmp_total e n k) ∙ i in
        let b : not (int_eq k n) ≡ false = ap not f in
        absurd (cc (left_true (not (int_eq k n)) (set.contains e k) a, b))

    go : (b : Bool) → int_eq k n ≡ b → set.contains (set.remove d n) k ≡ true
    go true f = gone f
    go false f = still_in d n k f (h k (was_in e n k i))

inside_with : (d e : Domain) (n : ℤ) → set.contains e n ≡ true → Inside (set.remove d n) (set.remove e n) → Inside d e
inside_with d e n c h k i = go (int_eq k n) refl
  where
    go : (b : Bool) → int_eq k n ≡ b → set.contains e k ≡ true
    go true f = subst (λ x. set.contains e x ≡ true) (sym (int_is k n f)) c
    go false f = was_in e n k (h k (still_in d n k f i))

-- a set inside another has fewer integers, or it is that set
fewer_or_all : (m : ℕ) (d e : Domain) → set.len e ≡ m → Inside e d → (set.len e < set.len d) ⊎ Inside d e
fewer_or_all zero d e l h = go (set.len d) refl
  where
    go : (n : ℕ) → set.len d ≡ n → (set.len e < set.len d) ⊎ Inside d e
    go zero f = inr (λ n i. let none : set.contains d n ≡ false = ap (λ x. set.contains x n) (set.empty_of_len d f) ∙ set.contains-empty int_cmp n in absurd (cc (none, i)))
    go (suc n) f = inl (omega (arith, f, l))
fewer_or_all (suc m) d e l h =
    let s = some_in e (omega (arith, l)) in
    let le : set.len (set.remove e s.0) ≡ set.len e - 1 = len_without e s.0 s.1 in
    let ld : set.len (set.remove d s.0) ≡ set.len d - 1 = len_without d s.0 (h s.0 s.1) in
    elim (fewer_or_all m (set.remove d s.0) (set.remove e s.0) (omega (arith, le, l)) (inside_without d e s.0 h)) [
      | inl f ↦ inl (omega (arith, f, le, ld, l))
      | inr f ↦ inr (inside_with d e s.0 s.1 f)
    ]

fewer_or_same : (d e : Domain) → Inside e d → (set.len e < set.len d) ⊎ (d ≡ e)
fewer_or_same d e h = elim (fewer_or_all (set.len e) d e refl h) [ inl f ↦ inl f | inr f ↦ inr (same_set d e h f) ]

-- ===== lists of domains

nothing_left : {A : Type 0} (xs : List A) → length xs ≡ 0 → xs ≡ []
nothing_left [] e = refl
nothing_left (x ∷ xs) e = absurd (omega (arith, e))

-- the domains from this number on
abbrev AreFrom : Domains ℕ → ℕ → List (Option Domain) → Type 0
AreFrom D i ds = (j : ℕ) → D (i + j) ≡ domain_at ds j

from_next : (D : Domains ℕ) (i : ℕ) (d : Option Domain) (ds : List (Option Domain)) → AreFrom D i (d ∷ ds) → AreFrom D (suc i) ds
from_next D i d ds h j = ap D (let e : suc i + j ≡ i + suc j = omega arith in e) ∙ h (suc j)

from_first : (D : Domains ℕ) (i : ℕ) (d : Option Domain) (ds : List (Option Domain)) → AreFrom D i (d ∷ ds) → D i ≡ d
from_first D i d ds h = ap D (let e : i ≡ i + 0 = omega arith in e) ∙ h 0

abbrev AllBelow : ℕ → List ℕ → Type 0
AllBelow k vs = (v : ℕ) → IsIn v vs → v < k

-- variables that came before may be left out
skip : (ws vs : List ℕ) (k m : ℕ) → AllBelow k ws → IsNumbered k (ws ++ vs) m → IsNumbered k vs m
skip [] vs k m b h = h
skip (w ∷ ws) vs k m b (inl h) = skip ws vs k m (λ v i. b v (inr i)) h.1
skip (w ∷ ws) vs k m b (inr h) = let l = b w (inl refl) in absurd (omega (arith, l, h.0))

module _ (D E : Domains ℕ) (by : ℕ → Tree ℕ) where
  abbrev images : List ℕ → List ℕ
  images vs = flat_map (λ v. variables (by v)) vs

  abbrev AreBefore : ℕ → ℕ → Type 0
  AreBefore i k = (v : ℕ) → v < i → AllBelow k (variables (by v))

  -- the domains from k on are smaller than those from i on, or the same, and then each variable goes to that of its place
  record IsLess (i k : ℕ) (ds es : List (Option Domain)) : Type 0 where
    finite : All IsFinite es
    less : (sum_of_sizes es < sum_of_sizes ds) ⊎ ((ds ≡ es) × ((j : ℕ) → j < length ds → by (i + j) ≡ variable (k + j)))

  before_next : (i k m : ℕ) → AreBefore i k → k ≤ m → AllBelow m (variables (by i)) → AreBefore (suc i) m
  before_next i k m b l h v lv w j = elim (cases_eq v i) [
    | inl e ↦ h w (subst (λ x. IsIn w (variables (by x))) e j)
    | inr d ↦ (let r = b v (omega (arith, lv, d)) w j in omega (arith, r, l))
  ]

  -- a variable of the first row that goes to an integer or to one that came before
  drops : (i k : ℕ) (s : Domain) (ds es : List (Option Domain)) → 2 ≤ set.len s → IsLess (suc i) k ds es → IsLess i k (Some s ∷ ds) es
  drops i k s ds es w h = record {
    finite = h.finite;
    less = inl (elim h.less [
      | inl l ↦ omega (arith, l, w)
      | inr f ↦ (let e : sum_of_sizes ds ≡ sum_of_sizes es = ap sum_of_sizes f.0 in omega (arith, e, w))
    ]);
  }

  -- one that goes to a new one
  module _ (i k : ℕ) (s t : Domain) (ds es : List (Option Domain)) (goes : by i ≡ variable k) (h : IsLess (suc i) (suc k) ds es) where
    both_same : s ≡ t → IsLess i k (Some s ∷ ds) (Some t ∷ es)
    both_same e = record {
      finite = All-cons IsFinite (Some t) es tt h.finite;
      less = elim h.less [
        | inl l ↦ (let f : set.len s ≡ set.len t = ap set.len e in inl (omega (arith, l, f)))
        | inr f ↦ inr (ap (λ x. Some x ∷ ds) e ∙ ap (λ xs. Some t ∷ xs) f.0, λ j l. at j l f.1)
      ];
    }
      where
        at : (j : ℕ) → j < length (Some s ∷ ds) → ((n : ℕ) → n < length ds → by (suc i + n) ≡ variable (suc k + n)) → by (i + j) ≡ variable (k + j)
        at zero l f = ap by (let e : i + 0 ≡ i = omega arith in e) ∙ goes ∙ ap variable (omega arith)
        at (suc j) l f = ap by (let e : i + suc j ≡ suc i + j = omega arith in e) ∙ f j (omega (arith, l)) ∙ ap variable (omega arith)

    smaller : set.len t < set.len s → IsLess i k (Some s ∷ ds) (Some t ∷ es)
    smaller m = record {
      finite = All-cons IsFinite (Some t) es tt h.finite;
      less = inl (elim h.less [
        | inl l ↦ omega (arith, l, m)
        | inr f ↦ (let e : sum_of_sizes ds ≡ sum_of_sizes es = ap sum_of_sizes f.0 in omega (arith, e, m))
      ]);
    }

    fresh : Inside t s → IsLess i k (Some s ∷ ds) (Some t ∷ es)
    fresh n = elim (fewer_or_same s t n) [ inl m ↦ smaller m | inr e ↦ both_same e ]

  -- the first row's next variable, where what comes behind it is known
  module _ (i k : ℕ) (s : Domain) (ds : List (Option Domain)) (vs : List ℕ) (wide : 2 ≤ set.len s) (before : AreBefore i k)
      (rest : (m : ℕ) (es : List (Option Domain)) → IsNumbered m (images vs) (m + length es) → AreFrom E m es → AreBefore (suc i) m → IsLess (suc i) m ds es) where
    to_new : (o : Option Domain) (es : List (Option Domain)) → by i ≡ variable k → IsNumbered (suc k) (images vs) (k + length (o ∷ es)) → AreFrom E k (o ∷ es) → IsWithin s o → IsLess i k (Some s ∷ ds) (o ∷ es)
    to_new None es g n f w = absurd w
    to_new (Some t) es g n f w =
        fresh i k s t ds es g
        (rest (suc k) es (subst (IsNumbered (suc k) (images vs)) (omega arith) n) (from_next E k (Some t) es f)
        (before_next i k (suc k) before (omega arith) (subst (λ x. AllBelow (suc k) (variables x)) (sym g) (λ v j. elim j [ inl e ↦ omega (arith, e) | inr x ↦ absurd x ]))))
        w

    new_one : (es : List (Option Domain)) → by i ≡ variable k → IsNumbered (suc k) (images vs) (k + length es) → AreFrom E k es → IsWithin s (E k) → IsLess i k (Some s ∷ ds) es
    new_one [] g n f w = let l = numbered_grows (images vs) (suc k) (k + 0) n in absurd (omega (arith, l))
    new_one (o ∷ es) g n f w = to_new o es g n f (subst (IsWithin s) (from_first E k o es f) w)

    next_variable : (t : Tree ℕ) (es : List (Option Domain)) → by i ≡ t → IsNumbered k (variables t ++ images vs) (k + length es) → AreFrom E k es → MayGo E (Some s) t → IsLess i k (Some s ∷ ds) es
    next_variable (int n) es e h f g =
        drops i k s ds es wide (rest k es h f (before_next i k k before (omega arith) (subst (λ x. AllBelow k (variables x)) (sym e) (λ v j. absurd j))))
    next_variable (node a ts) es e h f g = absurd g
    next_variable (variable w) es e (inl h) f g =
        drops i k s ds es wide
        (rest k es h.1 f (before_next i k k before (omega arith) (subst (λ x. AllBelow k (variables x)) (sym e) (λ v j. elim j [ inl x ↦ (let l = h.0 in omega (arith, l, x)) | inr x ↦ absurd x ]))))
    next_variable (variable w) es e (inr h) f g = new_one es (e ∙ ap variable h.0) h.1 f (subst (λ x. IsWithin s (E x)) h.0 g)

  shrinks : (vs : List ℕ) (i k : ℕ) (ds es : List (Option Domain)) → IsNumbered i vs (i + length ds) → IsNumbered k (images vs) (k + length es) → All IsFinite ds → All IsWide ds → AreFrom D i ds → AreFrom E k es
      → ((v : ℕ) → IsIn v vs → MayGo E (D v) (by v)) → AreBefore i k → IsLess i k ds es
  shrinks [] i k [] [] n m a w f g go b = record { finite = All-nil IsFinite; less = inr (refl, λ j l. absurd (omega (arith, l))) }
  shrinks [] i k (d ∷ ds) es n m a w f g go b = absurd (omega (arith, n))
  shrinks [] i k [] (e ∷ es) n m a w f g go b = absurd (omega (arith, m))
  shrinks (v ∷ vs) i k ds es (inl n) m a w f g go b = shrinks vs i k ds es n.1 (skip (variables (by v)) (images vs) k (k + length es) (b v n.0) m) a w f g (λ u j. go u (inr j)) b
  shrinks (v ∷ vs) i k [] es (inr n) m a w f g go b = let l = numbered_grows vs (suc i) (i + 0) n.1 in absurd (omega (arith, l))
  shrinks (v ∷ vs) i k (None ∷ ds) es (inr n) m a w f g go b = absurd (All-head IsFinite None ds a)
  shrinks (v ∷ vs) i k (Some s ∷ ds) es (inr n) m a w f g go b =
      next_variable i k s ds vs (All-head IsWide (Some s) ds w) b
      (λ p es' m' g' b'. shrinks vs (suc i) p ds es' (subst (IsNumbered (suc i) vs) (omega arith) n.1) m' (All-tail IsFinite (Some s) ds a) (All-tail IsWide (Some s) ds w) (from_next D i (Some s) ds f) g' (λ u j. go u (inr j)) b')
      (by i) es refl
      (subst (λ x. IsNumbered k (variables (by x) ++ images vs) (k + length es)) n.0 m) g
      (subst (λ o. MayGo E o (by i)) (ap D n.0 ∙ from_first D i (Some s) ds f) (subst (λ x. MayGo E (D v) (by x)) n.0 (go v (inl refl))))

-- ===== rows

pub covered_is_less : (r q : Row) → IsRow r → IsCanonical q → All IsFinite r.domains → RowCovers r q → All IsFinite q.domains × ((sum_of_sizes q.domains < sum_of_sizes r.domains) ⊎ (q ≡ r))
covered_is_less r q row canonical finite c =
    let named : variables_all q.columns ≡ flat_map (λ v. variables (c.by v)) (variables_all r.columns) = ap variables_all (sym c.columns) ∙ variables_all-put_all c.by r.columns in
    let l = shrinks (domain_at r.domains) (domain_at q.domains) c.by (variables_all r.columns) 0 0 r.domains q.domains
    (subst (IsNumbered 0 (variables_all r.columns)) (omega arith) row.canonical)
    (subst (IsNumbered 0 (flat_map (λ v. variables (c.by v)) (variables_all r.columns))) (omega arith) (subst (λ vs. IsNumbered 0 vs (length q.domains)) named canonical))
    finite row.wide
    (λ j. ap (domain_at r.domains) (omega arith)) (λ j. ap (domain_at q.domains) (omega arith))
    c.domains (λ v h. absurd (omega (arith, h))) in (
      l.finite,
      elim l.less [
        | inl h ↦ inl h
        | inr h ↦ inr (
            let by : (v : ℕ) → IsIn v (variables_all r.columns) → c.by v ≡ variable v = λ v i.
            let b = numbered_below (variables_all r.columns) 0 (length r.domains) v row.canonical i in
            ap c.by (let e : v ≡ 0 + v = omega arith in e) ∙ h.1 v b ∙ ap variable (omega arith) in
            let columns : q.columns ≡ r.columns = sym c.columns ∙ put_all-agree c.by variable r.columns by ∙ put_all-variable r.columns in
            ap (λ ts. row_of ts q.domains) columns ∙ ap (row_of r.columns) (sym h.0))
      ],
    )
