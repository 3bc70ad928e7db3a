-- Two canonical rows that cover each other are equal.
use Rattle.std.proofs.Common.{◌≡◌, ℕ, ℤ, suc, ◌<◌, ◌≤◌, true, false, Bool, List, [], ◌∷◌, ◌++◌, map, length, Option, Some, None, refl, ap, sym, ◌∙◌, subst, ◌⊎◌, inl, inr, arith}
use Rattle.std.proofs.lemmas.Bool.{cases_eq}
use Rattle.std.specs.FinSet as set
use Rattle.std.specs.Cmp.{int_cmp_total}
use Rattle.std.specs.List.{flat_map}
use Rattle.pp_algebra.specs.Terms.{Tree, int, node, variable, Trees, none, more, put, put_all, variables, variables_all}
use Rattle.pp_algebra.specs.Rows.{Domain, Domains, IsNumbered, Row, IsCanonical, pattern_of, domain_at}
use Rattle.pp_algebra.specs.Covers.{MayGo, IsIn, Covers}
use Rattle.pp_algebra.proofs.Put.{put_all-put_all, put_all-variable}
use Rattle.pp_algebra.proofs.Order.{variables_all-put_all, IsIn-left, IsIn-right}

module _ {V W : Type 0} where
  mutual
    -- two substitutions that agree on a term's variables
    pub put-agree : (r s : V → Tree W) (t : Tree V) → ((v : V) → IsIn v (variables t) → r v ≡ s v) → put r t ≡ put s t
    put-agree r s (int n) h = refl
    put-agree r s (node f ts) h = ap (node f) (put_all-agree r s ts h)
    put-agree r s (variable v) h = h v (inl refl)

    pub put_all-agree : (r s : V → Tree W) (ts : Trees V) → ((v : V) → IsIn v (variables_all ts) → r v ≡ s v) → put_all r ts ≡ put_all s ts
    put_all-agree r s none h = refl
    put_all-agree r s (more t ts) h = rw (put-agree r s t (λ v i. h v (IsIn-left v (variables t) (variables_all ts) i)), put_all-agree r s ts (λ v i. h v (IsIn-right v (variables t) (variables_all ts) i))) refl

pub IsIn-either : {V : Type 0} (v : V) (vs ws : List V) → IsIn v (vs ++ ws) → IsIn v vs ⊎ IsIn v ws
IsIn-either v [] ws h = inr h
IsIn-either v (x ∷ vs) ws (inl e) = inl (inl e)
IsIn-either v (x ∷ vs) ws (inr h) = elim (IsIn-either v vs ws h) [ inl a ↦ inl (inr a) | inr b ↦ inr b ]

module _ {V : Type 0} (s : V → Tree V) where
  mutual
    -- a substitution that leaves a term leaves its variables
    pub stays : (t : Tree V) (v : V) → put s t ≡ t → IsIn v (variables t) → s v ≡ variable v
    stays (int n) v e i = absurd i
    stays (node f ts) v e i = stays_all ts v (cc) i
    stays (variable w) v e (inl k) = rw (← k) e
    stays (variable w) v e (inr k) = absurd k

    pub stays_all : (ts : Trees V) (v : V) → put_all s ts ≡ ts → IsIn v (variables_all ts) → s v ≡ variable v
    stays_all none v e i = absurd i
    stays_all (more t ts) v e i = elim (IsIn-either v (variables t) (variables_all ts) i) [ inl a ↦ stays t v (cc) a | inr b ↦ stays_all ts v (cc) b ]

abbrev number : ℕ → Tree ℕ → ℕ
number v (int n) = v
number v (node f ts) = v
number v (variable w) = w

-- what goes to a variable is a variable
pub same_bool : (a b : Bool) → (a ≡ true → b ≡ true) → (b ≡ true → a ≡ true) → a ≡ b
same_bool true true h k = refl
same_bool true false h k = sym (h refl)
same_bool false true h k = k refl
same_bool false false h k = refl

came : (r : ℕ → Tree ℕ) (v : ℕ) (t : Tree ℕ) → put r t ≡ variable v → t ≡ variable (number v t)
came r v (int n) e = absurd (cc)
came r v (node f ts) e = absurd (cc)
came r v (variable w) e = refl

number-came : (v w : ℕ) (t : Tree ℕ) → t ≡ variable v → number w t ≡ v
number-came v w t e = rw e refl

module _ (go back : ℕ → ℕ) where
  step-same : (x : ℕ) (vs : List ℕ) (m k : ℕ) → go x ≡ x → (m ≡ k) × ((v : ℕ) → IsIn v vs → go v ≡ v) → (m ≡ k) × ((v : ℕ) → IsIn v (x ∷ vs) → go v ≡ v)
  step-same x vs m k e r = (r.0, λ v i. elim i [ inl f ↦ rw (← f) e | inr j ↦ r.1 v j ])

  lower : (x n : ℕ) → go x ≡ x → back (go x) ≡ x → x ≡ n → ((v : ℕ) → v < n → (go v ≡ v) × (back v ≡ v)) → (v : ℕ) → v < suc n → (go v ≡ v) × (back v ≡ v)
  lower x n e b f low v h = elim (cases_eq v n) [
    | inl g ↦ (let p : v ≡ x = g ∙ sym f in (rw p e, rw p (ap back (sym e) ∙ b)))
    | inr g ↦ low v (omega arith)
  ]

  -- numbering by first occurrence leaves no choice
  numbered : (vs : List ℕ) (n m k : ℕ) → IsNumbered n vs m → IsNumbered n (map go vs) k → ((v : ℕ) → v < n → (go v ≡ v) × (back v ≡ v)) → ((v : ℕ) → IsIn v vs → back (go v) ≡ v) → (m ≡ k) × ((v : ℕ) → IsIn v vs → go v ≡ v)
  numbered [] n m k h j low each = (sym h ∙ j, λ v i. absurd i)
  numbered (x ∷ vs) n m k (inl h) (inl j) low each = step-same x vs m k (low x h.0).0 (numbered vs n m k h.1 j.1 low (λ v i. each v (inr i)))
  numbered (x ∷ vs) n m k (inl h) (inr j) low each = absurd (omega (arith, (low x h.0).0))
  numbered (x ∷ vs) n m k (inr h) (inl j) low each = absurd (omega (arith, (low (go x) j.0).1, each x (inl refl)))
  numbered (x ∷ vs) n m k (inr h) (inr j) low each =
      let e : go x ≡ x = j.0 ∙ sym h.0 in
      step-same x vs m k e (numbered vs (suc n) m k h.1 j.1 (lower x n e (each x (inl refl)) h.0 low) (λ v i. each v (inr i)))

-- every number below the last is there
pub occurs : (vs : List ℕ) (n m v : ℕ) → IsNumbered n vs m → n ≤ v → v < m → IsIn v vs
occurs [] n m v h j k = absurd (omega arith)
occurs (x ∷ vs) n m v (inl h) j k = inr (occurs vs n m v h.1 j k)
occurs (x ∷ vs) n m v (inr h) j k = elim (cases_eq v n) [ inl e ↦ inl (h.0 ∙ sym e) | inr d ↦ inr (occurs vs (suc n) m v h.1 (omega arith) k) ]

flat_map-map : (f : ℕ → Tree ℕ) (g : ℕ → ℕ) (vs : List ℕ) → ((v : ℕ) → IsIn v vs → f v ≡ variable (g v)) → flat_map (λ v. variables (f v)) vs ≡ map g vs
flat_map-map f g [] h = refl
flat_map-map f g (x ∷ vs) h = rw (h x (inl refl), flat_map-map f g vs (λ v i. h v (inr i))) refl

pub same_set : (d e : Domain) → ((n : ℤ) → set.contains e n ≡ true → set.contains d n ≡ true) → ((n : ℤ) → set.contains d n ≡ true → set.contains e n ≡ true) → d ≡ e
same_set d e h k = set.same_set int_cmp_total set.int_cmp-IsAntisymmetric d e (λ n. same_bool _ _ (k n) (h n))

same_domains : (ds es : Domains ℕ) (v : ℕ) (d e : Option Domain) → ds v ≡ d → es v ≡ e → MayGo es d (variable v) → MayGo ds e (variable v) → d ≡ e
same_domains ds es v None None p q h k = refl
same_domains ds es v None (Some e) p q h k = absurd (rw p at k)
same_domains ds es v (Some d) None p q h k = absurd (rw q at h)
same_domains ds es v (Some d) (Some e) p q h k = ap Some (same_set d e (rw q at h) (rw p at k))

same_lists : (ds es : List (Option Domain)) → length ds ≡ length es → ((v : ℕ) → v < length ds → domain_at ds v ≡ domain_at es v) → ds ≡ es
same_lists [] [] h k = refl
same_lists [] (e ∷ es) h k = absurd (omega arith)
same_lists (d ∷ ds) [] h k = absurd (omega arith)
same_lists (d ∷ ds) (e ∷ es) h k = rw (k 0 (omega arith), same_lists ds es (omega arith) (λ v l. k (suc v) (omega arith))) refl

abbrev pub row_of : Trees ℕ → List (Option Domain) → Row
row_of c d = record { columns = c; domains = d }

pub covers_antisymmetric : (r q : Row) → IsCanonical r → IsCanonical q → Covers (pattern_of r) (pattern_of q) → Covers (pattern_of q) (pattern_of r) → r ≡ q
covers_antisymmetric r q c d a b =
    let vs = variables_all r.columns in
    let go : ℕ → ℕ = λ v. number v (a.by v) in
    let back : ℕ → ℕ = λ v. number v (b.by v) in
    let around : (v : ℕ) → IsIn v vs → put b.by (a.by v) ≡ variable v = λ v i. stays_all (λ x. put b.by (a.by x)) r.columns v (sym (put_all-put_all b.by a.by r.columns) ∙ ap (put_all b.by) a.columns ∙ b.columns) i in
    let goes : (v : ℕ) → IsIn v vs → a.by v ≡ variable (go v) = λ v i. came b.by v (a.by v) (around v i) in
    let returns : (v : ℕ) → IsIn v vs → b.by (go v) ≡ variable v = λ v i. ap (put b.by) (sym (goes v i)) ∙ around v i in
    let named : variables_all q.columns ≡ map go vs = ap variables_all (sym a.columns) ∙ variables_all-put_all a.by r.columns ∙ flat_map-map a.by go vs goes in
    let all = numbered go back vs 0 (length r.domains) (length q.domains) c (rw named at d) (λ v l. absurd (omega arith)) (λ v i. number-came v (go v) (b.by (go v)) (returns v i)) in
    let by : (v : ℕ) → IsIn v vs → a.by v ≡ variable v = λ v i. goes v i ∙ ap variable (all.1 v i) in
    let columns : r.columns ≡ q.columns = sym (put_all-agree a.by variable r.columns by ∙ put_all-variable r.columns) ∙ a.columns in
    let by' : (v : ℕ) → IsIn v vs → b.by v ≡ variable v = λ v i. ap b.by (sym (all.1 v i)) ∙ returns v i in
    let domains : r.domains ≡ q.domains = same_lists r.domains q.domains all.0 (λ v l.
    let i : IsIn v vs = occurs vs 0 (length r.domains) v c (omega arith) l in
    let j : IsIn v (variables_all q.columns) = subst (λ ts. IsIn v (variables_all ts)) columns i in
    same_domains (domain_at r.domains) (domain_at q.domains) v _ _ refl refl (subst (MayGo (domain_at q.domains) (domain_at r.domains v)) (by v i) (a.domains v i)) (subst (MayGo (domain_at r.domains) (domain_at q.domains v)) (by' v i) (b.domains v j))) in
    ap (λ x. row_of x r.domains) columns ∙ ap (row_of q.columns) domains
