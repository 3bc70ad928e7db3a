-- What applying a row to a goal makes of the store and of the goal's face.
use Rattle.std.proofs.Common.{◌≡◌, ℕ, zero, suc, ◌+◌, ◌<◌, ◌⊎◌, inl, inr, Bool, true, false, List, [], ◌∷◌, length, refl, ap, sym, ◌∙◌, subst, arith}
use Rattle.std.specs.Prelude.{cond, nat_eq, ◌||◌}
use Rattle.std.proofs.Math.ListN.{length-map}
use Rattle.pp_algebra.specs.Terms.{Tree, variable, Trees, none, more, count, put, put_all, variables, variables_all}
use Rattle.pp_algebra.specs.Rows.{Pattern, Row, domain_at, pattern_of, IsCanonical}
use Rattle.pp_algebra.specs.Canon.{has, place, firsts, same_either}
use Rattle.pp_algebra.specs.Covers.{MayGo, IsIn, Covers, RowCovers}
use Rattle.pp_algebra.specs.Numbered.{column, variables_from, call}
use Rattle.pp_algebra.proofs.Put.{put-put, put_all-put_all, count-put_all}
use Rattle.pp_algebra.proofs.Order.{may_stay, covers_through, variables-put, variables_all-put_all, IsIn-left, IsIn-right, IsIn-flat_map, goes_further}
use Rattle.pp_algebra.proofs.Antisym.{put_all-agree, IsIn-either, stays_all, occurs, covers_antisymmetric}
use Rattle.pp_algebra.proofs.CanonLemmas.{nat_eq-IsSame, has-all, domain_at-place, canon-IsCanonical, covers-canon}
use Rattle.pp_algebra.proofs.Renamed.{comes_from}
use Rattle.pp_algebra.proofs.Numbered.{count-from, column-from}
use Rattle.pp_algebra.proofs.Law.{count-covers}
use Rattle.pp_sld.specs.Goals.{Goal}
use Rattle.pp_sld.proofs.CallCovers.{call-IsCanonical}
use Rattle.pp_propagation.specs.Stores.{arguments_under, face, face_variables, either_domains, replaced_by, apply}
use Rattle.pp_propagation.proofs.StoreRows.{same_either-IsSame}
use Rattle.pp_fixpoint.proofs.Narrowed.{IsNarrowing}

place_within : (vs : List ℕ) (v : ℕ) → has nat_eq vs v ≡ true → place nat_eq vs v < length vs
place_within [] v h = let f : false ≡ true = h in absurd (cc (f))
place_within (x ∷ vs) v h = go (place_within vs v) (nat_eq x v) h
  where
    go : (has nat_eq vs v ≡ true → place nat_eq vs v < length vs) → (b : Bool) → (b || has nat_eq vs v) ≡ true → cond b 0 (suc (place nat_eq vs v)) < suc (length vs)
    go rest true h = omega arith
    go rest false h = let l = rest h in omega (arith, l)

-- ===== columns

column-all : (s : ℕ → Tree ℕ) (ts : Trees ℕ) (v : ℕ) → column (put_all s ts) v ≡ put s (column ts v)
column-all s none v = refl
column-all s (more t ts) zero = refl
column-all s (more t ts) (suc v) = column-all s ts v

-- what stands in a column stands in the columns, and the other way round
in_column : (ts : Trees ℕ) (u v : ℕ) → IsIn v (variables (column ts u)) → IsIn v (variables_all ts)
in_column none u v i = absurd i
in_column (more t ts) zero v i = IsIn-left v (variables t) (variables_all ts) i
in_column (more t ts) (suc u) v i = IsIn-right v (variables t) (variables_all ts) (in_column ts u v i)

which_column : (ts : Trees ℕ) (v : ℕ) → IsIn v (variables_all ts) → (u : ℕ) × (u < count ts) × IsIn v (variables (column ts u))
which_column none v i = absurd i
which_column (more t ts) v i = elim (IsIn-either v (variables t) (variables_all ts) i) [
  | inl j ↦ (0, omega arith, j)
  | inr j ↦ (let r = which_column ts v j in (suc r.0, omega (arith, r.1), r.2))
]

by_columns : (ts us : Trees ℕ) → count ts ≡ count us → ((v : ℕ) → v < count us → column ts v ≡ column us v) → ts ≡ us
by_columns none none e h = refl
by_columns none (more u us) e h = absurd (omega (arith, e))
by_columns (more t ts) none e h = absurd (omega (arith, e))
by_columns (more t ts) (more u us) e h =
    let first : t ≡ u = h 0 (omega arith) in
    let rest : ts ≡ us = by_columns ts us (omega (arith, e)) (λ v l. h (suc v) (omega (arith, l))) in
    ap (λ x. more x ts) first ∙ ap (more u) rest

module _ (store : Row) (g : Goal ℕ) (given : Row) where
  abbrev names : List ℕ
  names = face_variables store g

  abbrev replaced : ℕ → Tree (ℕ ⊎ ℕ)
  replaced v = replaced_by given names v

  abbrev all : List (ℕ ⊎ ℕ)
  all = firsts same_either [] (variables_all (put_all replaced store.columns))

  abbrev numbered : ℕ ⊎ ℕ → Tree ℕ
  numbered x = variable (place same_either all x)

  -- where a variable of the store goes, and one of the given row
  abbrev goes : ℕ → Tree ℕ
  goes v = put numbered (replaced v)

  abbrev comes : ℕ → Tree ℕ
  comes w = numbered (inr w)

  abbrev old_face : Row
  old_face = face store g

  abbrev new_store : Row
  new_store = apply store g given

  -- a variable of the face is replaced by its column
  goes_in_face : (v : ℕ) → has nat_eq names v ≡ true → goes v ≡ put comes (column given.columns (place nat_eq names v))
  goes_in_face v h =
      ap (λ b. put numbered (cond b (put (λ w. variable (inr w)) (column given.columns (place nat_eq names v))) (variable (inl v)))) h
      ∙ put-put numbered (λ w. variable (inr w)) (column given.columns (place nat_eq names v))

  is_named : (v : ℕ) → IsIn v (variables_all (arguments_under store g)) → has nat_eq names v ≡ true
  is_named v i = has-all nat_eq nat_eq-IsSame [] (variables_all (arguments_under store g)) v i

  -- the goal's arguments afterwards
  arguments_after : arguments_under new_store g ≡ put_all comes (put_all (column given.columns) old_face.columns)
  arguments_after =
      put_all-agree (column new_store.columns) (λ u. put goes (column store.columns u)) g.arguments
      (λ u _. ap (λ ts. column ts u) (put_all-put_all numbered replaced store.columns) ∙ column-all goes store.columns u)
      ∙ sym (put_all-put_all goes (column store.columns) g.arguments)
      ∙ put_all-agree goes (λ v. put comes (column given.columns (place nat_eq names v))) (arguments_under store g) (λ v i. goes_in_face v (is_named v i))
      ∙ sym (put_all-put_all (λ x. put comes (column given.columns x)) (λ v. variable (place nat_eq names v)) (arguments_under store g))
      ∙ sym (put_all-put_all comes (column given.columns) old_face.columns)

  -- what stands in the store afterwards
  is_there : (v : ℕ) (x : ℕ ⊎ ℕ) → IsIn v (variables_all store.columns) → IsIn x (variables (replaced v)) → has same_either all x ≡ true
  is_there v x i j =
      has-all same_either same_either-IsSame [] (variables_all (put_all replaced store.columns)) x
      (subst (IsIn x) (sym (variables_all-put_all replaced store.columns)) (IsIn-flat_map (λ u. variables (replaced u)) v x (variables_all store.columns) i j))

  given_there : (v w : ℕ) → IsIn v (variables_all store.columns) → has nat_eq names v ≡ true → IsIn w (variables (column given.columns (place nat_eq names v))) → has same_either all (inr w) ≡ true
  given_there v w i h j =
      is_there v (inr w) i
      (subst (λ b. IsIn (inr w) (variables (cond b (put (λ u. variable (inr u)) (column given.columns (place nat_eq names v))) (variable (inl v))))) (sym h)
      (subst (IsIn (inr w)) (sym (variables-put (λ u. variable (inr u)) (column given.columns (place nat_eq names v))))
      (IsIn-flat_map (λ u. inr u ∷ []) w (inr w) (variables (column given.columns (place nat_eq names v))) j (inl refl))))

  domain_there : (x : ℕ ⊎ ℕ) → has same_either all x ≡ true → domain_at new_store.domains (place same_either all x) ≡ either_domains (domain_at store.domains) (domain_at given.domains) x
  domain_there x h = domain_at-place same_either same_either-IsSame (either_domains (domain_at store.domains) (domain_at given.domains)) all x h

  given_stays : (w : ℕ) → has same_either all (inr w) ≡ true → MayGo (domain_at new_store.domains) (domain_at given.domains w) (comes w)
  given_stays w h = may_stay (domain_at new_store.domains) (place same_either all (inr w)) (domain_at given.domains w) (domain_there (inr w) h)

  -- the face with the given columns put in
  abbrev filled : Pattern ℕ
  filled = record { columns = put_all (column given.columns) old_face.columns; domains = domain_at given.domains }

  abbrev under : Pattern ℕ
  under = record { columns = arguments_under new_store g; domains = domain_at new_store.domains }

  filled_there : (w : ℕ) → IsIn w (variables_all filled.columns) → has same_either all (inr w) ≡ true
  filled_there w i =
      let shape : filled.columns ≡ put_all (λ v. column given.columns (place nat_eq names v)) (arguments_under store g) = put_all-put_all (column given.columns) (λ v. variable (place nat_eq names v)) (arguments_under store g) in
      let j = comes_from (λ v. variables (column given.columns (place nat_eq names v))) (variables_all (arguments_under store g)) w
      (subst (IsIn w) (ap variables_all shape ∙ variables_all-put_all (λ v. column given.columns (place nat_eq names v)) (arguments_under store g)) i) in
      let k = comes_from (λ u. variables (column store.columns u)) (variables_all g.arguments) j.0 (subst (IsIn j.0) (variables_all-put_all (column store.columns) g.arguments) j.1) in
      given_there j.0 w (in_column store.columns k.0 j.0 k.2) (is_named j.0 j.1) j.2

  filled_covers : Covers filled (pattern_of (face new_store g))
  filled_covers =
      covers_through filled under (pattern_of (face new_store g))
      (record { by = comes; columns = sym arguments_after; domains = λ w i. given_stays w (filled_there w i) })
      (covers-canon nat_eq nat_eq-IsSame under)

  old_canonical : IsCanonical old_face
  old_canonical = canon-IsCanonical nat_eq nat_eq-IsSame (record { columns = arguments_under store g; domains = domain_at store.domains })

  width : RowCovers (call old_face) given → count given.columns ≡ length old_face.domains
  width h = sym (count-covers (call old_face) given h) ∙ count-from 0 (length old_face.domains)

  stands : (v : ℕ) → v < length old_face.domains → IsIn v (variables_all old_face.columns)
  stands v l = occurs (variables_all old_face.columns) 0 (length old_face.domains) v old_canonical (omega arith) l

  -- where the face stays, the given row covers the call
  covers_back : count given.columns ≡ length old_face.domains → Covers filled (pattern_of old_face) → RowCovers given (call old_face)
  covers_back n c =
      let stays : (v : ℕ) → v < length old_face.domains → put c.by (column given.columns v) ≡ variable v =
      λ v l. stays_all (λ x. put c.by (column given.columns x)) old_face.columns v (sym (put_all-put_all c.by (column given.columns) old_face.columns) ∙ c.columns) (stands v l) in
      record {
        by = c.by;
        columns = by_columns (put_all c.by given.columns) (variables_from 0 (length old_face.domains))
            (count-put_all c.by given.columns ∙ n ∙ sym (count-from 0 (length old_face.domains)))
            (λ v l. let k : v < length old_face.domains = omega (arith, l, count-from 0 (length old_face.domains)) in column-all c.by given.columns v ∙ stays v k ∙ sym (column-from 0 (length old_face.domains) v k ∙ ap variable (omega arith)));
        domains = λ w i.
            let j = which_column given.columns w i in
            c.domains w (subst (IsIn w) (sym (variables_all-put_all (column given.columns) old_face.columns)) (IsIn-flat_map (λ u. variables (column given.columns u)) j.0 w (variables_all old_face.columns) (stands j.0 (omega (arith, j.1, n))) j.2));
      }

  -- a row that narrows changes the face
  pub face_changes : IsNarrowing old_face given → face new_store g ≡ old_face → ⊥
  face_changes h e =
      h.smaller (covers_antisymmetric given (call old_face) h.canonical (call-IsCanonical old_face)
      (covers_back (width h.covered) (subst (λ r. Covers filled (pattern_of r)) e filled_covers))
      h.covered)

  -- ===== the store

  -- a column of the given row may stand where the call's variable did
  column_goes : (c : RowCovers (call old_face) given) (v : ℕ) → v < length old_face.domains → MayGo (domain_at given.domains) (domain_at old_face.domains v) (column given.columns v)
  column_goes c v l =
      let here : c.by v ≡ column given.columns v =
      ap (put c.by) (let e : variable v ≡ column (variables_from 0 (length old_face.domains)) v = ap variable (let f : v ≡ 0 + v = omega arith in f) ∙ sym (column-from 0 (length old_face.domains) v l) in e)
      ∙ sym (column-all c.by (variables_from 0 (length old_face.domains)) v)
      ∙ ap (λ ts. column ts v) c.columns in
      subst (MayGo (domain_at given.domains) (domain_at old_face.domains v)) here
      (c.domains v (subst (IsIn v) refl (occurs (variables_all (variables_from 0 (length old_face.domains))) 0 (length old_face.domains) v (call-IsCanonical old_face) (omega arith) l)))

  named_place : (v : ℕ) → has nat_eq names v ≡ true → place nat_eq names v < length old_face.domains
  named_place v h = subst (λ n. place nat_eq names v < n) (sym (length-map names (domain_at store.domains))) (place_within names v h)

  store_goes : RowCovers (call old_face) given → (v : ℕ) → IsIn v (variables_all store.columns) → (b : Bool) → has nat_eq names v ≡ b → MayGo (domain_at new_store.domains) (domain_at store.domains v) (goes v)
  store_goes c v i true h =
      let k = place nat_eq names v in
      let domain : domain_at old_face.domains k ≡ domain_at store.domains v = domain_at-place nat_eq nat_eq-IsSame (domain_at store.domains) names v h in
      subst (MayGo (domain_at new_store.domains) (domain_at store.domains v)) (sym (goes_in_face v h))
      (goes_further (domain_at given.domains) (domain_at new_store.domains) comes (domain_at store.domains v) (column given.columns k)
      (λ w j. given_stays w (given_there v w i h j))
      (subst (λ o. MayGo (domain_at given.domains) o (column given.columns k)) domain (column_goes c k (named_place v h))))
  store_goes c v i false h =
      let is : replaced v ≡ variable (inl v) = ap (λ b. cond b (put (λ w. variable (inr w)) (column given.columns (place nat_eq names v))) (variable (inl v))) h in
      subst (MayGo (domain_at new_store.domains) (domain_at store.domains v)) (sym (ap (put numbered) is))
      (may_stay (domain_at new_store.domains) (place same_either all (inl v)) (domain_at store.domains v)
      (domain_there (inl v) (is_there v (inl v) i (subst (λ t. IsIn (inl v) (variables t)) (sym is) (inl refl)))))

  -- the store covers the one afterwards
  pub store_covers : RowCovers (call old_face) given → RowCovers store new_store
  store_covers c = record {
    by = goes;
    columns = sym (put_all-put_all numbered replaced store.columns);
    domains = λ v i. store_goes c v i (has nat_eq names v) refl;
  }
