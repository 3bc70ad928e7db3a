-- What a change that was made comes to: the row is applied, and goals that it doesn't touch keep their faces.
use Rattle.std.proofs.Common.{◌≡◌, ℕ, ◌<◌, inl, inr, Bool, true, false, List, [], ◌∷◌, length, get_or, refl, ap, sym, ◌∙◌, subst, arith}
use Rattle.std.specs.Prelude.{cond, filter, nat_eq}
use Rattle.pp_algebra.specs.Terms.{Tree, Trees, variable, put, put_all, variables, variables_all}
use Rattle.pp_algebra.specs.Rows.{Domains, Row, domain_at, IsWide, IsRow}
use Rattle.pp_algebra.specs.Covers.{IsIn}
use Rattle.pp_algebra.specs.Canon.{has, place, firsts, canon}
use Rattle.pp_algebra.specs.Numbered.{column}
use Rattle.pp_algebra.proofs.Put.{put-variable, put_all-variable}
use Rattle.pp_algebra.proofs.Order.{variables_all-put_all}
use Rattle.pp_algebra.proofs.Antisym.{put-agree, put_all-agree}
use Rattle.pp_algebra.proofs.CanonLemmas.{nat_eq-IsSame}
use Rattle.pp_algebra.proofs.Renamed.{comes_from, canon_renamed}
use Rattle.pp_algebra.proofs.Resume.{wide_at}
use Rattle.pp_sld.specs.Goals.{Goal}
use Rattle.pp_propagation.specs.Stores.{face, apply}
use Rattle.pp_row.specs.Columns.{trees_of, sets_of, pattern_by}
use Rattle.pp_unify.proofs.Adding.{firsts-from}
use Rattle.pp_store.specs.declared.pattern.Change.{Change}
use Rattle.pp_store.specs.declared.pattern.Pattern.{Pattern}
use Rattle.pp_store.specs.Occurring.{Stands}
use Rattle.pp_store.specs.Patterns.{column_at, row_in, names_at, under_numbers, IsSound, IsChange, IsMade}
use Rattle.pp_store.specs.Replacing.{replacement}
use Rattle.pp_store.specs.Written.{written}
use Rattle.pp_store.specs.Changing.{differs}
use Rattle.pp_store.specs.Naming.{AreCandidates}
use Rattle.pp_store.specs.Queries.{goals_in}
use Rattle.pp_propagation.specs.Turns.{woken}
use Rattle.pp_term.specs.declared.query.Query.{Query}
use Rattle.pp_store.proofs.ChangedFaces.{woken_is}
use Rattle.pp_store.proofs.Lists.{in_has, not_in, place_below, get-place, in_get, get_map, column_is_at, at_found, each_put, each_wide}
use Rattle.pp_store.proofs.Renumbered.{column_in, under_in, face_of, apply_of}
use Rattle.pp_algebra.proofs.Numbered.{numbered_below}

abbrev names_of : (ℕ → Tree ℕ) → Trees ℕ → List ℕ
names_of s ts = firsts nat_eq [] (variables_all (put_all s ts))

-- the same columns have the same row where the domains of their variables are the same
pub same_canon : (p : Domains ℕ) (q : Domains ℕ) (ts : Trees ℕ) → ((v : ℕ) → IsIn v (variables_all ts) → p v ≡ q v) → canon nat_eq (record { columns = ts; domains = p }) ≡ canon nat_eq (record { columns = ts; domains = q })
same_canon p q ts h =
    ap (λ us. canon nat_eq (record { columns = us; domains = p })) (sym (put_all-variable ts))
    ∙ canon_renamed nat_eq nat_eq-IsSame (λ v. v) (λ v. v) (record { columns = ts; domains = q }) p (λ v i. refl) h

module _ (old : Pattern) (sound : IsSound old) (arguments : List (Tree ℕ)) (given : Row) (row : IsRow given) (c : Change) (change : IsChange old arguments given c) (new : Pattern) (made : IsMade old c new) where
  abbrev names : List ℕ
  names = names_at old.columns.items arguments

  abbrev by : ℕ → Tree ℕ
  by = replacement names (under_numbers c.numbers.items given)

  given_below : (w : ℕ) → IsIn w (variables_all given.columns) → w < length given.domains
  given_below w i = numbered_below (variables_all given.columns) 0 (length given.domains) w row.canonical i

  name_in : (v : ℕ) → IsIn v names → IsIn v (variables_all (trees_of old.columns.items))
  name_in v i = under_in (trees_of old.columns.items) (trees_of arguments) v (firsts-from _ v i)

  -- an untouched column has none of the names
  untouched : (k v : ℕ) → k < length old.columns.items → has nat_eq c.touched.keys k ≡ false → IsIn v (variables (column_at old.columns.items k)) → has nat_eq names v ≡ false
  untouched k v l e i = not_in names v (λ j. let g : has nat_eq c.touched.keys k ≡ true = change.touched.all v k j (sound.placed k v l i) in absurd (cc (e, g)))

  stays_put : (k : ℕ) → k < length old.columns.items → has nat_eq c.touched.keys k ≡ false → put by (column_at old.columns.items k) ≡ column_at old.columns.items k
  stays_put k l e =
      put-agree by variable (column_at old.columns.items k) (λ v i. ap (λ b. cond b (column (under_numbers c.numbers.items given) (place nat_eq names v)) (variable v)) (untouched k v l e i))
      ∙ put-variable (column_at old.columns.items k)

  touched_is : (k : ℕ) → has nat_eq c.touched.keys k ≡ true → column_at c.columns.items (place nat_eq c.touched.keys k) ≡ put by (column_at old.columns.items k)
  touched_is k e =
      ap (λ ts. column_at ts (place nat_eq c.touched.keys k)) change.columns
      ∙ get_map (λ j. put by (column_at old.columns.items j)) c.touched.keys (place nat_eq c.touched.keys k) 0 _ (place_below c.touched.keys k e)
      ∙ ap (λ j. put by (column_at old.columns.items j)) (get-place c.touched.keys k 0 e)

  column_was : (k : ℕ) → k < length old.columns.items → has nat_eq c.touched.keys k ≡ false → column_at new.columns.items k ≡ column_at old.columns.items k
  column_was k l e = made.columns k l ∙ ap (λ b. cond b (column_at c.columns.items (place nat_eq c.touched.keys k)) (column_at old.columns.items k)) e

  column_now : (k : ℕ) → k < length old.columns.items → column_at new.columns.items k ≡ put by (column_at old.columns.items k)
  column_now k l = made.columns k l ∙ go (has nat_eq c.touched.keys k) refl
    where
      go : (b : Bool) → has nat_eq c.touched.keys k ≡ b → cond b (column_at c.columns.items (place nat_eq c.touched.keys k)) (column_at old.columns.items k) ≡ put by (column_at old.columns.items k)
      go true e = touched_is k e
      go false e = sym (stays_put k l e)

  columns_are : trees_of new.columns.items ≡ put_all by (trees_of old.columns.items)
  columns_are = each_put by old.columns.items new.columns.items made.count column_now

  -- a variable that isn't in the face has no number of the row's
  apart : (v : ℕ) → IsIn v (variables_all (trees_of old.columns.items)) → has nat_eq names v ≡ false → has nat_eq c.numbers.items v ≡ false
  apart v i e = not_in c.numbers.items v (λ j. let g : has nat_eq names v ≡ true = change.numbers.old v (in_has c.numbers.items v j) (sound.below v i) in absurd (cc (e, g)))

  domains_are : (v : ℕ) → domain_at (sets_of new.domains.items) v ≡ written c.numbers.items (domain_at given.domains) (domain_at (sets_of old.domains.items)) v
  domains_are v = made.domains v ∙ ap (λ ds. written c.numbers.items (domain_at ds) (domain_at (sets_of old.domains.items)) v) change.domains

  pub row_after : (g : Goal ℕ) → g.arguments ≡ trees_of arguments → row_in new ≡ apply (row_in old) g given
  row_after g e =
      ap (λ ts. canon nat_eq (record { columns = ts; domains = domain_at (sets_of new.domains.items) })) columns_are
      ∙ subst (λ vs. canon nat_eq (record { columns = put_all (replacement vs (under_numbers c.numbers.items given)) (trees_of old.columns.items); domains = domain_at (sets_of new.domains.items) }) ≡ apply (row_in old) g given) (names_same g e)
      (apply_of (pattern_by old.columns.items old.domains.items) given g c.numbers.items (domain_at (sets_of new.domains.items)) change.numbers.distinct
      (λ w i. (let l = given_below w i in omega (arith, l, change.numbers.many)))
      (λ v i f. apart v i (ap (λ vs. has nat_eq vs v) (sym (names_same g e)) ∙ f))
      domains_are (under_numbers c.numbers.items given) refl)
    where
      names_same : (g : Goal ℕ) → g.arguments ≡ trees_of arguments → names_of (column (trees_of old.columns.items)) g.arguments ≡ names
      names_same g e = ap (names_of (column (trees_of old.columns.items))) e

  -- a goal that names no touched column keeps its face
  pub face_stays : (g : Goal ℕ) → ((u : ℕ) → IsIn u (variables_all g.arguments) → u < length old.columns.items) → ((u : ℕ) → IsIn u (variables_all g.arguments) → has nat_eq c.touched.keys u ≡ false) → face (row_in new) g ≡ face (row_in old) g
  face_stays g below free =
      let same : put_all (column (trees_of new.columns.items)) g.arguments ≡ put_all (column (trees_of old.columns.items)) g.arguments =
      put_all-agree (column (trees_of new.columns.items)) (column (trees_of old.columns.items)) g.arguments (λ u i. column_is_at new.columns.items u ∙ column_was u (below u i) (free u i) ∙ sym (column_is_at old.columns.items u)) in
      face_of (pattern_by new.columns.items new.domains.items) g
      ∙ ap (λ ts. canon nat_eq (record { columns = ts; domains = domain_at (sets_of new.domains.items) })) same
      ∙ same_canon (domain_at (sets_of new.domains.items)) (domain_at (sets_of old.domains.items)) (put_all (column (trees_of old.columns.items)) g.arguments) same_domain
      ∙ sym (face_of (pattern_by old.columns.items old.domains.items) g)
    where
      same_at : (v u : ℕ) → IsIn u (variables_all g.arguments) → IsIn v (variables (column (trees_of old.columns.items) u)) → domain_at (sets_of new.domains.items) v ≡ domain_at (sets_of old.domains.items) v
      same_at v u i j =
          let k : IsIn v (variables (column_at old.columns.items u)) = subst (λ t. IsIn v (variables t)) (column_is_at old.columns.items u) j in
          let e = apart v (at_found old.columns.items u v (below u i) k) (untouched u v (below u i) (free u i) k) in
          domains_are v ∙ ap (λ b. cond b (domain_at given.domains (place nat_eq c.numbers.items v)) (domain_at (sets_of old.domains.items) v)) e

      same_domain : (v : ℕ) → IsIn v (variables_all (put_all (column (trees_of old.columns.items)) g.arguments)) → domain_at (sets_of new.domains.items) v ≡ domain_at (sets_of old.domains.items) v
      same_domain v i =
          let j = comes_from (λ u. variables (column (trees_of old.columns.items) u)) (variables_all g.arguments) v (subst (IsIn v) (variables_all-put_all (column (trees_of old.columns.items)) g.arguments) i) in
          same_at v j.0 j.1 j.2

  -- the goals whose face isn't what it was, among those that name a touched column
  pub woken_now : (q : Query) (ks : List ℕ) → AreCandidates q c.touched.keys ks → length old.columns.items ≡ q.vars → filter (differs (goals_in q) (row_in old) (row_in new)) ks ≡ woken (row_in old) (row_in new) [] 1 (goals_in q)
  woken_now q ks known count = woken_is (row_in old) (row_in new) (goals_in q) ks known.ascending known.goals
      (λ k a e f. face_stays a.goal (λ u i. (let l = known.below k u a e i in omega (arith, l, count))) (λ u i. not_in c.touched.keys u (λ j. f (known.all k u a e i j))))

  -- ===== what is kept stays sound

  from_one : (v u : ℕ) → IsIn u (variables_all (trees_of old.columns.items)) → (b : Bool) → has nat_eq names u ≡ b → IsIn v (variables (cond b (column (under_numbers c.numbers.items given) (place nat_eq names u)) (variable u))) → v < length new.domains.items
  from_one v u i true e j =
      let k = column_in (under_numbers c.numbers.items given) (place nat_eq names u) v j in
      let w = comes_from (λ w. variables (variable (get_or c.numbers.items w 0))) (variables_all given.columns) v (subst (IsIn v) (variables_all-put_all (λ w. variable (get_or c.numbers.items w 0)) given.columns) k) in
      number_of w.0 w.1 w.2
    where
      number_of : (w : ℕ) → IsIn w (variables_all given.columns) → IsIn v (get_or c.numbers.items w 0 ∷ []) → v < length new.domains.items
      number_of w i (inl e) = made.room v (subst (λ x. IsIn x c.numbers.items) e (in_get c.numbers.items w 0 (let l = given_below w i in omega (arith, l, change.numbers.many))))
      number_of w i (inr h) = absurd h
  from_one v u i false e (inl f) = let l = sound.below u i in omega (arith, l, f, made.longer)
  from_one v u i false e (inr h) = absurd h

  below_now : (v : ℕ) → IsIn v (variables_all (trees_of new.columns.items)) → v < length new.domains.items
  below_now v i =
      let j = comes_from (λ u. variables (by u)) (variables_all (trees_of old.columns.items)) v (subst (IsIn v) (ap variables_all columns_are ∙ variables_all-put_all by (trees_of old.columns.items)) i) in
      from_one v j.0 j.1 (has nat_eq names j.0) refl j.2

  wide_now : (v : ℕ) → IsWide (domain_at (sets_of new.domains.items) v)
  wide_now v = subst IsWide (sym (domains_are v)) (either_wide (has nat_eq c.numbers.items v))
    where
      either_wide : (b : Bool) → IsWide (cond b (domain_at given.domains (place nat_eq c.numbers.items v)) (domain_at (sets_of old.domains.items) v))
      either_wide true = wide_at given.domains (place nat_eq c.numbers.items v) row.wide
      either_wide false = wide_at (sets_of old.domains.items) v sound.wide

  placed_now : (k v : ℕ) → k < length new.columns.items → IsIn v (variables (column_at new.columns.items k)) → Stands new.places v k
  placed_now k v l i = go (has nat_eq c.touched.keys k) refl
    where
      m : k < length old.columns.items
      m = omega (arith, l, made.count)

      go : (b : Bool) → has nat_eq c.touched.keys k ≡ b → Stands new.places v k
      go true e =
          let here : column_at new.columns.items k ≡ column_at c.columns.items (place nat_eq c.touched.keys k) = column_now k m ∙ sym (touched_is k e) in
          subst (Stands new.places v) (get-place c.touched.keys k 0 e) (made.added (place nat_eq c.touched.keys k) v (place_below c.touched.keys k e) (subst (λ t. IsIn v (variables t)) here i))
      go false e = made.stays v k (sound.placed k v m (subst (λ t. IsIn v (variables t)) (column_was k m e) i))

  pub sound_after : IsSound new
  sound_after = record {
    below = below_now;
    wide = each_wide (sets_of new.domains.items) (λ v l. wide_now v);
    count = made.known;
    placed = placed_now;
    within = λ v k h. (let l = made.only v k h in omega (arith, l, made.count));
  }
