-- The integers between two integers are a domain's, or there are none; and sets of bounds are unions.
use Rattle.std.proofs.Common.{◌≡◌, ℤ, pos, negsuc, ◌+ℤ◌, ◌-ℤ◌, ◌≤ℤ◌, ◌<ℤ◌, true, false, Bool, List, [], ◌∷◌, ◌++◌, length, drop, inl, inr, refl, ap, sym, subst, ◌∙◌, arith, Option, Some, None, to_z, of_z, w64}
use Rattle.std.specs.Prelude.{◌||◌, ◌&&◌, cond, filter, int_le, MatchOption}
use Rattle.std.specs.FinSet as set
use Rattle.std.specs.List.{list_any}
use Rattle.std.specs.Bool.{Decides}
use Rattle.std.specs.Cmp.{int_cmp_total}
use Rattle.std.specs.Ordering.{int_cmp, int_eq}
use Rattle.std.proofs.lemmas.Bool.{or_right, and_parts, and_from}
use Rattle.std.proofs.lemmas.Int.{ints, by_lt_z}
use Rattle.pp_algebra.specs.Covers.{IsIn}
use Rattle.pp_algebra.specs.Rows.{Domain}
use Rattle.pp_algebra.specs.Members.{all_integers, IsInteger, integers_from}
use Rattle.pp_algebra.proofs.Bools.{int_same, int_is}
use Rattle.pp_algebra.proofs.MembersListed.{in_all}
use Rattle.pp_domain.specs.Intervals.{IsDomain, natural, count, integers}
use Rattle.pp_domain.specs.Sets.{set_of}
use Rattle.pp_domain.proofs.Canonical.{set_is, empty_is}
use Rattle.pp_domain.proofs.Words.{Decides-int_le}
use Rattle.pp_language.specs.Statements.{Bounds}
use Rattle.pp_language.specs.Meanings.{integers_between, bounds_set, bounds_sets}
use Rattle.pp_term.specs.Meanings.{members_by}
use Rattle.pp_parse.proofs.Bounds.{integer_is}
use Rattle.pp_parse.specs.declared.sets.Ends.{Ends}
use Rattle.pp_parse.specs.Sets.{AreEnds, united}
use Rattle.std.proofs.Math.Bool.{or-false, or_assoc, or_comm}

-- ===== which integers lie between two

any_kept : (p : ℤ → Bool) (v : ℤ) (ns : List ℤ) → list_any (int_eq v) (filter p ns) ≡ true → (p v ≡ true)
any_kept p v [] h = absurd (cc (h))
any_kept p v (n ∷ ns) h = go (p n) refl (any_kept p v ns) h
  where
    found : (b : Bool) → int_eq v n ≡ b → p n ≡ true → (list_any (int_eq v) (filter p ns) ≡ true → p v ≡ true) → (b || list_any (int_eq v) (filter p ns)) ≡ true → p v ≡ true
    found true e k later g = ap p (int_is v n e) ∙ k
    found false e k later g = later g

    go : (b : Bool) → p n ≡ b → (list_any (int_eq v) (filter p ns) ≡ true → p v ≡ true) → list_any (int_eq v) (cond b (n ∷ filter p ns) (filter p ns)) ≡ true → p v ≡ true
    go true k later g = found (int_eq v n) refl k later g
    go false k later g = later g

kept_any : (p : ℤ → Bool) (v : ℤ) (ns : List ℤ) → p v ≡ true → IsIn v ns → list_any (int_eq v) (filter p ns) ≡ true
kept_any p v [] k i = absurd i
kept_any p v (n ∷ ns) k (inl e) =
    subst (λ b. list_any (int_eq v) (cond b (n ∷ filter p ns) (filter p ns)) ≡ true) (sym (ap p e ∙ k))
    (ap (λ b. b || list_any (int_eq v) (filter p ns)) (subst (λ x. int_eq v x ≡ true) (sym e) (int_same v)))
kept_any p v (n ∷ ns) k (inr i) = go (p n) (kept_any p v ns k i)
  where
    go : (b : Bool) → list_any (int_eq v) (filter p ns) ≡ true → list_any (int_eq v) (cond b (n ∷ filter p ns) (filter p ns)) ≡ true
    go true g = or_right (int_eq v n) (list_any (int_eq v) (filter p ns)) g
    go false g = g

kept : (p : ℤ → Bool) (v : ℤ) (ns : List ℤ) → IsIn v (filter p ns) → IsIn v ns
kept p v [] i = i
kept p v (n ∷ ns) i = go (p n) (kept p v ns) i
  where
    go : (b : Bool) → (IsIn v (filter p ns) → IsIn v ns) → IsIn v (cond b (n ∷ filter p ns) (filter p ns)) → IsIn v (n ∷ ns)
    go true later (inl e) = inl e
    go true later (inr j) = inr (later j)
    go false later j = inr (later j)

lie_between : (low high v : ℤ) → IsInteger low → IsInteger high → Decides (set.contains (integers_between low high) v) ((low ≤ℤ v) × (v ≤ℤ high))
lie_between low high v l h = (there, back)
  where
    there : set.contains (integers_between low high) v ≡ true → (low ≤ℤ v) × (v ≤ℤ high)
    there e =
        let k = any_kept (λ n. int_le low n && int_le n high) v all_integers (sym (set.contains-from_list int_cmp_total (filter (λ n. int_le low n && int_le n high) all_integers) v) ∙ e) in
        let a = and_parts (int_le low v) (int_le v high) k in
        ((Decides-int_le low v).0 a.0, (Decides-int_le v high).0 a.1)

    back : (low ≤ℤ v) × (v ≤ℤ high) → set.contains (integers_between low high) v ≡ true
    back g =
        set.contains-from_list int_cmp_total (filter (λ n. int_le low n && int_le n high) all_integers) v
        ∙ kept_any (λ n. int_le low n && int_le n high) v all_integers
        (and_from (int_le low v) (int_le v high) ((Decides-int_le low v).1 g.0) ((Decides-int_le v high).1 g.1))
        (in_all v (record { at_least = omega (arith, ints, l.at_least, g.0); at_most = omega (arith, ints, h.at_most, g.1) }))

range_is : (low high : ℤ) → IsInteger low → IsInteger high → low ≤ℤ high → set_of ((low, high) ∷ []) ≡ integers_between low high
range_is low high l h k =
    set_is ((low, high) ∷ []) (integers_between low high) domain (λ v. (
      (λ e. inl ((lie_between low high v l h).0 e)),
      (λ g. elim g [ inl i ↦ (lie_between low high v l h).1 i | inr i ↦ absurd i ]),
    ))
  where
    domain : IsDomain ((low, high) ∷ [])
    domain = record {
      some = omega arith;
      apart = (omega (arith, ints, l.at_least), k, omega (arith, ints, h.at_most));
    }

none_between : (low high : ℤ) → IsInteger low → IsInteger high → high <ℤ low → set.empty ≡ integers_between low high
none_between low high l h m = sym (empty_is (integers_between low high) (λ v e. let k = (lie_between low high v l h).0 e in absurd (omega (arith, ints, k.0, k.1, m))))

no_natural : (z : ℤ) → z ≤ℤ pos 0 → natural z ≡ 0
no_natural (pos n) h = omega (arith, ints)
no_natural (negsuc n) h = refl

-- an interval that ends before it begins has no integers
none_of : (low high : ℤ) → high <ℤ low → set_of ((low, high) ∷ []) ≡ set.empty
unfolding set_of integers count integers_from
none_of low high h = ap (λ n. set.from_list (integers_from low n ++ [])) (no_natural ((high -ℤ low) +ℤ pos 1) (omega (arith, ints)))

one_range : (low high : ℤ) → IsInteger low → IsInteger high → set_of ((low, high) ∷ []) ≡ integers_between low high
one_range low high l h = by_lt_z high low (λ less. none_of low high less ∙ none_between low high l h less) (λ more. range_is low high l h more)

pub range_members : (low high : ℤ) (r : Option (List (ℤ × ℤ))) → IsInteger low → IsInteger high → MatchOption r (high <ℤ low) (λ d. d ≡ (low, high) ∷ []) → members_by r ≡ integers_between low high
range_members low high None l h m = none_between low high l h m
range_members low high (Some d) l h m = ap set_of m ∙ one_range low high l h

-- the same as the code has it
pub range_found : (low high : ℤ) (r : Option (List (ℤ × ℤ))) → IsInteger low → IsInteger high
    → MatchOption r (to_z w64 (of_z w64 high) <ℤ to_z w64 (of_z w64 low)) (λ d. d ≡ (to_z w64 (of_z w64 low), to_z w64 (of_z w64 high)) ∷ []) → members_by r ≡ integers_between low high
range_found low high r l h m =
    let a = integer_is low l in
    let b = integer_is high h in
    range_members (to_z w64 (of_z w64 low)) (to_z w64 (of_z w64 high)) r (subst IsInteger (sym a) l) (subst IsInteger (sym b) h) m
    ∙ ap (λ z. integers_between z (to_z w64 (of_z w64 high))) a ∙ ap (integers_between low) b

-- the domain of bounds is their set
pub bounds_members : (b : Bounds) (e : Ends) (r : Option (List (ℤ × ℤ))) → AreEnds b e
    → MatchOption r (to_z w64 (of_z w64 e.high) <ℤ to_z w64 (of_z w64 e.low)) (λ d. d ≡ (to_z w64 (of_z w64 e.low), to_z w64 (of_z w64 e.high)) ∷ []) → members_by r ≡ bounds_set b
bounds_members b e r a m = range_found e.low e.high r a.low a.high m ∙ sym a.set

-- ===== unions

empty_left : (s : Domain) → set.union set.empty s ≡ s
empty_left s = set.same_set int_cmp_total set.int_cmp-IsAntisymmetric _ _ (λ v. set.contains-union int_cmp_total set.empty s v ∙ ap (λ b. b || set.contains s v) (set.contains-empty int_cmp v))

empty_right : (s : Domain) → set.union s set.empty ≡ s
empty_right s = set.same_set int_cmp_total set.int_cmp-IsAntisymmetric _ _ (λ v. set.contains-union int_cmp_total s set.empty v ∙ ap (λ b. set.contains s v || b) (set.contains-empty int_cmp v) ∙ or-false (set.contains s v))

union_grouped : (s t u : Domain) → set.union (set.union s t) u ≡ set.union s (set.union t u)
union_grouped s t u = set.same_set int_cmp_total set.int_cmp-IsAntisymmetric _ _ (λ v.
    set.contains-union int_cmp_total (set.union s t) u v
    ∙ ap (λ b. b || set.contains u v) (set.contains-union int_cmp_total s t v)
    ∙ or_assoc (set.contains s v) (set.contains t v) (set.contains u v)
    ∙ ap (λ b. set.contains s v || b) (sym (set.contains-union int_cmp_total t u v))
    ∙ sym (set.contains-union int_cmp_total s (set.union t u) v))

union_turned : (s t : Domain) → set.union s t ≡ set.union t s
union_turned s t = set.same_set int_cmp_total set.int_cmp-IsAntisymmetric _ _ (λ v.
    set.contains-union int_cmp_total s t v ∙ or_comm (set.contains s v) (set.contains t v) ∙ sym (set.contains-union int_cmp_total t s v))

-- one more behind the others
pub united_push : (ds : List (List (ℤ × ℤ))) (d : List (ℤ × ℤ)) → united (ds ++ d ∷ []) ≡ set.union (united ds) (set_of d)
united_push [] d = empty_right (set_of d) ∙ sym (empty_left (set_of d))
united_push (e ∷ ds) d = ap (set.union (set_of e)) (united_push ds d) ∙ sym (union_grouped (set_of e) (united ds) (set_of d))

pub bounds_push : (bs : List Bounds) (b : Bounds) → bounds_sets (bs ++ b ∷ []) ≡ set.union (bounds_sets bs) (bounds_set b)
bounds_push [] b = empty_right (bounds_set b) ∙ sym (empty_left (bounds_set b))
bounds_push (c ∷ bs) b = ap (set.union (bounds_set c)) (bounds_push bs b) ∙ sym (union_grouped (bounds_set c) (bounds_sets bs) (bounds_set b))

-- the set of further bounds is taken in
pub united_more : (ds es : List (List (ℤ × ℤ))) (bs : List Bounds) (b : Bounds) (s : Domain) → united ds ≡ bounds_sets bs → united es ≡ set.union (united ds) s → bounds_set b ≡ s → united es ≡ bounds_sets (bs ++ b ∷ [])
united_more ds es bs b s e f g = f ∙ ap (λ t. set.union t s) e ∙ ap (set.union (bounds_sets bs)) (sym g) ∙ sym (bounds_push bs b)

-- with a domain, or with none
pub united_with : (ds : List (List (ℤ × ℤ))) (d : List (ℤ × ℤ)) (s : Domain) → members_by (Some d) ≡ s → united (ds ++ d ∷ []) ≡ set.union (united ds) s
united_with ds d s e = united_push ds d ∙ ap (set.union (united ds)) e

pub united_without : (ds : List (List (ℤ × ℤ))) (s : Domain) → members_by None ≡ s → united ds ≡ set.union (united ds) s
united_without ds s e = sym (ap (set.union (united ds)) (sym e) ∙ empty_right (united ds))

-- the first two domains of a list are united, and stand behind the others
pub united_turn : (d e u : List (ℤ × ℤ)) (ds : List (List (ℤ × ℤ))) → set_of u ≡ set.union (set_of d) (set_of e) → united (ds ++ u ∷ []) ≡ united (d ∷ e ∷ ds)
united_turn d e u ds h =
    united_push ds u ∙ ap (set.union (united ds)) h ∙ union_turned (united ds) (set.union (set_of d) (set_of e)) ∙ union_grouped (set_of d) (set_of e) (united ds)

pub united_one : (d : List (ℤ × ℤ)) → united (d ∷ []) ≡ set_of d
united_one d = empty_right (set_of d)

-- a list that is its own rest is empty
pub own_rest : {X : Type 0} (xs ys : List X) → xs ≡ ys → ys ≡ drop 1 xs → xs ≡ []
own_rest [] ys e f = refl
own_rest (x ∷ xs) ys e f = let g : length (x ∷ xs) ≡ length xs = ap length (e ∙ f) in absurd (omega arith)
