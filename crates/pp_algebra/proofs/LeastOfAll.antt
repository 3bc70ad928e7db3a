-- What covers all rows covers their least generalisation.
use Rattle.std.proofs.Common.{◌≡◌, ℤ, Bool, true, false, List, [], ◌∷◌, map, Option, Some, None, refl, sym, ◌∙◌, ◌⊎◌, inl, inr}
use Rattle.std.specs.Prelude.{cond}
use Rattle.std.specs.Ordering.{int_cmp, int_eq}
use Rattle.std.proofs.Math.Bool.{or-false}
use Rattle.std.specs.FinSet as set
use Rattle.std.specs.Cmp.{int_cmp_total}
use Rattle.std.proofs.lemmas.Bool.{or_cases}
use Rattle.pp_algebra.specs.Terms.{Tree, int, node, variable, put_all, variables_all}
use Rattle.pp_algebra.specs.Rows.{Domain, Domains, Pattern}
use Rattle.pp_algebra.specs.Covers.{IsWithin, MayGo, IsIn, Covers}
use Rattle.pp_algebra.specs.Least.{all_int, least_tree, values, both, union_of, least}
use Rattle.pp_algebra.proofs.Bools.{int_is}
use Rattle.pp_algebra.proofs.LeastIsLeast.{together, least_trees-put}

only_one : (n m : ℤ) → set.contains (set.from_list {R = int_cmp} (n ∷ [])) m ≡ true → n ≡ m
only_one n m h = sym (int_is m n (sym (or-false (int_eq m n)) ∙ sym (set.contains-from_list int_cmp_total (n ∷ []) m) ∙ h))

in_either : (d e : Domain) (n : ℤ) → set.contains (set.union d e) n ≡ true → (set.contains d n ≡ true) ⊎ (set.contains e n ≡ true)
in_either d e n h = or_cases _ _ (sym (set.contains-union int_cmp_total d e n) ∙ h)

both_within : (d : Domain) (x u : Option Domain) → IsWithin d x → IsWithin d u → IsWithin d (both x u)
both_within d None u h k = h
both_within d (Some e) None h k = k
both_within d (Some e) (Some f) h k = λ n m. elim (in_either e f n m) [ inl a ↦ h n a | inr b ↦ k n b ]

goes_values : {V : Type 0} (ds : Domains V) (d : Domain) (t : Tree V) → MayGo ds (Some d) t → IsWithin d (values ds t)
goes_values ds d (int n) h = λ m k. rw (← only_one n m k) h
goes_values ds d (node f ts) h = h
goes_values ds d (variable v) h = h

none_there : (d : Domain) → IsWithin d (Some set.empty)
none_there d = λ n h. let e : false ≡ true = sym (set.contains-empty int_cmp n) ∙ h in absurd (cc)

abbrev AllGo : {V : Type 0} → List (Domains V) → Domain → List (Tree V) → Type 0
AllGo [] d ts = Unit {0}
AllGo (ds ∷ dss) d [] = ⊥
AllGo (ds ∷ dss) d (t ∷ ts) = MayGo ds (Some d) t × AllGo dss d ts

all_within : {V : Type 0} (dss : List (Domains V)) (d : Domain) (ts : List (Tree V)) → AllGo dss d ts → IsWithin d (union_of dss ts)
all_within [] d ts h = none_there d
all_within (ds ∷ dss) d [] h = absurd h
all_within (ds ∷ dss) d (t ∷ ts) h = both_within d (values ds t) (union_of dss ts) (goes_values ds d t h.0) (all_within dss d ts h.1)

goes_cond : {V : Type 0} (ds : Domains V) (d : Domain) (b : Bool) (x y : Tree V) → MayGo ds (Some d) x → MayGo ds (Some d) y → MayGo ds (Some d) (cond b x y)
goes_cond ds d true x y h k = h
goes_cond ds d false x y h k = k

goes_least : {V : Type 0} (dss : List (Domains V)) (ds : Domains V) (d : Domain) (t : Tree V) (ts : List (Tree V)) → AllGo (ds ∷ dss) d (t ∷ ts) → MayGo (union_of (ds ∷ dss)) (Some d) (least_tree t ts)
goes_least dss ds d (int n) ts h = goes_cond (union_of (ds ∷ dss)) d (all_int n ts) (int n) (variable (int n ∷ ts)) h.0 (all_within (ds ∷ dss) d (int n ∷ ts) h)
goes_least dss ds d (node f us) ts h = absurd h.0
goes_least dss ds d (variable v) ts h = all_within (ds ∷ dss) d (variable v ∷ ts) h

module _ {U V : Type 0} (s : Pattern U) where
  abbrev pub CoversAll : List (Pattern V) → Type 0
  CoversAll [] = Unit {0}
  CoversAll (q ∷ qs) = Covers s q × CoversAll qs

  abbrev all_by : (qs : List (Pattern V)) → CoversAll qs → List (U → Tree V)
  all_by [] h = []
  all_by (q ∷ qs) h = h.0.by ∷ all_by qs h.1

  all_columns : (qs : List (Pattern V)) (h : CoversAll qs) → map (λ r. put_all r s.columns) (all_by qs h) ≡ map (λ q. q.columns) qs
  all_columns [] h = refl
  all_columns (q ∷ qs) h = rw (h.0.columns, all_columns qs h.1) refl

  all_go : (qs : List (Pattern V)) (h : CoversAll qs) (v : U) (d : Domain) → IsIn v (variables_all s.columns) → s.domains v ≡ Some d → AllGo (map (λ q. q.domains) qs) d (map (λ r. r v) (all_by qs h))
  all_go [] h v d i e = tt
  all_go (q ∷ qs) h v d i e = (rw e at (h.0.domains v i), all_go qs h.1 v d i e)

  pub goes_together : (r : Pattern V) (rs : List (Pattern V)) (h : CoversAll (r ∷ rs)) (v : U) (d : Option Domain) → IsIn v (variables_all s.columns) → s.domains v ≡ d → MayGo (least r rs).domains d (together h.0.by (all_by rs h.1) v)
  goes_together r rs h v None i e = tt
  goes_together r rs h v (Some d) i e = goes_least (map (λ q. q.domains) rs) r.domains d (h.0.by v) (map (λ x. x v) (all_by rs h.1)) (all_go (r ∷ rs) h v d i e)

  pub covers_least : (r : Pattern V) (rs : List (Pattern V)) → CoversAll (r ∷ rs) → Covers s (least r rs)
  covers_least r rs h = record {
    by = together h.0.by (all_by rs h.1);
    columns = sym (least_trees-put h.0.by (all_by rs h.1) s.columns) ∙ rw (h.0.columns, all_columns rs h.1) refl;
    domains = λ v i. goes_together r rs h v (s.domains v) i refl;
  }
