-- The goals of a query as they are listed, by their numbers and by the variables that they name.
use Rattle.std.proofs.Common.{◌≡◌, ℕ, zero, suc, ◌+◌, ◌-◌, ◌^◌, ◌<◌, ◌≤◌, ◌⊎◌, inl, inr, true, false, List, [], ◌∷◌, ◌++◌, length, map, get_or, Some, None, All, refl, ap, sym, ◌∙◌, subst, arith}
use Rattle.std.specs.Prelude.{nat_eq, IsSorted}
use Rattle.std.specs.List.{list_any, IsDistinct}
use Rattle.std.specs.Ordering.{nat_cmp}
use Rattle.std.proofs.Math.ListN.{length-map}
use Rattle.std.proofs.lemmas.List.{map-append, length_push}
use Rattle.std.proofs.lemmas.List.Elements.{All-nil, All-head, All-tail, All-push}
use Rattle.std.proofs.lemmas.List.Sorted.{IsNonDecreasingBy-from_sort}
use Rattle.std.proofs.lemmas.Map.Keys.{IsStrictlyIncreasing-from_distinct, sorted_from_strictly_increasing, below_from_sorted}
use Rattle.pp_algebra.specs.Terms.{variables_all}
use Rattle.pp_algebra.specs.Covers.{IsIn}
use Rattle.pp_algebra.specs.Canon.{has}
use Rattle.pp_algebra.proofs.CanonLemmas.{nat_eq-IsSame}
use Rattle.pp_propagation.specs.Stores.{Asked}
use Rattle.pp_propagation.specs.Turns.{goal_at}
use Rattle.pp_row.proofs.Keys.{any_has, map_same}
use Rattle.pp_row.specs.Columns.{trees_of}
use Rattle.pp_store.specs.declared.goals.Annotated.{Annotated}
use Rattle.pp_store.specs.Ascending.{IsAscending}
use Rattle.pp_store.specs.Naming.{AreNamed, IsIndex, AreCandidates}
use Rattle.pp_store.specs.Occurring.{Stands, HasMore, AreGathered}
use Rattle.pp_store.specs.Queries.{asked_by, goals_in, AreArgumentsOf}
use Rattle.pp_store.proofs.Lists.{has_in, in_has}
use Rattle.pp_term.specs.declared.query.Query.{Query}

-- ===== ascending numbers

place_in : (ks : List ℕ) (k : ℕ) → IsIn k ks → (i : ℕ) × (i < length ks) × (get_or ks i 0 ≡ k)
place_in [] k h = absurd h
place_in (x ∷ ks) k (inl e) = (0, omega arith, e)
place_in (x ∷ ks) k (inr h) = let r = place_in ks k h in (suc r.0, omega (arith, r.1), r.2)

rising : (ks : List ℕ) → ((i j : ℕ) → i < j → j < length ks → get_or ks i 0 < get_or ks j 0) → IsAscending ks
rising [] h = tt
rising (k ∷ ks) h = (λ j i. (let r = place_in ks j i in subst (λ x. k < x) r.2 (h 0 (suc r.0) (omega arith) (omega (arith, r.1)))), rising ks (λ i j l m. h (suc i) (suc j) (omega (arith, l)) (omega (arith, m))))

pub ascending_from : (ks : List ℕ) → IsSorted nat_cmp ks → IsDistinct nat_eq ks → IsAscending ks
ascending_from ks up apart =
    let s = sorted_from_strictly_increasing ks (IsStrictlyIncreasing-from_distinct ks (IsNonDecreasingBy-from_sort (λ x. x) ks up) apart) in
    rising ks (λ i j l m. below_from_sorted ks i j 0 s l m)

has_keys : (keys : List ℕ) (v : ℕ) → list_any (λ k. nat_eq v k) keys ≡ has nat_eq keys v
has_keys keys v = any_has nat_eq nat_eq-IsSame (λ j. j) keys v ∙ ap (λ ks. has nat_eq ks v) (map_same keys)

-- ===== goals that are listed

pub goal_get : (asked : List Annotated) (i : ℕ) (d : Annotated) → i < length asked → goal_at (map asked_by asked) (suc i) ≡ Some (asked_by (get_or asked i d))
goal_get [] i d l = absurd (omega (arith, l))
goal_get (x ∷ asked) zero d l = refl
goal_get (x ∷ asked) (suc i) d l = goal_get asked i d (omega (arith, l))

goal_formed : (q : Query) (asked : List Annotated) → All (AreArgumentsOf q) asked → (k v : ℕ) (a : Asked) → goal_at (map asked_by asked) k ≡ Some a → IsIn v (variables_all a.goal.arguments) → v < q.vars
goal_formed q [] h k v a e i = let f : None ≡ Some a = e in absurd (cc (f))
goal_formed q (x ∷ asked) h zero v a e i = let f : None ≡ Some a = e in absurd (cc (f))
goal_formed q (x ∷ asked) h (suc zero) v a e i =
    let f : Some (asked_by x) ≡ Some a = e in
    let g : asked_by x ≡ a = cc (f) in
    let formed : AreArgumentsOf q x = All-head (AreArgumentsOf q) x asked h in
    formed.below v (subst (λ (b : Asked). IsIn v (variables_all b.goal.arguments)) (sym g) i)
goal_formed q (x ∷ asked) h (suc (suc k)) v a e i = goal_formed q asked (All-tail (AreArgumentsOf q) x asked h) (suc k) v a e i

pub candidates_are : (q : Query) (asked : List Annotated) (sets : List (List ℕ)) (variables found sorted : List ℕ) → IsIndex q asked sets → AreGathered sets variables found → IsSorted nat_cmp sorted → IsDistinct nat_eq sorted
    → ((k : ℕ) → list_any (nat_eq k) sorted ≡ list_any (nat_eq k) found) → AreCandidates q variables sorted
candidates_are q asked sets variables found sorted h g up apart same = record {
  ascending = ascending_from sorted up apart;
  all = λ k v a e i j. has_in sorted k (sym (has_keys sorted k) ∙ same k ∙ has_keys found k ∙ g.all v k j (h.named.all k v a e i));
  goals = λ k i. (let s = g.only k (sym (has_keys found k) ∙ sym (same k) ∙ has_keys sorted k ∙ in_has sorted k i) in h.named.only s.0 k s.1);
  below = λ k v a e i. goal_formed q asked h.formed k v a (ap (λ gs. goal_at gs k) h.goals ∙ e) i;
}

-- ===== one goal more is listed

goal_pushed : (gs : List Asked) (b a : Asked) (k : ℕ) → goal_at (gs ++ b ∷ []) k ≡ Some a → (goal_at gs k ≡ Some a) ⊎ ((k ≡ suc (length gs)) × (b ≡ a))
goal_pushed [] b a zero e = let f : None ≡ Some a = e in absurd (cc (f))
goal_pushed [] b a (suc zero) e = let f : Some b ≡ Some a = e in inr (refl, cc (f))
goal_pushed [] b a (suc (suc k)) e = let f : None ≡ Some a = e in absurd (cc (f))
goal_pushed (g ∷ gs) b a zero e = let f : None ≡ Some a = e in absurd (cc (f))
goal_pushed (g ∷ gs) b a (suc zero) e = inl e
goal_pushed (g ∷ gs) b a (suc (suc k)) e = elim (goal_pushed gs b a (suc k) e) [ inl f ↦ inl f | inr f ↦ inr (ap suc f.0, f.1) ]

-- so far as goals are listed
pub record AreListed (q : Query) (asked : List Annotated) (sets : List (List ℕ)) : Type 0 where
  pub formed : All (AreArgumentsOf q) asked
  pub few : length asked < 2 ^ 32
  pub count : q.vars ≤ length sets
  pub named : AreNamed (map asked_by asked) sets

pub none_listed : (q : Query) (asked : List Annotated) (sets : List (List ℕ)) → asked ≡ [] → q.vars ≤ length sets → ((v : ℕ) → get_or sets v [] ≡ []) → AreListed q asked sets
none_listed q asked sets e l free = record {
  formed = subst (All (AreArgumentsOf q)) (sym e) (none_formed q);
  few = omega (arith, ap length e);
  count = l;
  named = record {
    all = λ k v a f i. (let g : None ≡ Some a = ap (λ xs. goal_at (map asked_by xs) k) (sym e) ∙ f in absurd (cc (g)));
    only = λ v k s. (let g : has nat_eq [] k ≡ true = ap (λ xs. has nat_eq xs k) (sym (free v)) ∙ s in let f : false ≡ true = g in absurd (cc (f)));
  };
}
  where
    none_formed : (q : Query) → All (AreArgumentsOf q) []
    none_formed q = All-nil (AreArgumentsOf q)

pub one_listed : (q : Query) (asked more : List Annotated) (sets new : List (List ℕ)) (x : Annotated) (k : ℕ) → AreListed q asked sets → AreArgumentsOf q x → more ≡ asked ++ x ∷ [] → k ≡ length asked + 1 → k < 2 ^ 32
    → HasMore (k ∷ []) sets new → ((v : ℕ) → IsIn v (variables_all (trees_of x.arguments.now)) → Stands new v k) → AreListed q more new
one_listed q asked more sets new x k h formed e n few grown named = record {
  formed = subst (All (AreArgumentsOf q)) (sym e) (All-push (AreArgumentsOf q) asked x h.formed formed);
  few = omega (arith, few, n, long);
  count = omega (arith, h.count, grown.count);
  named = record { all = all_now; only = only_now };
}
  where
    long : length more ≡ length asked + 1
    long = ap length e ∙ length_push asked x ∙ omega arith

    goals_now : map asked_by more ≡ map asked_by asked ++ asked_by x ∷ []
    goals_now = ap (map asked_by) e ∙ map-append asked_by asked (x ∷ [])

    all_now : (j v : ℕ) (a : Asked) → goal_at (map asked_by more) j ≡ Some a → IsIn v (variables_all a.goal.arguments) → Stands new v j
    all_now j v a f i = elim (goal_pushed (map asked_by asked) (asked_by x) a j (ap (λ gs. goal_at gs j) (sym goals_now) ∙ f)) [
      | inl g ↦ grown.stays v j (h.named.all j v a g i)
      | inr g ↦ (
          let is : j ≡ k = omega (arith, g.0, n, length-map asked asked_by) in
          subst (Stands new v) (sym is) (named v (subst (λ (b : Asked). IsIn v (variables_all b.goal.arguments)) (sym g.1) i)))
    ]

    one_of : (j : ℕ) → IsIn j (k ∷ []) → (1 ≤ j) × (j ≤ length (map asked_by more))
    one_of j (inl f) = (omega (arith, f, n), omega (arith, f, n, long, length-map more asked_by))
    one_of j (inr f) = absurd f

    only_now : (v j : ℕ) → Stands new v j → (1 ≤ j) × (j ≤ length (map asked_by more))
    only_now v j s = elim (grown.only v j s) [
      | inl t ↦ (let r = h.named.only v j t in (r.0, omega (arith, r.1, long, length-map asked asked_by, length-map more asked_by)))
      | inr i ↦ one_of j i
    ]

pub all_listed : (q : Query) (asked : List Annotated) (sets : List (List ℕ)) → AreListed q asked sets → (goals : map asked_by asked ≡ goals_in q) → AreNamed (goals_in q) sets
all_listed q asked sets h e = subst (λ gs. AreNamed gs sets) e h.named
