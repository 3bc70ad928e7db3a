-- The first item, case by case.
use Rattle.std.proofs.Common.{◌≡◌, ℕ, ℤ, zero, suc, ◌<◌, true, false, Bool, List, [], ◌∷◌, ◌++◌, map, length, Option, Some, None, refl, ap, sym, ◌∙◌, subst, inl, inr, arith}
use Rattle.std.specs.Prelude.{cond, ◌||◌, nat_eq}
use Rattle.std.specs.FinSet as set
use Rattle.std.specs.Ordering.{int_eq}
use Rattle.pp_algebra.specs.Terms.{Tree, int, node, variable, Trees, put, put_all, variables, variables_all, count}
use Rattle.pp_algebra.specs.Rows.{Domain, Domains}
use Rattle.pp_algebra.specs.Covers.{MayGo, IsIn}
use Rattle.pp_algebra.specs.Canon.{has}
use Rattle.pp_algebra.specs.Solve.{Item, equation, membership, Holds}
use Rattle.pp_algebra.specs.Rows.{IsWide}
use Rattle.pp_algebra.specs.Solve.{put_item, equations}
use Rattle.pp_algebra.proofs.Put.{count-put_all}
use Rattle.pp_algebra.proofs.Bools.{int_same, int_is, nat_same, nat_is}
use Rattle.pp_algebra.proofs.Antisym.{IsIn-either}
use Rattle.pp_algebra.proofs.Order.{IsIn-left, IsIn-right}
use Rattle.pp_algebra.proofs.CanonLemmas.{IsSame}
use Rattle.pp_algebra.proofs.SetKinds.{Kind, no_member, one_member, more_members, kind, goes_to_one, goes_nowhere, goes_weaker, goes_both, in_left, in_right}
use Rattle.pp_algebra.proofs.Solution.{AllWide, Good, Result, nothing_left, same_step, single, with_domain, IsApart, eliminate}
use Rattle.pp_algebra.proofs.Eliminated.{variables_of, variables_of_items, IsAmong, Few, few-among, few-fewer, size_of, no_circle, equations-size, equations-variables, equations-hold, hold-equations, fewer}

pub swap : {V : Type 0} (ds : Domains V) (a c : Tree V) (is : List (Item V)) → Result ds (equation c a ∷ is) → Result ds (equation a c ∷ is)
swap ds a c is r = same_step ds ds (equation a c ∷ is) (equation c a ∷ is) (λ q b f. (f.0, (sym f.1.0, f.1.1))) (λ q b w f. (f.0, (sym f.1.0, f.1.1))) r

-- the set that is left of a domain
abbrev narrowed : Option Domain → Domain → Domain
narrowed None e = e
narrowed (Some d) e = set.intersection d e

narrowed-goes : (q : Domains ℕ) (o : Option Domain) (e : Domain) (t : Tree ℕ) → MayGo q o t → MayGo q (Some e) t → MayGo q (Some (narrowed o e)) t
narrowed-goes q None e t h k = k
narrowed-goes q (Some d) e t h k = goes_both q d e t h k

narrowed-old : (q : Domains ℕ) (o : Option Domain) (e : Domain) (t : Tree ℕ) → MayGo q (Some (narrowed o e)) t → MayGo q o t
narrowed-old q None e t h = tt
narrowed-old q (Some d) e t h = goes_weaker q (set.intersection d e) d t (in_left d e) h

narrowed-new : (q : Domains ℕ) (o : Option Domain) (e : Domain) (t : Tree ℕ) → MayGo q (Some (narrowed o e)) t → MayGo q (Some e) t
narrowed-new q None e t h = h
narrowed-new q (Some d) e t h = goes_weaker q (set.intersection d e) e t (in_right d e) h

module _ {V : Type 0} (same : V → V → Bool) (s : IsSame same) where
  has_in : (x : V) (vs : List V) → has same vs x ≡ true → IsIn x vs
  has_in x [] h = absurd (cc)
  has_in x (w ∷ vs) h = go (same w x) refl h (has_in x vs)
    where
      go : (c : Bool) → same w x ≡ c → (c || has same vs x) ≡ true → (has same vs x ≡ true → IsIn x vs) → IsIn x (w ∷ vs)
      go true e h later = inl (s.is w x e)
      go false e h later = inr (later h)

  not_has : (x : V) (vs : List V) → has same vs x ≡ false → (v : V) → IsIn v vs → same v x ≡ false
  not_has x [] h v i = absurd i
  not_has x (w ∷ vs) h v i = go (same w x) refl h i (λ g. not_has x vs g v)
    where
      go : (c : Bool) → same w x ≡ c → (c || has same vs x) ≡ false → IsIn v (w ∷ vs) → (has same vs x ≡ false → IsIn v vs → same v x ≡ false) → same v x ≡ false
      go true e h i later = absurd (cc)
      go false e h (inl f) later = subst (λ y. same y x ≡ false) f e
      go false e h (inr j) later = later h j

  -- one domain in place of another
  at_domain : (q : Domains ℕ) (x : V) (d : Option Domain) (ds : Domains V) (b : V → Tree ℕ) → Good q (with_domain same x d ds) b → MayGo q d (b x)
  at_domain q x d ds b g = subst (λ c. MayGo q (cond c d (ds x)) (b x)) (s.itself x) (g x)

  looser : (q : Domains ℕ) (x : V) (d : Option Domain) (ds : Domains V) (b : V → Tree ℕ) → ((t : Tree ℕ) → MayGo q d t → MayGo q (ds x) t) → Good q (with_domain same x d ds) b → Good q ds b
  looser q x d ds b h g v = go (same v x) refl (g v)
    where
      go : (c : Bool) → same v x ≡ c → MayGo q (cond c d (ds v)) (b v) → MayGo q (ds v) (b v)
      go true e k = subst (λ y. MayGo q (ds y) (b v)) (sym (s.is v x e)) (h (b v) k)
      go false e k = k

  tighter : (q : Domains ℕ) (x : V) (d : Option Domain) (ds : Domains V) (b : V → Tree ℕ) → Good q ds b → MayGo q d (b x) → Good q (with_domain same x d ds) b
  tighter q x d ds b g h v = go (same v x) refl
    where
      go : (c : Bool) → same v x ≡ c → MayGo q (cond c d (ds v)) (b v)
      go true e = subst (λ y. MayGo q d (b y)) (sym (s.is v x e)) h
      go false e = g v

  with-wide : (x : V) (d : Option Domain) (ds : Domains V) → IsWide d → AllWide ds → AllWide (with_domain same x d ds)
  with-wide x d ds h w v = elim (same v x) as (λ c. IsWide (cond c d (ds v))) [ true ↦ h | false ↦ w v ]

  -- items with fewer variables are solved
  abbrev pub Deeper : ℕ → Type 0
  Deeper k = (j : ℕ) → j < k → (ds : Domains V) (is : List (Item V)) → AllWide ds → Few j (variables_of_items is) → Result ds is

  -- smaller items with no more variables are solved
  abbrev pub Smaller : ℕ → ℕ → Type 0
  Smaller k n = (ds : Domains V) (is : List (Item V)) → size_of is < n → AllWide ds → Few k (variables_of_items is) → Result ds is

  gone : (k : ℕ) → Deeper k → (x : V) (t : Tree V) (ds es : Domains V) (i : Item V) (is : List (Item V))
      → AllWide es → IsApart same x t → IsIn x (variables_of i) → IsAmong (variables t) (variables_of i) → Few k (variables_of_items (i ∷ is))
      → ((q : Domains ℕ) (b : V → Tree ℕ) → Good q es b → MayGo q (es x) (put b t))
      → ((q : Domains ℕ) (b : V → Tree ℕ) → Good q es b → b x ≡ put b t → Good q ds b × Holds q b i)
      → ((q : Domains ℕ) (b : V → Tree ℕ) → AllWide q → Good q ds b → Holds q b i → (b x ≡ put b t) × Good q es b)
      → Result ds (i ∷ is)
  gone k deeper x t ds es i is w apart xi ti few goes back on =
      let f = fewer same s x t apart k (variables_of_items (i ∷ is)) is (IsIn-left x (variables_of i) (variables_of_items is) xi) (λ v j. IsIn-left v (variables_of i) (variables_of_items is) (ti v j)) (λ v j. IsIn-right v (variables_of i) (variables_of_items is) j) few in
      eliminate same s x t ds es i is apart goes back on (deeper f.0 f.1 es (map (put_item (single same x t)) is) w f.2)

  -- a variable of domain any
  free_gone : (k : ℕ) → Deeper k → (x : V) (t : Tree V) (ds : Domains V) (i : Item V) (is : List (Item V))
      → AllWide ds → ds x ≡ None → IsApart same x t → IsIn x (variables_of i) → IsAmong (variables t) (variables_of i) → Few k (variables_of_items (i ∷ is))
      → ((q : Domains ℕ) (b : V → Tree ℕ) → b x ≡ put b t → Holds q b i)
      → ((q : Domains ℕ) (b : V → Tree ℕ) → Holds q b i → b x ≡ put b t)
      → Result ds (i ∷ is)
  free_gone k deeper x t ds i is w e apart xi ti few back on =
      gone k deeper x t ds ds i is w apart xi ti few
      (λ q b g. subst (λ o. MayGo q o (put b t)) (sym e) tt)
      (λ q b g h. (g, back q b h))
      (λ q b n g h. (on q b h, g))

  pub to_int : (k : ℕ) → Deeper k → (x : V) (n : ℤ) (ds : Domains V) (is : List (Item V)) → AllWide ds → Few k (variables_of_items (equation (variable x) (int n) ∷ is)) → Result ds (equation (variable x) (int n) ∷ is)
  to_int k deeper x n ds is w few = go (ds x) refl
    where
      in_or_out : (d : Domain) → ds x ≡ Some d → (c : Bool) → set.contains d n ≡ c → Result ds (equation (variable x) (int n) ∷ is)
      in_or_out d e true m = gone k deeper x (int n) ds ds (equation (variable x) (int n)) is w (λ v i. absurd i) (inl refl) (λ v i. absurd i) few
          (λ q b g. subst (λ o. MayGo q o (int n)) (sym e) m)
          (λ q b g h. (g, h))
          (λ q b n g h. (h, g))
      in_or_out d e false m = inr (λ q b w f. let g : set.contains d n ≡ true = subst (λ t. MayGo q (Some d) t) f.1.0 (subst (λ o. MayGo q o (b x)) e (f.0 x)) in absurd (cc (g, m)))

      go : (o : Option Domain) → ds x ≡ o → Result ds (equation (variable x) (int n) ∷ is)
      go None e = free_gone k deeper x (int n) ds (equation (variable x) (int n)) is w e (λ v i. absurd i) (inl refl) (λ v i. absurd i) few (λ q b h. h) (λ q b h. h)
      go (Some d) e = in_or_out d e (set.contains d n) refl

  pub to_node : (k : ℕ) → Deeper k → (x : V) (f : ℕ) (ts : Trees V) (ds : Domains V) (is : List (Item V)) → AllWide ds → Few k (variables_of_items (equation (variable x) (node f ts) ∷ is)) → Result ds (equation (variable x) (node f ts) ∷ is)
  to_node k deeper x f ts ds is w few = go (ds x) refl
    where
      occurs : ds x ≡ None → (c : Bool) → has same (variables_all ts) x ≡ c → Result ds (equation (variable x) (node f ts) ∷ is)
      occurs e true h = inr (λ q b w g. no_circle b x f ts (has_in x (variables_all ts) h) g.1.0)
      occurs e false h = free_gone k deeper x (node f ts) ds (equation (variable x) (node f ts)) is w e (not_has x (variables_all ts) h) (inl refl) (λ v i. inr i) few (λ q b h. h) (λ q b h. h)

      go : (o : Option Domain) → ds x ≡ o → Result ds (equation (variable x) (node f ts) ∷ is)
      go None e = occurs e (has same (variables_all ts) x) refl
      go (Some d) e = inr (λ q b w g. subst (λ t. MayGo q (Some d) t) g.1.0 (subst (λ o. MayGo q o (b x)) e (g.0 x)))

  differ : (x y : V) → same x y ≡ false → same y x ≡ false
  differ x y d = go (same y x) refl
    where
      go : (c : Bool) → same y x ≡ c → same y x ≡ false
      go true g = let j : same x y ≡ true = subst (λ z. same x z ≡ true) (sym (s.is y x g)) (s.itself x) in absurd (cc (j, d))
      go false g = g

  distinct : (x y : V) → same x y ≡ false → IsApart same x (variable y)
  distinct x y d v (inl e) = subst (λ z. same z x ≡ false) e (differ x y d)
  distinct x y d v (inr i) = absurd i

  -- two variables of finite domains
  met : (k : ℕ) → Deeper k → (x y : V) (d e : Domain) (ds : Domains V) (is : List (Item V)) → same x y ≡ false → ds x ≡ Some d → ds y ≡ Some e → AllWide ds → Few k (variables_of_items (equation (variable x) (variable y) ∷ is)) → Result ds (equation (variable x) (variable y) ∷ is)
  met k deeper x y d e ds is apart dx dy w few = go (kind (set.intersection d e))
    where
      both : (q : Domains ℕ) (b : V → Tree ℕ) → Good q ds b → b x ≡ b y → MayGo q (Some (set.intersection d e)) (b y)
      both q b g h = goes_both q d e (b y) (subst (λ t. MayGo q (Some d) t) h (subst (λ o. MayGo q o (b x)) dx (g x))) (subst (λ o. MayGo q o (b y)) dy (g y))

      go : Kind (set.intersection d e) → Result ds (equation (variable x) (variable y) ∷ is)
      go (no_member h) = inr (λ q b n f. goes_nowhere q (set.intersection d e) (b y) n h (both q b f.0 f.1.0))
      go (one_member n c h) = same_step ds ds (equation (variable x) (variable y) ∷ is) (equation (variable x) (int n) ∷ (equation (variable y) (int n) ∷ is))
          (λ q b f. (f.0, (f.1.0 ∙ sym f.1.1.0, f.1.1.1)))
          (λ q b w f. let g = goes_to_one q (set.intersection d e) n (b y) w h (both q b f.0 f.1.0) in (f.0, (f.1.0 ∙ g, (g, f.1.1))))
          (to_int k deeper x n ds (equation (variable y) (int n) ∷ is) w few)
      go (more_members m) = gone k deeper x (variable y) ds (with_domain same y (Some (set.intersection d e)) ds) (equation (variable x) (variable y)) is (with-wide y (Some (set.intersection d e)) ds m w) (distinct x y apart) (inl refl) (λ v i. inr i) few
          (λ q b g. subst (λ o. MayGo q o (b y)) (sym (ap (λ c. cond c (Some (set.intersection d e)) (ds x)) apart ∙ dx)) (goes_weaker q (set.intersection d e) d (b y) (in_left d e) (at_domain q y (Some (set.intersection d e)) ds b g)))
          (λ q b g h. (looser q y (Some (set.intersection d e)) ds b (λ t j. subst (λ o. MayGo q o t) (sym dy) (goes_weaker q (set.intersection d e) e t (in_right d e) j)) g, h))
          (λ q b n g h. (h, tighter q y (Some (set.intersection d e)) ds b g (both q b g h)))

  pub to_variable : (k : ℕ) → Deeper k → (x y : V) (ds : Domains V) (is : List (Item V)) → Smaller k (size_of (equation (variable x) (variable y) ∷ is)) → AllWide ds → Few k (variables_of_items (equation (variable x) (variable y) ∷ is)) → Result ds (equation (variable x) (variable y) ∷ is)
  to_variable k deeper x y ds is smaller w few = go (same x y) refl
    where
      other : (o p : Option Domain) → ds x ≡ o → ds y ≡ p → same x y ≡ false → Result ds (equation (variable x) (variable y) ∷ is)
      other None p dx dy e = free_gone k deeper x (variable y) ds (equation (variable x) (variable y)) is w dx (distinct x y e) (inl refl) (λ v i. inr i) few (λ q b h. h) (λ q b h. h)
      other (Some d) None dx dy e = free_gone k deeper y (variable x) ds (equation (variable x) (variable y)) is w dy (distinct y x (differ x y e)) (inr (inl refl)) (λ v i. elim i [ inl f ↦ inl f | inr f ↦ absurd f ]) few (λ q b h. sym h) (λ q b h. sym h)
      other (Some d) (Some p) dx dy e = met k deeper x y d p ds is e dx dy w few

      go : (c : Bool) → same x y ≡ c → Result ds (equation (variable x) (variable y) ∷ is)
      go true e = same_step ds ds (equation (variable x) (variable y) ∷ is) is (λ q b f. (f.0, (ap b (s.is x y e), f.1))) (λ q b w f. (f.0, f.1.1))
          (smaller ds is (omega arith) w (few-among k (variables_of_items is) (variables_of_items (equation (variable x) (variable y) ∷ is)) (λ v i. inr (inr i)) few))
      go false e = other (ds x) (ds y) refl refl e

  pub in_set : (k : ℕ) → Deeper k → (x : V) (e : Domain) (ds : Domains V) (is : List (Item V)) → Smaller k (size_of (membership (variable x) e ∷ is)) → AllWide ds → Few k (variables_of_items (membership (variable x) e ∷ is)) → Result ds (membership (variable x) e ∷ is)
  in_set k deeper x e ds is smaller w few = go (kind (narrowed (ds x) e))
    where
      both : (q : Domains ℕ) (b : V → Tree ℕ) → Good q ds b → MayGo q (Some e) (b x) → MayGo q (Some (narrowed (ds x) e)) (b x)
      both q b g h = narrowed-goes q (ds x) e (b x) (g x) h

      go : Kind (narrowed (ds x) e) → Result ds (membership (variable x) e ∷ is)
      go (no_member h) = inr (λ q b n f. goes_nowhere q (narrowed (ds x) e) (b x) n h (both q b f.0 f.1.0))
      go (one_member n c h) = same_step ds ds (membership (variable x) e ∷ is) (equation (variable x) (int n) ∷ is)
          (λ q b f. (f.0, (subst (λ t. MayGo q (Some e) t) (sym f.1.0) (narrowed-new q (ds x) e (int n) c), f.1.1)))
          (λ q b w f. (f.0, (goes_to_one q (narrowed (ds x) e) n (b x) w h (both q b f.0 f.1.0), f.1.1)))
          (to_int k deeper x n ds is w few)
      go (more_members m) = same_step ds (with_domain same x (Some (narrowed (ds x) e)) ds) (membership (variable x) e ∷ is) is
          (λ q b f. (looser q x (Some (narrowed (ds x) e)) ds b (narrowed-old q (ds x) e) f.0, (narrowed-new q (ds x) e (b x) (at_domain q x (Some (narrowed (ds x) e)) ds b f.0), f.1)))
          (λ q b w f. (tighter q x (Some (narrowed (ds x) e)) ds b f.0 (both q b f.0 f.1.0), f.1.1))
          (smaller (with_domain same x (Some (narrowed (ds x) e)) ds) is (omega arith) (with-wide x (Some (narrowed (ds x) e)) ds m w) (few-among k (variables_of_items is) (variables_of_items (membership (variable x) e ∷ is)) (λ v i. inr i) few))

  -- two compounds
  pub to_arguments : (k f g : ℕ) (ts us : Trees V) (ds : Domains V) (is : List (Item V)) → Smaller k (size_of (equation (node f ts) (node g us) ∷ is)) → AllWide ds → Few k (variables_of_items (equation (node f ts) (node g us) ∷ is)) → Result ds (equation (node f ts) (node g us) ∷ is)
  to_arguments k f g ts us ds is smaller w few = go (nat_eq f g) (nat_eq (count ts) (count us)) refl refl
    where
      go : (c e : Bool) → nat_eq f g ≡ c → nat_eq (count ts) (count us) ≡ e → Result ds (equation (node f ts) (node g us) ∷ is)
      go false e h j = inr (λ q b w a. let i : f ≡ g = cc a.1.0 in let l : nat_eq f g ≡ true = ap (nat_eq f) (sym i) ∙ nat_same f in absurd (cc (l, h)))
      go true false h j = inr (λ q b w a.
          let i : put_all b ts ≡ put_all b us = cc a.1.0 in
          let m : count ts ≡ count us = sym (count-put_all b ts) ∙ ap count i ∙ count-put_all b us in
          let l : nat_eq (count ts) (count us) ≡ true = ap (nat_eq (count ts)) (sym m) ∙ nat_same (count ts) in
          absurd (cc (l, j)))
      go true true h j =
          let m : count ts ≡ count us = nat_is (count ts) (count us) j in
          same_step ds ds (equation (node f ts) (node g us) ∷ is) (equations ts us ++ is)
          (λ q b a. let r = hold-equations q b ts us is m a.1 in (a.0, (rw (nat_is f g h, r.0) refl, r.1)))
          (λ q b w a. (a.0, equations-hold q b ts us is m (cc a.1.0, a.1.1)))
          (smaller ds (equations ts us ++ is) (omega (arith, equations-size ts us is m)) w (few-among k (variables_of_items (equations ts us ++ is)) (variables_of_items (equation (node f ts) (node g us) ∷ is)) (equations-variables ts us is) few))

  same_int : (k : ℕ) (n m : ℤ) (ds : Domains V) (is : List (Item V)) → Smaller k (size_of (equation (int n) (int m) ∷ is)) → AllWide ds → Few k (variables_of_items is) → Result ds (equation (int n) (int m) ∷ is)
  same_int k n m ds is smaller w few = go (int_eq n m) refl
    where
      go : (c : Bool) → int_eq n m ≡ c → Result ds (equation (int n) (int m) ∷ is)
      go true e = same_step ds ds (equation (int n) (int m) ∷ is) is (λ q b f. (f.0, (ap int (int_is n m e), f.1))) (λ q b w f. (f.0, f.1.1)) (smaller ds is (omega arith) w few)
      go false e = inr (λ q b w f. let i : n ≡ m = cc f.1.0 in let j : int_eq n m ≡ true = ap (int_eq n) (sym i) ∙ int_same n in absurd (cc (j, e)))

  int_in_set : (k : ℕ) (n : ℤ) (d : Domain) (ds : Domains V) (is : List (Item V)) → Smaller k (size_of (membership (int n) d ∷ is)) → AllWide ds → Few k (variables_of_items is) → Result ds (membership (int n) d ∷ is)
  int_in_set k n d ds is smaller w few = go (set.contains d n) refl
    where
      go : (c : Bool) → set.contains d n ≡ c → Result ds (membership (int n) d ∷ is)
      go true e = same_step ds ds (membership (int n) d ∷ is) is (λ q b f. (f.0, (e, f.1))) (λ q b w f. (f.0, f.1.1)) (smaller ds is (omega arith) w few)
      go false e = inr (λ q b w f. absurd (cc (f.1.0, e)))

  few-swap : (k : ℕ) (a c : Tree V) (is : List (Item V)) → Few k (variables_of_items (equation a c ∷ is)) → Few k (variables_of_items (equation c a ∷ is))
  few-swap k a c is few = few-among k (variables_of_items (equation c a ∷ is)) (variables_of_items (equation a c ∷ is)) (λ v i. elim (IsIn-either v (variables c ++ variables a) (variables_of_items is) i) [
    | inl j ↦ IsIn-left v (variables a ++ variables c) (variables_of_items is) (elim (IsIn-either v (variables c) (variables a) j) [ inl l ↦ IsIn-right v (variables a) (variables c) l | inr l ↦ IsIn-left v (variables a) (variables c) l ])
    | inr j ↦ IsIn-right v (variables a ++ variables c) (variables_of_items is) j
  ]) few

  pub first : (k : ℕ) → Deeper k → (ds : Domains V) (is : List (Item V)) → Smaller k (size_of is) → AllWide ds → Few k (variables_of_items is) → Result ds is
  first k deeper ds [] smaller w few = nothing_left ds w
  first k deeper ds (equation (int n) (int m) ∷ is) smaller w few = same_int k n m ds is smaller w few
  first k deeper ds (equation (int n) (node g us) ∷ is) smaller w few = inr (λ q b w f. absurd (cc f.1.0))
  first k deeper ds (equation (int n) (variable y) ∷ is) smaller w few = swap ds (int n) (variable y) is (to_int k deeper y n ds is w few)
  first k deeper ds (equation (node f ts) (int m) ∷ is) smaller w few = inr (λ q b w f. absurd (cc f.1.0))
  first k deeper ds (equation (node f ts) (node g us) ∷ is) smaller w few = to_arguments k f g ts us ds is smaller w few
  first k deeper ds (equation (node f ts) (variable y) ∷ is) smaller w few = swap ds (node f ts) (variable y) is (to_node k deeper y f ts ds is w (few-swap k (node f ts) (variable y) is few))
  first k deeper ds (equation (variable x) (int m) ∷ is) smaller w few = to_int k deeper x m ds is w few
  first k deeper ds (equation (variable x) (node g us) ∷ is) smaller w few = to_node k deeper x g us ds is w few
  first k deeper ds (equation (variable x) (variable y) ∷ is) smaller w few = to_variable k deeper x y ds is smaller w few
  first k deeper ds (membership (int n) e ∷ is) smaller w few = int_in_set k n e ds is smaller w few
  first k deeper ds (membership (node f ts) e ∷ is) smaller w few = inr (λ q b w f. f.1.0)
  first k deeper ds (membership (variable x) e ∷ is) smaller w few = in_set k deeper x e ds is smaller w few

  by_size : (k : ℕ) → Deeper k → (n : ℕ) (ds : Domains V) (is : List (Item V)) → size_of is < n → AllWide ds → Few k (variables_of_items is) → Result ds is
  by_size k deeper zero ds is l w few = absurd (omega (arith, l))
  by_size k deeper (suc n) ds is l w few = first k deeper ds is (λ es js m. by_size k deeper n es js (omega (arith, l, m))) w few

  by_variables : (k : ℕ) (ds : Domains V) (is : List (Item V)) → AllWide ds → Few k (variables_of_items is) → Result ds is
  by_variables zero ds is w few = by_size zero (λ j l. absurd (omega (arith, l))) (suc (size_of is)) ds is (omega arith) w few
  by_variables (suc k) ds is w few = by_size (suc k) (λ j l es js v f. by_variables k es js v (few-fewer j k (variables_of_items js) (omega (arith, l)) f)) (suc (size_of is)) ds is (omega arith) w few

  -- solving ends
  pub solve_items : (ds : Domains V) (is : List (Item V)) → AllWide ds → Result ds is
  solve_items ds is w = by_variables (length (variables_of_items is)) ds is w (record { all = variables_of_items is; few = omega arith; among = λ v i. i })
