-- Where a path leads: the leaves there, one step further and back, and when a path misses.
use Rattle.std.proofs.Common.{◌≡◌, ℕ, zero, suc, List, [], ◌∷◌, ◌++◌, length, Option, Some, None, refl, ap, sym, ◌∙◌, subst, ◌⊎◌, inl, inr}
use Rattle.std.specs.List.{slice_get}
use Rattle.pp_sld.specs.Goals.{Program, Config}
use Rattle.pp_sld.specs.Ways.{Way, Leads, IsDead, finished, left_loose, fails, one, choices, next}
use Rattle.pp_sld.specs.Trees.{Search, answer, loose, refused, passed, choice, Searches, no_more, child, failed, IsSearch, AreSearches}
use Rattle.pp_sld.specs.Trace.{Leaf, answers_with, loose_with, leaves}
use Rattle.pp_sld.specs.Paths.{kids, skip, count_kids, of_first, at_path, ComesTo, FirstIs, PathComesTo}
use Rattle.pp_sld.specs.Reach.{Passes, Chosen, Reaches, Stands, Misses}
use Rattle.pp_sld.specs.LawsOfPaths.{ReachesLeaves, ReachesOnce, ReachesOrMisses, MissesLeaves, StandsAtRoot, StandsPastBuiltIn, StandsAtAlternative, StandsBack, StandsAtLeaves, StandsAtChoice, MissesAtDead, MissesNoPlace, MissesPastEnd}
use Rattle.pp_sld.proofs.Once.{leads_once, leads_or_dead}
use Rattle.pp_sld.proofs.Exists.{goes}
use Rattle.pp_sld.proofs.Trees.{tree, tree_is, tree-IsSearch, choice_tree}

module _ (clauses : Program) where
  pub kid_at : (ws : List Way) (ts : Searches) (k : ℕ) (w : Way) (d : Config) → slice_get ws k ≡ Some w → Leads w d → AreSearches clauses ws ts → (us : Searches) × (skip k ts ≡ child (tree clauses d) us)
  kid_at [] ts k w d a l h = absurd (cc a)
  kid_at (v ∷ vs) no_more zero w d a l h = absurd (cc h)
  kid_at (v ∷ vs) (child t ts) zero w d a l h =
      let m : h.0 ≡ w = cc (h.2, a) in
      let e : h.3 ≡ d = leads_once w h.3 d (subst (λ x. Leads x h.3) m h.4) l in
      (ts, ap (λ x. child x ts) (sym (tree_is clauses d t (subst (λ x. IsSearch clauses x t) e h.5))))
  kid_at (v ∷ vs) (failed ts) zero w d a l h = let m : h.0 ≡ w = cc (h.2, a) in absurd (leads_or_dead w d l (subst IsDead m h.3))
  kid_at (v ∷ vs) no_more (suc k) w d a l h = absurd (cc h)
  kid_at (v ∷ vs) (child t ts) (suc k) w d a l h = kid_at vs ts k w d a l (let m : h.1 ≡ vs = cc h.2 in subst (λ x. AreSearches clauses x ts) m h.6)
  kid_at (v ∷ vs) (failed ts) (suc k) w d a l h = kid_at vs ts k w d a l (let m : h.1 ≡ vs = cc h.2 in subst (λ x. AreSearches clauses x ts) m h.4)

  -- the kid of a chosen alternative
  kid_chosen : (b : Config) (k : ℕ) (e : Config) → Chosen clauses b k e → (us : Searches) × (skip k (kids (tree clauses b)) ≡ child (tree clauses e) us)
  kid_chosen b k e h = kid_at h.0 (kids (tree clauses b)) k h.2 e h.3 h.4 (choice_tree clauses b h.0 h.1).1

  -- ===== past built-ins

  passed_tree : (n : ℕ) (c d : Config) (p : Passes clauses (suc n) c d) → tree clauses c ≡ passed (tree clauses p.2)
  passed_tree n c d p = tree_is clauses c (passed (tree clauses p.2)) (p.0, p.1, p.2, p.3, tree-IsSearch clauses p.2)

  pub passes_kids : (n : ℕ) (c d : Config) → Passes clauses n c d → kids (tree clauses c) ≡ kids (tree clauses d)
  passes_kids zero c d p = ap (λ x. kids (tree clauses x)) p
  passes_kids (suc n) c d p = ap kids (passed_tree n c d p) ∙ passes_kids n p.2 d p.4

  passes_leaves : (n : ℕ) (c d : Config) → Passes clauses n c d → leaves (tree clauses c) ≡ leaves (tree clauses d)
  passes_leaves zero c d p = ap (λ x. leaves (tree clauses x)) p
  passes_leaves (suc n) c d p = ap leaves (passed_tree n c d p) ∙ passes_leaves n p.2 d p.4

  passes_comes : (n k : ℕ) (c d : Config) → Passes clauses n c d → ComesTo k (tree clauses d) → ComesTo k (tree clauses c)
  passes_comes zero k c d p h = subst (λ x. ComesTo k (tree clauses x)) (sym p) h
  passes_comes (suc n) k c d p h = subst (ComesTo k) (sym (passed_tree n c d p)) (passes_comes n k p.2 d p.4 h)

  passes_more : (n : ℕ) (c d : Config) (w : Way) (e : Config) → Passes clauses n c d → next clauses d ≡ one w → Leads w e → Passes clauses (suc n) c e
  passes_more zero c d w e p o l = (w, subst (λ x. next clauses x ≡ one w) (sym p) o, e, l, refl)
  passes_more (suc n) c d w e p o l = (p.0, p.1, p.2, p.3, passes_more n p.2 d w e p.4 o l)

  -- ===== the leaves where a path leads

  pub reaches_leaves : (ks : List ℕ) (c d : Config) → Reaches clauses c ks d → at_path ks (tree clauses c) ≡ leaves (tree clauses d)
  reaches_leaves [] c d r = ap (λ x. leaves (tree clauses x)) r
  reaches_leaves (k ∷ ks) c d r =
      ap (λ x. of_first (at_path ks) (skip k x)) (passes_kids r.0 c r.1 r.2) ∙ ap (of_first (at_path ks)) (kid_chosen r.1 k r.3 r.4).1 ∙ reaches_leaves ks r.3 d r.5

  pub stands_leaves : (c : Config) (ks : List ℕ) (e : Config) → Stands clauses c ks e → at_path ks (tree clauses c) ≡ leaves (tree clauses e)
  stands_leaves c ks e s = reaches_leaves ks c s.0 s.2 ∙ passes_leaves s.1 s.0 e s.3

  pub stands_answer : (c : Config) (ks : List ℕ) (e : Config) → Stands clauses c ks e → next clauses e ≡ finished → at_path ks (tree clauses c) ≡ answers_with e ∷ []
  stands_answer c ks e s o = stands_leaves c ks e s ∙ ap leaves (tree_is clauses e (answer e) (o, refl))

  pub stands_loose : (c : Config) (ks : List ℕ) (e : Config) → Stands clauses c ks e → next clauses e ≡ left_loose → at_path ks (tree clauses c) ≡ loose_with e ∷ []
  stands_loose c ks e s o = stands_leaves c ks e s ∙ ap leaves (tree_is clauses e (loose e) (o, refl))

  pub stands_fails : (c : Config) (ks : List ℕ) (e : Config) → Stands clauses c ks e → next clauses e ≡ fails → at_path ks (tree clauses c) ≡ []
  stands_fails c ks e s o = stands_leaves c ks e s ∙ ap leaves (tree_is clauses e refused (inl o))

  pub stands_dead : (c : Config) (ks : List ℕ) (e : Config) (w : Way) → Stands clauses c ks e → next clauses e ≡ one w → IsDead w → at_path ks (tree clauses c) ≡ []
  stands_dead c ks e w s o k = stands_leaves c ks e s ∙ ap leaves (tree_is clauses e refused (inr (w, o, k)))

  -- ===== one step further

  pub stands_root : (c : Config) → Stands clauses c [] c
  stands_root c = (c, 0, refl, refl)

  -- a built-in was performed
  pub stands_went : (c : Config) (ks : List ℕ) (e : Config) (w : Way) (f : Config) → Stands clauses c ks e → next clauses e ≡ one w → Leads w f → Stands clauses c ks f
  stands_went c ks e w f s o l = (s.0, suc s.1, s.2, passes_more s.1 s.0 e w f s.3 o l)

  reaches_more : (ks : List ℕ) (c d : Config) (n : ℕ) (b : Config) (k : ℕ) (e : Config) → Reaches clauses c ks d → Passes clauses n d b → Chosen clauses b k e → Reaches clauses c (ks ++ k ∷ []) e
  reaches_more [] c d n b k e r p h = (n, b, subst (λ x. Passes clauses n x b) (sym r) p, e, h, refl)
  reaches_more (j ∷ ks) c d n b k e r p h = (r.0, r.1, r.2, r.3, r.4, reaches_more ks r.3 d n b k e r.5 p h)

  -- an alternative was taken
  pub stands_chose : (c : Config) (ks : List ℕ) (b : Config) (k : ℕ) (e : Config) → Stands clauses c ks b → Chosen clauses b k e → Stands clauses c (ks ++ k ∷ []) e
  stands_chose c ks b k e s h = (e, 0, reaches_more ks c s.0 s.1 b k e s.2 s.3 h, refl)

  -- ===== and back

  reaches_prefix : (ks : List ℕ) (k : ℕ) (c e : Config) → Reaches clauses c (ks ++ k ∷ []) e → (b : Config) × Stands clauses c ks b × Chosen clauses b k e
  reaches_prefix [] k c e r = (r.1, (c, r.0, refl, r.2), subst (Chosen clauses r.1 k) r.5 r.4)
  reaches_prefix (j ∷ ks) k c e r =
      let q = reaches_prefix ks k r.3 e r.5 in
      (q.0, (q.1.0, q.1.1, (r.0, r.1, r.2, r.3, r.4, q.1.2), q.1.3), q.2)

  -- the choice last taken, and where it led
  pub stands_prefix : (c : Config) (ks : List ℕ) (k : ℕ) (e : Config) → Stands clauses c (ks ++ k ∷ []) e → (b : Config) × (d : Config) × (n : ℕ) × Stands clauses c ks b × Chosen clauses b k d × Passes clauses n d e
  stands_prefix c ks k e s = let q = reaches_prefix ks k c s.0 s.2 in (q.0, s.0, s.1, q.1, q.2, s.3)

  -- ===== a choice of so many alternatives

  count_all : (ts : Searches) (ws : List Way) → AreSearches clauses ws ts → count_kids ts ≡ length ws
  count_all no_more ws h = sym (ap length h)
  count_all (child t ts) ws h = ap suc (count_all ts h.1 h.6) ∙ sym (ap length h.2)
  count_all (failed ts) ws h = ap suc (count_all ts h.1 h.4) ∙ sym (ap length h.2)

  comes : (c : Config) (ws : List Way) (t : Search) → next clauses c ≡ choices ws → IsSearch clauses c t → ComesTo (length ws) t
  comes c ws (answer d) e h = absurd (cc (e, h.0))
  comes c ws (loose d) e h = absurd (cc (e, h.0))
  comes c ws refused e h = elim h [ inl f ↦ absurd (cc (e, f)) | inr a ↦ absurd (cc (e, a.1)) ]
  comes c ws (passed t) e h = absurd (cc (e, h.1))
  comes c ws (choice ts) e h = let m : h.0 ≡ ws = cc (e, h.1) in count_all ts ws (subst (λ x. AreSearches clauses x ts) m h.2)

  path_comes : (ks : List ℕ) (c d : Config) (n : ℕ) → Reaches clauses c ks d → ComesTo n (tree clauses d) → PathComesTo n ks (tree clauses c)
  path_comes [] c d n r h = subst (λ x. ComesTo n (tree clauses x)) (sym r) h
  path_comes (k ∷ ks) c d n r h =
      subst (FirstIs (PathComesTo n ks)) (sym (ap (skip k) (passes_kids r.0 c r.1 r.2) ∙ (kid_chosen r.1 k r.3 r.4).1)) (path_comes ks r.3 d n r.5 h)

  pub stands_choice : (c : Config) (ks : List ℕ) (b : Config) (ws : List Way) → Stands clauses c ks b → next clauses b ≡ choices ws → PathComesTo (length ws) ks (tree clauses c)
  stands_choice c ks b ws s o = path_comes ks c s.0 (length ws) s.2 (passes_comes s.1 (length ws) s.0 b s.3 (comes b ws (tree clauses b) o (tree-IsSearch clauses b)))

  -- ===== one place, or none

  -- a configuration goes past its built-ins in one way, to where no built-in is performed
  passes_once : (n m : ℕ) (c b e : Config) (vs ws : List Way) → Passes clauses n c b → Passes clauses m c e → next clauses b ≡ choices vs → next clauses e ≡ choices ws → b ≡ e
  passes_once zero zero c b e vs ws p q o u = sym p ∙ q
  passes_once zero (suc m) c b e vs ws p q o u = absurd (cc (subst (λ x. next clauses x ≡ choices vs) (sym p) o, q.1))
  passes_once (suc n) zero c b e vs ws p q o u = absurd (cc (subst (λ x. next clauses x ≡ choices ws) (sym q) u, p.1))
  passes_once (suc n) (suc m) c b e vs ws p q o u =
      let w : q.0 ≡ p.0 = cc (p.1, q.1) in
      let d : q.2 ≡ p.2 = leads_once p.0 q.2 p.2 (subst (λ x. Leads x q.2) w q.3) p.3 in
      passes_once n m p.2 b e vs ws p.4 (subst (λ x. Passes clauses m x e) d q.4) o u

  chosen_once : (b : Config) (k : ℕ) (d e : Config) → Chosen clauses b k d → Chosen clauses b k e → d ≡ e
  chosen_once b k d e h i =
      let ws : i.0 ≡ h.0 = cc (h.1, i.1) in
      let a : slice_get h.0 k ≡ Some i.2 = subst (λ x. slice_get x k ≡ Some i.2) ws i.3 in
      let w : i.2 ≡ h.2 = cc (a, h.3) in
      leads_once h.2 d e h.4 (subst (λ x. Leads x e) w i.4)

  pub reaches_once : (ks : List ℕ) (c d e : Config) → Reaches clauses c ks d → Reaches clauses c ks e → d ≡ e
  reaches_once [] c d e r s = sym r ∙ s
  reaches_once (k ∷ ks) c d e r s =
      let b : s.1 ≡ r.1 = sym (passes_once r.0 s.0 c r.1 s.1 r.4.0 s.4.0 r.2 s.2 r.4.1 s.4.1) in
      let f : s.3 ≡ r.3 = chosen_once r.1 k s.3 r.3 (subst (λ x. Chosen clauses x k s.3) b s.4) r.4 in
      reaches_once ks r.3 d e r.5 (subst (λ x. Reaches clauses x ks e) f s.5)

  -- a tree comes to a choice, or there is none
  abbrev ComesOrNot : Search → Config → Type 0
  ComesOrNot t c =
      ((n : ℕ) × (b : Config) × (ws : List Way) × Passes clauses n c b × (next clauses b ≡ choices ws))
      ⊎ ((kids t ≡ no_more) × ((n : ℕ) (b : Config) (ws : List Way) → Passes clauses n c b → next clauses b ≡ choices ws → ⊥))

  ends_here : (c : Config) → ((w : Way) → next clauses c ≡ one w → (d : Config) → Leads w d → ⊥) → ((ws : List Way) → next clauses c ≡ choices ws → ⊥) → (n : ℕ) (b : Config) (ws : List Way) → Passes clauses n c b → next clauses b ≡ choices ws → ⊥
  ends_here c h k zero b ws p o = k ws (subst (λ x. next clauses x ≡ choices ws) (sym p) o)
  ends_here c h k (suc n) b ws p o = h p.0 p.1 p.2 p.3

  refused_ends : (c : Config) → IsSearch clauses c refused → (n : ℕ) (b : Config) (ws : List Way) → Passes clauses n c b → next clauses b ≡ choices ws → ⊥
  refused_ends c (inl e) = ends_here c (λ w o d l. absurd (cc (e, o))) (λ ws o. absurd (cc (e, o)))
  refused_ends c (inr a) = ends_here c (λ w o d l. let m : w ≡ a.0 = cc (o, a.1) in leads_or_dead a.0 d (subst (λ x. Leads x d) m l) a.2) (λ ws o. absurd (cc (a.1, o)))

  passes_on : (t : Search) (c d : Config) (w : Way) → next clauses c ≡ one w → Leads w d → ComesOrNot t d → ComesOrNot (passed t) c
  passes_on t c d w o l (inl h) = inl (suc h.0, h.1, h.2, (w, o, d, l, h.3), h.4)
  passes_on t c d w o l (inr h) = inr (h.0, go)
    where
      go : (n : ℕ) (b : Config) (ws : List Way) → Passes clauses n c b → next clauses b ≡ choices ws → ⊥
      go zero b ws p u = absurd (cc (o, subst (λ x. next clauses x ≡ choices ws) (sym p) u))
      go (suc n) b ws p u =
          let m : p.0 ≡ w = cc (p.1, o) in
          let e : p.2 ≡ d = leads_once w p.2 d (subst (λ x. Leads x p.2) m p.3) l in
          h.1 n b ws (subst (λ x. Passes clauses n x b) e p.4) u

  comes_or_not : (t : Search) (c : Config) → IsSearch clauses c t → ComesOrNot t c
  comes_or_not (answer x) c h = inr (refl, ends_here c (λ w o d l. absurd (cc (h.0, o))) (λ ws o. absurd (cc (h.0, o))))
  comes_or_not (loose x) c h = inr (refl, ends_here c (λ w o d l. absurd (cc (h.0, o))) (λ ws o. absurd (cc (h.0, o))))
  comes_or_not refused c h = inr (refl, refused_ends c h)
  comes_or_not (passed t) c h = passes_on t c h.2 h.0 h.1 h.3 (comes_or_not t h.2 h.4)
  comes_or_not (choice ts) c h = inl (0, c, h.0, refl, h.1)

  -- ===== where there is nothing

  skip_none : (k : ℕ) → skip k no_more ≡ no_more
  skip_none zero = refl
  skip_none (suc k) = refl

  none_dead : (f : Search → List Leaf) (ws : List Way) (ts : Searches) (k : ℕ) (w : Way) → slice_get ws k ≡ Some w → IsDead w → AreSearches clauses ws ts → of_first f (skip k ts) ≡ []
  none_dead f [] ts k w a l h = absurd (cc a)
  none_dead f (v ∷ vs) no_more zero w a l h = absurd (cc h)
  none_dead f (v ∷ vs) (child t ts) zero w a l h = let m : h.0 ≡ w = cc (h.2, a) in absurd (leads_or_dead w h.3 (subst (λ x. Leads x h.3) m h.4) l)
  none_dead f (v ∷ vs) (failed ts) zero w a l h = refl
  none_dead f (v ∷ vs) no_more (suc k) w a l h = absurd (cc h)
  none_dead f (v ∷ vs) (child t ts) (suc k) w a l h = none_dead f vs ts k w a l (let m : h.1 ≡ vs = cc h.2 in subst (λ x. AreSearches clauses x ts) m h.6)
  none_dead f (v ∷ vs) (failed ts) (suc k) w a l h = none_dead f vs ts k w a l (let m : h.1 ≡ vs = cc h.2 in subst (λ x. AreSearches clauses x ts) m h.4)

  none_past : (f : Search → List Leaf) (ws : List Way) (ts : Searches) (k : ℕ) → slice_get ws k ≡ None → AreSearches clauses ws ts → of_first f (skip k ts) ≡ []
  none_past f ws no_more k a h = ap (of_first f) (skip_none k)
  none_past f ws (child t ts) zero a h = absurd (cc (h.2, a))
  none_past f ws (child t ts) (suc k) a h = none_past f h.1 ts k (subst (λ x. slice_get x (suc k) ≡ None) h.2 a) h.6
  none_past f ws (failed ts) zero a h = absurd (cc (h.2, a))
  none_past f ws (failed ts) (suc k) a h = none_past f h.1 ts k (subst (λ x. slice_get x (suc k) ≡ None) h.2 a) h.4

  -- ===== a path leads somewhere or misses

  abbrev LeadsOrMisses : List ℕ → Config → Type 0
  LeadsOrMisses ks c = ((d : Config) × Reaches clauses c ks d) ⊎ (Misses clauses c ks × (at_path ks (tree clauses c) ≡ []))

  module _ (k : ℕ) (ks : List ℕ) (c : Config) (n : ℕ) (b : Config) (ws : List Way) (p : Passes clauses n c b) (o : next clauses b ≡ choices ws) where
    -- each way to the choice is this one
    abbrev Taken : Config → Type 0
    Taken d = (w : Way) × (slice_get ws k ≡ Some w) × (e : Config) × Leads w e × Reaches clauses e ks d

    taken : (d : Config) → Reaches clauses c (k ∷ ks) d → Taken d
    taken d r =
        let e : r.1 ≡ b = passes_once r.0 n c r.1 b r.4.0 ws r.2 p r.4.1 o in
        let f : r.4.0 ≡ ws = cc (r.4.1, subst (λ x. next clauses x ≡ choices ws) (sym e) o) in
        (r.4.2, subst (λ x. slice_get x k ≡ Some r.4.2) f r.4.3, r.3, r.4.4, r.5)

    at_kids : at_path (k ∷ ks) (tree clauses c) ≡ of_first (at_path ks) (skip k (kids (tree clauses b)))
    at_kids = ap (λ x. of_first (at_path ks) (skip k x)) (passes_kids n c b p)

    abbrev are : AreSearches clauses ws (kids (tree clauses b))
    are = (choice_tree clauses b ws o).1

    not_there : slice_get ws k ≡ None → LeadsOrMisses (k ∷ ks) c
    not_there a = inr ((λ d r. let t = taken d r in absurd (cc (t.1, a))), at_kids ∙ none_past (at_path ks) ws (kids (tree clauses b)) k a are)

    is_dead : (w : Way) → slice_get ws k ≡ Some w → IsDead w → LeadsOrMisses (k ∷ ks) c
    is_dead w a i = inr (
      (λ d r. let t = taken d r in let m : t.0 ≡ w = cc (t.1, a) in leads_or_dead w t.2 (subst (λ x. Leads x t.2) m t.3) i),
      at_kids ∙ none_dead (at_path ks) ws (kids (tree clauses b)) k w a i are,
    )

    goes_on : (w : Way) (e : Config) → slice_get ws k ≡ Some w → Leads w e → LeadsOrMisses ks e → LeadsOrMisses (k ∷ ks) c
    goes_on w e a l (inl h) = inl (h.0, (n, b, p, e, (ws, o, w, a, l), h.1))
    goes_on w e a l (inr h) = inr (
      (λ d r.
          let t = taken d r in
          let m : t.0 ≡ w = cc (t.1, a) in
          let f : t.2 ≡ e = leads_once w t.2 e (subst (λ x. Leads x t.2) m t.3) l in
          h.0 d (subst (λ x. Reaches clauses x ks d) f t.4)),
      at_kids ∙ ap (of_first (at_path ks)) (kid_at ws (kids (tree clauses b)) k w e a l are).1 ∙ h.1,
    )

    by_way : (x : Option Way) → slice_get ws k ≡ x → ((e : Config) → LeadsOrMisses ks e) → LeadsOrMisses (k ∷ ks) c
    by_way None a h = not_there a
    by_way (Some w) a h = elim (goes w) [ inl g ↦ goes_on w g.0 a g.1 (h g.0) | inr i ↦ is_dead w a i ]

  leads_or_misses : (ks : List ℕ) (c : Config) → LeadsOrMisses ks c
  leads_or_misses [] c = inl (c, refl)
  leads_or_misses (k ∷ ks) c = elim (comes_or_not (tree clauses c) c (tree-IsSearch clauses c)) [
    | inl h ↦ by_way k ks c h.0 h.1 h.2 h.3 h.4 (slice_get h.2 k) refl (leads_or_misses ks)
    | inr h ↦ inr ((λ d r. h.1 r.0 r.1 r.4.0 r.2 r.4.1), ap (λ x. of_first (at_path ks) (skip k x)) h.0 ∙ ap (of_first (at_path ks)) (skip_none k))
  ]

  -- ===== a path that goes on from where its beginning stands

  reaches_split : (ks js : List ℕ) (c x : Config) → Reaches clauses c (ks ++ js) x → (d : Config) × Reaches clauses c ks d × Reaches clauses d js x
  reaches_split [] js c x r = (c, refl, r)
  reaches_split (k ∷ ks) js c x r = let q = reaches_split ks js r.3 x r.5 in (q.0, (r.0, r.1, r.2, r.3, r.4, q.1), q.2)

  -- what is passed behind a point on the way to the choice
  passes_rest : (m n : ℕ) (d b e : Config) (ws : List Way) → Passes clauses m d b → Passes clauses n d e → next clauses e ≡ choices ws → (j : ℕ) × Passes clauses j b e
  passes_rest zero n d b e ws p q o = (n, subst (λ x. Passes clauses n x e) p q)
  passes_rest (suc m) zero d b e ws p q o = absurd (cc (p.1, subst (λ x. next clauses x ≡ choices ws) (sym q) o))
  passes_rest (suc m) (suc n) d b e ws p q o =
      let w : q.0 ≡ p.0 = cc (p.1, q.1) in
      let f : q.2 ≡ p.2 = leads_once p.0 q.2 p.2 (subst (λ x. Leads x q.2) w q.3) p.3 in
      passes_rest m n p.2 b e ws p.4 (subst (λ x. Passes clauses n x e) f q.4) o

  -- no alternative k is reached from here
  abbrev pub HasNo : Config → ℕ → Type 0
  HasNo b k = (n : ℕ) (e d : Config) → Passes clauses n b e → Chosen clauses e k d → ⊥

  pub misses_inside : (c : Config) (ks : List ℕ) (b : Config) (k : ℕ) (js : List ℕ) → Stands clauses c ks b → HasNo b k → Misses clauses c (ks ++ k ∷ js)
  misses_inside c ks b k js s h x r =
      let q = reaches_split ks (k ∷ js) c x r in
      let d : q.0 ≡ s.0 = reaches_once ks c q.0 s.0 q.1 s.2 in
      let i = q.2 in
      let j = passes_rest s.1 i.0 s.0 b i.1 i.4.0 s.3 (subst (λ y. Passes clauses i.0 y i.1) d i.2) i.4.1 in
      h j.0 i.1 i.3 j.1 i.4

  -- an alternative that fails or isn't there
  has_no_dead : (b : Config) (ws : List Way) (k : ℕ) (w : Way) → next clauses b ≡ choices ws → slice_get ws k ≡ Some w → IsDead w → HasNo b k
  has_no_dead b ws k w o a i zero e d p h =
      let f : h.0 ≡ ws = cc (h.1, subst (λ x. next clauses x ≡ choices ws) p o) in
      let g : slice_get ws k ≡ Some h.2 = subst (λ x. slice_get x k ≡ Some h.2) f h.3 in
      let m : h.2 ≡ w = cc (g, a) in
      leads_or_dead w d (subst (λ x. Leads x d) m h.4) i
  has_no_dead b ws k w o a i (suc n) e d p h = absurd (cc (o, p.1))

  has_no_place : (b : Config) (ws : List Way) (k : ℕ) → next clauses b ≡ choices ws → slice_get ws k ≡ None → HasNo b k
  has_no_place b ws k o a zero e d p h =
      let f : h.0 ≡ ws = cc (h.1, subst (λ x. next clauses x ≡ choices ws) p o) in
      absurd (cc (subst (λ x. slice_get x k ≡ Some h.2) f h.3, a))
  has_no_place b ws k o a (suc n) e d p h = absurd (cc (o, p.1))

  -- the end of a branch has no alternative
  has_no_end : (b : Config) (k : ℕ) → ((n : ℕ) (e : Config) (ws : List Way) → Passes clauses n b e → next clauses e ≡ choices ws → ⊥) → HasNo b k
  has_no_end b k h n e d p i = h n e i.0 p i.1

  ends_answer : (b : Config) (k : ℕ) → next clauses b ≡ finished → HasNo b k
  ends_answer b k e = has_no_end b k (ends_here b (λ w o d l. absurd (cc (e, o))) (λ ws o. absurd (cc (e, o))))

  ends_loose : (b : Config) (k : ℕ) → next clauses b ≡ left_loose → HasNo b k
  ends_loose b k e = has_no_end b k (ends_here b (λ w o d l. absurd (cc (e, o))) (λ ws o. absurd (cc (e, o))))

  ends_fails : (b : Config) (k : ℕ) → next clauses b ≡ fails → HasNo b k
  ends_fails b k e = has_no_end b k (refused_ends b (inl e))

  ends_dead : (b : Config) (k : ℕ) (w : Way) → next clauses b ≡ one w → IsDead w → HasNo b k
  ends_dead b k w e i = has_no_end b k (refused_ends b (inr (w, e, i)))

pub path_reaches_leaves : ReachesLeaves
path_reaches_leaves clauses c d ks t u r h k = ap (at_path ks) (sym (tree_is clauses c t h)) ∙ reaches_leaves clauses ks c d r ∙ ap leaves (tree_is clauses d u k)

pub path_reaches_once : ReachesOnce
path_reaches_once clauses c d e ks r s = reaches_once clauses ks c d e r s

pub path_reaches_or_misses : ReachesOrMisses
path_reaches_or_misses clauses c ks = elim (leads_or_misses clauses ks c) [ inl h ↦ inl h | inr h ↦ inr h.0 ]

pub path_misses_leaves : MissesLeaves
path_misses_leaves clauses c ks t m h = elim (leads_or_misses clauses ks c) [
  | inl r ↦ absurd (m r.0 r.1)
  | inr r ↦ ap (at_path ks) (sym (tree_is clauses c t h)) ∙ r.1
]

pub root_stands : StandsAtRoot
root_stands clauses c = stands_root clauses c

pub went_stands : StandsPastBuiltIn
went_stands clauses c ks b w d s o l = stands_went clauses c ks b w d s o l

pub chose_stands : StandsAtAlternative
chose_stands clauses c ks b k d s h = stands_chose clauses c ks b k d s h

pub back_stands : StandsBack
back_stands clauses c ks k e s = stands_prefix clauses c ks k e s

pub stands_at_leaves : StandsAtLeaves
stands_at_leaves clauses c ks b t u s h k = ap (at_path ks) (sym (tree_is clauses c t h)) ∙ stands_leaves clauses c ks b s ∙ ap leaves (tree_is clauses b u k)

pub stands_at_choice : StandsAtChoice
stands_at_choice clauses c ks b ws t s o h = subst (PathComesTo (length ws) ks) (tree_is clauses c t h) (stands_choice clauses c ks b ws s o)

pub misses_dead : MissesAtDead
misses_dead clauses c ks b ws k w js s o a i = misses_inside clauses c ks b k js s (has_no_dead clauses b ws k w o a i)

pub misses_place : MissesNoPlace
misses_place clauses c ks b ws k js s o a = misses_inside clauses c ks b k js s (has_no_place clauses b ws k o a)

pub misses_end : MissesPastEnd
misses_end clauses c ks b k js s (inl o) = misses_inside clauses c ks b k js s (ends_answer clauses b k o)
misses_end clauses c ks b k js s (inr (inl o)) = misses_inside clauses c ks b k js s (ends_loose clauses b k o)
misses_end clauses c ks b k js s (inr (inr (inl o))) = misses_inside clauses c ks b k js s (ends_fails clauses b k o)
misses_end clauses c ks b k js s (inr (inr (inr o))) = misses_inside clauses c ks b k js s (ends_dead clauses b k o.0 o.1 o.2)
