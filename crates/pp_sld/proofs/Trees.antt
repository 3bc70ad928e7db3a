-- The tree of each configuration, step by step.
use Rattle.std.proofs.Common.{◌≡◌, ℕ, zero, suc, ◌≤◌, List, [], ◌∷◌, ◌++◌, length, Some, refl, ap, subst, inl, inr, arith}
use Rattle.pp_sld.specs.Goals.{Program, Config}
use Rattle.pp_sld.specs.Ways.{Way, Leads, IsDead, finished, left_loose, fails, one, choices, next}
use Rattle.pp_sld.specs.Trees.{Search, answer, loose, refused, passed, choice, Searches, no_more, child, failed, IsSearch, AreSearches}
use Rattle.pp_sld.specs.Trace.{answers_with, loose_with, tried, ends, trace, trace_all}
use Rattle.pp_sld.specs.Laws.{HasOneSearch}
use Rattle.pp_sld.specs.Paths.{kids, skip}
use Rattle.std.specs.List.{slice_get}
use Rattle.pp_sld.proofs.Once.{once, leads_once, leads_or_dead}
use Rattle.pp_sld.proofs.Exists.{has_search}

module _ (clauses : Program) where
  abbrev pub tree : Config → Search
  tree c = (has_search clauses c).0

  pub tree-IsSearch : (c : Config) → IsSearch clauses c (tree c)
  tree-IsSearch c = (has_search clauses c).1

  pub tree_is : (c : Config) (t : Search) → IsSearch clauses c t → tree c ≡ t
  tree_is c t h = once clauses c (tree c) t (tree-IsSearch c) h

  pub finished_tree : (c : Config) → next clauses c ≡ finished → trace (tree c) ≡ ends (answers_with c) ∷ []
  finished_tree c e = ap trace (tree_is c (answer c) (e, refl))

  pub loose_tree : (c : Config) → next clauses c ≡ left_loose → trace (tree c) ≡ ends (loose_with c) ∷ []
  loose_tree c e = ap trace (tree_is c (loose c) (e, refl))

  pub fails_tree : (c : Config) → next clauses c ≡ fails → trace (tree c) ≡ tried ∷ []
  fails_tree c e = ap trace (tree_is c refused (inl e))

  pub dead_tree : (c : Config) (w : Way) → next clauses c ≡ one w → IsDead w → trace (tree c) ≡ tried ∷ []
  dead_tree c w e k = ap trace (tree_is c refused (inr (w, e, k)))

  pub went_tree : (c : Config) (w : Way) (d : Config) → next clauses c ≡ one w → Leads w d → trace (tree c) ≡ tried ∷ trace (tree d)
  went_tree c w d e l = ap trace (tree_is c (passed (tree d)) (w, e, d, l, tree-IsSearch d))

  searches_of : (c : Config) (ws : List Way) (t : Search) → next clauses c ≡ choices ws → IsSearch clauses c t → (t ≡ choice (kids t)) × AreSearches clauses ws (kids t)
  searches_of c ws (answer d) e h = absurd (cc (e, h.0))
  searches_of c ws (loose d) e h = absurd (cc (e, h.0))
  searches_of c ws refused e h = elim h [ inl f ↦ absurd (cc (e, f)) | inr a ↦ absurd (cc (e, a.1)) ]
  searches_of c ws (passed t) e h = absurd (cc (e, h.1))
  searches_of c ws (choice ts) e h = let m : h.0 ≡ ws = cc (e, h.1) in (refl, subst (λ x. AreSearches clauses x ts) m h.2)

  pub choice_tree : (c : Config) (ws : List Way) → next clauses c ≡ choices ws → (trace (tree c) ≡ trace_all (kids (tree c))) × AreSearches clauses ws (kids (tree c))
  choice_tree c ws e = let a = searches_of c ws (tree c) e (tree-IsSearch c) in (ap trace a.0, a.1)

  -- the first child of those that are left
  first_goes : (w : Way) (ws : List Way) (ts : Searches) (d : Config) → Leads w d → AreSearches clauses (w ∷ ws) ts → trace_all ts ≡ tried ∷ (trace (tree d) ++ trace_all (skip 1 ts))
  first_goes w ws no_more d l h = absurd (cc h)
  first_goes w ws (child t ts) d l h =
      let m : h.0 ≡ w = cc h.2 in
      let e : h.3 ≡ d = leads_once w h.3 d (subst (λ x. Leads x h.3) m h.4) l in
      rw (tree_is d t (subst (λ x. IsSearch clauses x t) e h.5)) refl
  first_goes w ws (failed ts) d l h = let m : h.0 ≡ w = cc h.2 in absurd (leads_or_dead w d l (subst IsDead m h.3))

  first_fails : (w : Way) (ws : List Way) (ts : Searches) → IsDead w → AreSearches clauses (w ∷ ws) ts → trace_all ts ≡ tried ∷ trace_all (skip 1 ts)
  first_fails w ws no_more k h = absurd (cc h)
  first_fails w ws (child t ts) k h = let m : h.0 ≡ w = cc h.2 in absurd (leads_or_dead w h.3 (subst (λ x. Leads x h.3) m h.4) k)
  first_fails w ws (failed ts) k h = refl

  pub goes_at : (ws : List Way) (ts : Searches) (k : ℕ) (w : Way) (d : Config) → slice_get ws k ≡ Some w → Leads w d → AreSearches clauses ws ts → trace_all (skip k ts) ≡ tried ∷ (trace (tree d) ++ trace_all (skip (suc k) ts))
  goes_at [] ts k w d a l h = absurd (cc a)
  goes_at (v ∷ vs) ts zero w d a l h = first_goes w vs ts d l (let e : v ≡ w = cc a in subst (λ x. AreSearches clauses (x ∷ vs) ts) e h)
  goes_at (v ∷ vs) no_more (suc k) w d a l h = absurd (cc h)
  goes_at (v ∷ vs) (child t ts) (suc k) w d a l h = goes_at vs ts k w d a l (let m : h.1 ≡ vs = cc h.2 in subst (λ x. AreSearches clauses x ts) m h.6)
  goes_at (v ∷ vs) (failed ts) (suc k) w d a l h = goes_at vs ts k w d a l (let m : h.1 ≡ vs = cc h.2 in subst (λ x. AreSearches clauses x ts) m h.4)

  pub fails_at : (ws : List Way) (ts : Searches) (k : ℕ) (w : Way) → slice_get ws k ≡ Some w → IsDead w → AreSearches clauses ws ts → trace_all (skip k ts) ≡ tried ∷ trace_all (skip (suc k) ts)
  fails_at [] ts k w a l h = absurd (cc a)
  fails_at (v ∷ vs) ts zero w a l h = first_fails w vs ts l (let e : v ≡ w = cc a in subst (λ x. AreSearches clauses (x ∷ vs) ts) e h)
  fails_at (v ∷ vs) no_more (suc k) w a l h = absurd (cc h)
  fails_at (v ∷ vs) (child t ts) (suc k) w a l h = fails_at vs ts k w a l (let m : h.1 ≡ vs = cc h.2 in subst (λ x. AreSearches clauses x ts) m h.6)
  fails_at (v ∷ vs) (failed ts) (suc k) w a l h = fails_at vs ts k w a l (let m : h.1 ≡ vs = cc h.2 in subst (λ x. AreSearches clauses x ts) m h.4)

  pub none_at_end : (ws : List Way) (ts : Searches) (k : ℕ) → length ws ≤ k → AreSearches clauses ws ts → trace_all (skip k ts) ≡ []
  none_at_end ws no_more zero l h = refl
  none_at_end ws no_more (suc k) l h = refl
  none_at_end ws (child t ts) zero l h = absurd (omega (arith, ap length h.2))
  none_at_end ws (child t ts) (suc k) l h = none_at_end h.1 ts k (omega (arith, ap length h.2)) h.6
  none_at_end ws (failed ts) zero l h = absurd (omega (arith, ap length h.2))
  none_at_end ws (failed ts) (suc k) l h = none_at_end h.1 ts k (omega (arith, ap length h.2)) h.4

pub one_search : HasOneSearch
one_search clauses c = (tree clauses c, tree-IsSearch clauses c, tree_is clauses c)
