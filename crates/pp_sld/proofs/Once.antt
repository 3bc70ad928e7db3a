-- A configuration has at most one search tree.
use Rattle.std.proofs.Common.{◌≡◌, ℕ, List, [], ◌∷◌, Option, refl, ap, sym, ◌∙◌, subst, inl, inr}
use Rattle.pp_algebra.specs.Terms.{Trees}
use Rattle.pp_algebra.specs.Rows.{Domain}
use Rattle.pp_sld.specs.Goals.{Shape, Goal, Program, Config, with_goals, shapes, row_of}
use Rattle.pp_sld.specs.Ways.{Way, Leads, IsDead}
use Rattle.pp_sld.specs.Trees.{Search, answer, loose, refused, passed, choice, Searches, no_more, child, failed, IsSearch, AreSearches}
use Rattle.pp_algebra.proofs.Law.{solved_once}

abbrev goal_of : {V : Type 0} → Shape → Trees V → Goal V
goal_of s ts = record { shape = s; arguments = ts }

same_goal : {V : Type 0} (g h : Goal V) → g.shape ≡ h.shape → g.arguments ≡ h.arguments → g ≡ h
same_goal g h e f = ap (λ s. goal_of s g.arguments) e ∙ ap (goal_of h.shape) f

same_goals : {V : Type 0} (gs hs : List (Goal V)) (ts us : Trees V) → with_goals gs ts ≡ with_goals hs us → shapes gs ≡ shapes hs → (gs ≡ hs) × (ts ≡ us)
same_goals [] [] ts us e s = (refl, e)
same_goals [] (h ∷ hs) ts us e s = absurd (cc)
same_goals (g ∷ gs) [] ts us e s = absurd (cc)
same_goals (g ∷ gs) (h ∷ hs) ts us e s =
    let r = same_goals gs hs ts us (cc) (cc) in
    (rw (same_goal g h (cc) (cc), r.0) refl, r.1)

abbrev config_of : List (Goal ℕ) → Trees ℕ → List (Option Domain) → ℕ → Config
config_of gs ts ds n = record { goals = gs; columns = ts; domains = ds; depth = n }

pub same_config : (c d : Config) → row_of c ≡ row_of d → shapes c.goals ≡ shapes d.goals → c.depth ≡ d.depth → c ≡ d
same_config c d e s n =
    let r = same_goals c.goals d.goals c.columns d.columns (ap (λ x. x.columns) e) s in
    ap (λ x. config_of x c.columns c.domains c.depth) r.0
    ∙ ap (λ x. config_of d.goals x c.domains c.depth) r.1
    ∙ ap (λ x. config_of d.goals d.columns x c.depth) (ap (λ x. x.domains) e)
    ∙ ap (config_of d.goals d.columns d.domains) n

pub leads_once : (w : Way) (d e : Config) → Leads w d → Leads w e → d ≡ e
leads_once w d e h k = same_config d e (solved_once _ _ _ _ h.solved k.solved) (h.goals ∙ sym k.goals) (h.depth ∙ sym k.depth)

pub leads_or_dead : (w : Way) (d : Config) → Leads w d → IsDead w → ⊥
leads_or_dead w d h k = k (row_of d) h.solved.row h.solved.meets

module _ (clauses : Program) where
  mutual
    pub once : (c : Config) (t u : Search) → IsSearch clauses c t → IsSearch clauses c u → t ≡ u
    once c (answer c1) (answer c2) h k = ap answer (sym h.1 ∙ k.1)
    once c (answer c1) (loose c2) h k = absurd (cc (h.0, k.0))
    once c (answer c1) refused h k = elim k [ inl e ↦ absurd (cc (e, h.0)) | inr a ↦ absurd (cc (a.1, h.0)) ]
    once c (answer c1) (passed u) h k = absurd (cc (h.0, k.1))
    once c (answer c1) (choice us) h k = absurd (cc (h.0, k.1))
    once c (loose c1) (answer c2) h k = absurd (cc (h.0, k.0))
    once c (loose c1) (loose c2) h k = ap loose (sym h.1 ∙ k.1)
    once c (loose c1) refused h k = elim k [ inl e ↦ absurd (cc (e, h.0)) | inr a ↦ absurd (cc (a.1, h.0)) ]
    once c (loose c1) (passed u) h k = absurd (cc (h.0, k.1))
    once c (loose c1) (choice us) h k = absurd (cc (h.0, k.1))
    once c refused (answer c2) h k = elim h [ inl e ↦ absurd (cc (e, k.0)) | inr a ↦ absurd (cc (a.1, k.0)) ]
    once c refused (loose c2) h k = elim h [ inl e ↦ absurd (cc (e, k.0)) | inr a ↦ absurd (cc (a.1, k.0)) ]
    once c refused refused h k = refl
    once c refused (passed u) h k = elim h [ inl e ↦ absurd (cc (e, k.1)) | inr a ↦ (let m : a.0 ≡ k.0 = cc (a.1, k.1) in absurd (leads_or_dead a.0 k.2 (subst (λ x. Leads x k.2) (sym m) k.3) a.2)) ]
    once c refused (choice us) h k = elim h [ inl e ↦ absurd (cc (e, k.1)) | inr a ↦ absurd (cc (a.1, k.1)) ]
    once c (passed t) (answer c2) h k = absurd (cc (h.1, k.0))
    once c (passed t) (loose c2) h k = absurd (cc (h.1, k.0))
    once c (passed t) refused h k = elim k [ inl e ↦ absurd (cc (e, h.1)) | inr a ↦ (let m : a.0 ≡ h.0 = cc (a.1, h.1) in absurd (leads_or_dead a.0 h.2 (subst (λ x. Leads x h.2) (sym m) h.3) a.2)) ]
    once c (passed t) (passed u) h k =
        let m : h.0 ≡ k.0 = cc (h.1, k.1) in
        let d : h.2 ≡ k.2 = leads_once h.0 h.2 k.2 h.3 (subst (λ x. Leads x k.2) (sym m) k.3) in
        ap passed (once h.2 t u h.4 (rw d k.4))
    once c (passed t) (choice us) h k = absurd (cc (h.1, k.1))
    once c (choice ts) (answer c2) h k = absurd (cc (h.1, k.0))
    once c (choice ts) (loose c2) h k = absurd (cc (h.1, k.0))
    once c (choice ts) refused h k = elim k [ inl e ↦ absurd (cc (e, h.1)) | inr a ↦ absurd (cc (a.1, h.1)) ]
    once c (choice ts) (passed u) h k = absurd (cc (h.1, k.1))
    once c (choice ts) (choice us) h k =
        let m : h.0 ≡ k.0 = cc (h.1, k.1) in
        ap choice (searches_once h.0 k.0 ts us m h.2 k.2)

    pub searches_once : (ws vs : List Way) (ts us : Searches) → ws ≡ vs → AreSearches clauses ws ts → AreSearches clauses vs us → ts ≡ us
    searches_once ws vs no_more no_more e h k = refl
    searches_once ws vs no_more (child u us) e h k = absurd (cc (h, k.2))
    searches_once ws vs no_more (failed us) e h k = absurd (cc (h, k.2))
    searches_once ws vs (child t ts) no_more e h k = absurd (cc (k, h.2))
    searches_once ws vs (child t ts) (child u us) e h k =
        let a : h.0 ≡ k.0 = cc (h.2, k.2) in
        let b : h.1 ≡ k.1 = cc (h.2, k.2) in
        let m : h.3 ≡ k.3 = leads_once h.0 h.3 k.3 h.4 (subst (λ x. Leads x k.3) (sym a) k.4) in
        rw (once h.3 t u h.5 (rw m k.5), searches_once h.1 k.1 ts us b h.6 k.6) refl
    searches_once ws vs (child t ts) (failed us) e h k =
        let a : h.0 ≡ k.0 = cc (h.2, k.2) in
        absurd (leads_or_dead h.0 h.3 h.4 (rw a k.3))
    searches_once ws vs (failed ts) no_more e h k = absurd (cc (k, h.2))
    searches_once ws vs (failed ts) (child u us) e h k =
        let a : h.0 ≡ k.0 = cc (h.2, k.2) in
        absurd (leads_or_dead k.0 k.3 k.4 (rw (← a) h.3))
    searches_once ws vs (failed ts) (failed us) e h k = ap failed (searches_once h.1 k.1 ts us (cc (h.2, k.2)) h.4 k.4)
