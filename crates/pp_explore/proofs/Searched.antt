-- How turns make up a search, and what is left of it.
use Rattle.std.proofs.Common.{◌≡◌, ◌<◌, ℕ, zero, suc, arith, get_or, All, List, [], ◌∷◌, ◌++◌, Option, Some, None, refl, ap, sym, ◌∙◌, subst, append_assoc}
use Rattle.pp_sld.specs.Goals.{Program}
use Rattle.pp_sld.specs.Trees.{Search}
use Rattle.pp_sld.specs.Trace.{Leaf}
use Rattle.pp_sld.specs.Verdicts.{Mode}
use Rattle.pp_sld.specs.Findings.{Finding}
use Rattle.pp_sld.specs.Works as works
use Rattle.pp_sld.specs.Works.{Level, Work, spent, at, places, split_levels, works_of, ComesAfter, IsLater}
use Rattle.pp_sld.specs.Reports.{HasWalked}
use Rattle.pp_sld.proofs.Trees.{tree}
use Rattle.pp_sld.proofs.LaterWorks.{split_is_later, later_through}
use Rattle.pp_walk.specs.Places.{Place}
use Rattle.pp_path.specs.declared.levels.Level.{Level as CodeLevel}
use Rattle.pp_path.specs.Works.{work_by}
use Rattle.pp_explore.specs.Standing.{StaysOver}
use Rattle.pp_explore.specs.Exploring.{add_leaves}
use Rattle.pp_explore.specs.Searching.{State, Keeps, HasSearched}
use Rattle.pp_explore.proofs.Added.{add_leaves-append}

-- ===== what is left is split

abbrev first_part : Option (Work × Work) → Work
first_part None = spent
first_part (Some p) = p.0

abbrev second_part : Option (Work × Work) → Work
second_part None = spent
second_part (Some p) = p.1

pub split_later : (w a b task : Work) → works.split w ≡ Some (a, b) → IsLater w task → IsLater a task × IsLater b task
split_later spent a b task e h = absurd (cc e)
split_later (at ls) a b spent e h = absurd h
split_later (at ls) a b (at js) e h = by_case (split_levels ls) refl
  where
    by_case : (o : Option (List Level × List Level)) → split_levels ls ≡ o → IsLater a (at js) × IsLater b (at js)
    by_case None f = absurd (cc (sym (ap works_of f) ∙ e))
    by_case (Some p) f =
        let s : works.split (at ls) ≡ Some (at p.0, at p.1) = ap works_of f in
        let g : Some (at p.0, at p.1) ≡ Some (a, b) = sym s ∙ e in
        let i : at p.0 ≡ a = ap first_part g in
        let j : at p.1 ≡ b = ap second_part g in
        let k = split_is_later ls p.0 p.1 s in (
          subst (λ x. IsLater x (at js)) i (subst (λ x. ComesAfter x (places js)) (sym k.0) h),
          subst (λ x. IsLater x (at js)) j (later_through (at p.1) (at ls) (at js) k.1 h),
        )

pub both_later : (ws : List (Option (List CodeLevel))) (a b : Option (List CodeLevel)) (task : Work) → ws ≡ a ∷ (b ∷ []) → IsLater (work_by a) task × IsLater (work_by b) task → All (λ w. IsLater (work_by w) task) ws
both_later ws a b task e h = subst (All (λ w. IsLater (work_by w) task)) (sym e) (λ k d lt. at_each k d lt)
  where
    at_each : (k : ℕ) (d : Option (List CodeLevel)) → k < 2 → IsLater (work_by (get_or (a ∷ (b ∷ [])) k d)) task
    at_each zero d lt = h.0
    at_each (suc zero) d lt = h.1
    at_each (suc (suc k)) d lt = absurd (omega (arith, lt))

module _ (clauses : Program) (m : Mode) where
  -- what leads on from where a search stands
  pub searched_more : (old : State) (p : Place) (ks : List ℕ) (w : Work) (f g : Finding) (ms : List Leaf) (rest : List Work) → StaysOver clauses old.place old.path p ks → HasSearched clauses m old (w ∷ []) f → g ≡ add_leaves m ms f → Keeps clauses p ks w ms rest → HasSearched clauses m old rest g
  searched_more old p ks w f g ms rest o h e k = (
    h.0 ++ ms,
    e ∙ (ap (add_leaves m ms) h.1 ∙ sym (add_leaves-append m h.0 ms old.finding)),
    λ root s task xs a.
        subst (λ y. HasWalked (tree clauses root) task y rest) (append_assoc xs h.0 ms) (k root (o root s) task (xs ++ h.0) (h.2 root s task xs a)),
  )

  pub searched_split : (old : State) (w : Work) (f : Finding) (rest : List Work) → HasSearched clauses m old (w ∷ []) f → ((t : Search) (task : Work) (xs : List Leaf) → HasWalked t task xs (w ∷ []) → HasWalked t task xs rest) → HasSearched clauses m old rest f
  searched_split old w f rest h k = (h.0, h.1, λ root s task xs a. k (tree clauses root) task (xs ++ h.0) (h.2 root s task xs a))
