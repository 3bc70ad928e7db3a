-- What a search of a work finds is right.
use Rattle.std.proofs.Common.{◌≡◌, ℕ, true, get_or, All, List, [], ◌∷◌, map, Option, refl, ap, sym, ◌∙◌, subst}
use Rattle.std.proofs.Math.Logic.{∥∥₁_elim, ∥∥₁_map}
use Rattle.std.specs.Coded.{Coded-set}
use Rattle.pp_algebra.specs.Rows.{Row}
use Rattle.pp_algebra.specs.Numbered.{call}
use Rattle.pp_sld.specs.Goals.{Program, Shape, Config}
use Rattle.pp_sld.specs.Trees.{Search, IsSearch}
use Rattle.pp_sld.specs.Trace.{Leaf}
use Rattle.pp_sld.specs.Leaves.{root}
use Rattle.pp_sld.specs.Verdicts.{Mode}
use Rattle.pp_sld.specs.Findings as sld
use Rattle.pp_sld.specs.Findings.{finding_of, empty}
use Rattle.pp_sld.specs.Lattice.{LeavesUnder}
use Rattle.pp_sld.specs.Works.{worth, worths, IsLater}
use Rattle.pp_sld.specs.Reports as reports
use Rattle.pp_sld.specs.Reports.{HasWalked}
use Rattle.pp_sld.proofs.Trees.{tree, tree-IsSearch}
use Rattle.pp_sld.proofs.Walks.{worth_is_under}
use Rattle.pp_sld.proofs.Fitting.{under-left, leaves_fit}
use Rattle.pp_sld.proofs.Joining.{join-unit, none-fits}
use Rattle.pp_sld.proofs.Reports.{report_is_fit}
use Rattle.pp_core.specs.Worths.{with_worths}
use Rattle.pp_path.specs.declared.levels.Level.{Level}
use Rattle.pp_path.specs.Works.{work_by}
use Rattle.pp_walk.specs.Places.{Place}
use Rattle.pp_explore.specs.Standing.{StandsOver, StaysOver}
use Rattle.pp_explore.specs.Exploring.{add_leaves, IsUnderCall, HasGathered}
use Rattle.pp_explore.proofs.Added.{added}
use Rattle.pp_find.specs.contracts.finding.Finding as finding
use Rattle.pp_find.specs.declared.finding.Finding.{Finding}
use Rattle.pp_find.specs.Meanings.{finding_by, finding_to, joined}
use Rattle.pp_find.specs.Laws.{there, back}
use Rattle.pp_search.specs.Worths.{worth_of, IsFit}
use Rattle.pp_search.specs.Orders.{is_later}
use Rattle.pp_search.specs.Laws.{is_later_too}
use Rattle.pp_search.specs.Searches.{IsOver}
use Rattle.pp_search.proofs.Again.{over_again}

module _ (clauses : Program) (shape : Shape) (face : Row) (depth : ℕ) (m : Mode) where
  abbrev whole : Search
  whole = tree clauses (root shape face depth)

  abbrev W : Option (List Level) → Finding
  W = worth_of clauses shape face depth m

  with-there : (v : sld.Finding) (ws : List (Option (List Level))) → with_worths W joined (finding_to v) ws ≡ finding_to (reports.with_worths m whole v (map work_by ws))
  with-there v [] = refl
  with-there v (w ∷ ws) =
      let x = finding_of m (worth (work_by w) whole) in
      ap (λ z. with_worths W joined z ws) (ap (λ z. finding_to (sld.join_finding z (finding_by (finding_to x)))) (there v) ∙ ap (λ z. finding_to (sld.join_finding v z)) (there x))
      ∙ with-there (sld.join_finding v x) ws

  met_under : (task : Option (List Level)) (rest : List (Option (List Level))) (met : List Leaf) → HasWalked whole (work_by task) met (map work_by rest) → LeavesUnder (call face) met
  met_under task rest met h = under-left (call face) met (worths (map work_by rest) whole) (subst (LeavesUnder (call face)) h (worth_is_under clauses shape face depth whole (tree-IsSearch clauses (root shape face depth)) (work_by task)))

  -- the leaves that were met, and the works that are left, are those of the task
  pub walked_fits : (task : Option (List Level)) (rest : List (Option (List Level))) (met : List Leaf) (found : Finding) → HasWalked whole (work_by task) met (map work_by rest) → finding_by found ≡ finding_of m met → IsFit clauses shape face depth m task found rest
  walked_fits task rest met found h e under fits =
      ∥∥₁_elim fits (Coded-set finding.the_row.coded _ _) (λ u.
      let x = finding_of m (worth (work_by task) whole) in
      let f = finding_of m met in
      let y = reports.with_worths m whole f (map work_by rest) in
      let to : finding_to f ≡ found = ap finding_to (sym e) ∙ back found in
      ap (λ z. finding_to (sld.join_finding z (finding_by under))) (there x)
      ∙ ap finding_to (report_is_fit m (call face) whole (work_by task) met f (map work_by rest) (finding_by under) (worth_is_under clauses shape face depth whole (tree-IsSearch clauses (root shape face depth))) (leaves_fit m (call face) met (met_under task rest met h)) u h refl)
      ∙ ap (λ z. finding_to (sld.join_finding z (finding_by under))) (sym (there y))
      ∙ ap (λ z. joined z under) (sym (with-there f rest) ∙ ap (λ z. with_worths W joined z rest) to))

  -- what was gathered from nothing is right
  pub gathered_fits : (own : Program) (p : Place) (ks : List ℕ) (task : Option (List Level)) (before after : sld.Finding) (found : Finding) (rest : List (Option (List Level))) → ∥ IsOver clauses (root shape face depth) own p ks ∥₁ → before ≡ empty m → finding_by found ≡ after
      → HasGathered own m p ks (work_by task) before (map work_by rest) after → IsFit clauses shape face depth m task found rest
  gathered_fits own p ks task before after found rest over none same h under fits =
      ∥∥₁_elim over (Coded-set finding.the_row.coded _ _) (λ o.
      let k : HasWalked whole (work_by task) h.0 (map work_by rest) = h.2 (root shape face depth) o.1 whole (subst (λ x. IsSearch x (root shape face depth) whole) (sym o.0) (tree-IsSearch clauses (root shape face depth))) in
      let u = met_under task rest h.0 k in
      let a = added m (call face) (empty m) h.0 (none-fits m (call face)) u in
      walked_fits task rest h.0 found k (same ∙ (h.1 ∙ (ap (add_leaves m h.0) none ∙ (a ∙ join-unit m (call face) (finding_of m h.0) (leaves_fit m (call face) h.0 u))))) under fits)

-- a walker over the goal's root stands where the leaves of each work lie under the call
pub under_call : (clauses : Program) (shape : Shape) (face : Row) (depth : ℕ) (own : Program) (p : Place) (ks : List ℕ) (c : Row) (w : Option (List Level)) → c ≡ call face → ∥ IsOver clauses (root shape face depth) own p ks ∥₁ → IsUnderCall own c p ks (work_by w)
under_call clauses shape face depth own p ks c w e over = (
  root shape face depth,
  over_again own (root shape face depth) p ks (∥∥₁_map over (λ o. o.1)),
  λ t h. subst (λ x. LeavesUnder x (worth (work_by w) t)) (sym e) (worth_is_under own shape face depth t h (work_by w)),
)

-- ===== walkers

pub still_over : (clauses : Program) (r : Config) (own new : Program) (p q : Place) (ks js : List ℕ) → ∥ IsOver clauses r own p ks ∥₁ → new ≡ own → StaysOver own p ks q js → ∥ IsOver clauses r new q js ∥₁
still_over clauses r own new p q ks js over e stays = ∥∥₁_map over (λ o. (e ∙ o.0, subst (λ x. StandsOver x r q js) (sym e) (stays r o.1)))

-- ===== what is left is later, by the test

pub later_tests : (rest : List (Option (List Level))) (task : Option (List Level)) → All (λ w. IsLater (work_by w) (work_by task)) rest → All (λ w. is_later (work_by w) (work_by task) ≡ true) rest
later_tests rest task h = λ k d lt. is_later_too (work_by (get_or rest k d)) (work_by task) (h k d lt)
