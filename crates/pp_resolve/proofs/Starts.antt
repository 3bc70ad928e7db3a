-- Where an engine begins.
use Rattle.std.proofs.Common.{◌≡◌, ℕ, List, [], ◌∷◌, ◌++◌, length, reverse, None, ap, sym, ◌∙◌, subst}
use Rattle.pp_algebra.specs.Terms.{Trees}
use Rattle.pp_algebra.specs.Rows.{Row, IsRow}
use Rattle.pp_algebra.specs.Numbered.{variables_from}
use Rattle.pp_sld.specs.Goals as goals
use Rattle.pp_sld.specs.Goals.{Goal, put_goal, with_goals}
use Rattle.pp_sld.specs.Leaves.{root}
use Rattle.pp_term.specs.declared.clause.Clause.{Clause}
use Rattle.pp_unify.specs.Forests.{AreOver}
use Rattle.pp_resolve.specs.declared.history.Front.{Front}
use Rattle.pp_resolve.specs.declared.history.Waits.{Waits}
use Rattle.pp_resolve.specs.Standing.{counted, config_in}
use Rattle.pp_resolve.specs.Starting.{free_row}
use Rattle.pp_resolve.specs.Kept.{Kept}
use Rattle.pp_resolve.specs.Links.{piece, below, open_from, goals_of}
use Rattle.pp_resolve.proofs.Linked.{along_zero}
use Rattle.pp_resolve.proofs.FreeRows.{config_root, root_over, root_row}

module _ (cs : List Clause) (face : Row) (row : IsRow face) (s : goals.Shape) (depth : ℕ) (waits : Waits) (ts : Trees ℕ) (terms : ts ≡ face.columns) (k : Kept) (none : k.suspended ≡ []) (calls : Trees ℕ) (calls_are : calls ≡ variables_from 0 (length face.domains)) (r : Row) (free : r ≡ free_row face.domains) where
  abbrev asked : Goal ℕ
  asked = record { shape = s; arguments = ts }

  abbrev front : Front
  front = record { waiting = 0; waits = waits; rest = record { body = None; from = 0; to = 1; first = 0; next = 0 }; depth = depth; selected = None }

  abbrev first : Trees ℕ → Goal ℕ
  first us = put_goal (counted 0) (record { shape = s; arguments = us })

  goals_are : goals_of cs asked k front ≡ first face.columns ∷ []
  goals_are =
      ap (λ ss. open_from cs asked k.done 0 ss ++ (piece cs asked front.rest ++ below cs asked (reverse k.links) 0)) none
      ∙ ap (λ gs. first ts ∷ gs) (along_zero (λ l gs. piece cs asked l ++ gs) (reverse k.links))
      ∙ ap (λ us. first us ∷ []) terms

  pub begins : config_in r (goals_of cs asked k front) calls depth ≡ root s face depth
  begins =
      ap (λ gs. config_in r gs calls depth) goals_are
      ∙ ap (λ us. config_in r (first face.columns ∷ []) us depth) calls_are
      ∙ ap (λ q. config_in q (first face.columns ∷ []) (variables_from 0 (length face.domains)) depth) free
      ∙ config_root face row s depth

  pub begins_row : IsRow r
  begins_row = subst IsRow (sym free) (root_row face row s depth)

  pub begins_over : AreOver r (with_goals (goals_of cs asked k front) calls)
  begins_over =
      subst (λ gs. AreOver r (with_goals gs calls)) (sym goals_are)
      (subst (λ us. AreOver r (with_goals (first face.columns ∷ []) us)) (sym calls_are)
      (subst (λ q. AreOver q (with_goals (first face.columns ∷ []) (variables_from 0 (length face.domains)))) (sym free) (root_over face row s depth)))
