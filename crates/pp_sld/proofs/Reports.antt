-- What a walk through a part of a search shows of it.
use Rattle.std.proofs.Common.{◌≡◌, List, [], ◌∷◌, ◌++◌, refl, ap, sym, ◌∙◌, subst, append_assoc, append-nil}
use Rattle.pp_algebra.specs.Rows.{Row}
use Rattle.pp_sld.specs.Trees.{Search}
use Rattle.pp_sld.specs.Trace.{Leaf}
use Rattle.pp_sld.specs.Works.{Work, worth, worths, path_worth, next}
use Rattle.pp_sld.specs.Verdicts.{Mode}
use Rattle.pp_sld.specs.Findings.{Finding, finding_of, join_finding}
use Rattle.pp_sld.specs.Lattice.{LeavesUnder, Fits}
use Rattle.pp_sld.specs.Reports.{with_worths}
use Rattle.pp_sld.specs.LawsOfReports.{WalkBegins, WalkGoesDown, WalkGoesOn, WalkEnds, WalkSplits, NothingIsFound, LeavesAreFound, LeavesAreSkipped, ReportIsFit}
use Rattle.pp_sld.proofs.WorkLeaves.{next_keeps, split_keeps, down_levels}
use Rattle.pp_sld.proofs.Joining.{join-turned, join-grouped, join-fits}
use Rattle.pp_sld.proofs.Fitting.{under-left, under-right, leaves_fit, leaves_join}

pub walk_begins : WalkBegins
walk_begins t w = sym (append-nil (worth w t))

pub walk_goes_down : WalkGoesDown
walk_goes_down t w xs ls rest n p h = h ∙ ap (λ x. xs ++ (x ++ worths rest t)) (sym (down_levels ls n t p))

pub walk_goes_on : WalkGoesOn
walk_goes_on t w xs v rest h =
    let p = path_worth v t in
    let q = worth (next v) t in
    h ∙ ap (λ x. xs ++ (x ++ worths rest t)) (next_keeps v t) ∙ ap (λ x. xs ++ x) (append_assoc p q (worths rest t)) ∙ sym (append_assoc xs p (q ++ worths rest t))

pub walk_ends : WalkEnds
walk_ends t w xs rest h = h

pub walk_splits : WalkSplits
walk_splits t w xs v a b rest e h =
    h ∙ ap (λ x. xs ++ (x ++ worths rest t)) (split_keeps v a b t e) ∙ ap (λ x. xs ++ x) (append_assoc (worth a t) (worth b t) (worths rest t))

pub nothing_is_found : NothingIsFound
nothing_is_found m under = refl

module _ (m : Mode) (c : Row) where
  -- more may be joined to both
  swap : (v w x u : Finding) → Fits m c v → Fits m c w → Fits m c x → Fits m c u → join_finding v u ≡ join_finding w u → join_finding (join_finding v x) u ≡ join_finding (join_finding w x) u
  swap v w x u fv fw fx fu e =
      let to : (y : Finding) → Fits m c y → join_finding (join_finding y x) u ≡ join_finding (join_finding y u) x = λ y fy. join-grouped m c y x u fy fx fu ∙ ap (join_finding y) (join-turned m c x u fx fu) ∙ sym (join-grouped m c y u x fy fu fx) in
      to v fv ∙ ap (λ z. join_finding z x) e ∙ sym (to w fw)

  module _ (t : Search) where
    rest_joins : (xs : List Leaf) (ws : List Work) → LeavesUnder c (xs ++ worths ws t) → finding_of m (xs ++ worths ws t) ≡ with_worths m t (finding_of m xs) ws
    rest_joins xs [] h = ap (finding_of m) (append-nil xs)
    rest_joins xs (w ∷ ws) h =
        let g : LeavesUnder c ((xs ++ worth w t) ++ worths ws t) = subst (LeavesUnder c) (sym (append_assoc xs (worth w t) (worths ws t))) h in
        ap (finding_of m) (sym (append_assoc xs (worth w t) (worths ws t))) ∙ rest_joins (xs ++ worth w t) ws g
        ∙ ap (λ z. with_worths m t z ws) (leaves_join m c xs (worth w t) (under-left c (xs ++ worth w t) (worths ws t) g))

    rest_swaps : (v w u : Finding) (ws : List Work) → ((l : Work) → Fits m c (finding_of m (worth l t))) → Fits m c v → Fits m c w → Fits m c u → join_finding v u ≡ join_finding w u → join_finding (with_worths m t v ws) u ≡ join_finding (with_worths m t w ws) u
    rest_swaps v w u [] fs fv fw fu e = e
    rest_swaps v w u (l ∷ ls) fs fv fw fu e =
        let x = finding_of m (worth l t) in
        rest_swaps (join_finding v x) (join_finding w x) u ls fs (join-fits m c v x fv (fs l)) (join-fits m c w x fw (fs l)) fu (swap v w x u fv fw (fs l) fu e)

pub leaves_are_found : LeavesAreFound
leaves_are_found m c under xs ys found fu ff h k =
    ap (λ z. join_finding z under) (leaves_join m c xs ys h)
    ∙ swap m c (finding_of m xs) found (finding_of m ys) under (leaves_fit m c xs (under-left c xs ys h)) ff (leaves_fit m c ys (under-right c xs ys h)) fu k

pub leaves_are_skipped : LeavesAreSkipped
leaves_are_skipped m c under xs ys found fu h e k =
    ap (λ z. join_finding z under) (leaves_join m c xs ys h)
    ∙ join-grouped m c (finding_of m xs) (finding_of m ys) under (leaves_fit m c xs (under-left c xs ys h)) (leaves_fit m c ys (under-right c xs ys h)) fu
    ∙ ap (join_finding (finding_of m xs)) e ∙ k

pub report_is_fit : ReportIsFit
report_is_fit m c t w xs found rest under h ff fu e k =
    let g : LeavesUnder c (xs ++ worths rest t) = subst (LeavesUnder c) e (h w) in
    ap (λ z. join_finding z under) (ap (finding_of m) e ∙ rest_joins m c t xs rest g)
    ∙ rest_swaps m c t (finding_of m xs) found under rest (λ v. leaves_fit m c (worth v t) (h v)) (leaves_fit m c xs (under-left c xs (worths rest t) g)) ff fu k
