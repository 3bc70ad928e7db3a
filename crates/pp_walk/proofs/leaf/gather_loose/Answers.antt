use Rattle.std.proofs.Common.{◌≡◌, ap, sym, ◌∙◌, subst}
use Rattle.std.proofs.lemmas.Result.{IfOk-weaker}
use Rattle.pp_algebra.specs.Rows.{Row}
use Rattle.pp_algebra.specs.Covers.{RowCovers}
use Rattle.pp_sld.specs.Leaves.{leaf_row}
use Rattle.pp_sld.specs.Lattice.{IsUnder, add_loose}
use Rattle.pp_walk.specs.Places.{Place}
use Rattle.pp_walk.proofs.Known.{of_both}
use Rattle.pp_walk.proofs.leaf.gather_loose.Goals as goal

pub returns-then-branch-clause-added : goal.returns-then-branch-clause-added
returns-then-branch-clause-added g c =
    let p = g.M.SearchMachine.place c.args.machine.now in
    let m = g.G.Gatherer.mode c.args.gathered.now in
    let call = g.G.Gatherer.call c.args.gathered.now in
    let f = g.G.Gatherer.finding c.args.gathered.now in
    sym (of_both c.loose_cover.result (λ w. RowCovers w.now (leaf_row p.here)) (λ w. (r : Row) → IsUnder call r → RowCovers w.now r → add_loose m r f ≡ f) (add_loose m (leaf_row p.here) f ≡ f) (c.in_ok-is_known.ensures.covers c.if-branch.true) c.loose_cover.ensures (λ w k h. h (leaf_row p.here) c.requires k))

pub add_loose-requires : goal.add_loose-requires
add_loose-requires g c =
    let e = c.in_ok-row.ensures ∙ ap (λ (p : Place). leaf_row p.here) c.is_known.ensures.place in
    subst (IsUnder (g.G.Gatherer.call c.args.gathered.now)) (sym e) c.requires

pub returns-clause-added : goal.returns-clause-added
returns-clause-added g c =
    let m = g.G.Gatherer.mode c.args.gathered.now in
    let f = g.G.Gatherer.finding c.args.gathered.now in
    let new = g.G.Gatherer.finding c.add_loose.new.self in
    let e = c.in_ok-row.ensures ∙ ap (λ (p : Place). leaf_row p.here) c.is_known.ensures.place in
    IfOk-weaker c.add_loose.result _ (λ _. new ≡ add_loose m (leaf_row (g.M.SearchMachine.place c.args.machine.now).here) f) (λ _ h. h ∙ ap (λ r. add_loose m r f) e) c.add_loose.ensures.added
