use Rattle.std.proofs.Common.{◌≡◌, true, subst}
use Rattle.std.proofs.lemmas.Result.{IfOk-weaker}
use Rattle.pp_algebra.specs.Covers.{RowCovers}
use Rattle.pp_sld.specs.Leaves.{leaf_row}
use Rattle.pp_resolve.specs.Engines.{place_of}
use Rattle.pp_resolve.proofs.machine.Machine.is_covered.Goals as goal

pub returns-clause-covers : goal.returns-clause-covers
returns-clause-covers c =
    let old = c.self.inside.engine in
    let by = c.args.by.now in
    IfOk-weaker c.is_covered.result (λ is. is ≡ true → RowCovers by (leaf_row (place_of old).here)) (λ is. is ≡ true → RowCovers by (leaf_row c.args.self.now.place.here)) (λ is k h. subst (λ s. RowCovers by (leaf_row s.place.here)) c.self.view_is (k h)) c.is_covered.ensures.covers
