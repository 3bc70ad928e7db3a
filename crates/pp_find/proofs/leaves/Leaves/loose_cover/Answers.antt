use Rattle.std.proofs.Common.{◌≡◌, ap, ◌∙◌, Some}
use Rattle.std.specs.List.{slice_get}
use Rattle.pp_algebra.specs.Rows.{Row}
use Rattle.pp_algebra.specs.Covers.{RowCovers}
use Rattle.pp_sld.specs.Findings.{join_option}
use Rattle.pp_sld.specs.Lattice.{IsUnder}
use Rattle.pp_find.specs.Common.{common}
use Rattle.pp_find.proofs.Lent.{first_row, loose-lent-answer, loose-lent}
use Rattle.pp_find.proofs.leaves.Leaves.loose_cover.Goals as goal

pub returns-in-Some : goal.returns-in-Some
returns-in-Some c =
    let call = c.args._call.now in
    let l = c.args.self.now in
    let xs = l.answers.items in
    let zs = l.loose.items in
    first_row (Some c.in-Some.row) xs (λ w. (r : Row) → IsUnder call r → RowCovers w r → join_option (common xs) (common zs) ≡ join_option (join_option (common xs) (common zs)) (Some r)) (c.in-Some.ensures.value ∙ ap (λ ys. slice_get ys 0) c.deref.ensures.value)
    (λ w n e r u k. loose-lent-answer call xs zs l.bound l.settled c.requires.kept w r u k n e)

pub returns-in-None : goal.returns-in-None
returns-in-None c =
    let call = c.args._call.now in
    let l = c.args.self.now in
    let xs = l.answers.items in
    let zs = l.loose.items in
    first_row c.first-in-None.result zs (λ w. (r : Row) → IsUnder call r → RowCovers w r → join_option (common xs) (common zs) ≡ join_option (join_option (common xs) (common zs)) (Some r)) (c.first-in-None.ensures.value ∙ ap (λ ys. slice_get ys 0) c.deref-in-None.ensures.value)
    (λ w n e r u k. loose-lent call xs zs l.bound l.settled c.requires.kept w r u k n e)
