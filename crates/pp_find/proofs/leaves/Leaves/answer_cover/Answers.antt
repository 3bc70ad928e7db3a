use Rattle.std.proofs.Common.{◌≡◌, ap, ◌∙◌, Some}
use Rattle.std.specs.List.{slice_get}
use Rattle.pp_algebra.specs.Rows.{Row}
use Rattle.pp_algebra.specs.Covers.{RowCovers}
use Rattle.pp_sld.specs.Findings.{join_option}
use Rattle.pp_sld.specs.Lattice.{IsUnder}
use Rattle.pp_find.specs.Common.{common}
use Rattle.pp_find.proofs.Lent.{first_row, answer-lent}
use Rattle.pp_find.proofs.leaves.Leaves.answer_cover.Goals as goal

pub returns : goal.returns
returns c =
    let call = c.args._call.now in
    let l = c.args.self.now in
    let xs = l.answers.items in
    first_row c.first.result xs (λ w. (r : Row) → IsUnder call r → RowCovers w r → common xs ≡ join_option (common xs) (Some r)) (c.first.ensures.value ∙ ap (λ ys. slice_get ys 0) c.deref.ensures.value)
    (λ w n e r u k. answer-lent call xs l.loose.items l.bound l.settled c.requires.kept w r u k n e)
