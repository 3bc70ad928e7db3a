use Rattle.std.proofs.Common.{◌≡◌, Some, sym, subst}
use Rattle.pp_algebra.specs.Rows.{Row}
use Rattle.pp_algebra.specs.Covers.{RowCovers}
use Rattle.pp_term.specs.Meanings.{mode_of}
use Rattle.pp_sld.specs.Findings.{join_option}
use Rattle.pp_sld.specs.Lattice.{IsUnder, add_loose}
use Rattle.pp_find.specs.Common.{common, IsKept}
use Rattle.pp_find.specs.Meanings.{FitsIn, finding_by}
use Rattle.pp_find.specs.Collected.{found_by, IsKnown}
use Rattle.pp_find.proofs.Taking.{loose_most}
use Rattle.pp_find.proofs.Lent.{some_weaker}
use Rattle.pp_find.proofs.known.Known.loose_cover.Goals as goal

pub returns-in-Most : goal.returns-in-Most
returns-in-Most c =
    let m = mode_of c.args.findings.now.mode in
    let call = c.args.findings.now.call in
    let l = c.in-Most.leaves in
    let g = common l.answers.items in
    let h = join_option g (common l.loose.items) in
    let kept : ∥ IsKept call l ∥₁ = subst (λ k. ∥ IsKnown call k ∥₁) c.in-Most.is c.requires.known in
    let fits = subst (λ k. ∥ FitsIn m call (found_by k) ∥₁) c.in-Most.is c.requires.fits in
    some_weaker c.loose_cover.result (λ w. (r : Row) → IsUnder call r → RowCovers w.now r → h ≡ join_option h (Some r)) (λ w. (r : Row) → IsUnder call r → RowCovers w.now r → add_loose m r (finding_by (found_by c.args.self.now)) ≡ finding_by (found_by c.args.self.now))
    (λ w k r u v. rw c.in-Most.is (sym (loose_most m call r g h h fits u.1 (k r u v))))
    c.loose_cover.ensures
