use Rattle.std.proofs.Common.{◌≡◌, ◌↔◌, IsTrue, Some, subst}
use Rattle.std.proofs.lemmas.Result.{IfOk-weaker}
use Rattle.std.proofs.Math.Logic.{∥∥₁_elim}
use Rattle.std.specs.Coded.{Coded-set, coded_ℕ}
use Rattle.pp_algebra.specs.Covers.{RowCovers}
use Rattle.pp_sld.specs.Findings.{join_option}
use Rattle.pp_sld.specs.Lattice.{UnderIfSome}
use Rattle.pp_find.proofs.Taking.{width, below_option}
use Rattle.pp_find.proofs.findings.Findings.is_option_below.Goals as goal

pub covers-requires : goal.covers-requires
covers-requires c =
    let call = c.args.self.now.call in
    let a = subst (λ o. ∥ UnderIfSome call o ∥₁) c.in-Some-Some.is-0 c.requires.left in
    let b = subst (λ o. ∥ UnderIfSome call o ∥₁) c.in-Some-Some.is-1 c.requires.right in
    record { same_width = ∥∥₁_elim a (Coded-set coded_ℕ _ _) (λ x. ∥∥₁_elim b (Coded-set coded_ℕ _ _) (λ y. width call c.in-Some-Some.right c.in-Some-Some.left y.0 x.0)) }

pub returns-in-Some-Some : goal.returns-in-Some-Some
returns-in-Some-Some c =
    let call = c.args.self.now.call in
    let l = c.in-Some-Some.left in
    let r = c.in-Some-Some.right in
    let a = subst (λ o. ∥ UnderIfSome call o ∥₁) c.in-Some-Some.is-0 c.requires.left in
    let b = subst (λ o. ∥ UnderIfSome call o ∥₁) c.in-Some-Some.is-1 c.requires.right in
    let below = below_option call l r a b in
    rw (c.in-Some-Some.is-0, c.in-Some-Some.is-1) (IfOk-weaker c.covers.result (λ is. IsTrue is ↔ RowCovers r l) (λ is. IsTrue is ↔ (join_option (Some l) (Some r) ≡ Some r)) (λ is h. ((λ i. below.0 (h.0 i)), (λ e. h.1 (below.1 e)))) c.covers.ensures)
