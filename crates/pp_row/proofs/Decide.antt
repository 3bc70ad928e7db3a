-- `==` on cells decides equality.
use Rattle.std.proofs.Common.{◌≡◌, ap, ◌∙◌}
use Rattle.std.specs.Bool.{Decides}
use Rattle.std.specs.Prelude.{nat_eq}
use Rattle.std.proofs.lemmas.Bool.{eq-eqb}
use Rattle.std.proofs.lemmas.Bool.Decides.{Decides-int_eq}
use Rattle.pp_algebra.proofs.Bools.{int_is, nat_is, left_true, right_true, both_true}
use Rattle.pp_row.specs.declared.cell.Cell.{Cell}
use Rattle.pp_row.specs.declared.cell.Cell.TheVariants.{Int, Atom, Compound, Var}
use Rattle.pp_row.specs.contracts.cell.CellPartialEq.TheImpl.{eq-value}

pub cell_decides : (x y : Cell) → Decides (eq-value.it x y) (x ≡ y)
cell_decides (Int n) (Int m) = (λ h. ap Int (int_is n m h), λ h. (Decides-int_eq n m).1 (cc))
cell_decides (Atom n) (Atom m) = (λ h. ap Atom (nat_is n m h), λ h. eq-eqb n m (cc))
cell_decides (Compound n k) (Compound m l) =
    (λ h. ap (λ x. Compound x k) (nat_is n m (left_true _ _ h)) ∙ ap (Compound m) (nat_is k l (right_true (nat_eq n m) _ h)), λ h. both_true _ _ (eq-eqb n m (cc)) (eq-eqb k l (cc)))
cell_decides (Var n) (Var m) = (λ h. ap Var (nat_is n m h), λ h. eq-eqb n m (cc))
cell_decides _ _ = (λ h. absurd (cc), λ h. absurd (cc))
