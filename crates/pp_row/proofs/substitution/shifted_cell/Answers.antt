use Rattle.std.proofs.Common.{refl, sym, subst, inl, arith}
use Rattle.pp_algebra.specs.Covers.{IsIn}
use Rattle.pp_row.specs.Cells.{variables_in}
use Rattle.pp_row.proofs.substitution.shifted_cell.Goals as goal

pub overflow_add-result : goal.overflow_add-result
overflow_add-result c =
    let l = c.requires c.in-Var.variable (subst (λ x. IsIn c.in-Var.variable (variables_in x)) (sym c.in-Var.is) (inl refl)) in
    omega (arith, l)
