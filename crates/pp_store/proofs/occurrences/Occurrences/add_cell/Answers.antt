use Rattle.std.proofs.Common.{sym, subst, inl, refl}
use Rattle.pp_algebra.specs.Covers.{IsIn}
use Rattle.pp_row.specs.Cells.{variables_in}
use Rattle.pp_store.proofs.occurrences.Occurrences.add_cell.Goals as goal

pub add_one-requires : goal.add_one-requires
add_one-requires c = record { within = c.requires.within c.in-Var.variable (subst (λ x. IsIn c.in-Var.variable (variables_in x)) (sym c.in-Var.is) (inl refl)) }
