use Rattle.std.proofs.Common.{ap, sym, ◌∙◌}
use Rattle.std.proofs.lemmas.Slice.Eq.{slice_eq-Decides}
use Rattle.pp_row.specs.Cells.{cells_of}
use Rattle.pp_row.specs.Reading.{tree_of}
use Rattle.pp_row.proofs.Decide.{cell_decides}
use Rattle.pp_row.proofs.term.Term.same.Goals as goal

pub returns : goal.returns
returns c =
    let d = slice_eq-Decides cell_decides c.as_slice.result.now c.as_slice-2.result.now c.eq.result c.eq.ensures in (
      λ h. sym c.self.view_is ∙ ap (λ l. tree_of l) (sym c.as_slice.ensures.value ∙ d.0 h ∙ c.as_slice-2.ensures.value) ∙ c.other.view_is,
      λ h. d.1 (c.as_slice.ensures.value ∙ sym c.self.invariant.whole ∙ ap (λ t. cells_of t) (c.self.view_is ∙ h ∙ sym c.other.view_is) ∙ c.other.invariant.whole ∙ sym c.as_slice-2.ensures.value),
    )
