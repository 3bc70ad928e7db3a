use Rattle.std.proofs.Common.{ap, sym, ◌∙◌}
use Rattle.pp_heap.specs.Values.{value_term}
use Rattle.std.proofs.Common.{Some}
use Rattle.pp_heap.specs.Stores.{solution}
use Rattle.pp_algebra.specs.Terms.{put}
use Rattle.pp_heap.proofs.Forests.{cell_read}
use Rattle.pp_unify.specs.States.{first_cell}
use Rattle.pp_unify.proofs.FirstCells.{first_free, first_compound}
use Rattle.pp_unify.proofs.terms.cell_of.Goals as goal

pub returns-in-Variable : goal.returns-in-Variable
returns-in-Variable c =
    let s = c.args.state.now in
    let n = rw c.in-Variable.is at c.requires.now in
    sym (ap (λ v. first_cell (put (solution s) (value_term s.heap.items v))) c.in-Variable.is ∙ first_free s c.in-Variable.field-0 c.requires.good n)

pub returns-in-Compound : goal.returns-in-Compound
returns-in-Compound c =
    let s = c.args.state.now in
    let n = rw c.in-Compound.is at c.requires.now in
    sym (
    ap (λ v. first_cell (put (solution s) (value_term s.heap.items v))) c.in-Compound.is
    ∙ first_compound s c.in-Compound.place c.requires.good n.0 n.1
    ∙ ap Some (cell_read s.heap.items c.in-Compound.place c.index.result.now c.index.ensures n.0)
    )
