use Rattle.std.proofs.Common.{ap, sym, ◌∙◌}
use Rattle.pp_algebra.specs.Terms.{put}
use Rattle.pp_algebra.specs.Numbered.{counted_from}
use Rattle.pp_heap.specs.Values.{cell_at, term_at}
use Rattle.pp_heap.specs.Stores.{store_of, solution}
use Rattle.pp_heap.proofs.Forests.{variable_at}
use Rattle.pp_heap.proofs.Solutions.{own_domains, solution_agrees}
use Rattle.pp_unify.specs.Counting.{counted}
use Rattle.pp_unify.specs.States.{first_cell}
use Rattle.pp_unify.proofs.HeadSteps.{counted_put}
use Rattle.pp_unify.proofs.FirstCells.{first_at, no_variable}
use Rattle.pp_unify.proofs.terms.first_cell.Goals as goal

pub returns-in-Var : goal.returns-in-Var
returns-in-Var c =
    let s = c.args.state.now in
    let t = variable_at c.args.cells.now c.args.at c.in-Var.variable c.requires.head.forest c.requires.within c.in-Var.is in
    c.cell_of.ensures
    ∙ sym (ap (λ u. first_cell (put (solution s) (counted_from c.args.first u))) t ∙ ap first_cell (c.value_of.ensures.same (own_domains (store_of s)) (solution s) (solution_agrees s c.requires.good)))

pub returns-in_default : goal.returns-in_default
returns-in_default c =
    let s = c.args.state.now in
    let cs = c.args.cells.now in
    sym (
    ap first_cell (counted_put (solution s) c.args.first (term_at cs c.args.at))
    ∙ first_at (counted c.args.first (solution s)) cs c.args.at c.requires.head.forest c.requires.within (no_variable (cell_at cs c.args.at) c.in_default.not-Var)
    )
