use Rattle.std.proofs.Common.{◌<◌, [], ◌∷◌, length, get_or, pos, arith, sym, ap, ◌∙◌, subst, inl, inr}
use Rattle.std.proofs.lemmas.List.{take_all}
use Rattle.pp_algebra.specs.Covers.{IsIn}
use Rattle.pp_row.specs.declared.cell.Cell.TheVariants.{Int}
use Rattle.pp_row.specs.Cells.{cells_of, variables_in, variables_among}
use Rattle.pp_row.proofs.Renaming.{among-cells_of}
use Rattle.pp_row.proofs.Substituted.{among_at}
use Rattle.pp_unify.proofs.Listed.{get_any}
use Rattle.pp_store.proofs.Noting.{more_then, in_taken}
use Rattle.pp_store.proofs.occurrences.Occurrences.add.Goals as goal

pub add_cell-requires : goal.add_cell-requires
add_cell-requires c =
    let l : c.loop-cell.cell-index < length (cells_of c.args.term.now) = omega (arith, c.loop-cell-test.true, ap length c.cells-cell-items.ensures.cells) in
    record {
      within = λ v i.
          let b = c.requires.within v (subst (IsIn v) (among-cells_of c.args.term.now) (among_at (cells_of c.args.term.now) c.loop-cell.cell-index (Int (pos 0)) v l (subst (λ cs. IsIn v (variables_in (get_or cs c.loop-cell.cell-index (Int (pos 0))))) c.cells-cell-items.ensures.cells i))) in
          omega (arith, b, c.loop-cell.invariant.more.count);
    }

pub loop-cell-preserved : goal.loop-cell-preserved
loop-cell-preserved c =
    let cs = cells_of c.args.term.now in
    let k = c.loop-cell.cell-index in
    let l : k < length cs = omega (arith, c.loop-cell-test.true, ap length c.cells-cell-items.ensures.cells) in
    record {
      more = more_then (c.args.number ∷ []) (c.args.number ∷ []) c.args.self.now c.loop-cell.self c.add_cell.new.self c.loop-cell.invariant.more c.in_ok-add_cell.ensures.more (λ j i. i);
      added = λ v i. elim (in_taken cs k (get_or cs k (Int (pos 0))) v l (get_any cs k (Int (pos 0)) (get_or cs k (Int (pos 0))) l) i) [
        | inl a ↦ c.in_ok-add_cell.ensures.more.stays v c.args.number (c.loop-cell.invariant.added v a)
        | inr b ↦ c.in_ok-add_cell.ensures.added v (subst (λ ds. IsIn v (variables_in (get_or ds k (Int (pos 0))))) (sym c.cells-cell-items.ensures.cells) b)
      ];
    }

pub returns-clause-added : goal.returns-clause-added
returns-clause-added c = λ v i. c.loop-cell.invariant.added v (subst (IsIn v) (sym (among-cells_of c.args.term.now) ∙ ap (λ cs. variables_among cs) (sym (take_all c.loop-cell.cell-index (cells_of c.args.term.now) (omega (arith, c.loop-cell-test.false, ap length c.cells-cell-items.ensures.cells))))) i)
