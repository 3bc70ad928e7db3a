use Rattle.std.proofs.Common.{◌≡◌, ◌+◌, ◌++◌, ◌∷◌, [], take, All, ap, sym, ◌∙◌, subst, arith, append_assoc}
use Rattle.std.proofs.lemmas.List.{take_more}
use Rattle.std.proofs.lemmas.List.Elements.{All-append}
use Rattle.pp_row.specs.Cells.{IsLegalCell, cells_of, cells_of_all}
use Rattle.pp_row.specs.Columns.{trees_of}
use Rattle.pp_clause.proofs.Spans.{cells-push}
use Rattle.pp_clause.proofs.code.push_terms.Goals as goal

pub loop-term-preserved : goal.loop-term-preserved
loop-term-preserved c =
    let ts = c.args.terms.now in
    let i = c.loop-term.term-index in
    let t = c.term-item.result in
    let old = c.args.cells.now.items in
    let before = cells_of_all (trees_of (take i ts)) in
    let one : take (i + 1) ts ≡ take i ts ++ t ∷ [] = take_more ts i t (omega arith) ∙ ap (λ x. take i ts ++ x ∷ []) (sym c.term-item.is) in
    let e : cells_of_all (trees_of (take (i + 1) ts)) ≡ before ++ cells_of t = ap (λ xs. cells_of_all (trees_of xs)) one ∙ cells-push (take i ts) t in
    record {
      cells = c.in_ok-extend_from_slice.ensures.items ∙ ap (λ xs. xs ++ c.cells.result.now) c.loop-term.invariant.cells ∙ append_assoc old before c.cells.result.now ∙ ap (λ xs. old ++ (before ++ xs)) c.cells.ensures.cells ∙ ap (λ xs. old ++ xs) (sym e);
      legal = subst (All IsLegalCell) (sym e) (All-append IsLegalCell before (cells_of t) c.loop-term.invariant.legal c.cells.ensures.term);
    }
