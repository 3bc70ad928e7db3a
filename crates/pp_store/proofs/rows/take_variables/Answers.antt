use Rattle.std.proofs.Common.{◌≡◌, ◌+◌, ◌<◌, [], ◌∷◌, ◌++◌, length, take, ap, sym, ◌∙◌, arith, append-nil, List, ℕ, get_or}
use Rattle.std.specs.Prelude.{nat_eq}
use Rattle.std.proofs.lemmas.List.{take_more}
use Rattle.pp_algebra.specs.Canon.{firsts}
use Rattle.pp_row.proofs.Numbering.{firsts-append}
use Rattle.pp_row.proofs.Renaming.{among-append}
use Rattle.pp_row.specs.Cells.{variables_among}
use Rattle.pp_row.specs.declared.cell.Cell.{Cell}
use Rattle.pp_row.specs.Cells.{variables_in}
use Rattle.pp_store.proofs.rows.take_variables.Goals as goal

next : (cs : List Cell) (i : ℕ) (d : Cell) (old names new : List ℕ) → i < length cs → names ≡ firsts nat_eq old (variables_among (take i cs)) → new ≡ firsts nat_eq names (variables_in (get_or cs i d)) → new ≡ firsts nat_eq old (variables_among (take (i + 1) cs))
next cs i d old names new l f g =
    let x = get_or cs i d in
    let among : variables_among (take (i + 1) cs) ≡ variables_among (take i cs) ++ variables_in x = ap (λ ds. variables_among ds) (take_more cs i d l) ∙ among-append (take i cs) (x ∷ []) ∙ ap (λ vs. variables_among (take i cs) ++ vs) (append-nil (variables_in x)) in
    g ∙ ap (λ ns. firsts nat_eq ns (variables_in x)) f ∙ sym (firsts-append nat_eq old (variables_among (take i cs)) (variables_in x)) ∙ ap (firsts nat_eq old) (sym among)

pub loop-cell-preserved : goal.loop-cell-preserved
loop-cell-preserved c = next c.args.cells.now c.loop-cell.cell-index _ c.args.names.now.keys c.loop-cell.names.keys c.take_variable.new.names.keys (omega arith) c.loop-cell.invariant c.in_ok-take_variable.ensures
