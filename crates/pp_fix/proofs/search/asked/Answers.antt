use Rattle.std.proofs.Common.{ap, ◌∙◌}
use Rattle.pp_algebra.specs.Terms.{count}
use Rattle.pp_propagation.proofs.StoreRows.{face-count}
use Rattle.pp_store.specs.Queries.{asked_by}
use Rattle.pp_row.proofs.ColumnLists.{count-trees_of}
use Rattle.pp_fix.proofs.search.asked.Goals as goal

pub returns-clause-width : goal.returns-clause-width
returns-clause-width c =
    let a = asked_by c.at-annotated.result in
    ap (λ r. count r.columns) (c.in_ok-face.ensures a c.at-annotated.ensures.goal) ∙ face-count c.args.store.now.row a.goal ∙ count-trees_of c.at-annotated.result.arguments.now ∙ c.at-annotated.ensures.formed.count
