use Rattle.std.proofs.Common.{◌≡◌, length, ap, sym, ◌∙◌, rules}
use Rattle.pp_algebra.specs.Terms.{count}
use Rattle.pp_row.proofs.ColumnLists.{count-trees_of}
use Rattle.pp_machine_tests.proofs.tests.machines.width.Goals as goal

pub returns : goal.returns
returns g c =
    let arity : length c.columns.result.now ≡ c.expect.result = search rules in
    ap count (sym c.columns.ensures.columns) ∙ count-trees_of c.columns.result.now ∙ arity
