use Rattle.std.proofs.lemmas.Result.{IfOk-weaker}
use Rattle.pp_row.specs.Columns.{trees_of}
use Rattle.pp_store.proofs.Applying.{names_are}
use Rattle.pp_store.proofs.rows.face_names.Goals as goal

pub returns : goal.returns
returns c = IfOk-weaker c.variables_of.result _ _ (λ names e. names_are (trees_of c.args.columns.now) c.args.arguments.now c.in_ok-terms.terms.items c.deref.result.now names.keys e c.deref.ensures.value c.in_ok-terms.ensures) c.variables_of.ensures
