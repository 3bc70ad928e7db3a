use Rattle.std.proofs.Common.{◌∙◌}
use Rattle.std.proofs.lemmas.Result.{IfOk-weaker}
use Rattle.pp_store.proofs.Applying.{face_now}
use Rattle.pp_store.proofs.rows.face.Goals as goal

pub returns : goal.returns
returns c = IfOk-weaker c.canon.result _ _ (λ r e g f. e ∙ face_now c.args.columns.now c.args.arguments.now c.in_ok-terms.terms.items c.args.domains.now c.in_ok-terms.ensures g f) c.canon.ensures
