use Rattle.std.proofs.Common.{subst}
use Rattle.pp_sld.specs.Findings.{join_option}
use Rattle.pp_find.specs.Common.{common}
use Rattle.pp_find.specs.Collected.{IsKnown}
use Rattle.pp_find.proofs.Kept.{kept-told}
use Rattle.pp_find.proofs.known.Known.is_settled.Goals as goal

pub returns-in-Most : goal.returns-in-Most
returns-in-Most c =
    let call = c.args.findings.now.call in
    let l = c.in-Most.leaves in
    rw c.in-Most.is (kept-told call l.answers.items l.loose.items l.bound (join_option (common l.answers.items) (common l.loose.items)) l.settled (subst (λ k. ∥ IsKnown call k ∥₁) c.in-Most.is c.requires.known))
