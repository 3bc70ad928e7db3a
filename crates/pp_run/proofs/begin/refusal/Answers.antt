use Rattle.std.proofs.Common.{refl, subst}
use Rattle.pp_language.specs.declared.status.Status.TheVariants as status
use Rattle.pp_read.specs.Programs.{IsFaultOf}
use Rattle.std.proofs.Common.{◌∙◌}
use Rattle.pp_run.proofs.Replying.{short_reply, faulty_reply, limited_reply}
use Rattle.pp_run.proofs.begin.refusal.Goals as goal

pub returns-in_ok-syntax_line-in-Syntax-clause-reply : goal.returns-in_ok-syntax_line-in-Syntax-clause-reply
returns-in_ok-syntax_line-in-Syntax-clause-reply c = λ text small fault settings trace ws.
    let bytes = c.in_ok-syntax_line-in-Syntax.field-0.items in
    short_reply settings trace text ws ws status.Syntax bytes small
    (faulty_reply settings trace text ws ws status.Syntax bytes c.in-Syntax.sentence (subst (IsFaultOf text) c.in-Syntax.is fault) refl refl c.in_ok-syntax_line-in-Syntax.ensures)

pub returns-in_ok-from_slice-in-Limit-clause-reply : goal.returns-in_ok-from_slice-in-Limit-clause-reply
returns-in_ok-from_slice-in-Limit-clause-reply c = λ text small fault settings trace ws.
    let bytes = c.in_ok-from_slice-in-Limit.field-0.items in
    short_reply settings trace text ws ws status.Limit bytes small
    (limited_reply settings trace text ws ws status.Limit bytes c.in-Limit.which (subst (IsFaultOf text) c.in-Limit.is fault) refl refl (c.in_ok-from_slice-in-Limit.ensures.items ∙ c.limit_line.ensures))
