use Rattle.std.proofs.Common.{rules, ◌≡◌, ◌∙◌, true, ap, ap₂, codes}
use Rattle.std.proofs.lemmas.Result.{IfOk-weaker}
use Rattle.clap.specs.Words.{Shape, app_of, rule_of, new_app, with_rule}
use Rattle.clap.specs.Simple.{app_of_fields, on_top}
use Rattle.pp_line.specs.Line.{number_rule}
use Rattle.pp_line.proofs.command_line.Goals as goal

pub returns : goal.returns
returns c =
    let base : app_of c.disable_help_flag.result ≡ on_top (λ s. record s { disable_help_flag = true }) (new_app (codes "propia")) =
    ap app_of_fields c.disable_help_flag.ensures ∙ ap (on_top (λ (s : Shape). record s { disable_help_flag = true })) c.new-2.ensures.app in
    let number : rule_of c.action-number.result ≡ number_rule = search rules in
    let workers = c.in_ok-arg.ensures.shape (search rules) ∙ ap₂ with_rule base c.option.ensures.rule in
    let ahead = c.in_ok-arg-2.ensures.shape (search rules) ∙ ap₂ with_rule workers c.option-2.ensures.rule in
    let depth = c.in_ok-arg-3.ensures.shape (search rules) ∙ ap₂ with_rule ahead c.option-3.ensures.rule in
    let turns = c.in_ok-arg-4.ensures.shape (search rules) ∙ ap₂ with_rule depth c.option-4.ensures.rule in
    let trace = c.in_ok-arg-5.ensures.shape (search rules) ∙ ap₂ with_rule turns c.trace.ensures.rule in
    IfOk-weaker c.arg-6.result _ _ (λ x h. h.shape (search rules) ∙ ap₂ with_rule trace number) c.arg-6.ensures
