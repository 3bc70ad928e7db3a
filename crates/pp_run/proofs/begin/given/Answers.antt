use Rattle.std.proofs.Common.{rules, length, ◌≤◌}
use Rattle.pp_language.specs.declared.limits.TheConstants.{TEXT_LIMIT}
use Rattle.pp_run.proofs.Serving.{refused_long, refused_text}
use Rattle.pp_run.proofs.begin.given.Goals as goal

pub returns-in-Err-TooLong-clause-refused : goal.returns-in-Err-TooLong-clause-refused
returns-in-Err-TooLong-clause-refused g c = refused_long _ _ _ _ (c.in-Err-TooLong.ensures.too_long (search rules)) c.written.ensures.wrote

pub returns-in-Ok-refusal-clause-refused : goal.returns-in-Ok-refusal-clause-refused
returns-in-Ok-refusal-clause-refused g c =
    let small : length c.deref.result.now ≤ TEXT_LIMIT = search rules in
    refused_text _ _ _ _ _ c.in-Ok.text.items c.deref.result.now c.in-Ok-refusal.reply.status _ c.in-Ok-refusal.reply.bytes.items c.in-Ok.ensures.all c.deref.ensures.value c.deref-in-Ok-refusal.ensures.value c.in-Ok-refusal.ensures.ordinary
    (c.in-Ok-refusal.ensures.reply c.deref.result.now small c.in-Err.ensures.fault) c.written-in-Ok-refusal.ensures.wrote
