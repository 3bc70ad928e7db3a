use Rattle.std.proofs.Common.{◌^◌}
use Rattle.pp_parse.specs.Words.{words_of}
use Rattle.pp_parse.proofs.SentenceReady.{ready, no_statement, found_none, found_some, variables_known, variables_small}
use Rattle.pp_parse.proofs.sentence.parse.Goals as goal

pub returns-in_default-clause-parsed : goal.returns-in_default-clause-parsed
returns-in_default-clause-parsed c = no_statement c.args.text.now c.args.tokens.now (found_none c.in_ok-parts.field-0 _ _ c.in_default.is c.in_ok-parts.ensures)

pub returns-clause-few : goal.returns-clause-few
returns-clause-few c =
    let e = c.in_ok-variables.ensures in
    variables_small c.args.text.now c.args.tokens.now c.in_ok-variables.variables.named c.in_ok-variables.variables.blanks (2 ^ 32) e.named e.blanks c.requires.few

pub returns-clause-named : goal.returns-clause-named
returns-clause-named c = variables_known c.args.names.now c.in_ok-variables.variables.named (words_of c.args.text.now c.args.tokens.now) c.requires.names c.in_ok-variables.ensures.named

pub returns-clause-parsed : goal.returns-clause-parsed
returns-clause-parsed c =
    let text = c.args.text.now in
    let ts = c.args.tokens.now in
    let v = c.in_ok-variables.variables in
    let e = c.in_ok-variables.ensures in
    let read = found_some c.in_ok-parts.field-0 _ _ c.in-Some.parts c.in-Some.is c.in_ok-parts.ensures in
    let told = found_some c.in_ok-layout.field-0 _ _ c.in-Some-2.layout c.in-Some-2.is c.in_ok-layout.ensures in
    let r = ready text ts c.args.names.now v.named v.blanks c.in-Some.parts.items c.in-Some-2.layout c.requires.tokens c.requires.names e.named e.blanks read told.0 told.1 told.2 in
    record { ready = r.ready; says = r.says }
