use Rattle.std.proofs.Common.{subst}
use Rattle.pp_parse.specs.Parsed.{IsReady}
use Rattle.pp_parse.proofs.SentenceReady.{found_some}
use Rattle.pp_read.specs.Sentences.{IsMade}
use Rattle.pp_read.proofs.sentence.read_sentence.Goals as goal

pub returns : goal.returns
returns c =
    let names = c.args.names.now in
    let parsed = c.in-Some.parsed in
    let v = parsed.variables in
    let told = found_some c.in_ok-parsed.field-0 _ _ parsed c.in-Some.is c.in_ok-parsed.ensures.parsed in
    let make = subst (λ ps. (r : IsReady names v.named v.blanks ps parsed.layout) → IsMade names c.args.clauses r.statement c.in_ok-make.field-0) c.deref.ensures.value c.in_ok-make.ensures in
    record { statement = told.ready.statement; says = told.says; made = make told.ready }
