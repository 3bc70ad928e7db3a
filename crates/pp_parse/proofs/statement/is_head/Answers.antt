use Rattle.std.proofs.Common.{Some, not, ap, ◌∙◌, sym}
use Rattle.std.specs.Prelude.{slice_get}
use Rattle.pp_language.specs.Words.{is_built_in}
use Rattle.pp_parse.proofs.Heads.{compound_head}
use Rattle.pp_parse.proofs.statement.is_head.Goals as goal

pub text-requires : goal.text-requires
text-requires g c =
    let e = c.in-Some-Compound in
    let cell = ap (λ cs. slice_get cs 0) (sym c.deref.ensures.value) ∙ sym e.ensures.value ∙ ap Some e.field-0-is in
    (compound_head c.args.names.now g.qs c.args.parts.now c.in-Some.term.now c.requires.1 c.in-Some.ensures.part c.in-Some.ensures.shows e.name e.arity cell).0

pub returns-in-Some-Compound : goal.returns-in-Some-Compound
returns-in-Some-Compound g c =
    let e = c.in-Some-Compound in
    let cell = ap (λ cs. slice_get cs 0) (sym c.deref.ensures.value) ∙ sym e.ensures.value ∙ ap Some e.field-0-is in
    ap not c.is_built_in.ensures ∙ ap (λ t. not (is_built_in t e.arity)) c.text.ensures
    ∙ (compound_head c.args.names.now g.qs c.args.parts.now c.in-Some.term.now c.requires.1 c.in-Some.ensures.part c.in-Some.ensures.shows e.name e.arity cell).1
