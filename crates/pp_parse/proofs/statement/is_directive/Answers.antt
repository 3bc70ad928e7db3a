use Rattle.std.proofs.Common.{ap, ◌∙◌}
use Rattle.std.specs.Prelude.{codes}
use Rattle.pp_algebra.specs.Texts.{same_text}
use Rattle.pp_parse.proofs.Directives.{directive_told}
use Rattle.pp_parse.proofs.statement.is_directive.Goals as goal

pub returns-in-Neck-Atom-Left-Atom-Right : goal.returns-in-Neck-Atom-Left-Atom-Right
returns-in-Neck-Atom-Left-Atom-Right c =
    let e = c.in-Neck-Atom-Left-Atom-Right in
    directive_told c.args.text.now _ c.args.tokens.now c.is_same.result c.in-len5.len_at_least c.in-len5.len_below c.requires e.is-0 e.is-1 e.is-2 e.is-3 e.is-4
    (c.is_same.ensures ∙ ap (λ bs. same_text bs (codes "lib")) c.text_of.ensures)
