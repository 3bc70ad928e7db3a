use Rattle.std.proofs.Common.{◌<◌, length, drop, sym, ap, ◌∙◌, rules}
use Rattle.pp_language.specs.Words.{Word}
use Rattle.pp_language.specs.Fronts.{plain_text}
use Rattle.pp_parse.proofs.Begun.{term_token, atom_alone, no_atom}
use Rattle.pp_parse.proofs.items.atom_at.Goals as goal

pub bounds-tokens-first : goal.bounds-tokens-first
bounds-tokens-first g c = (term_token c.args.text.now c.args.tokens.now g.qs c.args.parts.now c.args.at c.in_ok-term.term.now c.requires.0 c.requires.1.0 c.in_ok-term.ensures.part).2

pub offset_bounds-tokens-first : goal.offset_bounds-tokens-first
offset_bounds-tokens-first g c =
    let h : c.in_ok-term.term.now.first < length c.args.tokens.now = (term_token c.args.text.now c.args.tokens.now g.qs c.args.parts.now c.args.at c.in_ok-term.term.now c.requires.0 c.requires.1.0 c.in_ok-term.ensures.part).2 in
    search rules

pub plain_text-requires : goal.plain_text-requires
plain_text-requires g c =
    let t = term_token c.args.text.now c.args.tokens.now g.qs c.args.parts.now c.args.at c.in_ok-term.term.now c.requires.0 c.requires.1.0 c.in_ok-term.ensures.part in
    c.requires.1.1 c.in_ok-term.term.now.first _ t.2

pub returns : goal.returns
returns g c =
    let t = term_token c.args.text.now c.args.tokens.now g.qs c.args.parts.now c.args.at c.in_ok-term.term.now c.requires.0 c.requires.1.0 c.in_ok-term.ensures.part in
    c.plain_text.ensures ∙ ap (λ (w : Word). plain_text w.kind w.text) (t.3 _)
    ∙ sym (atom_alone (drop c.args.at g.qs) (drop 1 (drop c.args.at g.qs)) t.0 t.1 c.in_ok-term.term.now.cells.items c.in_ok-term.ensures.shows c.if-not-is_atom.ensures)

pub returns-then-not-is_atom : goal.returns-then-not-is_atom
returns-then-not-is_atom g c =
    let t = term_token c.args.text.now c.args.tokens.now g.qs c.args.parts.now c.args.at c.in_ok-term.term.now c.requires.0 c.requires.1.0 c.in_ok-term.ensures.part in
    sym (no_atom (drop c.args.at g.qs) (drop 1 (drop c.args.at g.qs)) t.0 t.1 c.in_ok-term.term.now.cells.items c.in_ok-term.ensures.shows c.if-not-is_atom.ensures)
