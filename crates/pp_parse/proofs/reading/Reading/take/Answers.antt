use Rattle.std.proofs.Common.{◌+◌, ap, sym, ◌∙◌, subst}
use Rattle.std.specs.Prelude.{IfOk}
use Rattle.pp_row.specs.Cells.{head_of}
use Rattle.pp_language.specs.Phrases.{no_phrases, said}
use Rattle.pp_language.specs.PartsOf.{with_word}
use Rattle.pp_parse.specs.Reading.{Follows, IsHead, Holds}
use Rattle.pp_parse.specs.Words.{blanks_by}
use Rattle.pp_parse.proofs.ReadingLeaves.{name_leaf, whole_leaf, mark_leaf, no_arguments}
use Rattle.pp_parse.proofs.reading.Reading.take.Goals as goal

pub returns-in-Name : goal.returns-in-Name
returns-in-Name c =
    λ names named n s w e h.
    let old = c.args.self.now in
    let l = name_leaf names named n w.kind w.text c.in-Name.name s.arguments s.groups s.parts (sym c.in-Name.is ∙ e) in
    let head : IsHead names named n (n + blanks_by w.kind w.text) (said w s.arguments) c.head.result s.arguments = subst (λ x. IsHead names named n (n + blanks_by w.kind w.text) (said w s.arguments) x s.arguments) (sym (c.head.ensures ∙ ap (head_of c.in-Name.name) h.arguments_are)) l.head in
    subst (λ o. IfOk c.take_phrase.result (λ ok. Follows names named n c.args.first o ok c.take_phrase.new.self)) l.said_is
    (c.take_phrase.ensures names named n (n + blanks_by w.kind w.text) s (said w s.arguments) head h)

pub returns-then-self-eq0 : goal.returns-then-self-eq0
returns-then-self-eq0 c =
    λ names named n s w e h.
    let old = c.args.self.now in
    let l = whole_leaf names named n w.kind w.text c.in-Whole.cell s.groups s.parts (sym c.in-Whole.is ∙ e) in
    let none = no_arguments s.arguments (sym c.if-self-eq0.true ∙ h.arguments_are) in
    let head : IsHead names named n (n + blanks_by w.kind w.text) l.phrase c.in-Whole.cell s.arguments = subst (λ ps. IsHead names named n (n + blanks_by w.kind w.text) l.phrase c.in-Whole.cell ps) none l.head in
    subst (λ o. IfOk c.take_phrase-then-self-eq0.result (λ ok. Follows names named n c.args.first o ok c.take_phrase-then-self-eq0.new.self)) (l.phrase_is ∙ ap (λ ps. with_word w.kind w.text ps s.groups s.parts) none)
    (c.take_phrase-then-self-eq0.ensures names named n (n + blanks_by w.kind w.text) s l.phrase head h)

pub returns-then-self-eq0-2 : goal.returns-then-self-eq0-2
returns-then-self-eq0-2 c =
    λ names named n s w e h.
    let old = c.args.self.now in
    let l = mark_leaf names named n w.kind c.in-Mark.kind w.text s.groups s.parts (sym c.in-Mark.is ∙ e) in
    let none = no_arguments s.arguments (sym c.if-self-eq0-2.true ∙ h.arguments_are) in
    let start : Holds names named n (c.args.first + 1) no_phrases s.groups s.parts old.cells.items old.arguments old.groups.items old.parts.items =
    subst (λ m. Holds names named m (c.args.first + 1) no_phrases s.groups s.parts old.cells.items old.arguments old.groups.items old.parts.items) l.counts
    (subst (λ ps. Holds names named (n + blanks_by w.kind w.text) (c.args.first + 1) ps s.groups s.parts old.cells.items old.arguments old.groups.items old.parts.items) (sym none) h)
    in
    subst (λ o. IfOk c.take_mark.result (λ ok. Follows names named n c.args.first o ok c.take_mark.new.self)) (l.other_is ∙ ap (λ ps. with_word w.kind w.text ps s.groups s.parts) none)
    (c.take_mark.ensures names named n c.args.first s.groups s.parts w.text l.no_term start)
