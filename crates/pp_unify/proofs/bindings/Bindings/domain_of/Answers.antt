use Rattle.std.proofs.Common.{sym, ap, ◌∙◌, subst}
use Rattle.pp_unify.specs.States.{present, in_place, domain_in, IsOver}
use Rattle.pp_unify.proofs.Grown.{counted-zero}
use Rattle.pp_unify.proofs.Tops.{some_cell}
use Rattle.pp_unify.proofs.Whole.{whole_forest, whole_over, whole_term}
use Rattle.pp_unify.proofs.bindings.Bindings.domain_of.Goals as goal

pub domain_at-requires-clause-whole : goal.domain_at-requires-clause-whole
domain_at-requires-clause-whole c = whole_forest c.args.term.now c.cells.result.now c.cells.ensures.cells c.cells.ensures.term

pub domain_at-requires-clause-within : goal.domain_at-requires-clause-within
domain_at-requires-clause-within c = some_cell c.args.term.now c.cells.result.now c.cells.ensures.cells c.cells.ensures.term

pub domain_at-requires-clause-over : goal.domain_at-requires-clause-over
domain_at-requires-clause-over c = whole_over (present c.args.self.now) c.args.term.now c.cells.result.now 0 c.cells.ensures.cells (subst (IsOver (present c.args.self.now)) (sym (counted-zero c.args.term.now)) c.requires.over)

pub returns : goal.returns
returns c = c.domain_at.ensures ∙ ap (λ t. domain_in (present c.args.self.now) (in_place (present c.args.self.now) t)) (whole_term c.args.term.now c.cells.result.now 0 c.cells.ensures.cells ∙ counted-zero c.args.term.now)
