use Rattle.std.proofs.Common.{ap, ◌∙◌}
use Rattle.std.specs.List.{flat_map}
use Rattle.pp_algebra.specs.Terms.{put}
use Rattle.pp_row.specs.Substitution.{term_at, put_cell}
use Rattle.pp_row.proofs.Substituted.{put_tree}
use Rattle.pp_row.proofs.term.Term.substituted.Goals as goal

pub invariant_of-result : goal.invariant_of-result
invariant_of-result c = (put_tree (term_at c.args.terms.now) c.self.inside.cells.items c.in_ok-replaced.field-0.items c.self.invariant c.in_ok-replaced.ensures.legal (c.in_ok-replaced.ensures.cells ∙ ap (flat_map (put_cell (term_at c.args.terms.now))) c.as_slice.ensures.value)).0

pub returns : goal.returns
returns c =
    (put_tree (term_at c.args.terms.now) c.self.inside.cells.items c.in_ok-replaced.field-0.items c.self.invariant c.in_ok-replaced.ensures.legal (c.in_ok-replaced.ensures.cells ∙ ap (flat_map (put_cell (term_at c.args.terms.now))) c.as_slice.ensures.value)).1
    ∙ ap (put (term_at c.args.terms.now)) c.self.view_is
