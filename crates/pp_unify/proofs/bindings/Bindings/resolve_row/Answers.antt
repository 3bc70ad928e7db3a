use Rattle.std.proofs.Common.{sym, ap, ◌∙◌, subst}
use Rattle.std.specs.Prelude.{nat_eq}
use Rattle.pp_algebra.specs.Canon.{firsts}
use Rattle.pp_algebra.specs.Terms.{put, variables}
use Rattle.pp_row.proofs.Numbering.{placed}
use Rattle.pp_heap.specs.Stores.{solution}
use Rattle.pp_unify.specs.States.{present, IsOver}
use Rattle.pp_unify.proofs.Verdicts.{over_among}
use Rattle.pp_unify.proofs.InPlace.{numbered_more, is_row, numbered_row}
use Rattle.pp_unify.proofs.bindings.Bindings.resolve_row.Goals as goal

pub resolved-requires-clause-among : goal.resolved-requires-clause-among
resolved-requires-clause-among c =
    let over = c.requires.over c.loop-column.column-index c.column-item.result c.loop-column-test.true in
    over_among c.self.inside.state c.args.self.now c.column-item.result c.self.view_is (subst (IsOver (present c.args.self.now)) (sym c.column-item.is) over)

pub loop-column-preserved : goal.loop-column-preserved
loop-column-preserved c =
    let s = solution c.self.inside.state in
    let old = c.loop-column.numbers.keys in
    let new = c.numbered.new.names.keys in
    let i = c.loop-column.invariant in
    let resolved = c.in_ok-resolved.ensures ∙ ap (put s) c.column-item.is in
    let names = c.in_ok-numbered-2.ensures.names ∙ ap (λ t. firsts nat_eq old (variables t)) resolved in
    let term = c.in_ok-numbered-2.ensures.term ∙ ap (put (placed new)) resolved in
    let more = numbered_more s c.args.columns.now c.loop-column.numbered.items c.loop-column.column-index c.column-item.result c.in_ok-numbered-2.field-0 old new c.loop-column-test.true i.names i.columns names term in
    record { names = more.0; columns = c.in_ok-push.ensures.items ∙ more.1 }

pub from_numbered-requires : goal.from_numbered-requires
from_numbered-requires c = record {
  row = is_row c.self.inside.state c.args.self.now c.args.columns.now c.loop-column.numbered.items c.loop-column.column-index c.loop-column.numbers.keys c.in_ok-domains_of.field-0.items c.self.view_is c.self.invariant c.loop-column-test.false c.loop-column.invariant.names c.loop-column.invariant.columns c.in_ok-domains_of.ensures;
}

pub returns : goal.returns
returns c = c.from_numbered.ensures ∙ numbered_row c.self.inside.state c.args.self.now c.args.columns.now c.loop-column.numbered.items c.loop-column.column-index c.loop-column.numbers.keys c.in_ok-domains_of.field-0.items c.self.view_is c.self.invariant c.loop-column-test.false c.loop-column.invariant.names c.loop-column.invariant.columns c.in_ok-domains_of.ensures c.requires.over
