use Rattle.std.proofs.Common.{◌≡◌, length, map, rules, ap, subst, refl, ◌∙◌}
use Rattle.pp_row.specs.Columns.{trees_of}
use Rattle.pp_clause.specs.declared.code.Span.{Span}
use Rattle.pp_clause.specs.Table.{pred_of, IsSpan, AreCodedGoals}
use Rattle.pp_clause.proofs.Numbers.{number_stays}
use Rattle.pp_clause.proofs.Spans.{spanned, span_stays, length-goals}
use Rattle.pp_clause.proofs.code.code_clause.Goals as goal

pub returns-clause-predicate : goal.returns-clause-predicate
returns-clause-predicate c = number_stays (map pred_of c.number.new.predicates.keys) (map pred_of c.code_body.new.predicates.keys) c.in_ok-predicate.predicate c.args.clause.now.pred c.in_ok-body.ensures.grown c.in_ok-predicate.ensures.number

pub returns-clause-clause : goal.returns-clause-clause
returns-clause-clause c =
    let old = c.args.cells.now.items in
    let new = c.push_terms.new.cells.items in
    let after = c.code_body.new.cells.items in
    let a : c.len-start.result ≡ length old = search rules in
    let b : c.len-end.result ≡ length new = search rules in
    let s : Span = record { start = c.len-start.result; end = c.len-end.result } in
    let ts = trees_of c.as_slice.result.now in
    let e = c.in_ok-push_terms.ensures in
    let qs = map pred_of c.code_body.new.predicates.keys in
    let body = subst (AreCodedGoals after qs c.in_ok-body.body.items) c.as_slice-2.ensures c.in_ok-body.ensures.goals in
    let counted : c.in_ok-count.count ≡ length c.in_ok-body.body.items = search rules in
    record {
      head = subst (IsSpan after s) (ap trees_of c.as_slice.ensures) (span_stays new after s ts c.in_ok-body.ensures.cells (spanned old new s ts e.cells e.legal a b));
      variables = refl;
      count = counted ∙ length-goals after qs c.in_ok-body.body.items c.args.clause.now.body body;
      body = body;
    }
