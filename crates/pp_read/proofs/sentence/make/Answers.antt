use Rattle.std.proofs.Common.{◌+◌, length, ap, sym, ◌∙◌, subst}
use Rattle.pp_read.specs.declared.sentence.Said.TheVariants.{Clause}
use Rattle.pp_read.specs.Passed.{query_passed}
use Rattle.pp_read.specs.Sentences.{IsMade}
use Rattle.pp_read.proofs.Ready.{clause_fits, clause_is_made, clause_is_over, query_fits, query_is_made, query_is_over}
use Rattle.pp_read.proofs.sentence.make.Goals as goal

pub clause-requires-clause-head : goal.clause-requires-clause-head
clause-requires-clause-head c =
    (clause_fits c.args.names.now c.args.variables.now.named c.args.variables.now.blanks c.args.parts.now c.args.layout c.in-Clause.entries c.args.clauses c.in-Clause.is c.requires.ready c.in-None.ensures).0

pub clause-requires-clause-body : goal.clause-requires-clause-body
clause-requires-clause-body c =
    (clause_fits c.args.names.now c.args.variables.now.named c.args.variables.now.blanks c.args.parts.now c.args.layout c.in-Clause.entries c.args.clauses c.in-Clause.is c.requires.ready c.in-None.ensures).1

pub query-requires-clause-items : goal.query-requires-clause-items
query-requires-clause-items c =
    let v = c.args.variables.now in
    query_fits c.args.names.now v.named v.blanks c.args.parts.now c.args.layout c.in-Query.entries c.in-Query.is c.requires.ready
    (c.in-None-query_limit.ensures ∙ ap (query_passed c.args.parts.now (length v.named + v.blanks)) c.as_slice.ensures.value)

pub returns-in-Some : goal.returns-in-Some
returns-in-Some c =
    λ r. clause_is_over c.args.names.now c.args.variables.now.named c.args.variables.now.blanks c.args.parts.now c.args.layout c.in-Clause.entries c.args.clauses c.in-Clause.is r c.in-Some.which c.in-Some.ensures

pub returns-in_ok-renumbered-in-None : goal.returns-in_ok-renumbered-in-None
returns-in_ok-renumbered-in-None c =
    λ r.
    let v = c.args.variables.now in
    let e = c.in_ok-written-in-None.ensures in
    subst (λ x. IsMade c.args.names.now c.args.clauses r.statement (Clause x)) (sym c.in_ok-renumbered-in-None.ensures)
    (clause_is_made c.args.names.now v.named v.blanks c.args.parts.now c.args.layout c.in-Clause.entries c.args.clauses c.in-Clause.is r c.in_ok-written-in-None.written c.in-None.ensures e.pred e.head e.body (e.vars ∙ ap (λ n. n + v.blanks) c.len.ensures.len))

pub returns-in-Some-query_limit : goal.returns-in-Some-query_limit
returns-in-Some-query_limit c =
    λ r.
    let v = c.args.variables.now in
    query_is_over c.args.names.now v.named v.blanks c.args.parts.now c.args.layout c.in-Query.entries c.args.clauses c.in-Query.is r c.in-Some-query_limit.which
    (c.in-Some-query_limit.ensures ∙ ap (query_passed c.args.parts.now (length v.named + v.blanks)) c.as_slice.ensures.value)

pub returns-in_ok-query-in-None-query_limit : goal.returns-in_ok-query-in-None-query_limit
returns-in_ok-query-in-None-query_limit c =
    λ r.
    let v = c.args.variables.now in
    let e = c.in_ok-query-in-None-query_limit.ensures in
    query_is_made c.args.names.now v.named v.blanks c.args.parts.now c.args.layout c.in-Query.entries c.args.clauses c.in-Query.is r c.in_ok-query-in-None-query_limit.field-0
    (c.in-None-query_limit.ensures ∙ ap (query_passed c.args.parts.now (length v.named + v.blanks)) c.as_slice.ensures.value) e.vars e.named e.items
