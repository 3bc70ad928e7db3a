use Rattle.std.proofs.Common.{◌≡◌, true}
use Rattle.std.proofs.lemmas.Result.{IfOk-weaker}
use Rattle.pp_algebra.specs.Terms.{more, none}
use Rattle.pp_algebra.specs.Rows.{domain_at}
use Rattle.pp_row.specs.Columns.{sets_of}
use Rattle.pp_heap.specs.Values.{value_term}
use Rattle.pp_unify.specs.Covering.{AreCovered}
use Rattle.pp_unify.proofs.Covering.{term_head, column_covered}
use Rattle.pp_unify.proofs.Tops.{some_cell}
use Rattle.pp_unify.proofs.cover.covers_column.Goals as goal

pub leaf-requires-clause-head : goal.leaf-requires-clause-head
leaf-requires-clause-head c = term_head c.args.state.now c.args.column.now c.cells.result.now c.cells.ensures.cells c.cells.ensures.term c.requires.among

pub leaf-requires-clause-within : goal.leaf-requires-clause-within
leaf-requires-clause-within c = some_cell c.args.column.now c.cells.result.now c.cells.ensures.cells c.cells.ensures.term

pub returns-in-Some : goal.returns-in-Some
returns-in-Some c =
    let t = c.args.state.now in
    let ds = domain_at (sets_of c.args.domains.now) in
    let old = c.args.cover.now.bound.items in
    let new = c.covers_value.new.cover.bound.items in
    let r = c.args.column.now in
    let d = c.in-Some.value in
    IfOk-weaker c.covers_value.result (λ is. is ≡ true → AreCovered t ds old new (more c.args.term.now none) (more (value_term t.heap.items d) none)) (λ is. is ≡ true → AreCovered t ds old new (more c.args.term.now none) (more r none))
    (λ is k e. column_covered t ds old new (more c.args.term.now none) r c.cells.result.now d c.requires.good c.cells.ensures.cells c.in-Some.ensures (k e))
    c.covers_value.ensures
