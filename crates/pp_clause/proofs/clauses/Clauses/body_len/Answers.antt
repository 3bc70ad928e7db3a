use Rattle.std.proofs.Common.{ap, ◌∙◌, length, arith}
use Rattle.std.specs.Prelude.{slice_get}
use Rattle.pp_clause.specs.Predicates.{predicates}
use Rattle.pp_clause.proofs.Spans.{coded_enough, coded_read}
use Rattle.pp_clause.proofs.clauses.Clauses.body_len.Goals as goal

pub index-requires : goal.index-requires
index-requires c =
    let s = c.self.inside in
    omega (arith, coded_enough s.cells.items (predicates s.clauses.items) s.coded.items s.clauses.items c.self.invariant.code, ap length c.self.view_is, c.requires)

pub returns : goal.returns
returns c = λ d e.
    let s = c.self.inside in
    (coded_read s.cells.items (predicates s.clauses.items) s.coded.items s.clauses.items c.args.number d c.index.result.now c.self.invariant.code (ap (λ cs. slice_get cs c.args.number) c.self.view_is ∙ e) c.index.ensures).count
