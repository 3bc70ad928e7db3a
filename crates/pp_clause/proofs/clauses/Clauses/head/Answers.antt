use Rattle.std.proofs.Common.{◌≡◌, ◌<◌, ◌-◌, ap, sym, ◌∙◌, length, take, drop, arith, subst}
use Rattle.std.specs.Prelude.{slice_get}
use Rattle.pp_row.specs.Reading.{IsForest, forest}
use Rattle.pp_clause.specs.Predicates.{predicates}
use Rattle.pp_clause.proofs.Places.{get_some}
use Rattle.pp_clause.proofs.Spans.{coded_enough, coded_read}
use Rattle.pp_clause.proofs.clauses.Clauses.head.Goals as goal

pub index-requires : goal.index-requires
index-requires c =
    let s = c.self.inside in
    omega (arith, coded_enough s.cells.items (predicates s.clauses.items) s.coded.items s.clauses.items c.self.invariant.code, ap length c.self.view_is, c.requires)

pub piece-requires-clause-ordered : goal.piece-requires-clause-ordered
piece-requires-clause-ordered c =
    let s = c.self.inside in
    let l : c.args.number < length s.clauses.items = omega (arith, ap length c.self.view_is, c.requires) in
    let x = get_some s.clauses.items c.args.number l in
    (coded_read s.cells.items (predicates s.clauses.items) s.coded.items s.clauses.items c.args.number x.0 c.index.result.now c.self.invariant.code x.1 c.index.ensures).head.ordered

pub piece-requires-clause-within : goal.piece-requires-clause-within
piece-requires-clause-within c =
    let s = c.self.inside in
    let l : c.args.number < length s.clauses.items = omega (arith, ap length c.self.view_is, c.requires) in
    let x = get_some s.clauses.items c.args.number l in
    let w = (coded_read s.cells.items (predicates s.clauses.items) s.coded.items s.clauses.items c.args.number x.0 c.index.result.now c.self.invariant.code x.1 c.index.ensures).head.within in
    omega (arith, w, ap length c.deref.ensures.value)

pub returns-clause-whole : goal.returns-clause-whole
returns-clause-whole c =
    let s = c.self.inside in
    let h = c.index.result.now.head in
    let l : c.args.number < length s.clauses.items = omega (arith, ap length c.self.view_is, c.requires) in
    let x = get_some s.clauses.items c.args.number l in
    let e : c.piece.result.now ≡ take (h.end - h.start) (drop h.start s.cells.items) = c.piece.ensures ∙ ap (λ cs. take (h.end - h.start) (drop h.start cs)) c.deref.ensures.value in
    subst IsForest (sym e) (coded_read s.cells.items (predicates s.clauses.items) s.coded.items s.clauses.items c.args.number x.0 c.index.result.now c.self.invariant.code x.1 c.index.ensures).head.whole

pub returns-clause-head : goal.returns-clause-head
returns-clause-head c = λ d f.
    let s = c.self.inside in
    let h = c.index.result.now.head in
    let e : c.piece.result.now ≡ take (h.end - h.start) (drop h.start s.cells.items) = c.piece.ensures ∙ ap (λ cs. take (h.end - h.start) (drop h.start cs)) c.deref.ensures.value in
    ap (λ cs. forest cs) e ∙ (coded_read s.cells.items (predicates s.clauses.items) s.coded.items s.clauses.items c.args.number d c.index.result.now c.self.invariant.code (ap (λ cs. slice_get cs c.args.number) c.self.view_is ∙ f) c.index.ensures).head.reads
