use Rattle.std.proofs.Common.{subst, map}
use Rattle.pp_clause.specs.Predicates.{Names}
use Rattle.pp_clause.specs.Table.{pred_of}
use Rattle.pp_clause.proofs.Places.{named_by}
use Rattle.pp_clause.proofs.clauses.Clauses.predicate.Goals as goal

pub returns : goal.returns
returns c =
    let s = c.self.inside in
    subst (λ cs. Names cs c.min.result c.args.pred) c.self.view_is
    (named_by s.clauses.items (map pred_of s.predicates.keys) s.known c.place_of.result c.min.result c.args.pred c.self.invariant.keys c.self.invariant.known c.place_of.ensures c.min.ensures)
