use Rattle.std.proofs.Common.{◌≡◌, [], drop, ap, sym, ◌∙◌}
use Rattle.std.specs.Prelude.{slice_get}
use Rattle.pp_term.specs.Meanings.{predicate_of, program}
use Rattle.pp_clause.proofs.Next.{next, no_more}
use Rattle.pp_clause.proofs.candidates.Candidates.next.Goals as goal

pub returns-clause-next : goal.returns-clause-next
returns-clause-next c =
    let s = c.self.inside in
    let cs = program s.clauses.now (predicate_of s.pred) in
    ap (λ xs. slice_get xs 0) (sym (next s.first cs s.from c.in_ok-place.place (c.in_ok-place.ensures.place s.pred c.self.invariant)) ∙ c.self.view_is)

pub returns-clause-rest : goal.returns-clause-rest
returns-clause-rest c =
    let s = c.self.inside in
    let cs = program s.clauses.now (predicate_of s.pred) in
    ap (drop 1) (sym (next s.first cs s.from c.in_ok-place.place (c.in_ok-place.ensures.place s.pred c.self.invariant)) ∙ c.self.view_is)

pub returns-in_err-place-clause-next : goal.returns-in_err-place-clause-next
returns-in_err-place-clause-next c =
    let s = c.self.inside in
    let cs = program s.clauses.now (predicate_of s.pred) in
    c.from_residual.ensures ∙ ap (λ xs. slice_get xs 0) (sym (no_more s.first cs s.from (c.in_err-place.ensures.place s.pred c.self.invariant)) ∙ c.self.view_is)

pub returns-in_err-place-clause-rest : goal.returns-in_err-place-clause-rest
returns-in_err-place-clause-rest c =
    let s = c.self.inside in
    let cs = program s.clauses.now (predicate_of s.pred) in
    let e : c.args.self.now ≡ [] = sym c.self.view_is ∙ no_more s.first cs s.from (c.in_err-place.ensures.place s.pred c.self.invariant) in
    e ∙ ap (drop 1) (sym e)
