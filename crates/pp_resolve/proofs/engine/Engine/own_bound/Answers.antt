use Rattle.std.proofs.Common.{◌≡◌, ◌+◌, length, None, sym, subst, refl, arith}
use Rattle.pp_algebra.specs.Terms.{count}
use Rattle.pp_resolve.specs.Links.{IsRest}
use Rattle.pp_resolve.specs.Engines.{goal_of, row_of, AreBelow}
use Rattle.pp_resolve.proofs.Linked.{goal_there}
use Rattle.pp_resolve.proofs.Moving.{goal_over_at}
use Rattle.pp_resolve.proofs.Waits.{row_bound, clause_bound}
use Rattle.pp_resolve.proofs.engine.Engine.own_bound.Goals as goal

pub returns-in-None-clause-below : goal.returns-in-None-clause-below
returns-in-None-clause-below c =
    let e = c.args.self.now in
    let g = goal_there e.clauses.now (goal_of e) (length e.history.links.items) e.front.rest c.requires.good.here.rest c.requires.some in
    let n : c.len-all.result ≡ count (row_of e).columns = c.len-all.ensures.count in
    subst (λ k. AreBelow e.clauses.now (goal_of e) k e.front.rest) (sym n) (row_bound e.clauses.now (goal_of e) (row_of e) e.front.rest g.0 g.1 (goal_over_at e None e.front.rest g.0 c.requires.good c.requires.some refl g.1))

pub returns-else-own-all-clause-below : goal.returns-else-own-all-clause-below
returns-else-own-all-clause-below c =
    let e = c.args.self.now in
    let g = goal_there e.clauses.now (goal_of e) (length e.history.links.items) e.front.rest c.requires.good.here.rest c.requires.some in
    let n : c.len-all.result ≡ count (row_of e).columns = c.len-all.ensures.count in
    subst (λ k. AreBelow e.clauses.now (goal_of e) k e.front.rest) (sym n) (row_bound e.clauses.now (goal_of e) (row_of e) e.front.rest g.0 g.1 (goal_over_at e None e.front.rest g.0 c.requires.good c.requires.some refl g.1))

pub returns-then-own-all-clause-below : goal.returns-then-own-all-clause-below
returns-then-own-all-clause-below c =
    let e = c.args.self.now in
    let l = e.front.rest in
    let here = c.requires.good.here.rest in
    let rest : IsRest e.clauses.now (goal_of e) 0 (record { body = l.body; from = l.from; to = l.to; first = l.first; next = 0 }) = record { formed = here.formed; from = here.from; to = here.to; next = omega arith; small = here.small } in
    let its = clause_bound e.clauses.now (goal_of e) l c.in-Some.number c.in-Some.is rest c.requires.some in
    let vars = c.variables.ensures its.0 its.1 in
    subst (λ k. AreBelow e.clauses.now (goal_of e) (l.first + k) l) (sym vars) its.2
