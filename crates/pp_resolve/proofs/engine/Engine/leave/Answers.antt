use Rattle.std.proofs.Common.{◌++◌, ◌∷◌, [], ap, sym, ◌∙◌, subst, arith}
use Rattle.pp_resolve.specs.Kept.{kept_of}
use Rattle.pp_resolve.specs.Standing.{config_in}
use Rattle.pp_resolve.specs.Engines.{goal_of, row_of, config_of, IsPlaceOf}
use Rattle.pp_resolve.specs.Events.{without}
use Rattle.pp_resolve.proofs.Solving.{frame, kept_is, good_at, one_less, with_done, stands_first, some_waiting, done_goals, stands_done}
use Rattle.pp_resolve.proofs.engine.Engine.leave.Goals as goal

pub overflow_sub-self : goal.overflow_sub-self
overflow_sub-self c =
    let e = c.args.self.now in
    let there = subst (IsPlaceOf e) c.in-Some.is c.requires.there in
    let some = some_waiting e.clauses.now (goal_of e) e.columns.columns (kept_of e.history) e.front c.requires.good.here c.in-Some.place there.0 there.1 in
    omega (arith, some)

pub returns-in-None-clause-good : goal.returns-in-None-clause-good
returns-in-None-clause-good c =
    let e = c.args.self.now in
    record { ready = record { fit = c.requires.good.ready.fit; kept = c.requires.good.ready.kept; root = c.requires.good.ready.root }; here = stands_first e.clauses.now (goal_of e) e.columns.columns (kept_of e.history) e.front c.requires.good.here (subst (IsPlaceOf e) c.in-None.is c.requires.there) }

pub returns-in_ok-resume-in-Some-clause-good : goal.returns-in_ok-resume-in-Some-clause-good
returns-in_ok-resume-in-Some-clause-good c =
    let e = c.args.self.now in
    let i = c.in-Some.place in
    let there = subst (IsPlaceOf e) c.in-Some.is c.requires.there in
    let r = c.in_ok-resume-in-Some.ensures in
    let ds = e.history.suspended.done.items ++ i ∷ [] in
    good_at e c.resume.new.self (one_less e.front) (with_done (kept_of e.history) i) c.requires.good.ready r.fit r.frames
    (kept_is c.resume.new.self e.history.bindings e.history.links.items e.history.suspended.goals.items ds r.bindings r.links r.goals r.done)
    (stands_done e.clauses.now (goal_of e) e.columns.columns (kept_of e.history) e.front c.requires.good.here i there.0 there.1)

pub returns-in_ok-resume-in-Some-clause-left : goal.returns-in_ok-resume-in-Some-clause-left
returns-in_ok-resume-in-Some-clause-left c =
    let e = c.args.self.now in
    let i = c.in-Some.place in
    let there = subst (IsPlaceOf e) c.in-Some.is c.requires.there in
    let r = c.in_ok-resume-in-Some.ensures in
    let ds = e.history.suspended.done.items ++ i ∷ [] in
    ap (λ k. config_of e.clauses.now (goal_of e) e.columns.columns (frame k (one_less e.front))) (kept_is c.resume.new.self e.history.bindings e.history.links.items e.history.suspended.goals.items ds r.bindings r.links r.goals r.done)
    ∙ ap (λ gs. config_in (row_of e) gs e.columns.columns e.front.depth) (done_goals e.clauses.now (goal_of e) e.columns.columns (kept_of e.history) e.front c.requires.good.here i there.0 there.1)
    ∙ ap (λ at. without e at (row_of e)) (sym c.in-Some.is)
