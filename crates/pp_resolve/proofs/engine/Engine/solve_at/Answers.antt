use Rattle.std.proofs.Common.{suc, true, false, take, ap, sym, ◌∙◌, subst}
use Rattle.pp_unify.specs.States.{present}
use Rattle.pp_unify.specs.Forests.{AreDecided}
use Rattle.pp_goal.specs.Arguments.{terms_of}
use Rattle.pp_goal.specs.Acts.{items}
use Rattle.pp_resolve.specs.Engines.{row_of}
use Rattle.pp_resolve.specs.Events.{without}
use Rattle.pp_resolve.proofs.Moving.{rest_at_place}
use Rattle.pp_resolve.proofs.Saved.{taken_back}
use Rattle.pp_resolve.proofs.Solving.{later_good, later_above, same_good, same_place_of, without_later, lent_at, ready_at, decided_at, solved_at, AreSolvedAt, again_good, again_place}
use Rattle.pp_resolve.proofs.engine.Engine.solve_at.Goals as goal

pub goal_at-goal-requires-clause-formed : goal.goal_at-goal-requires-clause-formed
goal_at-goal-requires-clause-formed c = (rest_at_place c.args.self.now c.args.at c.rest_at-rest.result c.requires.good c.requires.there c.rest_at-rest.ensures).0.formed

pub solve-requires-clause-lent : goal.solve-requires-clause-lent
solve-requires-clause-lent c = lent_at c.args.self.now c.requires.good c.args.at c.requires.there c.rest_at-rest.result c.rest_at-rest.ensures c.goal_at-goal.result c.goal_at-goal.ensures

pub solve-requires-clause-ready : goal.solve-requires-clause-ready
solve-requires-clause-ready c = ready_at c.args.self.now c.requires.good c.args.at c.requires.there c.rest_at-rest.result c.rest_at-rest.ensures c.goal_at-goal.result c.goal_at-goal.ensures c.args.act c.requires.ready

pub returns-in_err-solve-clause-good : goal.returns-in_err-solve-clause-good
returns-in_err-solve-clause-good c = same_good c.args.self.now c.requires.good c.solve.new.bindings c.in_err-solve.ensures.err

pub returns-then-not-branch-clause-good : goal.returns-then-not-branch-clause-good
returns-then-not-branch-clause-good c = same_good c.args.self.now c.requires.good c.solve.new.bindings (c.in_ok-solve.ensures.stays c.if-not-branch.true)

pub returns-then-not-branch-clause-solved : goal.returns-then-not-branch-clause-solved
returns-then-not-branch-clause-solved c =
    let e = c.args.self.now in
    let d = c.goal_at-goal.result in
    let l = c.rest_at-rest.result in
    let q = present c.solve.new.bindings in
    let h = subst (λ b. AreDecided (row_of e) (items d.kind (terms_of d l.first) c.args.act) b q) c.if-not-branch.true c.in_ok-solve.ensures.decided in (
      λ m g b is. (q, decided_at e c.requires.good c.args.at c.requires.there l c.rest_at-rest.ensures d c.goal_at-goal.ensures c.args.act false q h m g b is),
      same_place_of e c.requires.good c.solve.new.bindings (c.in_ok-solve.ensures.stays c.if-not-branch.true),
    )

pub leave-requires-clause-good : goal.leave-requires-clause-good
leave-requires-clause-good c =
    let e = c.args.self.now in
    let d = c.goal_at-goal.result in
    let l = c.rest_at-rest.result in
    let q = present c.solve.new.bindings in
    let h = subst (λ b. AreDecided (row_of e) (items d.kind (terms_of d l.first) c.args.act) b q) c.if-not-branch.false c.in_ok-solve.ensures.decided in
    let s = solved_at e c.requires.good c.args.at c.requires.there l c.rest_at-rest.ensures d c.goal_at-goal.ensures c.args.act q h in
    later_good e c.requires.good c.solve.new.bindings c.solve.ensures.kept s.0 s.1

pub returns-in-Ok-clause-above : goal.returns-in-Ok-clause-above
returns-in-Ok-clause-above c = c.leave.ensures.above ∙ later_above c.args.self.now c.requires.good c.solve.new.bindings c.solve.ensures.kept

pub returns-in-Ok-clause-solved : goal.returns-in-Ok-clause-solved
returns-in-Ok-clause-solved c =
    let e = c.args.self.now in
    let d = c.goal_at-goal.result in
    let l = c.rest_at-rest.result in
    let q = present c.solve.new.bindings in
    let h = subst (λ b. AreDecided (row_of e) (items d.kind (terms_of d l.first) c.args.act) b q) c.if-not-branch.false c.in_ok-solve.ensures.decided in
    let same = ap present c.leave.ensures.bindings in (
      subst (AreSolvedAt e c.args.at c.args.act) (sym same) (decided_at e c.requires.good c.args.at c.requires.there l c.rest_at-rest.ensures d c.goal_at-goal.ensures c.args.act true q h),
      c.in-Ok.ensures.left ∙ without_later e c.solve.new.bindings c.args.at q ∙ ap (without e c.args.at) (sym same),
    )

pub returns-in-Err-clause-good : goal.returns-in-Err-clause-good
returns-in-Err-clause-good c =
    let e = c.args.self.now in
    let n = c.leave.new.self in
    let back = taken_back e.history.bindings c.solve.new.bindings c.undo.new.self c.mark-mark.result c.mark-mark.ensures.place c.solve.ensures.kept (c.undo.ensures ∙ ap (take (suc c.mark-mark.result)) c.leave.ensures.bindings) in
    again_good e c.requires.good n c.solve.new.bindings c.undo.new.self c.leave.ensures.same c.leave.ensures.good.ready.fit c.in-Err.ensures.kept c.leave.ensures.choices c.in-Err.ensures.front back

pub returns-in-Err-clause-above : goal.returns-in-Err-clause-above
returns-in-Err-clause-above c =
    let e = c.args.self.now in
    let n = c.leave.new.self in
    let back = taken_back e.history.bindings c.solve.new.bindings c.undo.new.self c.mark-mark.result c.mark-mark.ensures.place c.solve.ensures.kept (c.undo.ensures ∙ ap (take (suc c.mark-mark.result)) c.leave.ensures.bindings) in
    ap (λ p. p.above) (again_place e c.requires.good n c.solve.new.bindings c.undo.new.self c.leave.ensures.same c.leave.ensures.good.ready.fit c.in-Err.ensures.kept c.leave.ensures.choices c.in-Err.ensures.front back)

pub returns-in-Err-clause-err : goal.returns-in-Err-clause-err
returns-in-Err-clause-err c =
    let e = c.args.self.now in
    let n = c.leave.new.self in
    let back = taken_back e.history.bindings c.solve.new.bindings c.undo.new.self c.mark-mark.result c.mark-mark.ensures.place c.solve.ensures.kept (c.undo.ensures ∙ ap (take (suc c.mark-mark.result)) c.leave.ensures.bindings) in
    again_place e c.requires.good n c.solve.new.bindings c.undo.new.self c.leave.ensures.same c.leave.ensures.good.ready.fit c.in-Err.ensures.kept c.leave.ensures.choices c.in-Err.ensures.front back
