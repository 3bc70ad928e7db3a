use Rattle.std.proofs.Common.{rules, ◌≡◌, ◌-◌, Some, None, ◌^◌, ◌<◌, refl, arith}
use Rattle.pp_algebra.specs.Terms.{count}
use Rattle.pp_unify.specs.States.{present}
use Rattle.pp_resolve.specs.Engines.{row_of}
use Rattle.pp_resolve.specs.declared.history.Front.{Front}
use Rattle.pp_resolve.specs.declared.engine.Engine.{Engine}
use Rattle.pp_resolve.proofs.Choosing.{took_true, took_false, good_again, place_again, above_longer, call_lent, left_depth, called_pred, clause_formed, clause_width, call_fails, call_takes, call_good}
use Rattle.pp_walk.proofs.Marks.{on_err}
use Rattle.pp_resolve.proofs.engine.Engine.enter_body.Goals as goal

pub number-number-requires : goal.number-number-requires
number-number-requires c = called_pred c.args.self.now c.requires.good c.args.predicate c.requires.met c.args.place c.requires.choice

pub enter-requires-clause-lent : goal.enter-requires-clause-lent
enter-requires-clause-lent c = call_lent c.args.self.now c.requires.good c.args.predicate c.requires.met c.goal_at-goal.result c.goal_at-goal.ensures

pub enter-requires-clause-formed : goal.enter-requires-clause-formed
enter-requires-clause-formed c = clause_formed c.args.self.now c.requires.good c.args.predicate c.requires.met c.args.place c.requires.choice c.number-number.result c.number-number.ensures.clause

pub enter-requires-clause-width : goal.enter-requires-clause-width
enter-requires-clause-width c = clause_width c.args.self.now c.requires.good c.args.predicate c.requires.met c.args.place c.requires.choice c.number-number.result c.number-number.ensures.clause c.goal_at-goal.result c.goal_at-goal.ensures

pub overflow_sub-self : goal.overflow_sub-self
overflow_sub-self c = let d = left_depth c.args.self.now c.requires.good c.args.predicate c.requires.met c.args.place c.requires.choice in let z = d.1 in omega (arith, z)

pub returns-then-entered-clause-above : goal.returns-then-entered-clause-above
returns-then-entered-clause-above c = let e = c.args.self.now in above_longer c.args.self.now c.enter.new.bindings (let f : Front = record { waiting = e.front.waiting; waits = e.front.waits; rest = record { body = Some c.number-number.result; from = 0; to = c.body_len-to.result; first = c.in_ok-first.first; next = c.args.next }; depth = e.front.depth - 1; selected = None } in f) c.requires.good.ready c.enter.ensures.kept

pub returns-then-entered-clause-good : goal.returns-then-entered-clause-good
returns-then-entered-clause-good c =
    let e = c.args.self.now in
    let first : c.in_ok-first.first ≡ count (row_of e).columns = search rules in
    let small : c.body_len-to.result < 2 ^ 32 = search rules in
    call_good e c.requires.good c.args.predicate c.requires.met c.args.place c.requires.choice c.number-number.result c.number-number.ensures.clause c.goal_at-goal.result c.goal_at-goal.ensures (present c.enter.new.bindings) c.in_ok-entered.entered c.in_ok-entered.ensures.entered c.if-entered.true c.in_ok-first.first c.body_len-to.result c.args.next first c.body_len-to.ensures small c.requires.next c.enter.new.bindings refl c.enter.ensures.kept

pub returns-then-entered-clause-took : goal.returns-then-entered-clause-took
returns-then-entered-clause-took c =
    let e = c.args.self.now in
    let first : c.in_ok-first.first ≡ count (row_of e).columns = search rules in
    let small : c.body_len-to.result < 2 ^ 32 = search rules in
    let t = call_takes e c.requires.good c.args.predicate c.requires.met c.args.place c.requires.choice c.number-number.result c.number-number.ensures.clause c.goal_at-goal.result c.goal_at-goal.ensures (present c.enter.new.bindings) c.in_ok-entered.entered c.in_ok-entered.ensures.entered c.if-entered.true c.in_ok-first.first c.body_len-to.result c.args.next first c.body_len-to.ensures small c.requires.next in
    let new : Engine = record { clauses = e.clauses; root = e.root; columns = e.columns; history = record e.history { bindings = c.enter.new.bindings }; front = (let f : Front = record { waiting = e.front.waiting; waits = e.front.waits; rest = record { body = Some c.number-number.result; from = 0; to = c.body_len-to.result; first = c.in_ok-first.first; next = c.args.next }; depth = e.front.depth - 1; selected = None } in f) } in
    took_true e new c.args.place c.in_ok-entered.entered c.if-entered.true t

pub returns-else-entered-clause-took : goal.returns-else-entered-clause-took
returns-else-entered-clause-took c =
    let e = c.args.self.now in
    let f = call_fails e c.requires.good c.args.predicate c.requires.met c.args.place c.requires.choice c.number-number.result c.number-number.ensures.clause c.goal_at-goal.result c.goal_at-goal.ensures (present c.enter.new.bindings) c.in_ok-entered.entered c.in_ok-entered.ensures.entered c.if-entered.false in
    let new : Engine = record { clauses = e.clauses; root = e.root; columns = e.columns; history = record e.history { bindings = c.enter.new.bindings }; front = e.front } in
    took_false e new c.args.place c.in_ok-entered.entered c.if-entered.false f (place_again e c.enter.new.bindings (c.in_ok-entered.ensures.stays c.if-entered.false))

pub returns-else-entered-clause-good : goal.returns-else-entered-clause-good
returns-else-entered-clause-good c = good_again c.args.self.now c.enter.new.bindings (c.in_ok-entered.ensures.stays c.if-entered.false) c.requires.good

pub returns-else-entered-clause-above : goal.returns-else-entered-clause-above
returns-else-entered-clause-above c = above_longer c.args.self.now c.enter.new.bindings c.args.self.now.front c.requires.good.ready c.enter.ensures.kept

pub returns-in_err-entered-clause-good : goal.returns-in_err-entered-clause-good
returns-in_err-entered-clause-good c = good_again c.args.self.now c.enter.new.bindings c.in_err-entered.ensures.err c.requires.good

pub returns-in_err-entered-clause-above : goal.returns-in_err-entered-clause-above
returns-in_err-entered-clause-above c = above_longer c.args.self.now c.enter.new.bindings c.args.self.now.front c.requires.good.ready c.enter.ensures.kept

pub returns-in_err-entered-clause-err : goal.returns-in_err-entered-clause-err
returns-in_err-entered-clause-err c = on_err c.from_residual-in_err-entered.result (place_again c.args.self.now c.enter.new.bindings c.in_err-entered.ensures.err)
