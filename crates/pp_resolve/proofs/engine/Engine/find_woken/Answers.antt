use Rattle.std.proofs.Common.{rules, ◌≡◌, length, sym, ◌∙◌, subst}
use Rattle.pp_resolve.specs.Engines.{goal_of, row_of, WaitBefore}
use Rattle.pp_resolve.proofs.Waits.{none_open}
use Rattle.pp_resolve.proofs.Woken.{all_wait_same, met_same}
use Rattle.pp_resolve.specs.Events.{selected_as}
use Rattle.std.specs.Prelude.{Some}
use Rattle.pp_resolve.proofs.engine.Engine.find_woken.Goals as goal

pub returns-then-self-eq0-clause-found : goal.returns-then-self-eq0-clause-found
returns-then-self-eq0-clause-found c =
    let e = c.args.self.now in
    let here = c.requires.good.here in
    none_open e.clauses.now (goal_of e) (row_of e) e.history.suspended.goals.items e.history.suspended.done.items here.suspended (sym here.waiting ∙ c.if-self-eq0.true)

pub keep_waits-requires-clause-wait : goal.keep_waits-requires-clause-wait
keep_waits-requires-clause-wait c =
    let e = c.args.self.now in
    let all : c.len-all.result ≡ length e.history.suspended.goals.items = search rules in
    subst (WaitBefore e) (sym all) c.in-None.ensures

pub returns-in-None-clause-found : goal.returns-in-None-clause-found
returns-in-None-clause-found c = all_wait_same c.args.self.now c.keep_waits.new.self c.keep_waits.ensures.same c.keep_waits.ensures.suspended c.in-None.ensures

pub returns-in-Some-clause-found : goal.returns-in-Some-clause-found
returns-in-Some-clause-found c =
    let k = c.keep_waits-in-Some in
    met_same c.args.self.now k.new.self (selected_as (Some c.in-Some.at) c.in-Some.act) k.ensures.same k.ensures.suspended k.ensures.rest c.in-Some.ensures
