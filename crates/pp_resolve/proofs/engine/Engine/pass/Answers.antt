use Rattle.std.proofs.Common.{rules, ◌≡◌, length, ap, ◌∙◌, arith, length-append}
use Rattle.pp_resolve.specs.Engines.{goal_of}
use Rattle.pp_resolve.proofs.Open.{open_short}
use Rattle.pp_resolve.proofs.Passing.{passed, passed_wait}
use Rattle.pp_resolve.proofs.engine.Engine.pass.Goals as goal

pub returns-clause-same : goal.returns-clause-same
returns-clause-same c =
    let e = c.args.self.now in
    let b = c.bound-below in
    let h = c.suspend.new.self in
    let all : c.len.result ≡ length h.suspended.goals.items = search rules in
    passed e c.requires.good c.requires.wait c.requires.sees b.result b.ensures.below b.ensures.sized b.ensures.last h c.in_ok-suspend.ensures.goals c.suspend.ensures.done c.suspend.ensures.links c.suspend.ensures.bindings c.suspend.ensures.fit c.suspend.ensures.frames c.mark.result c.len.result c.mark.ensures.place all

pub returns-clause-wait : goal.returns-clause-wait
returns-clause-wait c =
    let e = c.args.self.now in
    let b = c.bound-below in
    let h = c.suspend.new.self in
    let all : c.len.result ≡ length h.suspended.goals.items = search rules in
    passed_wait e c.requires.good c.requires.wait c.requires.sees b.result b.ensures.below b.ensures.sized b.ensures.last h c.in_ok-suspend.ensures.goals c.suspend.ensures.done c.suspend.ensures.links c.suspend.ensures.bindings c.suspend.ensures.fit c.suspend.ensures.frames c.mark.result c.len.result c.mark.ensures.place all

pub overflow_add-self : goal.overflow_add-self
overflow_add-self c =
    let e = c.args.self.now in
    let ss = e.history.suspended.goals.items in
    let h = c.suspend.new.self in
    let all : c.len.result ≡ length h.suspended.goals.items = search rules in
    let more = ap length c.in_ok-suspend.ensures.goals ∙ length-append ss _ in
    let short = open_short e.clauses.now (goal_of e) e.history.suspended.done.items 0 ss in
    omega (arith, all, more, short, c.requires.good.here.waiting)
