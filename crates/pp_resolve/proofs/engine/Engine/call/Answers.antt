use Rattle.std.proofs.Common.{None}
use Rattle.pp_goal.specs.declared.acts.Act.TheVariants.{Call}
use Rattle.std.proofs.lemmas.Result.{IfOk-weaker}
use Rattle.pp_resolve.specs.Events.{selected_as, Took}
use Rattle.pp_resolve.proofs.Choosing.{next_linked, met_linked, choice_same, took_from}
use Rattle.pp_resolve.proofs.engine.Engine.call.Goals as goal

pub enter_body-requires-clause-met : goal.enter_body-requires-clause-met
enter_body-requires-clause-met c = met_linked c.args.self.now c.link_of.new.self (selected_as None (Call c.args.predicate)) c.link_of.ensures.same c.link_of.ensures.front c.link_of.ensures.suspended c.requires.met

pub enter_body-requires-clause-choice : goal.enter_body-requires-clause-choice
enter_body-requires-clause-choice c = choice_same c.args.self.now c.link_of.new.self c.args.place c.link_of.ensures.same c.requires.choice

pub enter_body-requires-clause-next : goal.enter_body-requires-clause-next
enter_body-requires-clause-next c =
    let more = c.link_of.ensures.links in
    next_linked c.args.self.now c.link_of.new.self more.0 c.in_ok-next.next c.link_of.ensures.same c.link_of.ensures.front more.1 c.requires.good.here.rest c.in_ok-next.ensures.number

pub returns-clause-took : goal.returns-clause-took
returns-clause-took c =
    let a = c.args.self.now in
    let b = c.link_of.new.self in
    let e = c.enter_body.new.self in
    IfOk-weaker _ (λ x. Took b c.args.place x e) _ (λ x h. took_from a b e c.args.place x c.link_of.ensures.same h) c.enter_body.ensures.took
