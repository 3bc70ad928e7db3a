use Rattle.std.proofs.Common.{◌≡◌, suc, ◌-◌, refl, sym, ◌∙◌, arith}
use Rattle.pp_term.specs.Meanings.{predicate_of, program}
use Rattle.pp_goal.specs.declared.acts.Act.TheVariants.{Call}
use Rattle.pp_resolve.specs.Engines.{place_of}
use Rattle.pp_resolve.specs.Events.{selected_as}
use Rattle.pp_resolve.proofs.Stepping.{begins_at, item_there, at_spent, at_called, call_cost, met}
use Rattle.pp_resolve.proofs.engine.Engine.meet_call.Goals as goal

pub returns-then-self-eq0-clause-cost : goal.returns-then-self-eq0-clause-cost
returns-then-self-eq0-clause-cost c =
    let e = c.args.self.now in
    let m = c.requires.met in
    let l = begins_at e c.args._at m.there in
    let g = item_there e c.args._at l.0 c.requires.good m.there l.1 in
    let p = (m.looks l.0 l.1 g.0 g.1).0 in
    call_cost e c.requires.good (selected_as c.args._at (Call c.args.predicate)) m l.0 l.1 g.0 g.1 (predicate_of p.0) p.2

pub returns-clause-cost : goal.returns-clause-cost
returns-clause-cost c =
    let e = c.args.self.now in
    let m = c.requires.met in
    let l = begins_at e c.args._at m.there in
    let g = item_there e c.args._at l.0 c.requires.good m.there l.1 in
    let p = (m.looks l.0 l.1 g.0 g.1).0 in
    call_cost e c.requires.good (selected_as c.args._at (Call c.args.predicate)) m l.0 l.1 g.0 g.1 (predicate_of p.0) p.2

pub returns-then-self-eq0-clause-stepped : goal.returns-then-self-eq0-clause-stepped
returns-then-self-eq0-clause-stepped c =
    let e = c.args.self.now in
    let m = c.requires.met in
    let l = begins_at e c.args._at m.there in
    let g = item_there e c.args._at l.0 c.requires.good m.there l.1 in
    let p = (m.looks l.0 l.1 g.0 g.1).0 in
    (at_spent e c.requires.good (selected_as c.args._at (Call c.args.predicate)) m l.0 l.1 g.0 g.1 (predicate_of p.0) p.2 c.if-self-eq0.true, refl)

pub returns-clause-stepped : goal.returns-clause-stepped
returns-clause-stepped c =
    let e = c.args.self.now in
    let m = c.requires.met in
    let l = begins_at e c.args._at m.there in
    let g = item_there e c.args._at l.0 c.requires.good m.there l.1 in
    let p = (m.looks l.0 l.1 g.0 g.1).0 in
    let d : e.front.depth ≡ suc (e.front.depth - 1) = omega (arith, c.if-self-eq0.false) in
    let k = at_called e c.requires.good (selected_as c.args._at (Call c.args.predicate)) m l.0 l.1 g.0 g.1 (predicate_of p.0) p.2 (e.front.depth - 1) d in
    met (program e.clauses.now) (place_of e) c.count_at.result c.alternatives.result c.alternatives.ensures (k.0, k.1, k.2 ∙ sym (c.count_at.ensures p.0 p.1))
