use Rattle.std.proofs.Common.{refl}
use Rattle.pp_resolve.specs.declared.history.Front.{Front}
use Rattle.pp_resolve.specs.declared.history.Waits.{Waits}
use Rattle.pp_resolve.specs.Kept.{kept_of}
use Rattle.pp_resolve.specs.Engines.{goal_of, row_of}
use Rattle.pp_resolve.proofs.Moving.{same_goals, known_on}
use Rattle.pp_resolve.proofs.Waits.{waits_present}
use Rattle.pp_resolve.proofs.engine.Engine.keep_waits.Goals as goal

pub returns-clause-same : goal.returns-clause-same
returns-clause-same c =
    let e = c.args.self.now in
    let here = c.requires.good.here in
    let k = kept_of e.history in
    let w : Waits = record { since = c.mark.result; upto = c.args.upto } in
    let f : Front = record { waiting = e.front.waiting; waits = w; rest = e.front.rest; depth = e.front.depth; selected = e.front.selected } in
    same_goals e f c.requires.good refl refl refl here.rest
    (waits_present e.clauses.now (goal_of e) k w c.mark.ensures.place c.requires.within here.suspended.sized c.requires.wait)
    (known_on e.clauses.now (goal_of e) (row_of e) k k e.front f refl refl refl e.front.selected here.known)
