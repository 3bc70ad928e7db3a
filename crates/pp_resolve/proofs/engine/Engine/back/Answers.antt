use Rattle.std.proofs.Common.{subst, All}
use Rattle.std.proofs.lemmas.List.Elements.{All-head, All-tail}
use Rattle.pp_resolve.specs.Frames.{frames_of, frame_of}
use Rattle.pp_resolve.specs.Engines.{Stands, goal_of}
use Rattle.pp_resolve.proofs.engine.Engine.back.Goals as goal

pub returns-in-Some-clause-good : goal.returns-in-Some-clause-good
returns-in-Some-clause-good c e =
    let old = c.args.self.now in
    let new = c.back.new.self in
    let stands = Stands old.clauses.now (goal_of old) old.columns.columns in
    let kept = subst (All stands) c.in-Some.ensures.taken c.requires.ready.kept in
    let frame = frame_of new c.in-Some.front in
    record {
      ready = record { fit = c.in-Some.ensures.fit; kept = All-tail stands frame (frames_of new) kept; root = c.requires.ready.root };
      here = All-head stands frame (frames_of new) kept;
    }
