use Rattle.std.proofs.Common.{refl}
use Rattle.pp_resolve.specs.declared.history.History.{History}
use Rattle.pp_resolve.proofs.Saved.{still_fit, done_behind}
use Rattle.pp_resolve.proofs.history.History.resume.Goals as goal

pub returns-clause-fit : goal.returns-clause-fit
returns-clause-fit c =
    let h = c.args.self.now in
    let g : History = record { bindings = h.bindings; links = h.links; suspended = c.resume.new.self; choices = h.choices } in
    record { there = (still_fit h g (done_behind h g c.args.at refl refl c.resume.ensures.goals c.in_ok-resume.ensures.done) refl c.requires.fit).1; ordered = c.resume.ensures.ordered }

pub returns-clause-frames : goal.returns-clause-frames
returns-clause-frames c =
    let h = c.args.self.now in
    let g : History = record { bindings = h.bindings; links = h.links; suspended = c.resume.new.self; choices = h.choices } in
    (still_fit h g (done_behind h g c.args.at refl refl c.resume.ensures.goals c.in_ok-resume.ensures.done) refl c.requires.fit).0
