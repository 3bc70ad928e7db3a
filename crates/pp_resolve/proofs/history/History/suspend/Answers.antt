use Rattle.std.proofs.Common.{refl}
use Rattle.pp_resolve.specs.declared.history.History.{History}
use Rattle.pp_resolve.proofs.Saved.{still_fit, suspended_behind}
use Rattle.pp_resolve.proofs.history.History.suspend.Goals as goal

pub returns-clause-fit : goal.returns-clause-fit
returns-clause-fit c =
    let h = c.args.self.now in
    let g : History = record { bindings = h.bindings; links = h.links; suspended = c.push.new.self; choices = h.choices } in
    record { there = (still_fit h g (suspended_behind h g c.args.goal refl refl c.in_ok-push.ensures.goals c.push.ensures.done) refl c.requires.fit).1; ordered = c.push.ensures.ordered }

pub returns-clause-frames : goal.returns-clause-frames
returns-clause-frames c =
    let h = c.args.self.now in
    let g : History = record { bindings = h.bindings; links = h.links; suspended = c.push.new.self; choices = h.choices } in
    (still_fit h g (suspended_behind h g c.args.goal refl refl c.in_ok-push.ensures.goals c.push.ensures.done) refl c.requires.fit).0
