use Rattle.std.proofs.Common.{refl}
use Rattle.pp_resolve.specs.declared.history.History.{History}
use Rattle.pp_resolve.proofs.Saved.{still_fit, linked}
use Rattle.pp_resolve.proofs.history.History.link.Goals as goal

pub returns-clause-fit : goal.returns-clause-fit
returns-clause-fit c =
    let h = c.args.self.now in
    let g : History = record { bindings = h.bindings; links = c.push.new.self; suspended = h.suspended; choices = h.choices } in
    record { there = (still_fit h g (linked h g c.args.rest refl c.in_ok-push.ensures.items refl) refl c.requires.fit).1; ordered = c.requires.fit.ordered }

pub returns-clause-frames : goal.returns-clause-frames
returns-clause-frames c =
    let h = c.args.self.now in
    let g : History = record { bindings = h.bindings; links = c.push.new.self; suspended = h.suspended; choices = h.choices } in
    (still_fit h g (linked h g c.args.rest refl c.in_ok-push.ensures.items refl) refl c.requires.fit).0
