use Rattle.std.proofs.Common.{suc, length, sym, ap, ◌∙◌, arith, take}
use Rattle.pp_unify.proofs.Kept.{length-states_of, kept_taken}
use Rattle.pp_unify.proofs.bindings.Bindings.undo.Goals as goal

pub undo-requires-clause-within : goal.undo-requires-clause-within
undo-requires-clause-within c = omega (arith, c.requires, ap length (sym c.self.view_is), length-states_of c.self.inside.state)

pub returns : goal.returns
returns c = kept_taken c.undo.new.self c.self.inside.state c.args.mark c.undo.ensures.kept (c.undo.ensures.length ∙ c.mark.view_is) ∙ ap (take (suc c.args.mark)) c.self.view_is
