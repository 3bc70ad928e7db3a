use Rattle.std.proofs.Common.{◌≡◌, length, sym, ◌∙◌, rules}
use Rattle.pp_unify.proofs.Verdicts.{count_present, row_present}
use Rattle.pp_unify.proofs.bindings.Bindings.len.Goals as goal

pub returns-clause-count : goal.returns-clause-count
returns-clause-count c = let e : c.len.result ≡ length c.self.inside.state.slots.items = search rules in e ∙ sym (count_present c.self.inside.state c.args.self.now c.self.view_is)

pub returns-clause-row : goal.returns-clause-row
returns-clause-row c = row_present c.self.inside.state c.args.self.now c.self.invariant c.self.view_is
