use Rattle.std.proofs.Common.{◌≡◌, sym}
use Rattle.pp_cell.specs.Passes.{IsPassOf, pass_root, pass_space}
use Rattle.pp_team.proofs.Lists.{all-popped}
use Rattle.pp_team.proofs.open.open.Goals as goal

pub returns-clause-own : goal.returns-clause-own
returns-clause-own g c =
    (all-popped (λ p. IsPassOf c.in_ok-cell.cell p × (pass_space p ≡ c.args.space.now) × (pass_root p ≡ c.args.root)) c.in_ok-cell.passes.items c.pop.new.self.items c.in-Some.own c.in-Some.ensures.items c.in_ok-cell.ensures.passes).1

pub returns-clause-passes : goal.returns-clause-passes
returns-clause-passes g c k d within =
    let all = (all-popped (λ p. IsPassOf c.in_ok-cell.cell p × (pass_space p ≡ c.args.space.now) × (pass_root p ≡ c.args.root)) c.in_ok-cell.passes.items c.pop.new.self.items c.in-Some.own c.in-Some.ensures.items c.in_ok-cell.ensures.passes).0 in
    let at = all k d within in
    (sym at.1, at.0)
