use Rattle.std.proofs.Common.{◌≡◌, sym, subst}
use Rattle.pp_cell.specs.Passes.{pass_space, pass_value}
use Rattle.pp_worker.proofs.Desks.{still_below}
use Rattle.pp_worker.proofs.report.look.Goals as goal

pub invariant_of-desk : goal.invariant_of-desk
invariant_of-desk g c =
    let law = g.met.E.Lattice g.world.𝓛 g.world.𝓜 g.world.𝓡 ((λ _ x. x), (λ x. x), (λ x. x), λ x. x) in
    let d = c.args.desk.now in
    let q = c.look.new.pass in
    let space : pass_space q ≡ pass_space d.pass = c.look.ensures.pass.space in
    record {
      fits = subst (λ x. ∥ g.E.Lattice.fits x d.seen ∥₁) (sym space) d.fits;
      below = still_below g.E.Lattice.fits g.E.Lattice.joined law.associative (pass_space d.pass) (pass_space q) d.seen (pass_value d.pass) (pass_value q) space d.fits d.pass.fits q.fits d.below c.look.ensures.grows;
      belongs = subst (λ x. ∥ g.E.Explorer.belongs x d.walker ∥₁) (sym space) d.belongs;
      some = d.some;
    }
