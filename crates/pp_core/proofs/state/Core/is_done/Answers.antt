use Rattle.std.proofs.Common.{sym, ap, ◌∙◌}
use Rattle.pp_core.proofs.Worths.{AreLawful, absorbs}
use Rattle.pp_core.proofs.state.Core.is_done.Goals as goal

pub returns-else-is_empty-clause-decided : goal.returns-else-is_empty-clause-decided
returns-else-is_empty-clause-decided g c up_now =
    let law = g.met.S.Lattice g.world.𝓛 g.world.𝓜 g.world.𝓡 ((λ _ x. x), (λ x. x), (λ x. x), λ x. x) in
    let tasks = g.met.S.Space g.world.𝓛 g.world.𝓜 g.world.𝓡 ((λ _ x. x), (λ x. x), (λ x. x), λ x. x) in
    let core = c.args.self.now in
    let s = core.space.now in
    let laws : AreLawful (g.S.Lattice.fits s) (g.S.Space.worth s) (g.S.Lattice.joined s) g.S.Space.are_same = record { joined_fits = law.joined_fits s; idempotent = law.idempotent s; commutative = law.commutative s; associative = law.associative s; worth_fits = tasks.worth_fits s; same_worth = tasks.same_worth s } in
    let up = absorbs (g.S.Lattice.fits s) (g.S.Space.worth s) (g.S.Lattice.joined s) g.S.Space.are_same laws core.value core.live.items core.fits in
    (law.settled_stays s core.value (g.S.Space.worth s core.root) core.fits (tasks.worth_fits s core.root) (ap (λ w. g.S.Lattice.joined s core.value w) (sym core.whole) ∙ (up ∙ core.whole)) (sym c.settled.ensures ∙ up_now)).1
