use Rattle.std.proofs.Common.{rules, ◌≡◌, ◌++◌, remove, true, sym, ap, ◌∙◌, subst}
use Rattle.pp_core.specs.Runs.{is_live, without}
use Rattle.pp_core.specs.Worths.{with_worths}
use Rattle.pp_core.proofs.Worths.{AreLawful, stays_whole}
use Rattle.pp_core.proofs.state.Core.accept.Goals as goal

pub replace-requires-clause-fits : goal.replace-requires-clause-fits
replace-requires-clause-fits g c κs within =
    let law = g.met.S.Lattice g.world.𝓛 g.world.𝓜 g.world.𝓡 ((λ _ x. x), (λ x. x), (λ x. x), λ x. x) in
    let s = c.args.self.now.space.now in
    let joined : c.in-Some.replacement.value ≡ g.S.Lattice.joined s c.args.self.now.value c.args.report.found = search rules in
    subst (λ x. ∥ g.S.Lattice.fits x.now c.in-Some.replacement.value ∥₁) (sym c.in_ok-replacement.ensures.space)
    (subst (λ v. ∥ g.S.Lattice.fits s v ∥₁) (sym joined) (law.joined_fits s c.args.self.now.value c.args.report.found c.args.self.now.fits c.requires.fit.found))

pub replace-requires-clause-whole : goal.replace-requires-clause-whole
replace-requires-clause-whole g c κs within =
    let law = g.met.S.Lattice g.world.𝓛 g.world.𝓜 g.world.𝓡 ((λ _ x. x), (λ x. x), (λ x. x), λ x. x) in
    let tasks = g.met.S.Space g.world.𝓛 g.world.𝓜 g.world.𝓡 ((λ _ x. x), (λ x. x), (λ x. x), λ x. x) in
    let core = c.args.self.now in
    let report = c.args.report in
    let s = core.space.now in
    let laws : AreLawful (g.S.Lattice.fits s) (g.S.Space.worth s) (g.S.Lattice.joined s) g.S.Space.are_same = record { joined_fits = law.joined_fits s; idempotent = law.idempotent s; commutative = law.commutative s; associative = law.associative s; worth_fits = tasks.worth_fits s; same_worth = tasks.same_worth s } in
    let joined : c.in-Some.replacement.value ≡ g.S.Lattice.joined s core.value report.found = search rules in
    let live : is_live g.S.Space.are_same report.task core.live.items ≡ true = search rules in
    let rest : c.in-Some.replacement.rest.items ≡ report.rest = search rules in
    let place : remove c.weigh.new.self.live.items c.in-Some.replacement.place ≡ without g.S.Space.are_same report.task core.live.items = search rules in
    let whole = stays_whole (g.S.Lattice.fits s) (g.S.Space.worth s) (g.S.Lattice.joined s) g.S.Space.are_same laws report.task report.rest core.live.items report.found report.under core.value (g.S.Space.worth s core.root) core.fits c.requires.fit.found c.requires.fit.under live c.requires.fit.same c.requires.below core.whole in
    let here : with_worths (g.S.Space.worth s) (g.S.Lattice.joined s) c.in-Some.replacement.value (remove c.weigh.new.self.live.items c.in-Some.replacement.place ++ c.in-Some.replacement.rest.items) ≡ g.S.Space.worth s core.root =
    ap (λ v. with_worths (g.S.Space.worth s) (g.S.Lattice.joined s) v (remove c.weigh.new.self.live.items c.in-Some.replacement.place ++ c.in-Some.replacement.rest.items)) joined
    ∙ (ap (λ l. with_worths (g.S.Space.worth s) (g.S.Lattice.joined s) (g.S.Lattice.joined s core.value report.found) (l ++ c.in-Some.replacement.rest.items)) place
    ∙ (ap (λ l. with_worths (g.S.Space.worth s) (g.S.Lattice.joined s) (g.S.Lattice.joined s core.value report.found) (without g.S.Space.are_same report.task core.live.items ++ l)) rest ∙ whole)) in
    subst (λ x. with_worths (g.S.Space.worth x.now) (g.S.Lattice.joined x.now) c.in-Some.replacement.value (remove c.weigh.new.self.live.items c.in-Some.replacement.place ++ c.in-Some.replacement.rest.items) ≡ g.S.Space.worth x.now c.weigh.new.self.root) (sym c.in_ok-replacement.ensures.space)
    (here ∙ ap (λ r. g.S.Space.worth s r) (sym c.in_ok-replacement.ensures.root))
