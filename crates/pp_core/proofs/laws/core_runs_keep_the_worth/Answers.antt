use Rattle.pp_core.specs.Runs.{opening}
use Rattle.pp_core.proofs.Worths.{AreLawful, all_reports, all_entries, decides}
use Rattle.pp_core.proofs.laws.core_runs_keep_the_worth.Goals as goal

pub returns-clause-runs : goal.returns-clause-runs
returns-clause-runs g c root reports fit =
    let law = g.met.S.Lattice g.world.𝓛 g.world.𝓜 g.world.𝓡 ((λ _ x. x), (λ x. x), (λ x. x), λ x. x) in
    let tasks = g.met.S.Space g.world.𝓛 g.world.𝓜 g.world.𝓡 ((λ _ x. x), (λ x. x), (λ x. x), λ x. x) in
    let s = c.args.space.now in
    let laws : AreLawful (g.S.Lattice.fits s) (g.S.Space.worth s) (g.S.Lattice.joined s) g.S.Space.are_same = record { joined_fits = law.joined_fits s; idempotent = law.idempotent s; commutative = law.commutative s; associative = law.associative s; worth_fits = tasks.worth_fits s; same_worth = tasks.same_worth s } in
    (all_reports (g.S.Lattice.fits s) (g.S.Space.worth s) (g.S.Lattice.joined s) g.S.Space.are_same laws reports (opening (g.S.Lattice.bottom s) root) (g.S.Space.worth s root) fit (law.bottom_fits s, law.unit s (g.S.Space.worth s root) (tasks.worth_fits s root))).1

pub returns-clause-journals : goal.returns-clause-journals
returns-clause-journals g c root journal sound =
    let law = g.met.S.Lattice g.world.𝓛 g.world.𝓜 g.world.𝓡 ((λ _ x. x), (λ x. x), (λ x. x), λ x. x) in
    let tasks = g.met.S.Space g.world.𝓛 g.world.𝓜 g.world.𝓡 ((λ _ x. x), (λ x. x), (λ x. x), λ x. x) in
    let s = c.args.space.now in
    let laws : AreLawful (g.S.Lattice.fits s) (g.S.Space.worth s) (g.S.Lattice.joined s) g.S.Space.are_same = record { joined_fits = law.joined_fits s; idempotent = law.idempotent s; commutative = law.commutative s; associative = law.associative s; worth_fits = tasks.worth_fits s; same_worth = tasks.same_worth s } in
    (all_entries (g.S.Lattice.fits s) (g.S.Space.worth s) (g.S.Lattice.joined s) g.S.Space.are_same laws journal (opening (g.S.Lattice.bottom s) root) (g.S.Space.worth s root) sound (law.bottom_fits s, law.unit s (g.S.Space.worth s root) (tasks.worth_fits s root))).1

pub returns-clause-outcome : goal.returns-clause-outcome
returns-clause-outcome g c root reports fit done =
    let law = g.met.S.Lattice g.world.𝓛 g.world.𝓜 g.world.𝓡 ((λ _ x. x), (λ x. x), (λ x. x), λ x. x) in
    let tasks = g.met.S.Space g.world.𝓛 g.world.𝓜 g.world.𝓡 ((λ _ x. x), (λ x. x), (λ x. x), λ x. x) in
    let s = c.args.space.now in
    let laws : AreLawful (g.S.Lattice.fits s) (g.S.Space.worth s) (g.S.Lattice.joined s) g.S.Space.are_same = record { joined_fits = law.joined_fits s; idempotent = law.idempotent s; commutative = law.commutative s; associative = law.associative s; worth_fits = tasks.worth_fits s; same_worth = tasks.same_worth s } in
    let at = all_reports (g.S.Lattice.fits s) (g.S.Space.worth s) (g.S.Lattice.joined s) g.S.Space.are_same laws reports (opening (g.S.Lattice.bottom s) root) (g.S.Space.worth s root) fit (law.bottom_fits s, law.unit s (g.S.Space.worth s root) (tasks.worth_fits s root)) in
    decides (g.S.Lattice.fits s) (g.S.Space.worth s) (g.S.Lattice.joined s) g.S.Space.are_same laws (g.S.Lattice.is_settled s) (g.S.Lattice.outcome_of s) (law.settled_stays s) root _ at done
