use Rattle.std.proofs.Common.{rules, ◌≡◌, ◌++◌, ◌∷◌, [], ◌∙◌, sym, ap, refl, subst, true, false, remove}
use Rattle.pp_core.specs.Runs.{is_live, without}
use Rattle.pp_core.specs.Worths.{with_worths}
use Rattle.pp_core.specs.declared.entry.Act.TheVariants.{Reported, Stale}
use Rattle.pp_core.proofs.Worths.{AreLawful, stays_whole}
use Rattle.pp_cell.specs.Entries.{entry}
use Rattle.pp_cell.proofs.Books.{accepted, tells_more, tells_same}
use Rattle.pp_cell.proofs.book.Book.add.Goals as goal

pub invariant_of-self-in_default-2 : goal.invariant_of-self-in_default-2
invariant_of-self-in_default-2 g c =
    let old = c.args.self.now in
    let w = c.in_ok-replacement.ensures in
    let gone : is_live g.S.Space.are_same c.args.report.task old.core.live.items ≡ false = search rules in
    let wrote : c.push_reserved.new.self.items ≡ old.entries.items ++ entry c.args.seat (Stale c.args.report.task) ∷ [] = cc in
    let t = tells_same g.S.Space.are_same (λ x. g.S.Lattice.joined x.now) (λ x. g.S.Space.worth x.now) (λ x. g.S.Lattice.bottom x.now) (λ x. g.S.Lattice.fits x.now)
    old.core.space c.weigh.new.self.space old.core.root c.weigh.new.self.root old.core.live.items c.weigh.new.self.live.items old.core.value c.weigh.new.self.value _ c.push_reserved.new.self.items
    w.space w.root w.tasks w.value wrote
    (tells_more g.S.Space.are_same (λ x. g.S.Lattice.joined x.now) (λ x. g.S.Space.worth x.now) (λ x. g.S.Lattice.bottom x.now) (λ x. g.S.Lattice.fits x.now)
    old.core.space old.core.root old.core.live.items old.core.value old.entries.items (entry c.args.seat (Stale c.args.report.task)) (old.live, old.value, old.sound, old.taken) gone tt old.core.live.items old.core.value refl) in
    record { live = t.0; value = t.1; sound = t.2; taken = t.3 }

pub replace-requires-clause-fits : goal.replace-requires-clause-fits
replace-requires-clause-fits g c κs within =
    let law = g.met.S.Lattice g.world.𝓛 g.world.𝓜 g.world.𝓡 ((λ _ x. x), (λ x. x), (λ x. x), λ x. x) in
    let core = c.args.self.now.core in
    let s = core.space.now in
    let joined : c.in-Some.replacement.value ≡ g.S.Lattice.joined s core.value c.args.report.found = search rules in
    subst (λ x. ∥ g.S.Lattice.fits x.now c.in-Some.replacement.value ∥₁) (sym c.in_ok-replacement.ensures.space)
    (subst (λ v. ∥ g.S.Lattice.fits s v ∥₁) (sym joined) (law.joined_fits s core.value c.args.report.found core.fits c.requires.fit.found))

pub replace-requires-clause-whole : goal.replace-requires-clause-whole
replace-requires-clause-whole g c κs within =
    let law = g.met.S.Lattice g.world.𝓛 g.world.𝓜 g.world.𝓡 ((λ _ x. x), (λ x. x), (λ x. x), λ x. x) in
    let tasks = g.met.S.Space g.world.𝓛 g.world.𝓜 g.world.𝓡 ((λ _ x. x), (λ x. x), (λ x. x), λ x. x) in
    let core = c.args.self.now.core in
    let report = c.args.report in
    let s = core.space.now in
    let laws : AreLawful (g.S.Lattice.fits s) (g.S.Space.worth s) (g.S.Lattice.joined s) g.S.Space.are_same = record { joined_fits = law.joined_fits s; idempotent = law.idempotent s; commutative = law.commutative s; associative = law.associative s; worth_fits = tasks.worth_fits s; same_worth = tasks.same_worth s } in
    let joined : c.in-Some.replacement.value ≡ g.S.Lattice.joined s core.value report.found = search rules in
    let live : is_live g.S.Space.are_same report.task core.live.items ≡ true = search rules in
    let rest : c.in-Some.replacement.rest.items ≡ report.rest = search rules in
    let place : remove c.weigh.new.self.live.items c.in-Some.replacement.place ≡ without g.S.Space.are_same report.task core.live.items = search rules in
    let whole = stays_whole (g.S.Lattice.fits s) (g.S.Space.worth s) (g.S.Lattice.joined s) g.S.Space.are_same laws report.task report.rest core.live.items report.found report.under core.value (g.S.Space.worth s core.root) core.fits c.requires.fit.found c.requires.fit.under live c.requires.fit.same c.requires.below core.whole in
    let here : with_worths (g.S.Space.worth s) (g.S.Lattice.joined s) c.in-Some.replacement.value (remove c.weigh.new.self.live.items c.in-Some.replacement.place ++ c.in-Some.replacement.rest.items) ≡ g.S.Space.worth s core.root =
    (λ i. with_worths (g.S.Space.worth s) (g.S.Lattice.joined s) (joined i) (place i ++ rest i)) ∙ whole in
    subst (λ x. with_worths (g.S.Space.worth x.now) (g.S.Lattice.joined x.now) c.in-Some.replacement.value (remove c.weigh.new.self.live.items c.in-Some.replacement.place ++ c.in-Some.replacement.rest.items) ≡ g.S.Space.worth x.now c.weigh.new.self.root) (sym c.in_ok-replacement.ensures.space)
    (here ∙ ap (λ r. g.S.Space.worth s r) (sym c.in_ok-replacement.ensures.root))

pub invariant_of-self-2 : goal.invariant_of-self-2
invariant_of-self-2 g c =
    let old = c.args.self.now in
    let r = c.args.report in
    let w = c.in_ok-replacement.ensures in
    let u = c.replace.ensures in
    let live : is_live g.S.Space.are_same r.task old.core.live.items ≡ true = search rules in
    let rest : c.in-Some.replacement.rest.items ≡ r.rest = search rules in
    let place : remove c.weigh.new.self.live.items c.in-Some.replacement.place ≡ without g.S.Space.are_same r.task old.core.live.items = search rules in
    let value : c.in-Some.replacement.value ≡ g.S.Lattice.joined old.core.space.now old.core.value r.found = search rules in
    let lives : c.replace.new.self.live.items ≡ without g.S.Space.are_same r.task old.core.live.items ++ r.rest = u.tasks ∙ (λ i. place i ++ rest i) in
    let wrote : c.push_reserved-2.new.self.items ≡ old.entries.items ++ entry c.args.seat (Reported r) ∷ [] = cc in
    let t = tells_same g.S.Space.are_same (λ x. g.S.Lattice.joined x.now) (λ x. g.S.Space.worth x.now) (λ x. g.S.Lattice.bottom x.now) (λ x. g.S.Lattice.fits x.now)
    old.core.space c.replace.new.self.space old.core.root c.replace.new.self.root _ c.replace.new.self.live.items _ c.replace.new.self.value _ c.push_reserved-2.new.self.items
    (u.space ∙ w.space) (u.root ∙ w.root) lives (u.value ∙ value) wrote
    (tells_more g.S.Space.are_same (λ x. g.S.Lattice.joined x.now) (λ x. g.S.Space.worth x.now) (λ x. g.S.Lattice.bottom x.now) (λ x. g.S.Lattice.fits x.now)
    old.core.space old.core.root old.core.live.items old.core.value old.entries.items (entry c.args.seat (Reported r)) (old.live, old.value, old.sound, old.taken) (c.requires.fit, c.requires.below) live
    (without g.S.Space.are_same r.task old.core.live.items ++ r.rest) (g.S.Lattice.joined old.core.space.now old.core.value r.found)
    (accepted g.S.Space.are_same (g.S.Lattice.joined old.core.space.now) r old.core.live.items old.core.value live)) in
    record { live = t.0; value = t.1; sound = t.2; taken = t.3 }
