use Rattle.std.proofs.Common.{◌≡◌, ◌++◌, ◌∙◌, sym, ap, refl, subst, List, Some}
use Rattle.std.proofs.lemmas.Result.{IfOk-weaker, on_err_weaker}
use Rattle.std.proofs.Math.Logic.{∥∥₁_elim}
use base.Stored.{Coded-set}
use Rattle.pp_core.specs.Worths.{IsFit}
use Rattle.pp_core.specs.Runs.{opening, state, is_live, is_done, answer_if}
use Rattle.pp_core.specs.Journals.{replay}
use Rattle.pp_core.specs.declared.entry.EntryOf.{EntryOf}
use Rattle.pp_core.proofs.Worths.{AreLawful}
use Rattle.pp_turn.specs.Seats.{seen}
use Rattle.pp_cell.specs.Entries.{act_of}
use Rattle.pp_cell.proofs.Entries.{longer_log, both_ok}
use Rattle.pp_cell.proofs.Replays.{below_on, grows_from, replay_fits}
use Rattle.pp_cell.proofs.Turned.{based_on, knows, enters, saw_others}
use Rattle.pp_cell.proofs.cell.Cell.report.Goals as goal

pub add-answered-requires-clause-fit : goal.add-answered-requires-clause-fit
add-answered-requires-clause-fit g c κs within =
    let space = based_on (λ z. z.space) (Coded-set g.row.S.coded) _ _ _ c.enter-book.ensures.base c.args.pass.now.based in
    subst (λ x. IsFit (g.S.Space.worth x) (g.S.Lattice.joined x) (g.S.Lattice.fits x) c.args.report) (sym space) c.requires.fit

pub add-answered-requires-clause-below : goal.add-answered-requires-clause-below
add-answered-requires-clause-below g c κs within =
    let law = g.met.S.Lattice g.world.𝓛 g.world.𝓜 g.world.𝓡 ((λ _ x. x), (λ x. x), (λ x. x), λ x. x) in
    let tasks = g.met.S.Space g.world.𝓛 g.world.𝓜 g.world.𝓡 ((λ _ x. x), (λ x. x), (λ x. x), λ x. x) in
    let p = c.args.pass.now in
    let s = p.space.now in
    let b = c.enter-book.result in
    let laws : AreLawful (g.S.Lattice.fits s) (g.S.Space.worth s) (g.S.Lattice.joined s) g.S.Space.are_same = record { joined_fits = law.joined_fits s; idempotent = law.idempotent s; commutative = law.commutative s; associative = law.associative s; worth_fits = tasks.worth_fits s; same_worth = tasks.same_worth s } in
    let known = knows g.S.Space.are_same g.S.Lattice.joined g.S.Space.worth g.S.Lattice.bottom g.S.Lattice.fits (λ z. z.space) (λ z. z.root) (Coded-set g.row.S.coded) (Coded-set g.row.S-Task.coded) c.enter-book.ensures.base p.based
    refl refl _ _ _ _ refl (b.live, b.value, b.sound, b.taken) in
    let told = known.2 in
    let log = c.enter-book.ensures.log in
    let begun = opening (g.S.Lattice.bottom s) p.root in
    let seen_value = (replay g.S.Space.are_same (g.S.Lattice.joined s) (seen p.seat) begun).value in
    let low : g.S.Lattice.joined s c.args.report.under b.core.value ≡ b.core.value =
    ∥∥₁_elim told.2 (Coded-set g.row.S-Value.coded _ _) (λ sound.
    let up = grows_from (g.S.Lattice.fits s) (g.S.Space.worth s) (g.S.Lattice.joined s) g.S.Space.are_same laws begun (seen p.seat) b.entries.items log.0 log.1 p.fits sound in
    let fit = replay_fits (g.S.Lattice.fits s) (g.S.Space.worth s) (g.S.Lattice.joined s) g.S.Space.are_same laws b.entries.items begun (law.bottom_fits s) sound in
    subst (λ v. g.S.Lattice.joined s c.args.report.under v ≡ v) told.1
    (below_on (g.S.Lattice.fits s) (g.S.Space.worth s) (g.S.Lattice.joined s) g.S.Space.are_same laws c.args.report.under seen_value _ c.requires.fit.under p.fits fit c.requires.under up)) in
    subst (λ x. g.S.Lattice.joined x c.args.report.under b.core.value ≡ b.core.value) (sym known.0) low

pub invariant_of-pass : goal.invariant_of-pass
invariant_of-pass g c =
    let law = g.met.S.Lattice g.world.𝓛 g.world.𝓜 g.world.𝓡 ((λ _ x. x), (λ x. x), (λ x. x), λ x. x) in
    let tasks = g.met.S.Space g.world.𝓛 g.world.𝓜 g.world.𝓡 ((λ _ x. x), (λ x. x), (λ x. x), λ x. x) in
    let p = c.args.pass.now in
    let s = p.space.now in
    let b = c.add-answered.new.self in
    let laws : AreLawful (g.S.Lattice.fits s) (g.S.Space.worth s) (g.S.Lattice.joined s) g.S.Space.are_same = record { joined_fits = law.joined_fits s; idempotent = law.idempotent s; commutative = law.commutative s; associative = law.associative s; worth_fits = tasks.worth_fits s; same_worth = tasks.same_worth s } in
    let known = knows g.S.Space.are_same g.S.Lattice.joined g.S.Space.worth g.S.Lattice.bottom g.S.Lattice.fits (λ z. z.space) (λ z. z.root) (Coded-set g.row.S.coded) (Coded-set g.row.S-Task.coded) c.enter-book.ensures.base p.based
    (ap (λ x. x.now) c.add-answered.ensures.space) c.add-answered.ensures.root _ _ _ _ c.leave.ensures.turn.1 (b.live, b.value, b.sound, b.taken) in
    let told = known.2 in
    let enter = c.enter-book.ensures.seat.0 in
    let leave = c.leave.ensures.seat in
    record {
      numbered = leave.number ∙ (enter.number ∙ p.numbered);
      one = leave.span ∙ (enter.span ∙ p.one);
      out = c.leave.ensures.turn.0;
      based = subst (λ o. ∥ o ≡ Some (record { space = s; root = p.root }) ∥₁) (sym (leave.base ∙ enter.base)) p.based;
      sound = told.2;
      taken = told.3;
      fits = ∥∥₁_elim told.2 squash₁ (λ sound. replay_fits (g.S.Lattice.fits s) (g.S.Space.worth s) (g.S.Lattice.joined s) g.S.Space.are_same laws (seen c.leave.new.seat) (opening (g.S.Lattice.bottom s) p.root) (law.bottom_fits s) sound);
    }

pub returns-clause-pass : goal.returns-clause-pass
returns-clause-pass g c = record { cell = c.leave.ensures.seat.turn ∙ c.enter-book.ensures.seat.0.turn; space = refl; root = refl; number = refl }

pub returns-clause-entry : goal.returns-clause-entry
returns-clause-entry g c = IfOk-weaker c.add-answered.result _ _ (λ a. enters _ _ _ _ _ (act_of a.accepted c.args.report) c.args.pass.now.numbered refl c.enter-book.ensures.log c.leave.ensures.turn.1) c.add-answered.ensures.written

pub returns-clause-answer : goal.returns-clause-answer
returns-clause-answer g c =
    let p = c.args.pass.now in
    let old = c.enter-book.result in
    let b = c.add-answered.new.self in
    let before = knows g.S.Space.are_same g.S.Lattice.joined g.S.Space.worth g.S.Lattice.bottom g.S.Lattice.fits (λ z. z.space) (λ z. z.root) (Coded-set g.row.S.coded) (Coded-set g.row.S-Task.coded) c.enter-book.ensures.base p.based
    refl refl _ _ _ _ refl (old.live, old.value, old.sound, old.taken) in
    let known = knows g.S.Space.are_same g.S.Lattice.joined g.S.Space.worth g.S.Lattice.bottom g.S.Lattice.fits (λ z. z.space) (λ z. z.root) (Coded-set g.row.S.coded) (Coded-set g.row.S-Task.coded) c.enter-book.ensures.base p.based
    (ap (λ x. x.now) c.add-answered.ensures.space) c.add-answered.ensures.root _ _ _ _ c.leave.ensures.turn.1 (b.live, b.value, b.sound, b.taken) in
    let told = known.2 in
    IfOk-weaker c.add-answered.result _ _ (λ a h.
    record {
      before = old.entries.items;
      journal = c.leave.ensures.turn.1 ∙ h.0;
      answer = h.1 ∙ (λ i. answer_if (is_live g.S.Space.are_same c.args.report.task (sym before.2.0 i)) (is_done (g.S.Lattice.is_settled (known.0 i)) (state (sym told.0 i) (sym told.1 i))));
    }) (both_ok _ _ c.add-answered.result c.add-answered.ensures.written c.add-answered.ensures.answer)

pub returns-clause-seen : goal.returns-clause-seen
returns-clause-seen g c =
    let p = c.args.pass.now in
    let s = p.space.now in
    let b = c.add-answered.new.self in
    let known = knows g.S.Space.are_same g.S.Lattice.joined g.S.Space.worth g.S.Lattice.bottom g.S.Lattice.fits (λ z. z.space) (λ z. z.root) (Coded-set g.row.S.coded) (Coded-set g.row.S-Task.coded) c.enter-book.ensures.base p.based
    (ap (λ x. x.now) c.add-answered.ensures.space) c.add-answered.ensures.root _ _ _ _ c.leave.ensures.turn.1 (b.live, b.value, b.sound, b.taken) in
    let told = known.2 in
    IfOk-weaker c.add-answered.result _ _ (λ a h. h ∙ sym told.1) c.add-answered.ensures.seen

pub returns-clause-grows : goal.returns-clause-grows
returns-clause-grows g c =
    let law = g.met.S.Lattice g.world.𝓛 g.world.𝓜 g.world.𝓡 ((λ _ x. x), (λ x. x), (λ x. x), λ x. x) in
    let tasks = g.met.S.Space g.world.𝓛 g.world.𝓜 g.world.𝓡 ((λ _ x. x), (λ x. x), (λ x. x), λ x. x) in
    let p = c.args.pass.now in
    let s = p.space.now in
    let b = c.add-answered.new.self in
    let log = c.enter-book.ensures.log in
    let laws : AreLawful (g.S.Lattice.fits s) (g.S.Space.worth s) (g.S.Lattice.joined s) g.S.Space.are_same = record { joined_fits = law.joined_fits s; idempotent = law.idempotent s; commutative = law.commutative s; associative = law.associative s; worth_fits = tasks.worth_fits s; same_worth = tasks.same_worth s } in
    let known = knows g.S.Space.are_same g.S.Lattice.joined g.S.Space.worth g.S.Lattice.bottom g.S.Lattice.fits (λ z. z.space) (λ z. z.root) (Coded-set g.row.S.coded) (Coded-set g.row.S-Task.coded) c.enter-book.ensures.base p.based
    (ap (λ x. x.now) c.add-answered.ensures.space) c.add-answered.ensures.root _ _ _ _ c.leave.ensures.turn.1 (b.live, b.value, b.sound, b.taken) in
    let told = known.2 in
    let more : (more : List (EntryOf g.row.S-Task.Denot g.row.S-Value.Denot)) × (b.entries.items ≡ seen p.seat ++ more) = longer_log (λ e. e.seat) p.number (seen p.seat) c.enter-book.result.entries.items b.entries.items log.0 log.1 c.add-answered.ensures.adds in
    ∥∥₁_elim told.2 (Coded-set g.row.S-Value.coded _ _) (λ sound.
    grows_from (g.S.Lattice.fits s) (g.S.Space.worth s) (g.S.Lattice.joined s) g.S.Space.are_same laws (opening (g.S.Lattice.bottom s) p.root) (seen p.seat) (seen c.leave.new.seat) more.0 (c.leave.ensures.turn.1 ∙ more.1) p.fits sound)

pub returns-clause-err : goal.returns-clause-err
returns-clause-err g c = on_err_weaker c.add-answered.result (saw_others _ _ _ _ _ _ c.args.pass.now.numbered c.enter-book.ensures.log c.leave.ensures.turn.1) c.add-answered.ensures.err
