use Rattle.std.proofs.Common.{◌≡◌, ◌++◌, ◌∙◌, sym, ap, refl, subst, List, Some}
use Rattle.std.proofs.lemmas.Result.{IfOk-weaker, on_ok_weaker, on_err_weaker}
use Rattle.std.proofs.Math.Logic.{∥∥₁_elim}
use base.Stored.{Coded-set}
use Rattle.pp_core.specs.Runs.{opening, state, is_done}
use Rattle.pp_core.specs.declared.entry.Act.TheVariants.{Looked}
use Rattle.pp_core.specs.declared.entry.EntryOf.{EntryOf}
use Rattle.pp_core.proofs.Worths.{AreLawful}
use Rattle.pp_turn.specs.Seats.{seen}
use Rattle.pp_cell.proofs.Entries.{longer_log, if_some, if_none}
use Rattle.pp_cell.proofs.Replays.{grows_from, replay_fits}
use Rattle.pp_cell.proofs.Turned.{based_on, knows, enters, saw_others}
use Rattle.pp_cell.proofs.cell.Cell.look.Goals as goal

pub invariant_of-pass : goal.invariant_of-pass
invariant_of-pass g c =
    let law = g.met.S.Lattice g.world.𝓛 g.world.𝓜 g.world.𝓡 ((λ _ x. x), (λ x. x), (λ x. x), λ x. x) in
    let tasks = g.met.S.Space g.world.𝓛 g.world.𝓜 g.world.𝓡 ((λ _ x. x), (λ x. x), (λ x. x), λ x. x) in
    let p = c.args.pass.now in
    let s = p.space.now in
    let b = c.look-shown.new.self in
    let laws : AreLawful (g.S.Lattice.fits s) (g.S.Space.worth s) (g.S.Lattice.joined s) g.S.Space.are_same = record { joined_fits = law.joined_fits s; idempotent = law.idempotent s; commutative = law.commutative s; associative = law.associative s; worth_fits = tasks.worth_fits s; same_worth = tasks.same_worth s } in
    let known = knows g.S.Space.are_same g.S.Lattice.joined g.S.Space.worth g.S.Lattice.bottom g.S.Lattice.fits (λ z. z.space) (λ z. z.root) (Coded-set g.row.S.coded) (Coded-set g.row.S-Task.coded) c.enter-book.ensures.base p.based
    (ap (λ x. x.now) c.look-shown.ensures.space) c.look-shown.ensures.root _ _ _ _ c.leave.ensures.turn.1 (b.live, b.value, b.sound, b.taken) in
    let told = known.2 in
    let enter = c.enter-book.ensures.seat.0 in
    let leave = c.leave.ensures.seat in
    record {
      numbered = leave.number ∙ (enter.number ∙ p.numbered);
      one = leave.span ∙ (enter.span ∙ p.one);
      out = c.leave.ensures.turn.0;
      based = subst (λ o. ∥ o ≡ Some (record { space = s; root = p.root }) ∥₁) (sym (leave.base ∙ enter.base)) p.based;
      sound = told.2;
      taken = told.3;
      fits = ∥∥₁_elim told.2 squash₁ (λ sound. replay_fits (g.S.Lattice.fits s) (g.S.Space.worth s) (g.S.Lattice.joined s) g.S.Space.are_same laws (seen c.leave.new.seat) (opening (g.S.Lattice.bottom s) p.root) (law.bottom_fits s) sound);
    }

pub returns-clause-entry : goal.returns-clause-entry
returns-clause-entry g c = on_ok_weaker c.look-shown.result (enters _ _ _ _ _ Looked c.args.pass.now.numbered refl c.enter-book.ensures.log c.leave.ensures.turn.1) c.look-shown.ensures.written

pub returns-clause-none : goal.returns-clause-none
returns-clause-none g c =
    let p = c.args.pass.now in
    let s = p.space.now in
    let b = c.look-shown.new.self in
    let known = knows g.S.Space.are_same g.S.Lattice.joined g.S.Space.worth g.S.Lattice.bottom g.S.Lattice.fits (λ z. z.space) (λ z. z.root) (Coded-set g.row.S.coded) (Coded-set g.row.S-Task.coded) c.enter-book.ensures.base p.based
    (ap (λ x. x.now) c.look-shown.ensures.space) c.look-shown.ensures.root _ _ _ _ c.leave.ensures.turn.1 (b.live, b.value, b.sound, b.taken) in
    let told = known.2 in
    IfOk-weaker c.look-shown.result _ _ (λ o h. if_none _ _ o (λ no. (λ i. is_done (g.S.Lattice.is_settled (sym known.0 i)) (state (told.0 i) (told.1 i))) ∙ no) h) c.look-shown.ensures.none

pub returns-clause-some : goal.returns-clause-some
returns-clause-some g c =
    let p = c.args.pass.now in
    let s = p.space.now in
    let b = c.look-shown.new.self in
    let known = knows g.S.Space.are_same g.S.Lattice.joined g.S.Space.worth g.S.Lattice.bottom g.S.Lattice.fits (λ z. z.space) (λ z. z.root) (Coded-set g.row.S.coded) (Coded-set g.row.S-Task.coded) c.enter-book.ensures.base p.based
    (ap (λ x. x.now) c.look-shown.ensures.space) c.look-shown.ensures.root _ _ _ _ c.leave.ensures.turn.1 (b.live, b.value, b.sound, b.taken) in
    let told = known.2 in
    IfOk-weaker c.look-shown.result _ _ (λ o h. if_some _ _ o (λ x yes. (λ i. is_done (g.S.Lattice.is_settled (sym known.0 i)) (state (told.0 i) (told.1 i))) ∙ yes) h) c.look-shown.ensures.some

pub returns-clause-space : goal.returns-clause-space
returns-clause-space g c =
    let space = ap (λ x. x.now) c.look-shown.ensures.space ∙ based_on (λ z. z.space) (Coded-set g.row.S.coded) _ _ _ c.enter-book.ensures.base c.args.pass.now.based in
    IfOk-weaker c.look-shown.result _ _ (λ o h. if_some _ _ o (λ x k. k.0 ∙ space) h) c.look-shown.ensures.shown

pub returns-clause-root : goal.returns-clause-root
returns-clause-root g c =
    let root = c.look-shown.ensures.root ∙ based_on (λ z. z.root) (Coded-set g.row.S-Task.coded) _ _ _ c.enter-book.ensures.base c.args.pass.now.based in
    IfOk-weaker c.look-shown.result _ _ (λ o h. if_some _ _ o (λ x k. k.1 ∙ root) h) c.look-shown.ensures.shown

pub returns-clause-value : goal.returns-clause-value
returns-clause-value g c =
    let p = c.args.pass.now in
    let s = p.space.now in
    let b = c.look-shown.new.self in
    let known = knows g.S.Space.are_same g.S.Lattice.joined g.S.Space.worth g.S.Lattice.bottom g.S.Lattice.fits (λ z. z.space) (λ z. z.root) (Coded-set g.row.S.coded) (Coded-set g.row.S-Task.coded) c.enter-book.ensures.base p.based
    (ap (λ x. x.now) c.look-shown.ensures.space) c.look-shown.ensures.root _ _ _ _ c.leave.ensures.turn.1 (b.live, b.value, b.sound, b.taken) in
    let told = known.2 in
    IfOk-weaker c.look-shown.result _ _ (λ o h. if_some _ _ o (λ x k. k.2 ∙ sym told.1) h) c.look-shown.ensures.shown

pub returns-clause-grows : goal.returns-clause-grows
returns-clause-grows g c =
    let law = g.met.S.Lattice g.world.𝓛 g.world.𝓜 g.world.𝓡 ((λ _ x. x), (λ x. x), (λ x. x), λ x. x) in
    let tasks = g.met.S.Space g.world.𝓛 g.world.𝓜 g.world.𝓡 ((λ _ x. x), (λ x. x), (λ x. x), λ x. x) in
    let p = c.args.pass.now in
    let s = p.space.now in
    let b = c.look-shown.new.self in
    let log = c.enter-book.ensures.log in
    let laws : AreLawful (g.S.Lattice.fits s) (g.S.Space.worth s) (g.S.Lattice.joined s) g.S.Space.are_same = record { joined_fits = law.joined_fits s; idempotent = law.idempotent s; commutative = law.commutative s; associative = law.associative s; worth_fits = tasks.worth_fits s; same_worth = tasks.same_worth s } in
    let known = knows g.S.Space.are_same g.S.Lattice.joined g.S.Space.worth g.S.Lattice.bottom g.S.Lattice.fits (λ z. z.space) (λ z. z.root) (Coded-set g.row.S.coded) (Coded-set g.row.S-Task.coded) c.enter-book.ensures.base p.based
    (ap (λ x. x.now) c.look-shown.ensures.space) c.look-shown.ensures.root _ _ _ _ c.leave.ensures.turn.1 (b.live, b.value, b.sound, b.taken) in
    let told = known.2 in
    let more : (more : List (EntryOf g.row.S-Task.Denot g.row.S-Value.Denot)) × (b.entries.items ≡ seen p.seat ++ more) = longer_log (λ e. e.seat) p.number (seen p.seat) c.enter-book.result.entries.items b.entries.items log.0 log.1 c.look-shown.ensures.adds in
    ∥∥₁_elim told.2 (Coded-set g.row.S-Value.coded _ _) (λ sound.
    grows_from (g.S.Lattice.fits s) (g.S.Space.worth s) (g.S.Lattice.joined s) g.S.Space.are_same laws (opening (g.S.Lattice.bottom s) p.root) (seen p.seat) (seen c.leave.new.seat) more.0 (c.leave.ensures.turn.1 ∙ more.1) p.fits sound)

pub returns-clause-err : goal.returns-clause-err
returns-clause-err g c = on_err_weaker c.look-shown.result (saw_others _ _ _ _ _ _ c.args.pass.now.numbered c.enter-book.ensures.log c.leave.ensures.turn.1) c.look-shown.ensures.err
