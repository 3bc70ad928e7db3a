use Rattle.std.proofs.Common.{ap, sym, ◌∙◌}
use Rattle.std.proofs.lemmas.List.Elements.{All-map}
use Rattle.pp_propagation.specs.Watchers.{HasRoom}
use Rattle.pp_store.specs.Queries.{goals_in}
use Rattle.pp_find.specs.Meanings.{verdict_by}
use Rattle.pp_fix.specs.Committing.{waits_after}
use Rattle.pp_fix.proofs.Waking.{woken_all}
use Rattle.pp_fix.proofs.Watched.{narrows, quiet_turn}
use Rattle.pp_fix.proofs.commit.commit.Goals as goal

pub returns-in_ok-narrow-in-Narrow-clause-waiting : goal.returns-in_ok-narrow-in-Narrow-clause-waiting
returns-in_ok-narrow-in-Narrow-clause-waiting g c =
    let gs = goals_in c.args.goals.now in
    let old = c.args.store.now.row in
    let new = c.narrow.new.store.row in
    let later = c.args.progress.now.wake.waiting in
    c.in_ok-narrow-in-Narrow.ensures.waiting ∙ woken_all old new later gs ∙ sym (ap (λ v. waits_after gs old new later (verdict_by v)) c.in-Narrow.is)

pub returns-in_ok-narrow_watched-in-Narrow-2-clause-waiting : goal.returns-in_ok-narrow_watched-in-Narrow-2-clause-waiting
returns-in_ok-narrow_watched-in-Narrow-2-clause-waiting g c =
    let gs = goals_in c.args.goals.now in
    let old = c.args.store.now.row in
    let new = c.narrow_watched.new.store.row in
    let later = c.args.progress.now.wake.waiting in
    c.in_ok-narrow_watched-in-Narrow-2.ensures.waiting ∙ woken_all old new later gs ∙ sym (ap (λ v. waits_after gs old new later (verdict_by v)) c.in-Narrow-2.is)

pub returns-in-Fail-clause-noted : goal.returns-in-Fail-clause-noted
returns-in-Fail-clause-noted g c =
    quiet_turn (goals_in c.args.goals.now) c.args.store.now.row c.args.turn c.args.goal (verdict_by c.args.verdict) _ (All-map HasRoom _ _ c.requires.room) (ap (λ v. narrows (verdict_by v)) c.in-Fail.is)

pub returns-in-Same-clause-noted : goal.returns-in-Same-clause-noted
returns-in-Same-clause-noted g c =
    quiet_turn (goals_in c.args.goals.now) c.args.store.now.row c.args.turn c.args.goal (verdict_by c.args.verdict) _ (All-map HasRoom _ _ c.requires.room) (ap (λ v. narrows (verdict_by v)) c.in-Same.is)

pub returns-in-Nothing-clause-noted : goal.returns-in-Nothing-clause-noted
returns-in-Nothing-clause-noted g c =
    quiet_turn (goals_in c.args.goals.now) c.args.store.now.row c.args.turn c.args.goal (verdict_by c.args.verdict) _ (All-map HasRoom _ _ c.requires.room) (ap (λ v. narrows (verdict_by v)) c.in-Nothing.is)

pub returns-in-Unfinished-verdict-clause-noted : goal.returns-in-Unfinished-verdict-clause-noted
returns-in-Unfinished-verdict-clause-noted g c =
    quiet_turn (goals_in c.args.goals.now) c.args.store.now.row c.args.turn c.args.goal (verdict_by c.args.verdict) _ (All-map HasRoom _ _ c.requires.room) (ap (λ v. narrows (verdict_by v)) c.in-Unfinished-verdict.is)
