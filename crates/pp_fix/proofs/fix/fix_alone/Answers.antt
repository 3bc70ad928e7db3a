use Rattle.std.proofs.Common.{◌≡◌, map, subst}
use Rattle.std.specs.Prelude.{◌≢◌, IfOk}
use Rattle.std.proofs.lemmas.List.Elements.{All-map}
use Rattle.pp_propagation.specs.Watchers.{HasRoom}
use Rattle.pp_term.specs.Meanings.{program}
use Rattle.pp_store.specs.Queries.{goals_in}
use Rattle.pp_fixpoint.specs.Fixpoints.{IsFixpoint, AreEnoughTurns}
use Rattle.pp_fix.specs.declared.fix.End.TheVariants.{Yes, Stopped}
use Rattle.pp_store.proofs.Opening.{on_err}
use Rattle.pp_fix.proofs.Turning.{at_start}
use Rattle.pp_fix.proofs.Resting.{ends_at_rest, ends_in_time}
use Rattle.pp_fix.proofs.fix.fix_alone.Goals as goal

pub returns-in_err-goals-clause-whole : goal.returns-in_err-goals-clause-whole
returns-in_err-goals-clause-whole g c =
    on_err _ _
    (at_start (program c.args.clauses.now) (goals_in c.args.query.now) c.args.depth c.args.store.now.row (map (λ w. (goal.Watcher-dyn g (w.vtable, w.value)).state w.value) c.args.watchers.now.items) c.args.turns
    (All-map HasRoom (λ w. (goal.Watcher-dyn g (w.vtable, w.value)).state w.value) c.args.watchers.now.items c.requires.room))

pub returns-clause-fixpoint : goal.returns-clause-fixpoint
returns-clause-fixpoint g c =
    subst (λ q. IfOk c.run.result (λ f. f.end ≡ Yes → IsFixpoint (program c.args.clauses.now) (goals_in q) c.args.depth c.run.new.store.row f.unfinished)) c.in_ok-goals.ensures
    (ends_at_rest (program c.args.clauses.now) (goals_in c.in_ok-goals.goals) c.args.depth c.args.turns c.args.store.now.row c.run.new.store.row (map (λ w. (goal.Watcher-dyn g (w.vtable, w.value)).state w.value) c.args.watchers.now.items) (map (λ w. (goal.Watcher-dyn g (w.vtable, w.value)).state w.value) c.run.new.watchers.items) c.run.result c.run.ensures.run)

pub returns-clause-enough : goal.returns-clause-enough
returns-clause-enough g c =
    subst (λ q. IfOk c.run.result (λ f. AreEnoughTurns (goals_in q) c.args.store.now.row c.args.turns → f.end ≢ Stopped)) c.in_ok-goals.ensures
    (ends_in_time (program c.args.clauses.now) (goals_in c.in_ok-goals.goals) c.args.depth c.args.turns c.args.store.now.row c.run.new.store.row (map (λ w. (goal.Watcher-dyn g (w.vtable, w.value)).state w.value) c.args.watchers.now.items) (map (λ w. (goal.Watcher-dyn g (w.vtable, w.value)).state w.value) c.run.new.watchers.items) c.run.result c.run.ensures.run)
