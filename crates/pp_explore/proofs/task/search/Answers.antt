use Rattle.std.proofs.Common.{rules, [], ◌∷◌, map, arith, sym, ◌∙◌, subst}
use Rattle.std.proofs.lemmas.Grind.{common_steps}
use Rattle.pp_path.specs.Works.{work_by}
use Rattle.pp_explore.specs.Searching.{state, HasSearched}
use Rattle.pp_explore.proofs.Searched.{searched_more, searched_split}
use Rattle.pp_explore.proofs.task.search.Goals as goal

pub returns-in-Done-clause-searched : goal.returns-in-Done-clause-searched
returns-in-Done-clause-searched g c =
    let ends = rw c.loop-stage.invariant.call at (rw c.loop-stage.invariant.mode at (rw c.loop-stage.invariant.clauses at (rw c.in-Done.is at c.in_ok-turn.ensures.turns))) in
    subst (λ x. HasSearched (g.M.SearchMachine.clauses c.args.walker.now.machine) (g.G.Gatherer.mode c.args.gathered.now) (state c.args.stage (g.M.SearchMachine.place c.args.walker.now.machine) c.args.walker.now.path.items (work_by c.args.work) (g.G.Gatherer.finding c.args.gathered.now)) (map work_by x) (g.G.Gatherer.finding c.turn.new.gathered)) (sym c.new-rest.ensures.items)
    (searched_more (g.M.SearchMachine.clauses c.args.walker.now.machine) (g.G.Gatherer.mode c.args.gathered.now) (state c.args.stage (g.M.SearchMachine.place c.args.walker.now.machine) c.args.walker.now.path.items (work_by c.args.work) (g.G.Gatherer.finding c.args.gathered.now)) (g.M.SearchMachine.place c.loop-stage.walker.machine) c.loop-stage.walker.path.items (work_by c.loop-stage.work) (g.G.Gatherer.finding c.loop-stage.gathered) (g.G.Gatherer.finding c.turn.new.gathered) ends.met [] c.loop-stage.invariant.stands c.loop-stage.invariant.searched ends.finding ends.keeps)

pub loop-stage-preserved-in-On : goal.loop-stage-preserved-in-On
loop-stage-preserved-in-On g c =
    let goes = rw c.loop-stage.invariant.call at (rw c.loop-stage.invariant.mode at (rw c.loop-stage.invariant.clauses at (rw c.in-On.is at c.in_ok-turn.ensures.turns))) in
    let stays = rw c.loop-stage.invariant.clauses at c.turn.ensures.stands in
    record {
      clauses = c.in_ok-turn.ensures.clauses ∙ c.loop-stage.invariant.clauses;
      mode = c.in_ok-turn.ensures.mode ∙ c.loop-stage.invariant.mode;
      call = c.in_ok-turn.ensures.call ∙ c.loop-stage.invariant.call;
      seat = c.is_up-up.ensures.seat;
      fresh = first_of (search rules, grind (arith, common_steps));
      late = first_of (search rules, grind (arith, common_steps));
      loads = omega (arith, c.is_up-up.ensures.loads, c.in_ok-turn.ensures.at_most, c.loop-stage.invariant.loads);
      paid = omega (arith, c.in_ok-turn.ensures.paid, c.loop-stage.invariant.paid);
      stands = λ root s. stays root (c.loop-stage.invariant.stands root s);
      ready = goes.ready;
      searched = searched_more (g.M.SearchMachine.clauses c.args.walker.now.machine) (g.G.Gatherer.mode c.args.gathered.now) (state c.args.stage (g.M.SearchMachine.place c.args.walker.now.machine) c.args.walker.now.path.items (work_by c.args.work) (g.G.Gatherer.finding c.args.gathered.now)) (g.M.SearchMachine.place c.loop-stage.walker.machine) c.loop-stage.walker.path.items (work_by c.loop-stage.work) (g.G.Gatherer.finding c.loop-stage.gathered) (g.G.Gatherer.finding c.turn.new.gathered) goes.met ((work_by c.turn.new.work) ∷ []) c.loop-stage.invariant.stands c.loop-stage.invariant.searched goes.finding goes.keeps;
      later = λ task k. goes.later task (c.loop-stage.invariant.later task k);
    }

pub returns-then-left-eq0-clause-searched : goal.returns-then-left-eq0-clause-searched
returns-then-left-eq0-clause-searched g c =
    let tried = rw c.loop-stage.invariant.call at (rw c.loop-stage.invariant.mode at (rw c.loop-stage.invariant.clauses at (rw c.in-Tried.is at c.in_ok-turn.ensures.turns))) in
    let goes = tried.0 in
    searched_split (g.M.SearchMachine.clauses c.args.walker.now.machine) (g.G.Gatherer.mode c.args.gathered.now) (state c.args.stage (g.M.SearchMachine.place c.args.walker.now.machine) c.args.walker.now.path.items (work_by c.args.work) (g.G.Gatherer.finding c.args.gathered.now)) (work_by c.turn.new.work) (g.G.Gatherer.finding c.turn.new.gathered) (map work_by c.in_ok-parts-in-Tried.parts.items) (searched_more (g.M.SearchMachine.clauses c.args.walker.now.machine) (g.G.Gatherer.mode c.args.gathered.now) (state c.args.stage (g.M.SearchMachine.place c.args.walker.now.machine) c.args.walker.now.path.items (work_by c.args.work) (g.G.Gatherer.finding c.args.gathered.now)) (g.M.SearchMachine.place c.loop-stage.walker.machine) c.loop-stage.walker.path.items (work_by c.loop-stage.work) (g.G.Gatherer.finding c.loop-stage.gathered) (g.G.Gatherer.finding c.turn.new.gathered) goes.met ((work_by c.turn.new.work) ∷ []) c.loop-stage.invariant.stands c.loop-stage.invariant.searched goes.finding goes.keeps) c.in_ok-parts-in-Tried.ensures.walked

pub loop-stage-preserved : goal.loop-stage-preserved
loop-stage-preserved g c =
    let tried = rw c.loop-stage.invariant.call at (rw c.loop-stage.invariant.mode at (rw c.loop-stage.invariant.clauses at (rw c.in-Tried.is at c.in_ok-turn.ensures.turns))) in
    let goes = tried.0 in
    let stays = rw c.loop-stage.invariant.clauses at c.turn.ensures.stands in
    record {
      clauses = c.in_ok-turn.ensures.clauses ∙ c.loop-stage.invariant.clauses;
      mode = c.in_ok-turn.ensures.mode ∙ c.loop-stage.invariant.mode;
      call = c.in_ok-turn.ensures.call ∙ c.loop-stage.invariant.call;
      seat = c.is_up-up.ensures.seat;
      fresh = first_of (search rules, grind (arith, common_steps));
      late = first_of (search rules, grind (arith, common_steps));
      loads = omega (arith, c.is_up-up.ensures.loads, c.in_ok-turn.ensures.at_most, c.loop-stage.invariant.loads);
      paid = omega (arith, c.in_ok-turn.ensures.paid, c.loop-stage.invariant.paid);
      stands = λ root s. stays root (c.loop-stage.invariant.stands root s);
      ready = goes.ready;
      searched = searched_more (g.M.SearchMachine.clauses c.args.walker.now.machine) (g.G.Gatherer.mode c.args.gathered.now) (state c.args.stage (g.M.SearchMachine.place c.args.walker.now.machine) c.args.walker.now.path.items (work_by c.args.work) (g.G.Gatherer.finding c.args.gathered.now)) (g.M.SearchMachine.place c.loop-stage.walker.machine) c.loop-stage.walker.path.items (work_by c.loop-stage.work) (g.G.Gatherer.finding c.loop-stage.gathered) (g.G.Gatherer.finding c.turn.new.gathered) goes.met ((work_by c.turn.new.work) ∷ []) c.loop-stage.invariant.stands c.loop-stage.invariant.searched goes.finding goes.keeps;
      later = λ task k. goes.later task (c.loop-stage.invariant.later task k);
    }
