use Rattle.std.proofs.Common.{ap, sym, ◌∙◌, subst}
use Rattle.pp_sld.specs.Leaves.{root}
use Rattle.pp_term.specs.Meanings.{mode_of, program, shape_of}
use Rattle.pp_find.specs.Meanings.{finding_by}
use Rattle.pp_search.specs.Worths.{IsFit}
use Rattle.pp_search.proofs.Fitting.{under_call, still_over, gathered_fits}
use Rattle.pp_search.proofs.search.Search.search_open.Goals as goal

pub explore-requires-clause-under : goal.explore-requires-clause-under
explore-requires-clause-under g c =
    under_call (program c.args.self.now.clauses.now) (shape_of c.args.self.now.shape) c.args.self.now.face c.args.self.now.depth (program c.args.walker.now.machine.clauses) c.args.walker.now.machine.place c.args.walker.now.path.items c.new-gathered.result.collector.call c.args.task.now
    (c.new-gathered.ensures.call ∙ (c.in_ok-call.ensures ∙ c.args.self.now.called)) c.requires.walker

pub returns-in_err-rest-clause-walker : goal.returns-in_err-rest-clause-walker
returns-in_err-rest-clause-walker g c =
    still_over (program c.args.self.now.clauses.now) (root (shape_of c.args.self.now.shape) c.args.self.now.face c.args.self.now.depth) (program c.args.walker.now.machine.clauses) (program c.explore.new.walker.machine.clauses) c.args.walker.now.machine.place c.explore.new.walker.machine.place c.args.walker.now.path.items c.explore.new.walker.path.items
    c.requires.walker c.explore.ensures.clauses c.explore.ensures.stands

pub returns-in_err-value-clause-walker : goal.returns-in_err-value-clause-walker
returns-in_err-value-clause-walker g c =
    still_over (program c.args.self.now.clauses.now) (root (shape_of c.args.self.now.shape) c.args.self.now.face c.args.self.now.depth) (program c.args.walker.now.machine.clauses) (program c.explore.new.walker.machine.clauses) c.args.walker.now.machine.place c.explore.new.walker.machine.place c.args.walker.now.path.items c.explore.new.walker.path.items
    c.requires.walker c.explore.ensures.clauses c.explore.ensures.stands

pub returns-clause-walker : goal.returns-clause-walker
returns-clause-walker g c =
    still_over (program c.args.self.now.clauses.now) (root (shape_of c.args.self.now.shape) c.args.self.now.face c.args.self.now.depth) (program c.args.walker.now.machine.clauses) (program c.explore.new.walker.machine.clauses) c.args.walker.now.machine.place c.explore.new.walker.machine.place c.args.walker.now.path.items c.explore.new.walker.path.items
    c.requires.walker c.explore.ensures.clauses c.explore.ensures.stands

pub returns-clause-worth : goal.returns-clause-worth
returns-clause-worth g c =
    subst (IsFit (program c.args.self.now.clauses.now) (shape_of c.args.self.now.shape) c.args.self.now.face c.args.self.now.depth (mode_of c.args.self.now.findings.mode) c.args.task.now c.in_ok-value.value) (sym c.from_vec.ensures)
    (gathered_fits (program c.args.self.now.clauses.now) (shape_of c.args.self.now.shape) c.args.self.now.face c.args.self.now.depth (mode_of c.args.self.now.findings.mode) (program c.args.walker.now.machine.clauses) c.args.walker.now.machine.place c.args.walker.now.path.items c.args.task.now (finding_by c.new-gathered.result.collector.finding) (finding_by c.explore.new.gathered.collector.finding) c.in_ok-value.value c.in_ok-rest.field-0.rest.items
    c.requires.walker c.new-gathered.ensures.empty (ap finding_by c.in_ok-value.ensures.finding) (rw c.new-gathered.ensures.mode at c.in_ok-rest.ensures.gathered))
