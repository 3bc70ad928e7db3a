use Rattle.std.proofs.Common.{refl}
use Rattle.pp_path.specs.Works.{work_by}
use Rattle.pp_explore.proofs.Standing.{over_went}
use Rattle.pp_explore.proofs.Turns.{went_goes, choice_turns, failed_turns, answer_turns, loose_turns, answer_is_under, loose_is_under}
use Rattle.pp_explore.proofs.turn.enter.Goals as goal

pub gather_answer-requires : goal.gather_answer-requires
gather_answer-requires g c =
    answer_is_under (g.M.SearchMachine.clauses c.args.walker.now.machine) (g.G.Gatherer.mode c.args.gathered.now) (g.G.Gatherer.call c.args.gathered.now) (g.M.SearchMachine.place c.args.walker.now.machine) (g.M.SearchMachine.place c.step.new.self) c.args.walker.now.path.items (work_by c.args.work.now) (g.G.Gatherer.finding c.args.gathered.now) (rw c.in-Answer.is at c.in_ok-step.ensures.stepped) c.requires

pub gather_loose-requires : goal.gather_loose-requires
gather_loose-requires g c =
    loose_is_under (g.M.SearchMachine.clauses c.args.walker.now.machine) (g.G.Gatherer.mode c.args.gathered.now) (g.G.Gatherer.call c.args.gathered.now) (g.M.SearchMachine.place c.args.walker.now.machine) (g.M.SearchMachine.place c.step.new.self) c.args.walker.now.path.items (work_by c.args.work.now) (g.G.Gatherer.finding c.args.gathered.now) (rw c.in-Loose.is at c.in_ok-step.ensures.stepped) c.requires

pub returns-in-Went-clause-turns : goal.returns-in-Went-clause-turns
returns-in-Went-clause-turns g c =
    went_goes (g.M.SearchMachine.clauses c.args.walker.now.machine) (g.G.Gatherer.mode c.args.gathered.now) (g.G.Gatherer.call c.args.gathered.now) (g.M.SearchMachine.place c.args.walker.now.machine) (g.M.SearchMachine.place c.step.new.self) c.args.walker.now.path.items (work_by c.args.work.now) (g.G.Gatherer.finding c.args.gathered.now) (rw c.in-Went.is at c.in_ok-step.ensures.stepped) c.requires

pub returns-in-Went-clause-stands : goal.returns-in-Went-clause-stands
returns-in-Went-clause-stands g c = λ root s. over_went (g.M.SearchMachine.clauses c.args.walker.now.machine) root (g.M.SearchMachine.place c.args.walker.now.machine) (g.M.SearchMachine.place c.step.new.self) c.args.walker.now.path.items (rw c.in-Went.is at c.in_ok-step.ensures.stepped) s

pub returns-in_ok-down-in-Choice-clause-turns : goal.returns-in_ok-down-in-Choice-clause-turns
returns-in_ok-down-in-Choice-clause-turns g c =
    choice_turns (g.M.SearchMachine.clauses c.args.walker.now.machine) (g.G.Gatherer.mode c.args.gathered.now) (g.G.Gatherer.call c.args.gathered.now) (g.M.SearchMachine.place c.args.walker.now.machine) (g.M.SearchMachine.place c.step.new.self) c.args.walker.now.path.items (work_by c.args.work.now) (work_by c.down.new.self) (g.G.Gatherer.finding c.args.gathered.now) c.in-Choice.count (rw c.in-Choice.is at c.in_ok-step.ensures.stepped) c.in_ok-down-in-Choice.ensures.down c.requires

pub returns-in-Failed-clause-turns : goal.returns-in-Failed-clause-turns
returns-in-Failed-clause-turns g c =
    failed_turns (g.M.SearchMachine.clauses c.args.walker.now.machine) (g.G.Gatherer.mode c.args.gathered.now) (g.G.Gatherer.call c.args.gathered.now) (g.M.SearchMachine.place c.args.walker.now.machine) (g.M.SearchMachine.place c.step.new.self) (g.M.SearchMachine.place c.give_up.new.walker.machine) c.args.walker.now.path.items c.give_up.new.walker.path.items (work_by c.args.work.now) (work_by c.give_up.new.work) c.give_up.result (g.G.Gatherer.finding c.args.gathered.now) (g.G.Gatherer.finding c.args.gathered.now)
    (rw c.in-Failed.is at c.in_ok-step.ensures.stepped) (rw c.in_ok-step.ensures.clauses at c.give_up.ensures.gives_up) c.requires refl

pub returns-in_ok-gather_answer-in-Answer-clause-turns : goal.returns-in_ok-gather_answer-in-Answer-clause-turns
returns-in_ok-gather_answer-in-Answer-clause-turns g c =
    answer_turns (g.M.SearchMachine.clauses c.args.walker.now.machine) (g.G.Gatherer.mode c.args.gathered.now) (g.G.Gatherer.call c.args.gathered.now) (g.M.SearchMachine.place c.args.walker.now.machine) (g.M.SearchMachine.place c.step.new.self) (g.M.SearchMachine.place c.give_up-in-Answer.new.walker.machine) c.args.walker.now.path.items c.give_up-in-Answer.new.walker.path.items (work_by c.args.work.now) (work_by c.give_up-in-Answer.new.work) c.give_up-in-Answer.result (g.G.Gatherer.finding c.args.gathered.now) (g.G.Gatherer.finding c.gather_answer.new.gathered) (g.M.SearchMachine.place c.gather_answer.new.machine) c.in_ok-gather_answer-in-Answer.ensures.place
    (rw c.in-Answer.is at c.in_ok-step.ensures.stepped) (rw c.in_ok-step.ensures.clauses at (rw c.in_ok-gather_answer-in-Answer.ensures.clauses at c.give_up-in-Answer.ensures.gives_up)) c.requires c.in_ok-gather_answer-in-Answer.ensures.added

pub returns-in_ok-gather_loose-in-Loose-clause-turns : goal.returns-in_ok-gather_loose-in-Loose-clause-turns
returns-in_ok-gather_loose-in-Loose-clause-turns g c =
    loose_turns (g.M.SearchMachine.clauses c.args.walker.now.machine) (g.G.Gatherer.mode c.args.gathered.now) (g.G.Gatherer.call c.args.gathered.now) (g.M.SearchMachine.place c.args.walker.now.machine) (g.M.SearchMachine.place c.step.new.self) (g.M.SearchMachine.place c.give_up-in-Loose.new.walker.machine) c.args.walker.now.path.items c.give_up-in-Loose.new.walker.path.items (work_by c.args.work.now) (work_by c.give_up-in-Loose.new.work) c.give_up-in-Loose.result (g.G.Gatherer.finding c.args.gathered.now) (g.G.Gatherer.finding c.gather_loose.new.gathered) (g.M.SearchMachine.place c.gather_loose.new.machine) c.in_ok-gather_loose-in-Loose.ensures.place
    (rw c.in-Loose.is at c.in_ok-step.ensures.stepped) (rw c.in_ok-step.ensures.clauses at (rw c.in_ok-gather_loose-in-Loose.ensures.clauses at c.give_up-in-Loose.ensures.gives_up)) c.requires c.in_ok-gather_loose-in-Loose.ensures.added
