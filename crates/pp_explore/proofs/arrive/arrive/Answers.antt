use Rattle.std.proofs.Common.{◌≤◌, length, refl, inl, sym, ◌∙◌, subst}
use Rattle.pp_path.specs.Works.{work_by, levels_of}
use Rattle.pp_explore.specs.Standing.{nows}
use Rattle.pp_explore.proofs.Turns.{keeps_same}
use Rattle.pp_explore.proofs.Arriving.{next_has_level, spent_of, not_spent, left_smaller, missed_path, misses_from, keeps_past, arrives_trying, arrives_nowhere, later_on_next}
use Rattle.pp_explore.proofs.arrive.arrive.Goals as goal

pub loop-walker-init : goal.loop-walker-init
loop-walker-init g c = record {
  clauses = c.go_to.ensures.clauses;
  stands = c.go_to.ensures.stands;
  kept = keeps_same (g.M.SearchMachine.clauses c.args.walker.now.machine) (g.M.SearchMachine.place c.args.walker.now.machine) c.args.walker.now.path.items (work_by c.args.work.now);
  missed = missed_path (g.M.SearchMachine.clauses c.args.walker.now.machine) (g.M.SearchMachine.place c.args.walker.now.machine) c.args.walker.now.path.items c.args.work.now c.requires.open (rw c.path.ensures at (c.in_ok-go_to.ensures.missed c.if-branch.false));
  later = inl refl;
}

pub returns-then-not-next-clause-arrives : goal.returns-then-not-next-clause-arrives
returns-then-not-next-clause-arrives g c =
    arrives_nowhere (g.M.SearchMachine.clauses c.args.walker.now.machine) (g.M.SearchMachine.place c.args.walker.now.machine) c.args.walker.now.path.items (work_by c.args.work.now) (work_by c.loop-walker.work) (work_by c.next.new.self) (g.M.SearchMachine.place c.loop-walker.walker.machine) c.loop-walker.walker.path.items (sym c.next.ensures.next) (spent_of c.next.result c.next.new.self c.next.ensures.left c.if-not-next.true)
    c.loop-walker.invariant.kept c.loop-walker.invariant.missed

pub go_above-requires : goal.go_above-requires
go_above-requires g c =
    subst (λ x. 1 ≤ length x) (sym c.path-in-loop-walker.ensures) (next_has_level (g.M.SearchMachine.clauses c.args.walker.now.machine) c.loop-walker.work c.next.new.self c.next.ensures.next (c.if-not-next.ensures.left.0 refl))

pub returns-then-branch-2-clause-arrives : goal.returns-then-branch-2-clause-arrives
returns-then-branch-2-clause-arrives g c =
    arrives_trying (g.M.SearchMachine.clauses c.args.walker.now.machine) (g.M.SearchMachine.place c.args.walker.now.machine) c.args.walker.now.path.items (work_by c.args.work.now) (work_by c.loop-walker.work) c.next.new.self (g.M.SearchMachine.place c.go_above.new.self.machine) c.go_above.new.self.path.items (c.if-not-next.ensures.left.0 refl) (sym c.next.ensures.next)
    c.loop-walker.invariant.kept c.loop-walker.invariant.missed c.loop-walker.invariant.later
    (rw c.path-in-loop-walker.ensures at (c.in_ok-go_above.ensures.above c.if-branch-2.true)) (rw c.loop-walker.invariant.clauses at (c.in_ok-go_above.ensures.choice c.if-branch-2.true))

pub loop-walker-smaller : goal.loop-walker-smaller
loop-walker-smaller g c =
    left_smaller (g.M.SearchMachine.clauses c.args.walker.now.machine) (work_by c.loop-walker.work) (work_by c.next.new.self) (sym c.next.ensures.next) (not_spent c.next.new.self (c.if-not-next.ensures.left.0 refl))

pub loop-walker-preserved : goal.loop-walker-preserved
loop-walker-preserved g c =
    let open_now = c.if-not-next.ensures.left.0 refl in
    let missed = rw c.path-in-loop-walker.ensures at (rw c.loop-walker.invariant.clauses at (c.in_ok-go_above.ensures.missed c.if-branch-2.false)) in
    let stays = rw c.loop-walker.invariant.clauses at c.go_above.ensures.stands in
    record {
      clauses = c.in_ok-go_above.ensures.clauses ∙ c.loop-walker.invariant.clauses;
      stands = λ root s. stays root (c.loop-walker.invariant.stands root s);
      kept = keeps_past (g.M.SearchMachine.clauses c.args.walker.now.machine) (g.M.SearchMachine.place c.args.walker.now.machine) c.args.walker.now.path.items (work_by c.args.work.now) (work_by c.loop-walker.work) (work_by c.next.new.self) c.loop-walker.invariant.kept c.loop-walker.invariant.missed (sym c.next.ensures.next);
      missed = missed_path (g.M.SearchMachine.clauses c.args.walker.now.machine) (g.M.SearchMachine.place c.args.walker.now.machine) c.args.walker.now.path.items c.next.new.self open_now (misses_from (g.M.SearchMachine.clauses c.args.walker.now.machine) (g.M.SearchMachine.place c.args.walker.now.machine) c.args.walker.now.path.items (g.M.SearchMachine.place c.loop-walker.walker.machine) c.loop-walker.walker.path.items (nows (levels_of c.next.new.self)) c.loop-walker.invariant.stands missed);
      later = later_on_next (g.M.SearchMachine.clauses c.args.walker.now.machine) (g.M.SearchMachine.place c.args.walker.now.machine) c.args.walker.now.path.items (work_by c.args.work.now) (work_by c.loop-walker.work) (work_by c.next.new.self) (sym c.next.ensures.next) (not_spent c.next.new.self open_now) c.loop-walker.invariant.later;
    }
