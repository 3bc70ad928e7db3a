use Rattle.std.proofs.Common.{◌≡◌, length, inl, inr, refl, arith}
use Rattle.pp_path.specs.Works.{work_by}
use Rattle.pp_explore.proofs.Turns.{left_ends, left_goes}
use Rattle.pp_explore.proofs.turn.give_up.Goals as goal

pub returns-then-not-leave-clause-gives_up : goal.returns-then-not-leave-clause-gives_up
returns-then-not-leave-clause-gives_up g c = λ m call s f f' ms r known path found.
    left_ends (g.M.SearchMachine.clauses c.args.walker.now.machine) m call s (g.M.SearchMachine.place c.args.walker.now.machine) (g.M.SearchMachine.place c.leave.new.walker.machine) c.args.walker.now.path.items c.leave.new.walker.path.items (work_by c.args.work.now) (work_by c.leave.new.work) f f' ms path found r
    c.if-not-leave.ensures.left

pub returns-then-len-depth-clause-gives_up : goal.returns-then-len-depth-clause-gives_up
returns-then-len-depth-clause-gives_up g c = λ m call s f f' ms r known path found.
    left_goes (g.M.SearchMachine.clauses c.args.walker.now.machine) m call (g.M.SearchMachine.place c.args.walker.now.machine) (g.M.SearchMachine.place c.leave.new.walker.machine) c.args.walker.now.path.items c.leave.new.walker.path.items (work_by c.args.work.now) (work_by c.leave.new.work) f f' ms path found
    c.leave.ensures.stands c.args.from 0 (inl refl) s r known c.if-not-leave.ensures.left

pub returns-clause-gives_up : goal.returns-clause-gives_up
returns-clause-gives_up g c = λ m call s f f' ms r known path found.
    let same : length c.leave.new.walker.path.items ≡ length c.args.walker.now.path.items = omega (arith, c.if-len-depth.false, c.len.ensures, c.len-depth.ensures, c.leave.new.walker.path.ok.0, c.args.walker.now.path.ok.0) in
    left_goes (g.M.SearchMachine.clauses c.args.walker.now.machine) m call (g.M.SearchMachine.place c.args.walker.now.machine) (g.M.SearchMachine.place c.leave.new.walker.machine) c.args.walker.now.path.items c.leave.new.walker.path.items (work_by c.args.work.now) (work_by c.leave.new.work) f f' ms path found
    c.leave.ensures.stands c.args.from c.args.from (inr (refl, same)) s r known c.if-not-leave.ensures.left
