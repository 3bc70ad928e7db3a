use Rattle.std.proofs.Common.{◌≡◌, ◌-◌, sym, ◌∙◌, subst, arith}
use Rattle.pp_path.specs.Works.{work_by}
use Rattle.pp_explore.specs.Searching.{state, Goes}
use Rattle.pp_explore.specs.declared.stage.Stage.TheVariants.{Try}
use Rattle.pp_explore.proofs.Turns.{passed_turns, passed_at_once}
use Rattle.pp_explore.proofs.turn.pass_over.Goals as goal

pub returns-then-to-last-clause-passes : goal.returns-then-to-last-clause-passes
returns-then-to-last-clause-passes g c = λ m call k0 now f r place dead d.
    let n = c.min-to.result - c.last_level-last.result.now in
    let here : now ≡ c.last_level-last.result.now = place r.fits.0 r.fits.1 r.fits.2 ∙ sym (c.last_level-last.ensures.place r.fits.0 r.fits.1 r.fits.2) in
    let goes = passed_at_once (g.M.SearchMachine.clauses c.args.walker.now.machine) m call (g.M.SearchMachine.place c.args.walker.now.machine) c.args.walker.now.path.items c.args.work.now f k0 now c.args.from n
    (c.last_level-last.ensures.more n (omega (arith, c.if-to-last.true, c.min-to.ensures, c.saturating_sub.ensures))) (omega (arith, c.if-to-last.true)) (omega (arith, here, c.if-to-last.true, c.min-to.ensures)) place dead r in
    subst (λ x. Goes (g.M.SearchMachine.clauses c.args.walker.now.machine) m call (state (Try k0) (g.M.SearchMachine.place c.args.walker.now.machine) c.args.walker.now.path.items (work_by c.args.work.now) f) (state (Try c.args.from) (g.M.SearchMachine.place c.args.walker.now.machine) c.args.walker.now.path.items x f)) (sym c.skip.ensures) goes

pub returns-clause-passes : goal.returns-clause-passes
returns-clause-passes g c = λ m call k0 now f r place dead d.
    passed_turns (g.M.SearchMachine.clauses c.args.walker.now.machine) m call (g.M.SearchMachine.place c.args.walker.now.machine) (g.M.SearchMachine.place c.give_up.new.walker.machine) c.args.walker.now.path.items c.give_up.new.walker.path.items (work_by c.args.work.now) (work_by c.give_up.new.work) c.give_up.result f k0 now c.args.from place dead d c.give_up.ensures.gives_up r
