use Rattle.std.proofs.Common.{[], ◌++◌, ◌∙◌, refl}
use Rattle.pp_cell.specs.Passes.{own_entries, pass_number}
use Rattle.pp_worker.proofs.Peeks.{same_all, same_then}
use Rattle.pp_worker.proofs.Written.{written_none, written_then}
use Rattle.pp_worker.proofs.working.turn_until_settled.Goals as goal

pub loop-init : goal.loop-init
loop-init g c =
    let p = c.args.desk.now.pass in
    record {
      pass = record { cell = refl; space = refl; root = refl; number = refl };
      own = record { turns = []; own = written_none (pass_number p) (own_entries p) (own_entries p) refl };
      seat = c.requires.seat;
      hand = record { deque = refl; peeks = refl };
      peeks = same_all c.args.desk.now.peeks.items;
    }

pub returns-in_err-step-clause-peeks : goal.returns-in_err-step-clause-peeks
returns-in_err-step-clause-peeks g c = same_then c.args.desk.now.peeks.items c.loop.desk.peeks.items c.step.new.desk.peeks.items c.loop.invariant.peeks c.step.ensures.peeks

pub returns-then-branch-clause-peeks : goal.returns-then-branch-clause-peeks
returns-then-branch-clause-peeks g c = same_then c.args.desk.now.peeks.items c.loop.desk.peeks.items c.step.new.desk.peeks.items c.loop.invariant.peeks c.step.ensures.peeks

pub returns-then-branch-clause-own : goal.returns-then-branch-clause-own
returns-then-branch-clause-own g c =
    let p = c.args.desk.now.pass in
    let inv = c.loop.invariant in
    let h = c.in_ok-step.ensures.own in
    record {
      turns = inv.own.turns ++ h.turns;
      own = written_then (pass_number p) (pass_number c.loop.desk.pass) (own_entries p) (own_entries c.loop.desk.pass) (own_entries c.step.new.desk.pass) inv.own.turns h.turns inv.pass.number inv.own.own h.own;
    }

pub loop-preserved : goal.loop-preserved
loop-preserved g c =
    let p = c.args.desk.now.pass in
    let inv = c.loop.invariant in
    let e = c.step.ensures in
    let h = c.in_ok-step.ensures.own in
    record {
      pass = record { cell = e.pass.cell ∙ inv.pass.cell; space = e.pass.space ∙ inv.pass.space; root = e.pass.root ∙ inv.pass.root; number = e.pass.number ∙ inv.pass.number };
      own = record {
        turns = inv.own.turns ++ h.turns;
        own = written_then (pass_number p) (pass_number c.loop.desk.pass) (own_entries p) (own_entries c.loop.desk.pass) (own_entries c.step.new.desk.pass) inv.own.turns h.turns inv.pass.number inv.own.own h.own;
      };
      seat = e.seat;
      hand = record { deque = e.hand.deque ∙ inv.hand.deque; peeks = e.hand.peeks ∙ inv.hand.peeks };
      peeks = same_then c.args.desk.now.peeks.items c.loop.desk.peeks.items c.step.new.desk.peeks.items inv.peeks e.peeks;
    }
