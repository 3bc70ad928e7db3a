use Rattle.std.proofs.Common.{suc, ◌∙◌}
use Rattle.pp_cell.specs.Passes.{own_entries, pass_number}
use Rattle.pp_worker.proofs.Written.{looked_then}
use Rattle.pp_worker.proofs.working.look_until_over.Goals as goal

pub returns-in-Some-2-clause-own : goal.returns-in-Some-2-clause-own
returns-in-Some-2-clause-own g c =
    let p = c.args.desk.now.pass in
    let q = c.loop.desk.pass in
    let inv = c.loop.invariant in
    (inv.own.0, looked_then (pass_number p) (pass_number q) inv.own.0 (own_entries p) (own_entries q) (own_entries c.look.new.desk.pass) inv.pass.number inv.own.1 c.in_ok-settled.ensures.own)

pub loop-preserved : goal.loop-preserved
loop-preserved g c =
    let p = c.args.desk.now.pass in
    let q = c.loop.desk.pass in
    let inv = c.loop.invariant in
    let e = c.look.ensures in
    record {
      pass = record { cell = e.pass.cell ∙ inv.pass.cell; space = e.pass.space ∙ inv.pass.space; root = e.pass.root ∙ inv.pass.root; number = e.pass.number ∙ inv.pass.number };
      own = (suc inv.own.0, looked_then (pass_number p) (pass_number q) inv.own.0 (own_entries p) (own_entries q) (own_entries c.look.new.desk.pass) inv.pass.number inv.own.1 c.in_ok-settled.ensures.own);
      seat = e.seat ∙ inv.seat;
      hand = e.hand ∙ inv.hand;
      peeks = e.peeks ∙ inv.peeks;
    }
