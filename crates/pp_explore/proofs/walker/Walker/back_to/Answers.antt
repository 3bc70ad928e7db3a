use Rattle.std.proofs.Common.{◌<◌, ◌≤◌, length, IsSome, arith, sym, ◌∙◌}
use Rattle.pp_explore.proofs.Standing.{back_nearer, back_there, stays_popped}
use Rattle.pp_explore.proofs.walker.Walker.back_to.Goals as goal

pub loop-self-preserved : goal.loop-self-preserved
loop-self-preserved g c =
    let p = g.M.SearchMachine.place c.loop-self.self.machine in
    let q = g.M.SearchMachine.place c.back.new.self in
    let ks = c.loop-self.self.path.items in
    let long : c.args.depth < length ks = omega (arith, c.loop-self-test.true, c.len.ensures, c.loop-self.self.path.ok.0) in
    let some : IsSome c.pop.result = c.pop.ensures.variant.1 (omega (arith, c.loop-self-test.true, c.len.ensures)) in
    let near = back_nearer c.args.depth p q c.back.result ks c.pop.new.self.items c.pop.result c.pop.ensures.items some c.back.ensures.back long in
    record {
      clauses = c.back.ensures.clauses ∙ c.loop-self.invariant.clauses;
      path = near.0 ∙ c.loop-self.invariant.path;
      place = near.1 ∙ c.loop-self.invariant.place;
      stands = stays_popped (g.M.SearchMachine.clauses c.args.self.now.machine) (g.M.SearchMachine.place c.args.self.now.machine) c.args.self.now.path.items p q c.back.result ks c.pop.new.self.items c.pop.result c.loop-self.invariant.stands c.pop.ensures.items some c.back.ensures.back;
    }

pub returns : goal.returns
returns g c =
    let short : length c.loop-self.self.path.items ≤ c.args.depth = omega (arith, c.loop-self-test.false, c.len.ensures, c.loop-self.self.path.ok.0) in
    let there = back_there c.args.depth (g.M.SearchMachine.place c.loop-self.self.machine) c.loop-self.self.path.items short in
    record {
      clauses = c.loop-self.invariant.clauses;
      path = sym there.0 ∙ c.loop-self.invariant.path;
      place = sym there.1 ∙ c.loop-self.invariant.place;
      stands = c.loop-self.invariant.stands;
    }
