use Rattle.std.proofs.lemmas.Bool.{eq-eqb, eqb-true}
use Rattle.pp_heap.proofs.Seeing.{seen_free, seen_ground, seen_compound}
use Rattle.pp_heap.proofs.state.State.meets.Goals as goal

pub returns-in-Variable-clause-seen : goal.returns-in-Variable-clause-seen
returns-in-Variable-clause-seen c =
    seen_free c.args.self.now c.args.variable c.requires.good c.args.number c.value_of.result c.value_of.ensures c.args.work.now.items c.in-Variable.other _ c.in-Variable.is
    (eqb-true c.in-Variable.other c.args.variable, eq-eqb c.in-Variable.other c.args.variable)

pub returns-in_ok-push_arguments-in-Compound-clause-seen : goal.returns-in_ok-push_arguments-in-Compound-clause-seen
returns-in_ok-push_arguments-in-Compound-clause-seen c =
    let v = rw c.in-Compound.is at c.value_of.ensures.now in
    seen_compound c.args.self.now c.args.variable c.requires.good c.args.number c.value_of.result c.value_of.ensures c.args.work.now.items c.push_arguments.new.work.items c.in-Compound.place c.in-Compound.is v.0 v.1 c.in_ok-push_arguments-in-Compound.ensures.terms

pub returns-in_default-clause-seen : goal.returns-in_default-clause-seen
returns-in_default-clause-seen c =
    seen_ground c.args.self.now c.args.variable c.requires.good c.args.number c.value_of.result c.value_of.ensures c.args.work.now.items c.in_default.not-Variable c.in_default.not-Compound
