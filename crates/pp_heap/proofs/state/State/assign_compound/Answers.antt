use Rattle.std.proofs.Common.{true, false, None, refl, subst}
use Rattle.pp_heap.specs.declared.state.Value.TheVariants.{Compound}
use Rattle.pp_heap.specs.Outcomes.{IsFree, IsAllowed}
use Rattle.pp_heap.specs.Stores.{store_of}
use Rattle.pp_heap.proofs.Binding.{IsBinding, binding_later}
use Rattle.pp_heap.proofs.Assigning.{assigned, finite_excludes, compound_may_be}
use Rattle.pp_heap.proofs.state.State.assign_compound.Goals as goal

pub returns-in-Some-clause-answer : goal.returns-in-Some-clause-answer
returns-in-Some-clause-answer c = finite_excludes c.args.self.now c.args.free c.in-Some.field-0 c.domain_place.result (Compound c.args.place) c.requires.good c.domain_place.ensures c.in-Some.is c.requires.fixed (λ n e. absurd (cc))

pub returns-then-branch-clause-answer : goal.returns-then-branch-clause-answer
returns-then-branch-clause-answer c =
    let h = c.requires.fixed in
    let m = rw c.if-branch.true at c.in_ok-occurs-in-None.ensures in
    compound_may_be c.args.self.now c.args.free c.args.place None true c.requires.good h.0 h.1 refl m

allowed : (c : goal.In_ok-bind_compound-in-None) → IsAllowed c.args.self.now c.args.free None (Compound c.args.place) true
allowed c =
    let h = c.requires.fixed in
    let m = rw c.if-branch.false at c.in_ok-occurs-in-None.ensures in
    compound_may_be c.args.self.now c.args.free c.args.place None false c.requires.good h.0 h.1 refl m

binding : (c : goal.In_ok-bind_compound-in-None) → IsBinding c.args.self.now c.bind_compound.new.self c.args.free None (Compound c.args.place)
binding c = record {
  good = c.requires.good;
  free = subst (IsFree (store_of c.args.self.now) c.args.free) c.in-None.is c.domain_place.ensures;
  change = c.in_ok-bind_compound-in-None.ensures.done;
}

pub returns-in_ok-bind_compound-in-None-clause-later : goal.returns-in_ok-bind_compound-in-None-clause-later
returns-in_ok-bind_compound-in-None-clause-later c = binding_later c.args.self.now c.bind_compound.new.self c.args.free None (Compound c.args.place) (binding c) c.requires.fixed (allowed c).1

pub returns-in_ok-bind_compound-in-None-clause-answer : goal.returns-in_ok-bind_compound-in-None-clause-answer
returns-in_ok-bind_compound-in-None-clause-answer c = assigned c.args.self.now c.bind_compound.new.self c.args.free None (Compound c.args.place) (binding c) (allowed c)
