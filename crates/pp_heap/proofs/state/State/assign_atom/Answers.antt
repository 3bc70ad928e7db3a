use Rattle.std.proofs.Common.{None, refl, subst}
use Rattle.pp_heap.specs.declared.state.Value.TheVariants.{Atom}
use Rattle.pp_heap.specs.Outcomes.{IsFree}
use Rattle.pp_heap.specs.Stores.{store_of}
use Rattle.pp_heap.proofs.Binding.{IsBinding, binding_later}
use Rattle.pp_heap.proofs.Assigning.{assigned, finite_excludes, any_allows}
use Rattle.pp_heap.proofs.state.State.assign_atom.Goals as goal

pub returns-in-Some-clause-answer : goal.returns-in-Some-clause-answer
returns-in-Some-clause-answer c = finite_excludes c.args.self.now c.args.free c.in-Some.field-0 c.domain_place.result (Atom c.args.name) c.requires.good c.domain_place.ensures c.in-Some.is tt (λ n e. absurd (cc))

binding : (c : goal.In_ok-bind_atom-in-None) → IsBinding c.args.self.now c.bind_atom.new.self c.args.free None (Atom c.args.name)
binding c = record {
  good = c.requires.good;
  free = subst (IsFree (store_of c.args.self.now) c.args.free) c.in-None.is c.domain_place.ensures;
  change = c.in_ok-bind_atom-in-None.ensures.done;
}

pub returns-in_ok-bind_atom-in-None-clause-later : goal.returns-in_ok-bind_atom-in-None-clause-later
returns-in_ok-bind_atom-in-None-clause-later c = binding_later c.args.self.now c.bind_atom.new.self c.args.free None (Atom c.args.name) (binding c) tt (λ i. i)

pub returns-in_ok-bind_atom-in-None-clause-answer : goal.returns-in_ok-bind_atom-in-None-clause-answer
returns-in_ok-bind_atom-in-None-clause-answer c =
    let a = c.args.self.now in
    assigned a c.bind_atom.new.self c.args.free None (Atom c.args.name) (binding c) (any_allows a c.args.free None (Atom c.args.name) refl (λ i. i))
