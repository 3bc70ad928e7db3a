use Rattle.std.proofs.Common.{None, refl, subst}
use Rattle.pp_heap.specs.declared.state.Value.TheVariants.{Compound}
use Rattle.pp_heap.specs.Outcomes.{IsFree}
use Rattle.pp_heap.specs.Stores.{store_of}
use Rattle.pp_heap.proofs.Binding.{IsBinding, binding_later}
use Rattle.pp_heap.proofs.Assigning.{assigned, finite_excludes, any_allows}
use Rattle.pp_heap.proofs.state.State.assign_apart.Goals as goal

pub returns-in-Some-clause-answer : goal.returns-in-Some-clause-answer
returns-in-Some-clause-answer c = finite_excludes c.args.self.now c.args.free c.in-Some.field-0 c.domain_place.result (Compound c.args.place) c.requires.good c.domain_place.ensures c.in-Some.is c.requires.fixed (λ n e. absurd (cc))

binding : (c : goal.In_ok-bind_compound-in-None) → IsBinding c.args.self.now c.bind_compound.new.self c.args.free None (Compound c.args.place)
binding c = record {
  good = c.requires.good;
  free = subst (IsFree (store_of c.args.self.now) c.args.free) c.in-None.is c.domain_place.ensures;
  change = c.in_ok-bind_compound-in-None.ensures.done;
}

pub returns-in_ok-bind_compound-in-None-clause-later : goal.returns-in_ok-bind_compound-in-None-clause-later
returns-in_ok-bind_compound-in-None-clause-later c = binding_later c.args.self.now c.bind_compound.new.self c.args.free None (Compound c.args.place) (binding c) c.requires.fixed c.requires.apart

pub returns-in_ok-bind_compound-in-None-clause-answer : goal.returns-in_ok-bind_compound-in-None-clause-answer
returns-in_ok-bind_compound-in-None-clause-answer c =
    let a = c.args.self.now in
    assigned a c.bind_compound.new.self c.args.free None (Compound c.args.place) (binding c) (any_allows a c.args.free None (Compound c.args.place) refl c.requires.apart)
