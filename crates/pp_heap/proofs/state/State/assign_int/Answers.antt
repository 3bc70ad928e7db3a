use Rattle.std.proofs.Common.{true, refl}
use Rattle.pp_heap.specs.declared.state.Value.TheVariants.{Int}
use Rattle.pp_heap.specs.Outcomes.{IsAllowed}
use Rattle.pp_heap.proofs.Binding.{IsBinding, binding_later}
use Rattle.pp_heap.proofs.Assigning.{assigned, int_allowed}
use Rattle.pp_heap.specs.Values.{domain_by}
use Rattle.pp_heap.proofs.Words.{word}
use Rattle.pp_heap.proofs.state.State.assign_int.Goals as goal

allowed : (c : goal.In_ok-bind_int) → IsAllowed c.args.self.now c.args.free c.domain_place-domain.result (Int c.args.value) true
allowed c =
    let a = c.args.self.now in
    let d = c.domain_place-domain.result in
    let h = rw (word c.args.value c.requires.integer, c.if-allowed.true) at c.holds-allowed.ensures in
    int_allowed a c.args.free d c.args.value (domain_by a.domains.items d) true c.domain_place-domain.ensures refl h

binding : (c : goal.In_ok-bind_int) → IsBinding c.args.self.now c.bind_int.new.self c.args.free c.domain_place-domain.result (Int c.args.value)
binding c = record { good = c.requires.good; free = c.domain_place-domain.ensures; change = rw (word c.args.value c.requires.integer) at c.in_ok-bind_int.ensures.done }

pub returns-in_ok-bind_int-clause-later : goal.returns-in_ok-bind_int-clause-later
returns-in_ok-bind_int-clause-later c = binding_later c.args.self.now c.bind_int.new.self c.args.free c.domain_place-domain.result (Int c.args.value) (binding c) c.requires.integer (allowed c).1

pub returns-in_ok-bind_int-clause-answer : goal.returns-in_ok-bind_int-clause-answer
returns-in_ok-bind_int-clause-answer c = rw c.if-allowed.true (assigned c.args.self.now c.bind_int.new.self c.args.free c.domain_place-domain.result (Int c.args.value) (binding c) (allowed c))
