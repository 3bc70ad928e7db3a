use Rattle.std.proofs.Common.{◌≡◌, ◌^◌, ◌<◌, ◌∷◌, [], length, ap, sym, subst, arith, rules}
use Rattle.pp_algebra.specs.Solve.{equation}
use Rattle.pp_algebra.specs.Terms.{variable}
use Rattle.pp_heap.specs.declared.state.Value.{Value}
use Rattle.pp_heap.specs.declared.state.Entry.TheVariants.{Defined}
use Rattle.pp_heap.specs.Values.{slot_of, value_term}
use Rattle.pp_heap.specs.Stores.{Store, store_of}
use Rattle.pp_heap.specs.Agreement.{Follows}
use Rattle.pp_heap.specs.Outcomes.{IsChange}
use Rattle.pp_heap.proofs.Growing.{with_slots}
use Rattle.pp_heap.proofs.Keeping.{good_same, kept_same}
use Rattle.pp_unify.proofs.AddedBound.{few_defined, defined_good, defined_kept, defined_as, defined_follows}
use Rattle.pp_unify.proofs.Stepping.{new_met, raised_itself}
use Rattle.pp_unify.proofs.head.add_variable.Goals as goal

changed : (c : goal.In_ok-define_slot) (k : Value) → c.args.slot ≡ slot_of k → IsChange c.args.state.now c.define_slot.new.self (Defined (length c.args.state.now.slots.items)) (with_slots (store_of c.args.state.now) (slot_of k ∷ []))
changed c k q =
    let old = c.args.state.now in
    let new = c.define_slot.new.self in
    subst (λ n. IsChange old new (Defined n) (with_slots (store_of old) (slot_of k ∷ []))) c.requires.next
    (subst (λ z. IsChange old new (Defined c.args.number) (with_slots (store_of old) (z ∷ []))) q c.in_ok-define_slot.ensures.done)

pub returns-in_err-define_slot-clause-onward : goal.returns-in_err-define_slot-clause-onward
returns-in_err-define_slot-clause-onward c =
    let e = c.in_err-define_slot.ensures.err in
    record { good = good_same c.args.state.now c.define_slot.new.self c.requires.good e; kept = kept_same c.args.state.now c.define_slot.new.self e }

pub returns-clause-onward : goal.returns-clause-onward
returns-clause-onward c =
    let old = c.args.state.now in
    let new = c.define_slot.new.self in
    let v = c.requires.slot in
    let l : c.args.number < 2 ^ 32 = search rules in
    let h = changed c v.0 v.1 in
    record { good = defined_good old new v.0 c.requires.good v.2 h (few_defined old new v.0 c.args.number c.requires.next l h); kept = defined_kept old new v.0 c.requires.good v.2 h }

pub returns-clause-met : goal.returns-clause-met
returns-clause-met c = λ k q w.
    let old = c.args.state.now in
    let new = c.define_slot.new.self in
    let x = c.args.number in
    let g = c.requires.good in
    let e = c.requires.next in
    let h = changed c k q in
    let f = subst (λ n. Follows old new (equation (variable n) (value_term old.heap.items k))) (sym e) (defined_follows old new k g w h) in
    new_met old old new k x x (omega (arith, e)) (raised_itself old x (omega (arith, e))) e (defined_as old new k g w h) (ap (λ (z : Store). z.heap) h.store) f
