use Rattle.std.proofs.Common.{◌<◌, ◌^◌, ◌∷◌, [], length, ap, sym, subst, rules}
use Rattle.pp_algebra.specs.Solve.{equation}
use Rattle.pp_algebra.specs.Terms.{variable}
use Rattle.pp_heap.specs.declared.state.Entry.TheVariants.{Defined}
use Rattle.pp_heap.specs.Values.{slot_of, value_term}
use Rattle.pp_heap.specs.Stores.{Store, store_of}
use Rattle.pp_heap.specs.Agreement.{Follows}
use Rattle.pp_heap.specs.Outcomes.{IsChange}
use Rattle.pp_heap.proofs.Growing.{with_slots}
use Rattle.pp_heap.proofs.Keeping.{good_same, kept_same}
use Rattle.pp_unify.proofs.AddedBound.{few_defined, defined_good, defined_kept, defined_as, defined_follows}
use Rattle.pp_unify.proofs.terms.add_bound.Goals as goal

pub returns-in_err-number-clause-good : goal.returns-in_err-number-clause-good
returns-in_err-number-clause-good c = good_same c.args.state.now c.define.new.self c.requires.good c.in_err-number.ensures.err

pub returns-in_err-number-clause-kept : goal.returns-in_err-number-clause-kept
returns-in_err-number-clause-kept c = kept_same c.args.state.now c.define.new.self c.in_err-number.ensures.err

pub returns-clause-good : goal.returns-clause-good
returns-clause-good c =
    let old = c.args.state.now in
    let new = c.define.new.self in
    let st = with_slots (store_of old) (slot_of c.args.value ∷ []) in
    let l : c.in_ok-number.number < 2 ^ 32 = search rules in
    let h : IsChange old new (Defined (length old.slots.items)) st = subst (λ n. IsChange old new (Defined n) st) c.in_ok-number.ensures.number c.in_ok-number.ensures.done in
    defined_good old new c.args.value c.requires.good c.requires.value h (few_defined old new c.args.value c.in_ok-number.number c.in_ok-number.ensures.number l h)

pub returns-clause-kept : goal.returns-clause-kept
returns-clause-kept c =
    let old = c.args.state.now in
    let new = c.define.new.self in
    let st = with_slots (store_of old) (slot_of c.args.value ∷ []) in
    let h : IsChange old new (Defined (length old.slots.items)) st = subst (λ n. IsChange old new (Defined n) st) c.in_ok-number.ensures.number c.in_ok-number.ensures.done in
    defined_kept old new c.args.value c.requires.good c.requires.value h

pub returns-clause-added : goal.returns-clause-added
returns-clause-added c =
    let old = c.args.state.now in
    let new = c.define.new.self in
    let st = with_slots (store_of old) (slot_of c.args.value ∷ []) in
    let h : IsChange old new (Defined (length old.slots.items)) st = subst (λ n. IsChange old new (Defined n) st) c.in_ok-number.ensures.number c.in_ok-number.ensures.done in
    defined_as old new c.args.value c.requires.good c.requires.value h

pub returns-clause-heap : goal.returns-clause-heap
returns-clause-heap c = ap (λ (z : Store). z.heap) c.in_ok-number.ensures.done.store

pub returns-clause-follows : goal.returns-clause-follows
returns-clause-follows c =
    let old = c.args.state.now in
    let new = c.define.new.self in
    let st = with_slots (store_of old) (slot_of c.args.value ∷ []) in
    let h : IsChange old new (Defined (length old.slots.items)) st = subst (λ n. IsChange old new (Defined n) st) c.in_ok-number.ensures.number c.in_ok-number.ensures.done in
    subst (λ x. Follows old new (equation (variable x) (value_term old.heap.items c.args.value))) (sym c.in_ok-number.ensures.number) (defined_follows old new c.args.value c.requires.good c.requires.value h)
