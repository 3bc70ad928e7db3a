use Rattle.std.proofs.Common.{◌≡◌, ◌+◌, ◌-◌, ◌<◌, ◌++◌, length, replicate, None, ap, ◌∙◌, arith, rules, length-append}
use Rattle.std.proofs.lemmas.List.{length-replicate}
use Rattle.pp_heap.specs.declared.state.Slot.TheVariants.{Free}
use Rattle.pp_heap.specs.Values.{slot_at}
use Rattle.pp_unify.proofs.AddedMany.{free_slots_more}
use Rattle.pp_unify.proofs.Wider.{many_alike}
use Rattle.pp_unify.proofs.head.add_up_to.Goals as goal

pub returns-in_ok-add_many-clause-raised : goal.returns-in_ok-add_many-clause-raised
returns-in_ok-add_many-clause-raised c =
    let a = c.args.state.now in
    let b = c.add_many.new.self in
    let n = c.args.amount in
    let old = length a.slots.items in
    let less : old < n = search rules in
    let k : c.in_ok-missing.missing ≡ n - old = search rules in
    let e : b.slots.items ≡ a.slots.items ++ replicate (n - old) (Free None) = c.in_ok-add_many.ensures.slots ∙ ap (λ x. a.slots.items ++ replicate x (Free None)) k in
    let l : length b.slots.items ≡ n =
    ap length e ∙ length-append a.slots.items (replicate (n - old) (Free None)) ∙ ap (λ x. old + x) (length-replicate (n - old) (Free None)) ∙ omega (arith, less) in
    record {
      more = omega (arith, l, less);
      reached = omega (arith, l);
      bounded = λ m h j. omega (arith, l, j);
      heap = c.in_ok-add_many.ensures.heap;
      slots = λ v. ap (λ ss. slot_at ss v) e ∙ free_slots_more a.slots.items (n - old) v;
      alike = many_alike a b (n - old) e c.in_ok-add_many.ensures.heap c.in_ok-add_many.ensures.domains;
    }
