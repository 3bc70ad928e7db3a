use Rattle.std.proofs.Common.{length, [], Some, refl, sym, ap, ◌∙◌, rules}
use Rattle.std.proofs.lemmas.List.{get_or_read_under}
use Rattle.pp_heap.specs.declared.state.Slot.TheVariants.{Free}
use Rattle.pp_heap.specs.Values.{slot_domain}
use Rattle.pp_domain.specs.Sets.{set_of}
use Rattle.pp_unify.proofs.terms.domain_of_slot.Goals as goal

pub index-requires : goal.index-requires
index-requires c =
    let f = rw c.in-Free-Some.is at c.in-Free-Some.field-0-is in
    let l = c.requires.place (Some c.in-Free-Some.place) (c.in-Free-Some.is ∙ ap Free f) in
    search (rules, l)

pub returns-in-Free-Some : goal.returns-in-Free-Some
returns-in-Free-Some c =
    let f = rw c.in-Free-Some.is at c.in-Free-Some.field-0-is in
    let e = c.in-Free-Some.is ∙ ap Free f in
    let ds = c.args.state.now.domains.items in
    let read = get_or_read_under ds c.in-Free-Some.place (length ds) c.index.result.now [] c.index.ensures (c.requires.place (Some c.in-Free-Some.place) e) refl in
    ap (λ d. Some (set_of d)) (read) ∙ sym (ap (slot_domain ds) e)
