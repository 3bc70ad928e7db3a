use Rattle.std.proofs.Common.{ap, refl, rules}
use Rattle.pp_heap.specs.Stores.{Store}
use Rattle.pp_heap.specs.declared.state.Entry.TheVariants.{Added}
use Rattle.pp_heap.proofs.Keeping.{entries_push}
use Rattle.pp_heap.proofs.Calm.{more_itself}
use Rattle.pp_heap.proofs.Growing.{added_one, added_entry}
use Rattle.pp_heap.proofs.state.State.add_slot.Goals as goal

pub returns-in_err-push-2-clause-kept : goal.returns-in_err-push-2-clause-kept
returns-in_err-push-2-clause-kept c =
    let t = c.args.self.now in
    (added_entry t _ c.in_ok-number.number c.requires.good (search rules) (record {
      store = ap (λ x. let r : Store = record { heap = t.heap.items; domains = t.domains.items; slots = x } in r) c.in_err-push-2.ensures.items;
      entries = entries_push t.trail.items c.push.new.self.items (Added c.in_ok-number.number) c.in_ok-push.ensures.items;
    })).kept

pub returns-clause-good : goal.returns-clause-good
returns-clause-good c =
    let t = c.args.self.now in
    (added_one t _ c.in_ok-number.number c.args.place c.requires.good c.requires.place (search rules) (search rules) (record {
      store = ap (λ x. let r : Store = record { heap = t.heap.items; domains = t.domains.items; slots = x } in r) c.in_ok-push-2.ensures.items;
      entries = entries_push t.trail.items c.push.new.self.items (Added c.in_ok-number.number) c.in_ok-push.ensures.items;
    })).good

pub returns-clause-kept : goal.returns-clause-kept
returns-clause-kept c =
    let t = c.args.self.now in
    (added_one t _ c.in_ok-number.number c.args.place c.requires.good c.requires.place (search rules) (search rules) (record {
      store = ap (λ x. let r : Store = record { heap = t.heap.items; domains = t.domains.items; slots = x } in r) c.in_ok-push-2.ensures.items;
      entries = entries_push t.trail.items c.push.new.self.items (Added c.in_ok-number.number) c.in_ok-push.ensures.items;
    })).kept

pub returns-clause-added : goal.returns-clause-added
returns-clause-added c =
    let t = c.args.self.now in
    let g = (added_one t _ c.in_ok-number.number c.args.place c.requires.good c.requires.place (search rules) (search rules) (record {
      store = ap (λ x. let r : Store = record { heap = t.heap.items; domains = t.domains.items; slots = x } in r) c.in_ok-push-2.ensures.items;
      entries = entries_push t.trail.items c.push.new.self.items (Added c.in_ok-number.number) c.in_ok-push.ensures.items;
    })) in
    record { place = c.args.place; slots = c.in_ok-push-2.ensures.items; domain = refl; domains = more_itself t.domains.items; heap = refl; same = g.same }
