use Rattle.std.proofs.Common.{◌-◌, ap, refl, rules, reverse}
use Rattle.pp_heap.specs.Stores.{Store}
use Rattle.pp_heap.specs.declared.state.Entry.TheVariants.{Added}
use Rattle.pp_heap.proofs.Keeping.{entries_push}
use Rattle.pp_heap.proofs.Calm.{calm_same}
use Rattle.pp_heap.proofs.Growing.{added_many, added_entry}
use Rattle.pp_heap.proofs.state.State.add_many.Goals as goal

pub returns-in_err-push-clause-same : goal.returns-in_err-push-clause-same
returns-in_err-push-clause-same c = (calm_same c.args.self.now _ c.requires.good (record { store = refl; entries = ap reverse c.in_err-push.ensures.items })).same

pub returns-in_err-push_free-clause-kept : goal.returns-in_err-push_free-clause-kept
returns-in_err-push_free-clause-kept c =
    let t = c.args.self.now in
    (added_entry t _ (c.in_ok-end.end - c.args.count) c.requires.good (search rules) (record {
      store = ap (λ x. let r : Store = record { heap = t.heap.items; domains = t.domains.items; slots = x } in r) c.in_err-push_free.ensures.err;
      entries = entries_push t.trail.items c.push.new.self.items (Added (c.in_ok-end.end - c.args.count)) c.in_ok-push.ensures.items;
    })).kept

pub returns-in_err-push_free-clause-same : goal.returns-in_err-push_free-clause-same
returns-in_err-push_free-clause-same c =
    let t = c.args.self.now in
    (added_entry t _ (c.in_ok-end.end - c.args.count) c.requires.good (search rules) (record {
      store = ap (λ x. let r : Store = record { heap = t.heap.items; domains = t.domains.items; slots = x } in r) c.in_err-push_free.ensures.err;
      entries = entries_push t.trail.items c.push.new.self.items (Added (c.in_ok-end.end - c.args.count)) c.in_ok-push.ensures.items;
    })).same

pub returns-clause-good : goal.returns-clause-good
returns-clause-good c =
    let t = c.args.self.now in
    (added_many t _ (c.in_ok-end.end - c.args.count) c.args.count c.requires.good (search rules) (search rules) (record {
      store = ap (λ x. let r : Store = record { heap = t.heap.items; domains = t.domains.items; slots = x } in r) c.in_ok-push_free.ensures.slots;
      entries = entries_push t.trail.items c.push.new.self.items (Added (c.in_ok-end.end - c.args.count)) c.in_ok-push.ensures.items;
    })).good

pub returns-clause-kept : goal.returns-clause-kept
returns-clause-kept c =
    let t = c.args.self.now in
    (added_many t _ (c.in_ok-end.end - c.args.count) c.args.count c.requires.good (search rules) (search rules) (record {
      store = ap (λ x. let r : Store = record { heap = t.heap.items; domains = t.domains.items; slots = x } in r) c.in_ok-push_free.ensures.slots;
      entries = entries_push t.trail.items c.push.new.self.items (Added (c.in_ok-end.end - c.args.count)) c.in_ok-push.ensures.items;
    })).kept

pub returns-clause-same : goal.returns-clause-same
returns-clause-same c =
    let t = c.args.self.now in
    (added_many t _ (c.in_ok-end.end - c.args.count) c.args.count c.requires.good (search rules) (search rules) (record {
      store = ap (λ x. let r : Store = record { heap = t.heap.items; domains = t.domains.items; slots = x } in r) c.in_ok-push_free.ensures.slots;
      entries = entries_push t.trail.items c.push.new.self.items (Added (c.in_ok-end.end - c.args.count)) c.in_ok-push.ensures.items;
    })).same
