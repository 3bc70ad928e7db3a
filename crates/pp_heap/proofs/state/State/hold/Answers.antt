use Rattle.std.proofs.Common.{◌≡◌, [], ◌∷◌, ap, refl, reverse, rules, length, ◌≤◌}
use Rattle.std.specs.FinSet as set
use Rattle.std.proofs.lemmas.List.Elements.{All-push}
use Rattle.pp_domain.specs.Sets.{set_of}
use Rattle.pp_heap.specs.Stores.{Store}
use Rattle.pp_heap.specs.declared.state.Entry.TheVariants.{Held}
use Rattle.pp_heap.proofs.Keeping.{entries_push}
use Rattle.pp_heap.proofs.Calm.{calm_same, calm_held, calm_entry}
use Rattle.pp_heap.proofs.state.State.hold.Goals as goal

pub returns-in_err-push-clause-calm : goal.returns-in_err-push-clause-calm
returns-in_err-push-clause-calm c = calm_same c.args.self.now _ c.requires.good (record { store = refl; entries = ap reverse c.in_err-push.ensures.items })

pub returns-in_err-push-2-clause-calm : goal.returns-in_err-push-2-clause-calm
returns-in_err-push-2-clause-calm c =
    let t = c.args.self.now in
    let e : c.in_ok-place.place ≡ length t.domains.items = search rules in
    calm_entry t _ c.in_ok-place.place c.requires.good e (record {
      store = ap (λ ds. let r : Store = record { heap = t.heap.items; domains = ds; slots = t.slots.items } in r) c.in_err-push-2.ensures.items;
      entries = entries_push t.trail.items c.push.new.self.items (Held c.in_ok-place.place) c.in_ok-push.ensures.items;
    })

pub returns-clause-calm : goal.returns-clause-calm
returns-clause-calm c =
    let t = c.args.self.now in
    let e : c.in_ok-place.place ≡ length t.domains.items = search rules in
    calm_held t _ c.in_ok-place.place (c.args.domain ∷ []) c.requires.good e (All-push (λ ps. 2 ≤ set.len (set_of ps)) t.domains.items c.args.domain c.requires.good.linked.wide c.requires.wide) (record {
      store = ap (λ ds. let r : Store = record { heap = t.heap.items; domains = ds; slots = t.slots.items } in r) c.in_ok-push-2.ensures.items;
      entries = entries_push t.trail.items c.push.new.self.items (Held c.in_ok-place.place) c.in_ok-push.ensures.items;
    })
