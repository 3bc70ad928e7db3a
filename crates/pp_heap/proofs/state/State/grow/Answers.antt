use Rattle.std.proofs.Common.{◌≡◌, ◌++◌, ◌<◌, ◌^◌, ◌+◌, ◌-◌, ap, refl, reverse, rules, length, length-append, arith}
use Rattle.std.proofs.lemmas.List.{length-map}
use Rattle.pp_row.specs.Cells.{renamed}
use Rattle.pp_heap.specs.Stores.{Store}
use Rattle.pp_heap.specs.Values.{shifted}
use Rattle.pp_heap.specs.declared.state.Entry.TheVariants.{Grown}
use Rattle.pp_heap.proofs.Keeping.{entries_push}
use Rattle.pp_heap.proofs.Calm.{calm_same}
use Rattle.pp_heap.proofs.Growing.{grown, grown_entry, grown_calm, shifted_at}
use Rattle.pp_heap.proofs.state.State.grow.Goals as goal

pub returns-in_err-push-clause-grown : goal.returns-in_err-push-clause-grown
returns-in_err-push-clause-grown c = grown_calm c.args.self.now _ (calm_same c.args.self.now _ c.requires.good (record { store = refl; entries = ap reverse c.in_err-push.ensures.items })) refl

pub returns-in_err-push_shifted-clause-grown : goal.returns-in_err-push_shifted-clause-grown
returns-in_err-push_shifted-clause-grown c =
    let t = c.args.self.now in
    let e : c.in_ok-end.end - length c.args.cells.now ≡ length t.heap.items = search rules in
    grown_entry t _ (c.in_ok-end.end - length c.args.cells.now) c.requires.good e (record {
      store = ap (λ h. let r : Store = record { heap = h; domains = t.domains.items; slots = t.slots.items } in r) c.in_err-push_shifted.ensures.err;
      entries = entries_push t.trail.items c.push.new.self.items (Grown (c.in_ok-end.end - length c.args.cells.now)) c.in_ok-push.ensures.items;
    })

pub returns-clause-grown : goal.returns-clause-grown
returns-clause-grown c =
    let t = c.args.self.now in
    let e : c.in_ok-end.end - length c.args.cells.now ≡ length t.heap.items = search rules in
    let m : length (shifted c.args.first c.args.cells.now) ≡ length c.args.cells.now = length-map c.args.cells.now (renamed (λ v. c.args.first + v)) in
    let k : length t.heap.items + length c.args.cells.now < 2 ^ 32 = search rules in
    let l : length (t.heap.items ++ shifted c.args.first c.args.cells.now) < 2 ^ 32 = omega (arith, k, m, length-append t.heap.items (shifted c.args.first c.args.cells.now)) in
    grown t _ (c.in_ok-end.end - length c.args.cells.now) (shifted c.args.first c.args.cells.now) c.requires.good e (record { forest = c.requires.forest; variables = c.requires.variables }) l (record {
      store = ap (λ h. let r : Store = record { heap = h; domains = t.domains.items; slots = t.slots.items } in r) c.in_ok-push_shifted.ensures.cells;
      entries = entries_push t.trail.items c.push.new.self.items (Grown (c.in_ok-end.end - length c.args.cells.now)) c.in_ok-push.ensures.items;
    })

pub push_shifted-requires : goal.push_shifted-requires
push_shifted-requires c = record { fits = λ p v e. omega (arith, c.requires.good.few, c.requires.variables p (c.args.first + v) (shifted_at c.args.first c.args.cells.now p v e)) }
