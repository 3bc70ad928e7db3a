use Rattle.std.proofs.Common.{◌∙◌, ◌∷◌, ap, sym, reverse, rules}
use Rattle.pp_heap.proofs.Keeping.{kept_through, entries_push}
use Rattle.pp_heap.proofs.Undoing.{IsUndone, undone_good, undone_kept}
use Rattle.pp_heap.proofs.state.State.undo.Goals as goal

pub loop-self-preserved-in-Some : goal.loop-self-preserved-in-Some
loop-self-preserved-in-Some c =
    let old = c.loop-self.self in
    let new = c.undo_entry.new.self in
    let t = c.undo_entry.ensures.trail in
    let u : IsUndone old new c.in-Some.entry = record {
      entries = entries_push c.pop.new.self.items old.trail.items c.in-Some.entry c.in-Some.ensures.items ∙ ap (λ es. c.in-Some.entry ∷ reverse es) (sym t);
      store = c.undo_entry.ensures.store;
    } in
    record {
      good = undone_good old new c.in-Some.entry c.loop-self.invariant.good u;
      kept = kept_through new old c.args.self.now (undone_kept old new c.in-Some.entry u) c.loop-self.invariant.kept;
      within = search rules;
    }
