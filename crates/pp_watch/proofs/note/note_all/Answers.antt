use Rattle.std.proofs.Common.{refl, sym, ◌∙◌, arith}
use Rattle.pp_watch.specs.Watching.{change_by}
use Rattle.pp_watch.proofs.Noting.{seen_begins, seen_room, seen_stays, seen_leaves, seen_part}
use Rattle.pp_watch.proofs.note.note_all.Goals as goal

pub loop-at-init : goal.loop-at-init
loop-at-init g c = seen_begins (λ w. (goal.Watcher-dyn g (w.vtable, w.value)).state w.value) (change_by c.args.change.now) c.args.watchers.now.items c.requires.room

pub note_one-requires : goal.note_one-requires
note_one-requires g c =
    record { room = seen_room (λ w. (goal.Watcher-dyn g (w.vtable, w.value)).state w.value) (change_by c.args.change.now) c.loop-at.at c.loop-at.watchers.items _ _ c.index_mut.result.now (omega (arith, c.loop-at-test.true, c.len.ensures)) c.loop-at.invariant c.index_mut.ensures.value }

pub returns-in_err-note_one-clause-part : goal.returns-in_err-note_one-clause-part
returns-in_err-note_one-clause-part g c =
    seen_part (λ w. (goal.Watcher-dyn g (w.vtable, w.value)).state w.value) (change_by c.args.change.now) c.loop-at.at c.loop-at.watchers.items _ _ c.index_mut.result.now (omega (arith, c.loop-at-test.true, c.len.ensures)) c.loop-at.invariant c.index_mut.ensures.value
    c.note_one.new.watcher c.from_residual.result c.in_err-note_one.ensures.err _ refl

pub loop-at-preserved-in-Stay : goal.loop-at-preserved-in-Stay
loop-at-preserved-in-Stay g c =
    seen_stays (λ w. (goal.Watcher-dyn g (w.vtable, w.value)).state w.value) (change_by c.args.change.now) c.loop-at.at c.loop-at.watchers.items _ _ c.index_mut.result.now (omega (arith, c.loop-at-test.true, c.len.ensures)) c.loop-at.invariant c.index_mut.ensures.value
    c.note_one.new.watcher c.in_ok-note_one.ensures.noted (sym c.in_ok-note_one.ensures.keep ∙ c.in-Stay.is)

pub loop-at-preserved : goal.loop-at-preserved
loop-at-preserved g c =
    seen_leaves (λ w. (goal.Watcher-dyn g (w.vtable, w.value)).state w.value) (change_by c.args.change.now) c.loop-at.at c.loop-at.watchers.items _ _ c.index_mut.result.now (omega (arith, c.loop-at-test.true, c.len.ensures)) c.loop-at.invariant c.index_mut.ensures.value
    c.note_one.new.watcher c.in_ok-note_one.ensures.noted (sym c.in_ok-note_one.ensures.keep ∙ c.in-Leave.is) c.remove.new.self.items c.remove.ensures.items
