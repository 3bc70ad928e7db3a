use Rattle.std.proofs.Common.{◌≡◌, suc, ◌+◌, ◌≤◌, length, map, ap, ◌∙◌, subst, refl, arith, replicate, false}
use Rattle.std.specs.Prelude.{IfOk}
use Rattle.pp_sld.specs.Verdicts.{HasVerdict}
use Rattle.pp_term.specs.Meanings.{program, shape_of, mode_of}
use Rattle.pp_propagation.specs.Stores.{face}
use Rattle.pp_store.specs.Queries.{goals_in}
use Rattle.pp_find.specs.Meanings.{verdict_by}
use Rattle.pp_fix.specs.Marked.{marked}
use Rattle.pp_fix.specs.Fixing.{IsBetweenTurns}
use Rattle.pp_store.proofs.Opening.{on_err}
use Rattle.pp_fix.proofs.Turning.{Between, have_room, between_turns, rests_now, stops_now, fails_now, leads_on, fails_by, goes_by, first_none, first_some, broken_off, begins, at_start}
use Rattle.std.proofs.lemmas.List.Elements.{All-map}
use Rattle.pp_propagation.specs.Watchers.{HasRoom}
use Rattle.pp_propagation.specs.Histories.{numbers_from}
use Rattle.pp_watch.proofs.Parts.{All-unmap}
use Rattle.pp_fix.proofs.Widths.{verdict_is_wide}
use Rattle.pp_fix.proofs.Watched.{answers_question}
use Rattle.pp_fix.proofs.fix.run.Goals as goal
use Rattle.pp_fix.proofs.fix.run.Goals.{in-None, in-Some-first}

pub returns-in_default-clause-run : goal.returns-in_default-clause-run
returns-in_default-clause-run g c =
    let marks = c.listed.ensures ∙ ap (λ fs. marked 1 fs) c.as_slice.ensures.value in
    rests_now (program c.args.clauses.now) (goals_in c.args.goals.now) c.args.depth c.args.store.now.row (map (λ w. (goal.Watcher-dyn g (w.vtable, w.value)).state w.value) c.args.watchers.now.items) c.args.turns c.loop-turn.turn (omega (arith, c.loop-turn-test.true)) c.loop-turn.store.row c.loop-turn.progress.wake.waiting c.loop-turn.progress.unfinished.items (map (λ w. (goal.Watcher-dyn g (w.vtable, w.value)).state w.value) c.loop-turn.watchers.items) c.loop-turn.invariant.between c.in_default.ensures.taken.0 _ refl refl marks

pub returns-in_err-verdict-clause-whole : goal.returns-in_err-verdict-clause-whole
returns-in_err-verdict-clause-whole g c =
    on_err c.from_residual-in_err-verdict.result (IsBetweenTurns (program c.args.clauses.now) (goals_in c.args.goals.now) c.args.depth c.args.turns c.args.store.now.row c.loop-turn.store.row (map (λ w. (goal.Watcher-dyn g (w.vtable, w.value)).state w.value) c.args.watchers.now.items) (map (λ w. (goal.Watcher-dyn g (w.vtable, w.value)).state w.value) c.loop-turn.watchers.items))
    (between_turns (program c.args.clauses.now) (goals_in c.args.goals.now) c.args.depth c.args.store.now.row (map (λ w. (goal.Watcher-dyn g (w.vtable, w.value)).state w.value) c.args.watchers.now.items) c.args.turns c.loop-turn.turn c.loop-turn.store.row c.loop-turn.progress.wake.waiting c.loop-turn.progress.unfinished.items (map (λ w. (goal.Watcher-dyn g (w.vtable, w.value)).state w.value) c.loop-turn.watchers.items) (omega (arith, c.loop-turn-test.true)) c.loop-turn.invariant.between)

pub commit-requires-clause-wide : goal.commit-requires-clause-wide
commit-requires-clause-wide g c = λ a e. verdict_is_wide (program c.args.clauses.now) c.args.depth a.mode a.goal.shape (face c.loop-turn.store.row a.goal) (verdict_by c.in_ok-verdict.verdict) ((answers_question (program c.args.clauses.now) (goals_in c.args.goals.now) c.args.depth c.loop-turn.store.row c.in-Some.goal (shape_of c.in_ok-shape.field-0.shape) (mode_of c.in_ok-shape.field-0.mode) c.in_ok-shape.field-0.face (verdict_by c.in_ok-verdict.verdict) c.in_ok-shape.ensures.asked
    (subst (λ r. IfOk r (λ x. HasVerdict (program c.args.clauses.now) c.args.depth (mode_of c.in_ok-shape.field-0.mode) (shape_of c.in_ok-shape.field-0.shape) c.in_ok-shape.field-0.face (verdict_by x))) c.in_ok-verdict.was
    (c.requires.finds c.in_ok-shape.field-0.shape c.in_ok-shape.field-0.mode c.in_ok-shape.field-0.face c.find.result c.in_ok-shape.ensures.width c.find.ensures))) a e)

pub returns-in_err-commit-clause-whole : goal.returns-in_err-commit-clause-whole
returns-in_err-commit-clause-whole g c =
    let gs = goals_in c.args.goals.now in
    let b = subst (λ ks. Between (program c.args.clauses.now) gs c.args.depth c.args.store.now.row (map (λ w. (goal.Watcher-dyn g (w.vtable, w.value)).state w.value) c.args.watchers.now.items) c.loop-turn.turn c.loop-turn.store.row ks c.loop-turn.progress.unfinished.items (map (λ w. (goal.Watcher-dyn g (w.vtable, w.value)).state w.value) c.loop-turn.watchers.items)) c.in-Some.ensures.taken c.loop-turn.invariant.between in
    let high : c.in-Some.goal ≤ length gs = omega (arith, c.in-Some.ensures.goal.1, c.loop-turn.invariant.goals) in
    on_err c.from_residual-in_err-commit.result (IsBetweenTurns (program c.args.clauses.now) gs c.args.depth c.args.turns c.args.store.now.row c.commit.new.store.row (map (λ w. (goal.Watcher-dyn g (w.vtable, w.value)).state w.value) c.args.watchers.now.items) (map (λ w. (goal.Watcher-dyn g (w.vtable, w.value)).state w.value) c.commit.new.watchers.items))
    (broken_off (program c.args.clauses.now) gs c.args.depth c.args.store.now.row (map (λ w. (goal.Watcher-dyn g (w.vtable, w.value)).state w.value) c.args.watchers.now.items) c.loop-turn.turn c.loop-turn.store.row c.in-Some.goal c.take.new.self.waiting c.loop-turn.progress.unfinished.items (map (λ w. (goal.Watcher-dyn g (w.vtable, w.value)).state w.value) c.loop-turn.watchers.items) b c.in-Some.ensures.goal.0 high (verdict_by c.in_ok-verdict.verdict) (answers_question (program c.args.clauses.now) (goals_in c.args.goals.now) c.args.depth c.loop-turn.store.row c.in-Some.goal (shape_of c.in_ok-shape.field-0.shape) (mode_of c.in_ok-shape.field-0.mode) c.in_ok-shape.field-0.face (verdict_by c.in_ok-verdict.verdict) c.in_ok-shape.ensures.asked
    (subst (λ r. IfOk r (λ x. HasVerdict (program c.args.clauses.now) c.args.depth (mode_of c.in_ok-shape.field-0.mode) (shape_of c.in_ok-shape.field-0.shape) c.in_ok-shape.field-0.face (verdict_by x))) c.in_ok-verdict.was
    (c.requires.finds c.in_ok-shape.field-0.shape c.in_ok-shape.field-0.mode c.in_ok-shape.field-0.face c.find.result c.in_ok-shape.ensures.width c.find.ensures)))
    c.args.turns c.loop-turn-test.true c.commit.new.store.row (map (λ w. (goal.Watcher-dyn g (w.vtable, w.value)).state w.value) c.commit.new.watchers.items) c.in_err-commit.ensures.err)

pub returns-then-not-branch-clause-run : goal.returns-then-not-branch-clause-run
returns-then-not-branch-clause-run g c =
    let gs = goals_in c.args.goals.now in
    let b = subst (λ ks. Between (program c.args.clauses.now) gs c.args.depth c.args.store.now.row (map (λ w. (goal.Watcher-dyn g (w.vtable, w.value)).state w.value) c.args.watchers.now.items) c.loop-turn.turn c.loop-turn.store.row ks c.loop-turn.progress.unfinished.items (map (λ w. (goal.Watcher-dyn g (w.vtable, w.value)).state w.value) c.loop-turn.watchers.items)) c.in-Some.ensures.taken c.loop-turn.invariant.between in
    let high : c.in-Some.goal ≤ length gs = omega (arith, c.in-Some.ensures.goal.1, c.loop-turn.invariant.goals) in
    let marks = c.listed-then-not-branch.ensures ∙ ap (λ fs. marked 1 fs) c.as_slice-then-not-branch.ensures.value in
    let v = verdict_by c.in_ok-verdict.verdict in
    fails_now (program c.args.clauses.now) gs c.args.depth c.args.store.now.row (map (λ w. (goal.Watcher-dyn g (w.vtable, w.value)).state w.value) c.args.watchers.now.items) c.loop-turn.turn c.loop-turn.store.row c.in-Some.goal c.take.new.self.waiting c.loop-turn.progress.unfinished.items (map (λ w. (goal.Watcher-dyn g (w.vtable, w.value)).state w.value) c.loop-turn.watchers.items) b c.in-Some.ensures.goal.0 high v (answers_question (program c.args.clauses.now) (goals_in c.args.goals.now) c.args.depth c.loop-turn.store.row c.in-Some.goal (shape_of c.in_ok-shape.field-0.shape) (mode_of c.in_ok-shape.field-0.mode) c.in_ok-shape.field-0.face (verdict_by c.in_ok-verdict.verdict) c.in_ok-shape.ensures.asked
    (subst (λ r. IfOk r (λ x. HasVerdict (program c.args.clauses.now) c.args.depth (mode_of c.in_ok-shape.field-0.mode) (shape_of c.in_ok-shape.field-0.shape) c.in_ok-shape.field-0.face (verdict_by x))) c.in_ok-verdict.was
    (c.requires.finds c.in_ok-shape.field-0.shape c.in_ok-shape.field-0.mode c.in_ok-shape.field-0.face c.find.result c.in_ok-shape.ensures.width c.find.ensures)))
    c.args.turns c.loop-turn-test.true (fails_by v c.in_ok-commit.field-0 c.in_ok-commit.ensures.fails c.if-not-branch.true) c.commit.new.store.row c.in_ok-commit.ensures.store c.commit.new.progress.unfinished.items c.in_ok-commit.ensures.flags (map (λ w. (goal.Watcher-dyn g (w.vtable, w.value)).state w.value) c.commit.new.watchers.items) c.in_ok-commit.ensures.noted _ refl refl marks

pub loop-turn-preserved : goal.loop-turn-preserved
loop-turn-preserved g c =
    let gs = goals_in c.args.goals.now in
    let b = subst (λ ks. Between (program c.args.clauses.now) gs c.args.depth c.args.store.now.row (map (λ w. (goal.Watcher-dyn g (w.vtable, w.value)).state w.value) c.args.watchers.now.items) c.loop-turn.turn c.loop-turn.store.row ks c.loop-turn.progress.unfinished.items (map (λ w. (goal.Watcher-dyn g (w.vtable, w.value)).state w.value) c.loop-turn.watchers.items)) c.in-Some.ensures.taken c.loop-turn.invariant.between in
    let high : c.in-Some.goal ≤ length gs = omega (arith, c.in-Some.ensures.goal.1, c.loop-turn.invariant.goals) in
    let v = verdict_by c.in_ok-verdict.verdict in
    let next = leads_on (program c.args.clauses.now) gs c.args.depth c.args.store.now.row (map (λ w. (goal.Watcher-dyn g (w.vtable, w.value)).state w.value) c.args.watchers.now.items) c.loop-turn.turn c.loop-turn.store.row c.in-Some.goal c.take.new.self.waiting c.loop-turn.progress.unfinished.items (map (λ w. (goal.Watcher-dyn g (w.vtable, w.value)).state w.value) c.loop-turn.watchers.items) b c.in-Some.ensures.goal.0 high v (answers_question (program c.args.clauses.now) (goals_in c.args.goals.now) c.args.depth c.loop-turn.store.row c.in-Some.goal (shape_of c.in_ok-shape.field-0.shape) (mode_of c.in_ok-shape.field-0.mode) c.in_ok-shape.field-0.face (verdict_by c.in_ok-verdict.verdict) c.in_ok-shape.ensures.asked
    (subst (λ r. IfOk r (λ x. HasVerdict (program c.args.clauses.now) c.args.depth (mode_of c.in_ok-shape.field-0.mode) (shape_of c.in_ok-shape.field-0.shape) c.in_ok-shape.field-0.face (verdict_by x))) c.in_ok-verdict.was
    (c.requires.finds c.in_ok-shape.field-0.shape c.in_ok-shape.field-0.mode c.in_ok-shape.field-0.face c.find.result c.in_ok-shape.ensures.width c.find.ensures)))
    (goes_by v c.in_ok-commit.field-0 c.in_ok-commit.ensures.fails c.if-not-branch.false) c.commit.new.store.row c.commit.new.progress.wake.waiting c.commit.new.progress.unfinished.items (map (λ w. (goal.Watcher-dyn g (w.vtable, w.value)).state w.value) c.commit.new.watchers.items) c.in_ok-commit.ensures.store c.in_ok-commit.ensures.waiting c.in_ok-commit.ensures.flags c.in_ok-commit.ensures.noted in
    let number : suc c.loop-turn.turn ≡ c.loop-turn.turn + 1 = omega arith in
    record {
      between = subst (λ n. Between (program c.args.clauses.now) gs c.args.depth c.args.store.now.row (map (λ w. (goal.Watcher-dyn g (w.vtable, w.value)).state w.value) c.args.watchers.now.items) n c.commit.new.store.row c.commit.new.progress.wake.waiting c.commit.new.progress.unfinished.items (map (λ w. (goal.Watcher-dyn g (w.vtable, w.value)).state w.value) c.commit.new.watchers.items)) number next;
      of_query = c.commit.ensures.of_query;
      goals = c.commit.ensures.goals ∙ c.take.ensures.goals ∙ c.loop-turn.invariant.goals;
    }

pub returns-clause-run : goal.returns-clause-run
returns-clause-run g c =
    let gs = goals_in c.args.goals.now in
    let all : c.loop-turn.turn ≡ c.args.turns = omega (arith, c.loop-turn-test.false, c.loop-turn.auto.turn-end) in
    let waiting = c.loop-turn.progress.wake.waiting in
    let b = subst (λ n. Between (program c.args.clauses.now) gs c.args.depth c.args.store.now.row (map (λ w. (goal.Watcher-dyn g (w.vtable, w.value)).state w.value) c.args.watchers.now.items) n c.loop-turn.store.row waiting c.loop-turn.progress.unfinished.items (map (λ w. (goal.Watcher-dyn g (w.vtable, w.value)).state w.value) c.loop-turn.watchers.items)) all c.loop-turn.invariant.between in
    let marks = c.listed-2.ensures ∙ ap (λ fs. marked 1 fs) c.as_slice-2.ensures.value in
    elim c.match-first.branch [
      | in-None w ↦ rests_now (program c.args.clauses.now) gs c.args.depth c.args.store.now.row (map (λ w. (goal.Watcher-dyn g (w.vtable, w.value)).state w.value) c.args.watchers.now.items) c.args.turns c.args.turns (omega arith) c.loop-turn.store.row waiting c.loop-turn.progress.unfinished.items (map (λ w. (goal.Watcher-dyn g (w.vtable, w.value)).state w.value) c.loop-turn.watchers.items) b (first_none waiting c.first.result c.first.ensures w.in-None.is) _ w.end-is refl marks
      | in-Some-first w ↦ (let f = first_some waiting c.first.result _ c.first.ensures w.in-Some-first.is in
          let d = subst (λ ks. Between (program c.args.clauses.now) gs c.args.depth c.args.store.now.row (map (λ w. (goal.Watcher-dyn g (w.vtable, w.value)).state w.value) c.args.watchers.now.items) c.args.turns c.loop-turn.store.row ks c.loop-turn.progress.unfinished.items (map (λ w. (goal.Watcher-dyn g (w.vtable, w.value)).state w.value) c.loop-turn.watchers.items)) f.1 b in
          stops_now (program c.args.clauses.now) gs c.args.depth c.args.store.now.row (map (λ w. (goal.Watcher-dyn g (w.vtable, w.value)).state w.value) c.args.watchers.now.items) c.args.turns c.loop-turn.store.row _ f.0 c.loop-turn.progress.unfinished.items (map (λ w. (goal.Watcher-dyn g (w.vtable, w.value)).state w.value) c.loop-turn.watchers.items) d _ w.end-is refl marks)
    ]

pub commit-requires-clause-room : goal.commit-requires-clause-room
commit-requires-clause-room g c =
    All-unmap (λ w. (goal.Watcher-dyn g (w.vtable, w.value)).state w.value) c.loop-turn.watchers.items
    (have_room (program c.args.clauses.now) (goals_in c.args.goals.now) c.args.depth c.args.store.now.row (map (λ w. (goal.Watcher-dyn g (w.vtable, w.value)).state w.value) c.args.watchers.now.items) c.loop-turn.turn c.loop-turn.store.row c.loop-turn.progress.wake.waiting c.loop-turn.progress.unfinished.items (map (λ w. (goal.Watcher-dyn g (w.vtable, w.value)).state w.value) c.loop-turn.watchers.items) c.loop-turn.invariant.between)

pub returns-in_err-shape-clause-whole : goal.returns-in_err-shape-clause-whole
returns-in_err-shape-clause-whole g c =
    on_err _ _
    (between_turns (program c.args.clauses.now) (goals_in c.args.goals.now) c.args.depth c.args.store.now.row (map (λ w. (goal.Watcher-dyn g (w.vtable, w.value)).state w.value) c.args.watchers.now.items) c.args.turns c.loop-turn.turn c.loop-turn.store.row c.loop-turn.progress.wake.waiting c.loop-turn.progress.unfinished.items (map (λ w. (goal.Watcher-dyn g (w.vtable, w.value)).state w.value) c.loop-turn.watchers.items) (omega (arith, c.loop-turn-test.true)) c.loop-turn.invariant.between)

pub loop-turn-init : goal.loop-turn-init
loop-turn-init g c = record {
  between = begins (program c.args.clauses.now) (goals_in c.args.goals.now) c.args.depth c.args.store.now.row (map (λ w. (goal.Watcher-dyn g (w.vtable, w.value)).state w.value) c.args.watchers.now.items) c.in_ok-new.field-0.waiting c.in_ok-vec.field-0.items (c.in_ok-new.ensures.waiting ∙ ap (numbers_from 1) c.count-count.ensures) (c.in_ok-vec.ensures.items_if_clones_equal (λ y f. f) ∙ ap (λ n. replicate n false) c.count-count.ensures) (All-map HasRoom (λ w. (goal.Watcher-dyn g (w.vtable, w.value)).state w.value) c.args.watchers.now.items c.requires.room);
  of_query = c.requires.of_query;
  goals = c.in_ok-new.ensures.goals ∙ c.count-count.ensures;
}

pub returns-in_err-room-clause-whole : goal.returns-in_err-room-clause-whole
returns-in_err-room-clause-whole g c = on_err _ _ (at_start (program c.args.clauses.now) (goals_in c.args.goals.now) c.args.depth c.args.store.now.row (map (λ w. (goal.Watcher-dyn g (w.vtable, w.value)).state w.value) c.args.watchers.now.items) c.args.turns (All-map HasRoom (λ w. (goal.Watcher-dyn g (w.vtable, w.value)).state w.value) c.args.watchers.now.items c.requires.room))

pub returns-in_err-new-clause-whole : goal.returns-in_err-new-clause-whole
returns-in_err-new-clause-whole g c = on_err _ _ (at_start (program c.args.clauses.now) (goals_in c.args.goals.now) c.args.depth c.args.store.now.row (map (λ w. (goal.Watcher-dyn g (w.vtable, w.value)).state w.value) c.args.watchers.now.items) c.args.turns (All-map HasRoom (λ w. (goal.Watcher-dyn g (w.vtable, w.value)).state w.value) c.args.watchers.now.items c.requires.room))

pub returns-in_err-vec-clause-whole : goal.returns-in_err-vec-clause-whole
returns-in_err-vec-clause-whole g c = on_err _ _ (at_start (program c.args.clauses.now) (goals_in c.args.goals.now) c.args.depth c.args.store.now.row (map (λ w. (goal.Watcher-dyn g (w.vtable, w.value)).state w.value) c.args.watchers.now.items) c.args.turns (All-map HasRoom (λ w. (goal.Watcher-dyn g (w.vtable, w.value)).state w.value) c.args.watchers.now.items c.requires.room))
