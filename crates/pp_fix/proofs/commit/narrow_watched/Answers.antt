use Rattle.std.proofs.Common.{◌≡◌, [], All, length, refl, ap, sym, ◌∙◌, subst}
use Rattle.pp_propagation.specs.Stores.{apply}
use Rattle.pp_propagation.specs.Turns.{woken}
use Rattle.pp_wake.specs.Waiting.{IsGoalOf}
use Rattle.pp_store.specs.Queries.{goals_in}
use Rattle.pp_fix.specs.Committing.{while_told}
use Rattle.pp_store.proofs.Opening.{on_err}
use Rattle.pp_fix.proofs.Waking.{woken_are_goals}
use Rattle.pp_fix.proofs.Watched.{whole_turn, part_of_turn}
use Rattle.pp_fix.proofs.commit.narrow_watched.Goals as goal

pub returns-in_err-note_all-clause-err : goal.returns-in_err-note_all-clause-err
returns-in_err-note_all-clause-err g c =
    on_err c.from_residual-in_err-note_all.result _
    (while_told refl refl
    (part_of_turn (goals_in c.args.goals.now) c.args.store.now.row c.args.turn c.args.goal c.args.given c.in_ok-row.field-0
    (λ a e. c.in_ok-row.ensures ∙ c.in_ok-changed.ensures.store a e ∙ ap (λ s. apply s.row a.goal c.args.given) c.in_ok-next.ensures)
    _ _ _ c.in_err-note_all.ensures.part (ap (λ r. record { turn = c.args.turn; goal = c.args.goal; given = r; store = c.in_ok-row.field-0 }) c.given.view_is)))

pub wake_all-requires : goal.wake_all-requires
wake_all-requires g c =
    let gs = goals_in c.args.goals.now in
    let e : c.as_slice.result.now ≡ woken c.in_ok-next.next.row c.apply.new.self.row [] 1 gs = c.as_slice.ensures ∙ c.in_ok-changed.ensures.changed in
    record { goals = subst (λ n. All (IsGoalOf n) c.as_slice.result.now) (sym c.requires.goals) (subst (λ ks. All (IsGoalOf (length gs)) ks) (sym e) (woken_are_goals c.in_ok-next.next.row c.apply.new.self.row gs)) }

pub returns-clause-store : goal.returns-clause-store
returns-clause-store g c = λ a e. c.in_ok-changed.ensures.store a e ∙ ap (λ s. apply s.row a.goal c.args.given) c.in_ok-next.ensures

pub returns-clause-noted : goal.returns-clause-noted
returns-clause-noted g c =
    whole_turn (goals_in c.args.goals.now) c.args.store.now.row c.args.turn c.args.goal c.args.given c.in_ok-row.field-0
    (λ a e. c.in_ok-row.ensures ∙ c.in_ok-changed.ensures.store a e ∙ ap (λ s. apply s.row a.goal c.args.given) c.in_ok-next.ensures)
    _ _ _ c.in_ok-note_all.ensures.noted (ap (λ r. record { turn = c.args.turn; goal = c.args.goal; given = r; store = c.in_ok-row.field-0 }) c.given.view_is)
