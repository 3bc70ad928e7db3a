use Rattle.std.proofs.Common.{◌≡◌, ◌-◌, ap, ◌∙◌, length, take, drop, arith, subst}
use Rattle.std.specs.Prelude.{slice_get}
use Rattle.pp_term.specs.Meanings.{goal_of}
use Rattle.pp_clause.specs.declared.goal_at.GoalAt.{GoalAt}
use Rattle.pp_clause.specs.Goals.{Asks, IsGoalAt}
use Rattle.pp_clause.specs.Predicates.{predicates}
use Rattle.pp_clause.proofs.Goals.{user_asks, equate_asks, test_asks, member_asks, goal_at}
use Rattle.pp_clause.proofs.Groups.{get_within}
use Rattle.pp_clause.proofs.Places.{get_some}
use Rattle.pp_clause.proofs.Spans.{coded_enough, coded_read, goal_read, length-goals}
use Rattle.pp_clause.proofs.clauses.Clauses.goal.Goals as goal
use Rattle.pp_clause.proofs.clauses.Clauses.goal.Goals.{in-User, in-Equate, in-Member, in-Test}

pub index-requires : goal.index-requires
index-requires c =
    let s = c.self.inside in
    omega (arith, coded_enough s.cells.items (predicates s.clauses.items) s.coded.items s.clauses.items c.self.invariant.code, ap length c.self.view_is, get_within c.args.self.now c.args.number c.requires.0 c.requires.1)

pub index-goal-requires : goal.index-goal-requires
index-goal-requires c =
    let s = c.self.inside in
    let d = c.requires.0 in
    let r = coded_read s.cells.items (predicates s.clauses.items) s.coded.items s.clauses.items c.args.number d c.index.result.now c.self.invariant.code (ap (λ cs. slice_get cs c.args.number) c.self.view_is ∙ c.requires.1) c.index.ensures in
    omega (arith, length-goals s.cells.items (predicates s.clauses.items) c.index.result.now.body.items d.body r.body, c.requires.2)

pub piece-requires-clause-ordered : goal.piece-requires-clause-ordered
piece-requires-clause-ordered c =
    let s = c.self.inside in
    let d = c.requires.0 in
    let g = get_some d.body c.args.place c.requires.2 in
    let r = coded_read s.cells.items (predicates s.clauses.items) s.coded.items s.clauses.items c.args.number d c.index.result.now c.self.invariant.code (ap (λ cs. slice_get cs c.args.number) c.self.view_is ∙ c.requires.1) c.index.ensures in
    (goal_read s.cells.items (predicates s.clauses.items) c.index.result.now.body.items d.body c.args.place g.0 c.index-goal.result.now r.body g.1 c.index-goal.ensures).span.ordered

pub piece-requires-clause-within : goal.piece-requires-clause-within
piece-requires-clause-within c =
    let s = c.self.inside in
    let d = c.requires.0 in
    let g = get_some d.body c.args.place c.requires.2 in
    let r = coded_read s.cells.items (predicates s.clauses.items) s.coded.items s.clauses.items c.args.number d c.index.result.now c.self.invariant.code (ap (λ cs. slice_get cs c.args.number) c.self.view_is ∙ c.requires.1) c.index.ensures in
    let w = (goal_read s.cells.items (predicates s.clauses.items) c.index.result.now.body.items d.body c.args.place g.0 c.index-goal.result.now r.body g.1 c.index-goal.ensures).span.within in
    omega (arith, w, ap length c.deref.ensures.value)

pub returns : goal.returns
returns c = λ d g e f.
    let s = c.self.inside in
    let cs = s.clauses.items in
    let x = c.index-goal.result.now in
    let r = coded_read s.cells.items (predicates cs) s.coded.items cs c.args.number d c.index.result.now c.self.invariant.code (ap (λ cs. slice_get cs c.args.number) c.self.view_is ∙ e) c.index.ensures in
    let h = goal_read s.cells.items (predicates cs) c.index.result.now.body.items d.body c.args.place g x r.body f c.index-goal.ensures in
    let l : GoalAt = record { kind = c.match-goal.kind; arguments = c.piece.result } in
    let piece : c.piece.result.now ≡ take (x.span.end - x.span.start) (drop x.span.start s.cells.items) = c.piece.ensures ∙ ap (λ cs. take (x.span.end - x.span.start) (drop x.span.start cs)) c.deref.ensures.value in
    let asks : Asks cs c.match-goal.kind (goal_of g).shape = elim c.match-goal.branch [
      | in-User w ↦ user_asks cs x.code c.match-goal.kind (goal_of g).shape w.in-User.predicate w.in-User.is w.kind-is h.code
      | in-Equate w ↦ equate_asks cs x.code c.match-goal.kind (goal_of g).shape w.in-Equate.is w.kind-is h.code
      | in-Member w ↦ member_asks cs x.code c.match-goal.kind (goal_of g).shape w.domain.result w.in-Member.is w.kind-is (w.domain.ensures d g e f) h.code
      | in-Test w ↦ test_asks cs x.code c.match-goal.kind (goal_of g).shape w.in-Test.test w.in-Test.is w.kind-is h.code
    ] in
    subst (λ cs. IsGoalAt cs g l) c.self.view_is (goal_at cs s.cells.items g x l h asks piece)
