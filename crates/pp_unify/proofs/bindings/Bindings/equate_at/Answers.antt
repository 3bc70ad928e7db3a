use Rattle.std.proofs.Common.{refl, subst}
use Rattle.std.proofs.lemmas.Result.{IfOk-weaker}
use Rattle.pp_algebra.specs.Solve.{equation, put_item}
use Rattle.pp_algebra.specs.Terms.{int}
use Rattle.pp_algebra.specs.Numbered.{counted_from}
use Rattle.pp_heap.specs.Values.{term_at}
use Rattle.pp_heap.specs.Outcomes.{IsVerdict}
use Rattle.pp_unify.specs.States.{present, value_in, states_of, IsLonger, IsSolvedBy}
use Rattle.pp_heap.proofs.Words.{word}
use Rattle.pp_unify.proofs.Kept.{kept_longer}
use Rattle.pp_unify.proofs.Verdicts.{present_row, solved_by}
use Rattle.pp_unify.proofs.Decided.{over_head, over_term}
use Rattle.pp_unify.proofs.bindings.Bindings.equate_at.Goals as goal

pub equate-requires-clause-head : goal.equate-requires-clause-head
equate-requires-clause-head c = over_head c.self.inside.state c.args.self.now c.args.first c.args.cells.now c.self.view_is c.requires.whole c.requires.over

pub returns-clause-solved : goal.returns-clause-solved
returns-clause-solved c =
    let old = c.self.inside.state in
    let new = c.equate.new.state in
    let was = c.args.self.now in
    let t = counted_from c.args.first (term_at c.args.cells.now c.args.at) in
    let item = equation t (int c.args.value) in
    let among = over_term old was c.args.first c.args.cells.now c.args.at c.self.view_is c.requires.whole c.requires.within c.requires.over in
    IfOk-weaker c.equate.result (IsVerdict old new item) (λ b. IsSolvedBy (present was) (put_item (value_in (present was)) item) b (present (states_of new)))
    (λ b v. solved_by old new item b (present was) (present (states_of new)) (present_row old was c.self.view_is) (present_row new (states_of new) refl) c.self.invariant c.equate.ensures.later.good c.equate.ensures.later.variables (among, λ w i. absurd i) v)
    (rw (word c.args.value c.requires.integer) at c.equate.ensures.verdict)

pub returns-clause-kept : goal.returns-clause-kept
returns-clause-kept c = subst (λ rs. IsLonger rs (states_of c.equate.new.state)) c.self.view_is (kept_longer c.self.inside.state c.equate.new.state c.equate.ensures.later.kept)
