use Rattle.std.proofs.Common.{refl, subst}
use Rattle.std.proofs.lemmas.Result.{IfOk-weaker}
use Rattle.pp_algebra.specs.Solve.{membership, put_item}
use Rattle.pp_domain.specs.Sets.{set_of}
use Rattle.pp_algebra.specs.Numbered.{counted_from}
use Rattle.pp_heap.specs.Values.{term_at}
use Rattle.pp_heap.specs.Outcomes.{IsVerdict}
use Rattle.pp_unify.specs.States.{present, value_in, states_of, IsLonger, IsSolvedBy}
use Rattle.pp_unify.proofs.Kept.{kept_longer}
use Rattle.pp_unify.proofs.Verdicts.{present_row, solved_by}
use Rattle.pp_unify.proofs.Decided.{over_head, over_term}
use Rattle.pp_unify.proofs.bindings.Bindings.narrow_at.Goals as goal

pub narrow-requires-clause-head : goal.narrow-requires-clause-head
narrow-requires-clause-head c = over_head c.self.inside.state c.args.self.now c.args.first c.args.cells.now c.self.view_is c.requires.whole c.requires.over

pub returns-clause-solved : goal.returns-clause-solved
returns-clause-solved c =
    let old = c.self.inside.state in
    let new = c.narrow.new.state in
    let was = c.args.self.now in
    let t = counted_from c.args.first (term_at c.args.cells.now c.args.at) in
    let item = membership t (set_of c.args.domain.now) in
    let among = over_term old was c.args.first c.args.cells.now c.args.at c.self.view_is c.requires.whole c.requires.within c.requires.over in
    IfOk-weaker c.narrow.result (IsVerdict old new item) (λ b. IsSolvedBy (present was) (put_item (value_in (present was)) item) b (present (states_of new)))
    (λ b v. solved_by old new item b (present was) (present (states_of new)) (present_row old was c.self.view_is) (present_row new (states_of new) refl) c.self.invariant c.narrow.ensures.later.good c.narrow.ensures.later.variables among v)
    c.narrow.ensures.verdict

pub returns-clause-kept : goal.returns-clause-kept
returns-clause-kept c = subst (λ rs. IsLonger rs (states_of c.narrow.new.state)) c.self.view_is (kept_longer c.self.inside.state c.narrow.new.state c.narrow.ensures.later.kept)
