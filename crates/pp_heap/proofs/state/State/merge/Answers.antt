use Rattle.std.proofs.lemmas.Result.{IfOk-weaker}
use Rattle.pp_algebra.specs.Terms.{variable}
use Rattle.pp_heap.specs.Outcomes.{IsAnswer}
use Rattle.pp_heap.proofs.Assigning.{answer_turned}
use Rattle.pp_heap.proofs.state.State.merge.Goals as goal

pub returns-then-other-one-clause-answer : goal.returns-then-other-one-clause-answer
returns-then-other-one-clause-answer c =
    let a = c.args.self.now in
    let b = c.merge_later-then-other-one.new.self in
    IfOk-weaker c.merge_later-then-other-one.result (IsAnswer a b (variable c.args.other) (variable c.args.one)) (IsAnswer a b (variable c.args.one) (variable c.args.other)) (λ r h. answer_turned a b (variable c.args.other) (variable c.args.one) r h) c.merge_later-then-other-one.ensures.answer
