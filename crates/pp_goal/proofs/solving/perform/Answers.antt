use Rattle.std.proofs.Common.{subst}
use Rattle.std.proofs.lemmas.Result.{IfOk-weaker}
use Rattle.pp_algebra.specs.Terms.{count}
use Rattle.pp_heap.specs.Values.{term_at}
use Rattle.pp_heap.proofs.Words.{word}
use Rattle.pp_row.specs.Reading.{forest}
use Rattle.pp_unify.specs.States.{present}
use Rattle.pp_goal.specs.Acts.{IsReady}
use Rattle.pp_goal.proofs.Solved.{bind_decided}
use Rattle.pp_goal.proofs.solving.perform.Goals as goal

pub returns-in-Bind-clause-decided : goal.returns-in-Bind-clause-decided
returns-in-Bind-clause-decided c =
    let cs = c.args.goal.now.arguments.now in
    let l = subst (IsReady (count (forest cs))) c.in-Bind.is c.requires.ready in
    rw c.in-Bind.is (IfOk-weaker c.equate_at.result _ _ (λ b h. bind_decided (present c.args.bindings.now) c.args.first (forest cs) (term_at cs c.place_of-at.result) c.in-Bind.place c.in-Bind.value _ b _ l.0 c.place_of-at.ensures.term (word c.in-Bind.value l.1) h) c.equate_at.ensures.solved)
