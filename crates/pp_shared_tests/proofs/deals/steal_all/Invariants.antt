use Rattle.pp_deal.specs.Hands.{IsSamePeek}
use Rattle.pp_shared_tests.proofs.deals.steal_all.Given as goal

abbrev pub invariant-loop : goal.invariant-loop
invariant-loop g l = IsSamePeek l.fn.peek l.peek
