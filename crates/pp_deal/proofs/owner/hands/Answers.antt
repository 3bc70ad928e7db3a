use Rattle.std.proofs.Common.{rules}
use Rattle.std.proofs.lemmas.List.Elements.{All-push}
use Rattle.pp_deal.specs.Hands.{IsNew}
use Rattle.pp_deal.proofs.owner.hands.Goals as goal

pub loop-made-preserved : goal.loop-made-preserved
loop-made-preserved g c = (search rules, search rules, rw c.push_reserved.ensures.items (All-push IsNew _ _ c.loop-made.invariant.2 (search rules)))
