use Rattle.std.proofs.Common.{◌≡◌, ◌≤◌, All, vec_len, vec_capacity}
use Rattle.pp_deal.specs.Hands.{IsNew}
use Rattle.pp_deal.proofs.owner.hands.Given as goal

abbrev pub invariant-loop-made : goal.invariant-loop-made
invariant-loop-made g l = (vec_len l.all ≡ l.made) × (l.count ≤ vec_capacity l.all) × All IsNew l.all.items
