use Rattle.std.proofs.Common.{◌-◌, length, map}
use Rattle.pp_store.specs.Occurring.{IsLonger}
use Rattle.pp_store.proofs.occurrences.Occurrences.grow.Given as goal

abbrev pub invariant-loop-self : goal.invariant-loop-self
invariant-loop-self l = IsLonger (map (λ x. x.keys) l.initial.self-inside.sets.items) (map (λ x. x.keys) l.self-inside.sets.items)

abbrev pub decreases-loop-self : goal.decreases-loop-self
decreases-loop-self l = l.count - length l.self-inside.sets.items
