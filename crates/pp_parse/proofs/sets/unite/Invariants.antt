use Rattle.std.proofs.Common.{◌≡◌, length}
use Rattle.pp_parse.specs.Sets.{united}
use Rattle.pp_parse.proofs.sets.unite.Given as goal

abbrev pub invariant-loop-first : goal.invariant-loop-first
invariant-loop-first l = united l.domains.items ≡ united l.initial.domains.items

abbrev pub decreases-loop-first : goal.decreases-loop-first
decreases-loop-first l = length l.domains.items
