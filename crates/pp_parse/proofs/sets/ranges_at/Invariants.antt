use Rattle.std.proofs.Common.{◌-◌, ◌≤◌, length}
use Rattle.pp_parse.proofs.BoundsLists.{ReadTo}
use Rattle.pp_parse.proofs.sets.ranges_at.Given as goal

abbrev pub ghost-bounds_at : goal.ghost-bounds_at
ghost-bounds_at g a = g.qs

abbrev pub ghost-has_mark : goal.ghost-has_mark
ghost-has_mark g a = g.qs

abbrev pub invariant-loop-ends : goal.invariant-loop-ends
invariant-loop-ends g l = record { within : l.place ≤ length l.parts; read : ReadTo g.qs l.at l.place l.domains.items }

abbrev pub decreases-loop-ends : goal.decreases-loop-ends
decreases-loop-ends g l = length l.parts - l.place
