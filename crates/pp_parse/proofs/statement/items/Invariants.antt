use Rattle.std.proofs.Common.{◌-◌, length}
use Rattle.pp_parse.proofs.ItemLists.{ItemsTo}
use Rattle.pp_parse.proofs.statement.items.Given as goal

abbrev pub ghost-item_at : goal.ghost-item_at
ghost-item_at g a = g.qs

abbrev pub ghost-has_mark : goal.ghost-has_mark
ghost-has_mark g a = g.qs

abbrev pub invariant-loop-entries : goal.invariant-loop-entries
invariant-loop-entries g l = ItemsTo g.qs l.at l.place l.entries.items

abbrev pub decreases-loop-entries : goal.decreases-loop-entries
decreases-loop-entries g l = length l.parts - l.place
