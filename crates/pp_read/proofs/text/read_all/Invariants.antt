use Rattle.pp_read.specs.Programs.{list_words}
use Rattle.pp_read.proofs.ReadSentences.{AreReadTo}
use Rattle.pp_read.proofs.text.read_all.Given as goal

abbrev pub invariant-loop-i : goal.invariant-loop-i
invariant-loop-i l = AreReadTo l.names (list_words l.text l.list) l.i l.progress
