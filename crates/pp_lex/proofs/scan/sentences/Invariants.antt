use Rattle.std.proofs.Common.{◌-◌, length}
use Rattle.pp_lex.specs.Readings.{tokens_of}
use Rattle.pp_lex.proofs.Collected.{CollectedTo}
use Rattle.pp_lex.proofs.scan.sentences.Given as goal

abbrev pub invariant-loop-token : goal.invariant-loop-token
invariant-loop-token l = CollectedTo l.bytes (tokens_of l.list.items) l.tokens.items l.place

abbrev pub decreases-loop-token : goal.decreases-loop-token
decreases-loop-token l = length l.bytes - l.place
