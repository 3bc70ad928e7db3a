use Rattle.pp_parse.specs.Words.{words_of}
use Rattle.pp_parse.proofs.SentenceRead.{ReadFrom}
use Rattle.pp_parse.proofs.parts.read_parts.Given as goal

abbrev pub invariant-loop-i : goal.invariant-loop-i
invariant-loop-i l = ReadFrom l.names l.variables.named (words_of l.text l.tokens) l.i l.next l.reading
