use Rattle.pp_lex.proofs.Gaps.{ReadTo}
use Rattle.pp_lex.specs.Gaps.{gap_of}
use Rattle.pp_lex.proofs.gap.measure_gap.Given as goal

abbrev pub invariant-loop-at : goal.invariant-loop-at
invariant-loop-at l = ReadTo l.rest (gap_of l.state) l.size l.at
