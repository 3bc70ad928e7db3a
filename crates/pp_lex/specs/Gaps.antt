-- Where a run over white space and comments stands, for the states of the code.
use Rattle.pp_language.specs.Tokens.{Gap, clear, in_line, at_slash, in_block, at_star, broken}
use Rattle.pp_lex.specs.declared.gap.State.{State}
use Rattle.pp_lex.specs.declared.gap.State.TheVariants.{Clear, Line, Slash, Block, Star, Broken}

abbrev pub gap_of : State → Gap
gap_of Clear = clear
gap_of Line = in_line
gap_of Slash = at_slash
gap_of Block = in_block
gap_of Star = at_star
gap_of Broken = broken
