use Rattle.pp_language.proofs.CommandExamples.{alone_is_plain, both_spellings, zeros_may_lead, number_stands_last, trace_is_told, others_are_no_words, more_are_no_words}
use Rattle.pp_language.proofs.examples.worked_commands.Goals as goal

pub returns : goal.returns
returns c = record {
  alone_is_plain = alone_is_plain;
  both_spellings = both_spellings;
  zeros_may_lead = zeros_may_lead;
  number_stands_last = number_stands_last;
  trace_is_told = trace_is_told;
  others_are_no_words = others_are_no_words;
  more_are_no_words = more_are_no_words;
}
