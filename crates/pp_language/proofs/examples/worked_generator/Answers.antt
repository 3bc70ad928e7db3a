use Rattle.pp_language.proofs.GeneratorExamples.{first_numbers, first_adder, last_adder, these_program_lines, query_of_two, lines_of_three, change_is_told, summary_is_written, failure_is_summed}
use Rattle.pp_language.proofs.examples.worked_generator.Goals as goal

pub returns : goal.returns
returns c = record {
  first_numbers = first_numbers;
  first_adder = first_adder;
  last_adder = last_adder;
  these_program_lines = these_program_lines;
  query_of_two = query_of_two;
  lines_of_three = lines_of_three;
  change_is_told = change_is_told;
  summary_is_written = summary_is_written;
  failure_is_summed = failure_is_summed;
}
