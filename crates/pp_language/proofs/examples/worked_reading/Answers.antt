use Rattle.pp_language.proofs.ReadingExamples.{integers_are_spelled, infers_is_no_atom, quotes_are_doubled, comments_are_gaps, point_ends_sentence, empty_text_lacks_query, clauses_are_counted, arguments_are_counted, facts_are_numbered_in_order, named_variables_come_first}
use Rattle.pp_language.proofs.examples.worked_reading.Goals as goal

pub returns : goal.returns
returns c = record {
  integers_are_spelled = integers_are_spelled;
  infers_is_no_atom = infers_is_no_atom;
  quotes_are_doubled = quotes_are_doubled;
  comments_are_gaps = comments_are_gaps;
  point_ends_sentence = point_ends_sentence;
  empty_text_lacks_query = empty_text_lacks_query;
  clauses_are_counted = clauses_are_counted;
  arguments_are_counted = arguments_are_counted;
  facts_are_numbered_in_order = facts_are_numbered_in_order;
  named_variables_come_first = named_variables_come_first;
}
