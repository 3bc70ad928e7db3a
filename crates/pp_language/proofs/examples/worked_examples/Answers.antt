use Rattle.pp_language.proofs.WorkedExamples.{adjacent_integers_join, spaced_atom_is_quoted, quote_is_doubled, infers_is_quoted, plain_atom_is_plain, compound_is_written, ranges_follow_columns, no_line, usage_line}
use Rattle.pp_language.proofs.examples.worked_examples.Goals as goal

pub returns : goal.returns
returns c = record {
  adjacent_integers_join = adjacent_integers_join;
  spaced_atom_is_quoted = spaced_atom_is_quoted;
  quote_is_doubled = quote_is_doubled;
  infers_is_quoted = infers_is_quoted;
  plain_atom_is_plain = plain_atom_is_plain;
  compound_is_written = compound_is_written;
  ranges_follow_columns = ranges_follow_columns;
  no_line = no_line;
  usage_line = usage_line;
}
