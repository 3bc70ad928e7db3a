use Rattle.std.proofs.Common.{◌≡◌, ◌++◌, ◌*◌, ◌<◌}
use Rattle.pp_language.specs.Answers.{lines}
use Rattle.pp_language.specs.Generator.{adder_lines, number_at}
use Rattle.pp_make.proofs.adders.push_adders.Given as goal

abbrev pub invariant-loop-before : goal.invariant-loop-before
invariant-loop-before l = record {
  written : l.out.items ≡ l.initial.out.items ++ lines (adder_lines l.number l.before);
  last : l.last ≡ number_at l.number (2 * l.before);
  small : l.last < 2147483648;
}
