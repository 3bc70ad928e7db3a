use Rattle.std.proofs.Common.{◌≡◌, ◌+◌, ◌≤◌, drop}
use Rattle.std.specs.Prelude.{[]}
use Rattle.pp_algebra.specs.Canon.{firsts}
use Rattle.pp_algebra.specs.Texts.{same_text}
use Rattle.pp_parse.specs.Words.{words_of, named_in, blanks_in}
use Rattle.pp_parse.proofs.variables.find_variables.Given as goal

abbrev pub invariant-loop-token : goal.invariant-loop-token
invariant-loop-token l = record {
  named : firsts same_text [] (named_in (words_of l.text l.tokens)) ≡ firsts same_text l.variables.named (named_in (words_of l.text (drop l.token-index l.tokens)));
  blanks : l.variables.blanks + blanks_in (words_of l.text (drop l.token-index l.tokens)) ≡ blanks_in (words_of l.text l.tokens);
  few : l.variables.blanks ≤ l.token-index;
}
