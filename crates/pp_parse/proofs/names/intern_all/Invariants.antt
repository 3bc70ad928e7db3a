use Rattle.std.proofs.Common.{◌≡◌, drop}
use Rattle.pp_algebra.specs.Canon.{firsts}
use Rattle.pp_algebra.specs.Texts.{same_text}
use Rattle.pp_parse.specs.Words.{words_of, texts_in}
use Rattle.pp_parse.proofs.names.intern_all.Given as goal

abbrev pub invariant-loop-token : goal.invariant-loop-token
invariant-loop-token l = firsts same_text l.fn.names (texts_in (words_of l.text l.tokens)) ≡ firsts same_text l.names (texts_in (words_of l.text (drop l.token-index l.tokens)))
