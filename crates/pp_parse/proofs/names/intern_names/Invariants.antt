use Rattle.std.proofs.Common.{◌≡◌, drop}
use Rattle.std.specs.Prelude.{[]}
use Rattle.std.specs.List.{flat_map}
use Rattle.pp_algebra.specs.Canon.{firsts}
use Rattle.pp_algebra.specs.Texts.{same_text}
use Rattle.pp_parse.specs.Words.{words_of, texts_in}
use Rattle.pp_parse.proofs.names.intern_names.Given as goal

abbrev pub invariant-loop-sentence : goal.invariant-loop-sentence
invariant-loop-sentence l = firsts same_text [] (texts_in (flat_map (λ s. words_of l.text s.tokens) l.sentences)) ≡ firsts same_text l.names (texts_in (flat_map (λ s. words_of l.text s.tokens) (drop l.sentence-index l.sentences)))
