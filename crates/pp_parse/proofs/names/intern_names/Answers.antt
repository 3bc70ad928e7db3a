use Rattle.std.proofs.Common.{ap, ◌∙◌}
use Rattle.pp_algebra.specs.Canon.{firsts}
use Rattle.pp_algebra.specs.Texts.{same_text}
use Rattle.pp_parse.specs.Words.{words_of, texts_in}
use Rattle.pp_parse.proofs.TokenWords.{sentence_on}
use Rattle.pp_parse.proofs.names.intern_names.Goals as goal

pub loop-sentence-preserved : goal.loop-sentence-preserved
loop-sentence-preserved c =
    sentence_on c.args.text.now c.args.sentences.now c.loop-sentence.sentence-index c.sentence-item.result _ _ _ c.loop-sentence-test.true c.sentence-item.is c.loop-sentence.invariant
    (c.in_ok-intern_all.ensures ∙ ap (λ ts. firsts same_text c.loop-sentence.names (texts_in (words_of c.args.text.now ts))) c.as_slice.ensures)
