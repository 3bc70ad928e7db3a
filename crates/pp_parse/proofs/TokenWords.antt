-- The words of tokens, one after another, and the names of sentences.
use Rattle.std.proofs.Common.{◌≡◌, ℕ, suc, ◌+◌, ◌<◌, List, ◌∷◌, length, drop, get_or, ap, sym, ◌∙◌, arith}
use Rattle.std.specs.List.{flat_map}
use Rattle.std.proofs.lemmas.Grind.{flat_map-append}
use Rattle.std.proofs.Math.Seq.{drop-cons}
use Rattle.pp_algebra.specs.Canon.{firsts}
use Rattle.pp_row.proofs.Numbering.{firsts-append}
use Rattle.pp_language.specs.declared.token.Token.{Token}
use Rattle.pp_language.specs.Texts.{Text}
use Rattle.pp_algebra.specs.Texts.{same_text}
use Rattle.pp_language.specs.Words.{Word, word_of}
use Rattle.pp_language.specs.Meanings.{texts_by}
use Rattle.pp_lex.specs.declared.lists.Sentence.{Sentence}
use Rattle.pp_parse.specs.Words.{words_of, texts_in}

-- the word at a place, and those behind it
pub word_at : (text : Text) (ts : List Token) (i : ℕ) (d : Token) → i < length ts → words_of text (drop i ts) ≡ word_of text (get_or ts i d) ∷ words_of text (drop (i + 1) ts)
word_at text ts i d l =
    let e : i + 1 ≡ suc i = omega arith in
    rw e (ap (words_of text) (drop-cons ts i d l))

abbrev pub all_words : Text → List Sentence → List Word
all_words text ss = flat_map (λ s. words_of text s.tokens) ss

pub sentence_on : (text : Text) (ss : List Sentence) (i : ℕ) (s : Sentence) (all seen new : List Text) → i < length ss → s ≡ get_or ss i s
    → all ≡ firsts same_text seen (texts_in (all_words text (drop i ss))) → new ≡ firsts same_text seen (texts_in (words_of text s.tokens))
    → all ≡ firsts same_text new (texts_in (all_words text (drop (i + 1) ss)))
sentence_on text ss i s all seen new l e h n =
    let step : i + 1 ≡ suc i = omega arith in
    let rest = drop (i + 1) ss in
    let d : drop i ss ≡ s ∷ rest = rw step (drop-cons ss i s l ∙ ap (λ x. x ∷ drop (suc i) ss) (sym e)) in
    h ∙ ap (λ xs. firsts same_text seen (texts_in (all_words text xs))) d
    ∙ ap (firsts same_text seen) (flat_map-append (λ w. texts_by w.kind w.text) (words_of text s.tokens) (all_words text rest))
    ∙ firsts-append same_text seen (texts_in (words_of text s.tokens)) (texts_in (all_words text rest))
    ∙ ap (λ xs. firsts same_text xs (texts_in (all_words text rest))) (sym n)
