use Rattle.std.proofs.Common.{◌∙◌, subst, arith}
use Rattle.pp_parse.specs.Words.{words_of}
use Rattle.pp_read.specs.Sentences.{IsSaid}
use Rattle.pp_read.specs.Programs.{list_words}
use Rattle.pp_parse.proofs.SentenceReady.{found_none, found_some}
use Rattle.pp_read.proofs.WholeTexts.{list_length}
use Rattle.pp_read.proofs.ReadSentences.{none_read, sentence_is, names_at, next_fault, reads_on, no_sentence, behind_query, read_to}
use Rattle.pp_read.proofs.text.read_all.Goals as goal

pub loop-i-init : goal.loop-i-init
loop-i-init c = none_read c.args.names.now (list_words c.args.text.now c.args.list.now) c.new-progress.result (c.new-progress.ensures c.args.names.now)

pub returns-then-progress-clause-fault : goal.returns-then-progress-clause-fault
returns-then-progress-clause-fault c =
    let wss = list_words c.args.text.now c.args.list.now in
    next_fault wss c.loop-i.i (behind_query c.args.names.now wss c.loop-i.i c.loop-i.progress c.loop-i.invariant c.if-progress.true (omega (arith, list_length c.args.text.now c.args.list.now)))

pub read_sentence-requires-clause-names : goal.read_sentence-requires-clause-names
read_sentence-requires-clause-names c =
    names_at c.args.names.now c.args.text.now c.args.list.now c.loop-i.i c.index-list-i.result c.as_slice-tokens.result.now c.loop-i-test.true c.index-list-i.is c.as_slice-tokens.ensures c.requires.names

pub returns-in_default-clause-fault : goal.returns-in_default-clause-fault
returns-in_default-clause-fault c =
    let text = c.args.text.now in
    let wss = list_words text c.args.list.now in
    let ts = c.as_slice-tokens.result.now in
    next_fault wss c.loop-i.i (no_sentence c.args.names.now wss c.loop-i.i c.loop-i.progress c.loop-i.invariant (words_of text ts)
    (sentence_is text c.args.list.now c.loop-i.i c.index-list-i.result ts c.loop-i-test.true c.index-list-i.is c.as_slice-tokens.ensures)
    (found_none c.in_ok-said.field-0 _ _ c.in_default.is c.in_ok-said.ensures))

pub loop-i-preserved : goal.loop-i-preserved
loop-i-preserved c =
    let text = c.args.text.now in
    let names = c.args.names.now in
    let wss = list_words text c.args.list.now in
    let ts = c.as_slice-tokens.result.now in
    let said = found_some c.in_ok-said.field-0 _ _ c.in-Some.said c.in-Some.is c.in_ok-said.ensures in
    read_to names wss c.loop-i.i c.take.new.self
    (reads_on names wss c.loop-i.i c.loop-i.progress c.loop-i.invariant (words_of text ts) c.in-Some.said c.take.new.self
    (sentence_is text c.args.list.now c.loop-i.i c.index-list-i.result ts c.loop-i-test.true c.index-list-i.is c.as_slice-tokens.ensures)
    (subst (λ n. IsSaid names n (words_of text ts) c.in-Some.said) (c.len.ensures ∙ c.loop-i.progress.clauses.ok.0) said) c.if-progress.false (λ ss s. c.in_ok-take.ensures names ss s))
