use Rattle.pp_parse.proofs.SentenceParts.{are_formed, are_seen, are_begun, is_named, statement_told}
use Rattle.pp_parse.proofs.statement.layout_of.Goals as goal

pub clause_or_query-requires : goal.clause_or_query-requires
clause_or_query-requires c =
    let text = c.args.text.now in
    let ts = c.args.tokens.now in
    let ps = c.args.parts.now in
    let tokens = c.requires.tokens in
    let names = c.args.names.now in
    let named = c.requires.read.0 in
    let read = c.requires.read.1 in (
      are_seen text ts tokens names ps named read,
      (are_formed text ts tokens names ps named read, (are_begun text ts tokens names ps named read, (is_named text ts tokens names ps named read c.requires.names, tokens))),
    )

pub returns : goal.returns
returns c =
    statement_told c.args.text.now c.args.tokens.now c.requires.tokens c.args.names.now c.args.parts.now c.requires.read.0 c.requires.read.1 c.clause_or_query.result c.if-is_directive.ensures c.clause_or_query.ensures
