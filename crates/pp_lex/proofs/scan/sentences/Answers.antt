use Rattle.std.proofs.Common.{length, subst, sym}
use Rattle.std.specs.Prelude.{All}
use Rattle.std.specs.List.{flat_map}
use Rattle.pp_language.specs.Tokens.{IsTokenOf}
use Rattle.pp_lex.specs.Spans.{AreSpans}
use Rattle.pp_lex.proofs.Collected.{collected_on}
use Rattle.pp_lex.proofs.Spans.{collected_spans, collected_tokens}
use Rattle.pp_lex.proofs.scan.sentences.Goals as goal

pub loop-token-preserved : goal.loop-token-preserved
loop-token-preserved c =
    let e = c.in-Token.ensures in
    collected_on c.in-Token.token c.loop-token.invariant e.0 e.1 e.2 c.in_ok-add-in-Token.ensures

pub returns-clause-tokens : goal.returns-clause-tokens
returns-clause-tokens c =
    subst (All (λ s. All (IsTokenOf c.args.bytes.now) s.tokens)) (sym c.from_vec.ensures) (collected_tokens c.loop-token.list.items c.loop-token.invariant)

pub returns-clause-ascending : goal.returns-clause-ascending
returns-clause-ascending c =
    subst (λ ss. AreSpans 0 (flat_map (λ s. s.tokens) ss) (length c.args.bytes.now)) (sym c.from_vec.ensures) (collected_spans c.loop-token.list.items c.loop-token.invariant)
