-- The worked examples of reading hold.
use Rattle.std.proofs.Common.{ℕ, ◌<◌, inl, inr, [], refl, arith}
use Rattle.pp_language.specs.Sentences.{clean}
use Rattle.pp_language.specs.Faults.{IsFaultAt, NoQuery}
use Rattle.pp_language.specs.ReadingExamples.{IntegersAreSpelled, InfersIsNoAtom, QuotesAreDoubled, CommentsAreGaps, PointEndsSentence, EmptyTextLacksQuery, ClausesAreCounted, ArgumentsAreCounted, FactsAreNumberedInOrder, NamedVariablesComeFirst}

pub integers_are_spelled : IntegersAreSpelled
integers_are_spelled = (refl, refl, refl, refl)

pub infers_is_no_atom : InfersIsNoAtom
infers_is_no_atom = (refl, refl, refl)

pub quotes_are_doubled : QuotesAreDoubled
quotes_are_doubled = (refl, refl, refl)

pub comments_are_gaps : CommentsAreGaps
comments_are_gaps = (refl, refl, refl)

pub point_ends_sentence : PointEndsSentence
point_ends_sentence = (_, refl, _, refl, (λ e. cc e, tt), (refl, (λ e. cc e, tt)))

no_query : NoQuery []
no_query i ws e q = cc e

not_before : (j : ℕ) → j < 1 → IsFaultAt [] clean j → ⊥
not_before j l (inl f) = omega (arith, l, f.1)
not_before j l (inr f) = omega (arith, l, f.0)

pub empty_text_lacks_query : EmptyTextLacksQuery
empty_text_lacks_query = record {
  sentences = [];
  ending = clean;
  are_sentences = record { tokens = []; last = 0; left = []; within = omega arith; are_tokens = refl; fall_into = (refl, tt); ends = (refl, refl) };
  is_fault = record { fault = inr (refl, inr no_query); first = not_before };
}

pub clauses_are_counted : ClausesAreCounted
clauses_are_counted = (refl, refl)

pub arguments_are_counted : ArgumentsAreCounted
arguments_are_counted = (refl, refl)

pub facts_are_numbered_in_order : FactsAreNumberedInOrder
facts_are_numbered_in_order = refl

pub named_variables_come_first : NamedVariablesComeFirst
named_variables_come_first = refl
