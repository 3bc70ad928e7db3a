-- The worked examples of words hold.
use Rattle.std.proofs.Common.{refl}
use Rattle.pp_language.specs.CommandExamples.{AloneIsPlain, BothSpellings, ZerosMayLead, NumberStandsLast, TraceIsTold, OthersAreNoWords, MoreAreNoWords}
use Rattle.pp_language.proofs.CommandsRead.{no_words}
use Rattle.pp_language.proofs.CommandsMade.{asked_made}

pub alone_is_plain : AloneIsPlain
alone_is_plain = asked_made _ _ refl

pub both_spellings : BothSpellings
both_spellings = asked_made _ _ refl

pub zeros_may_lead : ZerosMayLead
zeros_may_lead = asked_made _ _ refl

pub number_stands_last : NumberStandsLast
number_stands_last = asked_made _ _ refl

pub trace_is_told : TraceIsTold
trace_is_told = asked_made _ _ refl

pub others_are_no_words : OthersAreNoWords
others_are_no_words = (
  no_words _ refl,
  no_words _ refl,
  no_words _ refl,
  no_words _ refl,
  no_words _ refl,
  no_words _ refl,
  no_words _ refl,
  no_words _ refl,
  no_words _ refl,
  no_words _ refl,
)

pub more_are_no_words : MoreAreNoWords
more_are_no_words = (no_words _ refl, no_words _ refl, no_words _ refl, no_words _ refl, no_words _ refl, no_words _ refl, no_words _ refl)
