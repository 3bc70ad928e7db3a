-- Worked examples of reading: spelling, white space and comments, sentences, a fault, limits, and what a clause and a query write.
use Rattle.std.specs.Prelude.{◌≡◌, ℕ, zero, suc, true, false, [], ◌∷◌, ◌-◌, Some, None, codes}
use Rattle.pp_algebra.specs.Terms.{variable, none, more}
use Rattle.pp_sld.specs.Goals.{user}
use Rattle.pp_sld.specs.Verdicts.{most}
use Rattle.pp_language.specs.declared.token.Kind.{Kind}
use Rattle.pp_language.specs.declared.token.Kind.TheVariants.{Integer, Atom, Quoted, Infers, Variable, Point}
use Rattle.pp_language.specs.declared.token.Token.{Token}
use Rattle.pp_language.specs.declared.which.Which.TheVariants.{Clauses, Arity}
use Rattle.pp_language.specs.declared.limits.TheConstants.{CLAUSE_LIMIT, ARITY_LIMIT}
use Rattle.pp_language.specs.Kinds.{spells, unquoted}
use Rattle.pp_language.specs.Tokens.{clear, in_block, gap_from, IsGap, IsLastGap}
use Rattle.pp_language.specs.Sentences.{FallInto}
use Rattle.pp_language.specs.Words.{word}
use Rattle.pp_language.specs.Phrases.{Phrase, integer_phrase, variable_phrase, said, Phrases, no_phrases, phrase_and}
use Rattle.pp_language.specs.Statements.{clause, asks}
use Rattle.pp_language.specs.Faults.{IsSyntaxFault}
use Rattle.pp_language.specs.Limits.{passed}
use Rattle.pp_language.specs.Meanings.{clause_by, query_by}
use Rattle.pp_language.specs.Programs.{infers}

-- leading zeros are allowed, a sign alone is no number, and the range ends at 10^12
abbrev pub IntegersAreSpelled : Type 0
IntegersAreSpelled =
    (spells Integer (codes "-0007") ≡ true) × (spells Integer (codes "-") ≡ false)
    × (spells Integer (codes "1000000000000") ≡ true) × (spells Integer (codes "1000000000001") ≡ false)

abbrev pub InfersIsNoAtom : Type 0
InfersIsNoAtom = (spells Atom (codes "infers") ≡ false) × (spells Infers (codes "infers") ≡ true) × (spells Atom (codes "infers_") ≡ true)

-- two quotes stand for one, and three are no atom
abbrev pub QuotesAreDoubled : Type 0
QuotesAreDoubled = (spells Quoted (codes "'it''s'") ≡ true) × (unquoted (codes "'it''s'") ≡ codes "it's") × (spells Quoted (codes "'''") ≡ false)

-- `/*/` is still open, `/**/` is closed, and the end of a text ends a comment from `%`
abbrev pub CommentsAreGaps : Type 0
CommentsAreGaps = (gap_from clear (codes "/*/") ≡ in_block) × IsGap (codes " /**/ % a comment\n") × IsLastGap (codes "% a comment")

abbrev pub token : Kind → ℕ → ℕ → Token
token k i j = record { kind = k; first = i; last = j }

-- `p. X` is one sentence, and a token is left
abbrev pub PointEndsSentence : Type 0
PointEndsSentence = FallInto (token Atom 0 1 ∷ token Point 1 2 ∷ token Variable 3 4 ∷ []) ((token Atom 0 1 ∷ []) ∷ []) (token Variable 3 4 ∷ [])

abbrev pub EmptyTextLacksQuery : Type 0
EmptyTextLacksQuery = IsSyntaxFault [] 1

abbrev pub arguments : ℕ → Phrases
arguments zero = no_phrases
arguments (suc n) = phrase_and (integer_phrase (codes "0")) (arguments n)

abbrev pub head : Phrases → Phrase
head ps = said (word Atom (codes "p")) ps

-- 65,535 clauses are within the limit, and one more is not; so it is with 255 arguments
abbrev pub ClausesAreCounted : Type 0
ClausesAreCounted = (passed (CLAUSE_LIMIT - 1) (clause (head no_phrases) []) ≡ None) × (passed CLAUSE_LIMIT (clause (head no_phrases) []) ≡ Some Clauses)

abbrev pub ArgumentsAreCounted : Type 0
ArgumentsAreCounted = (passed 0 (clause (head (arguments ARITY_LIMIT)) []) ≡ None) × (passed 0 (clause (head (arguments (suc ARITY_LIMIT))) []) ≡ Some Arity)

-- p(_,X,X)
abbrev pub blank_and_twice : Phrase
blank_and_twice = head (phrase_and (variable_phrase (codes "_")) (phrase_and (variable_phrase (codes "X")) (phrase_and (variable_phrase (codes "X")) no_phrases)))

-- as a fact its variables are numbered by first occurrence
abbrev pub FactsAreNumberedInOrder : Type 0
FactsAreNumberedInOrder =
    clause_by (codes "p" ∷ []) blank_and_twice []
    ≡ (record { name = 0; arity = 3 }, record { head = more (variable 0) (more (variable 1) (more (variable 1) none)); body = [] })

-- as a query's goal with the named one first
abbrev pub NamedVariablesComeFirst : Type 0
NamedVariablesComeFirst =
    query_by (codes "p" ∷ []) (asks blank_and_twice most ∷ [])
    ≡ record { variables = 2; named = codes "X" ∷ []; items = infers (record { shape = user (record { name = 0; arity = 3 }); arguments = more (variable 1) (more (variable 0) (more (variable 0) none)) }) most ∷ [] }
