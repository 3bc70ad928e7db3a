-- The limits of a text: its length, its counted quantities, and the first limit that is passed.
use Rattle.std.specs.Prelude.{◌≡◌, ℕ, suc, ◌<◌, Bool, false, cond, not, ◌||◌, nat_le, List, [], ◌∷◌, map, length, Option, Some, None}
use Rattle.std.specs.List.{list_any}
use Rattle.pp_language.specs.declared.which.Which.{Which}
use Rattle.pp_language.specs.declared.which.Which.TheVariants.{Clauses, Arity, Variables, Goals}
use Rattle.pp_language.specs.declared.limits.TheConstants.{TEXT_LIMIT, CLAUSE_LIMIT, ARITY_LIMIT, CLAUSE_VARIABLE_LIMIT, QUERY_VARIABLE_LIMIT, GOAL_LIMIT}
use Rattle.pp_language.specs.Texts.{Text}
use Rattle.pp_language.specs.Programs.{Written}
use Rattle.pp_language.specs.Phrases.{Phrase, integer_phrase, variable_phrase, said, Phrases, no_phrases, phrase_and, count}
use Rattle.pp_language.specs.Statements.{Item, calls, equates, belongs, compares, asks, Statement, directive, clause, query}
use Rattle.pp_language.specs.Meanings.{keyed_lists, keys_in, said_arguments, item_phrases, written_by}
use Rattle.pp_language.specs.Faults.{IsInGrammar}

-- the text is longer than any that is read
abbrev pub IsTooLong : Text → Type 0
IsTooLong text = TEXT_LIMIT < length text

abbrev pub is_above : ℕ → ℕ → Bool
is_above limit n = not (nat_le n limit)

-- some atom has more arguments than a compound may have
abbrev mutual
  pub is_too_wide : Phrase → Bool
  is_too_wide (integer_phrase bs) = false
  is_too_wide (variable_phrase bs) = false
  is_too_wide (said w ps) = is_above ARITY_LIMIT (count ps) || are_too_wide ps

  pub are_too_wide : Phrases → Bool
  are_too_wide no_phrases = false
  are_too_wide (phrase_and p ps) = is_too_wide p || are_too_wide ps

abbrev pub item_too_wide : Item → Bool
item_too_wide (calls p) = is_too_wide p
item_too_wide (equates p q) = is_too_wide p || is_too_wide q
item_too_wide (belongs p s) = is_too_wide p
item_too_wide (compares k p q) = is_too_wide p || is_too_wide q
item_too_wide (asks p m) = is_too_wide p

-- how many variables stand in these phrases
abbrev pub variable_count : List Phrases → ℕ
variable_count pss = length (keys_in (keyed_lists [] 0 pss))

-- how many annotated goals there are
abbrev pub goal_count : List Item → ℕ
goal_count [] = 0
goal_count (asks p m ∷ is) = suc (goal_count is)
goal_count (i ∷ is) = goal_count is

abbrev pub when : Bool → Which → Option Which → Option Which
when b w later = cond b (Some w) later

-- the first limit that a statement passes, with so many clauses before it
abbrev pub passed : ℕ → Statement → Option Which
passed n (directive w) = None
passed n (clause p is) =
    when (is_above CLAUSE_LIMIT (suc n)) Clauses
    (when (is_too_wide p || list_any item_too_wide is) Arity
    (when (is_above CLAUSE_VARIABLE_LIMIT (variable_count (said_arguments p ∷ map item_phrases is))) Variables None))
passed n (query is) =
    when (list_any item_too_wide is) Arity
    (when (is_above QUERY_VARIABLE_LIMIT (variable_count (map item_phrases is))) Variables
    (when (is_above GOAL_LIMIT (goal_count is)) Goals None))

abbrev pub clauses_behind : ℕ → Statement → ℕ
clauses_behind n (directive w) = n
clauses_behind n (clause p is) = suc n
clauses_behind n (query is) = n

abbrev pub or_later : Option Which → Option Which → Option Which
or_later None later = later
or_later (Some w) later = Some w

abbrev pub first_passed : ℕ → List Statement → Option Which
first_passed n [] = None
first_passed n (s ∷ ss) = or_later (passed n s) (first_passed (clauses_behind n s) ss)

-- the text is in the grammar, passes no limit, and writes this
pub record Writes (text : Text) (written : Written) : Type 0 where
  pub statements : List Statement
  pub in_grammar : IsInGrammar text statements
  pub within : first_passed 0 statements ≡ None
  pub writes : written ≡ written_by statements

-- the text is in the grammar, and this is the first limit that it passes
pub record Passes (text : Text) (which : Which) : Type 0 where
  pub statements : List Statement
  pub in_grammar : IsInGrammar text statements
  pub passes : first_passed 0 statements ≡ Some which
