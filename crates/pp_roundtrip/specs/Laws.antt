-- The laws of printing and reading, as statements.
use Rattle.std.specs.Prelude.{◌≡◌, ℕ, ◌+◌, ◌^◌, ◌<◌, Bool, true, false, IsTrue, not, ◌≤◌, ◌&&◌, ◌||◌, nat_eq, List, [], ◌∷◌, ◌++◌, map, length, codes}
use Rattle.std.specs.List.{list_all}
use Rattle.pp_algebra.specs.Members.{IsInteger}
use Rattle.pp_algebra.specs.Terms.{Tree, int, node, variable, Trees, none, more, count, put, variables_all}
use Rattle.pp_algebra.specs.Rows.{IsNumbered}
use Rattle.pp_algebra.specs.Canon.{Distinct}
use Rattle.pp_sld.specs.Goals.{Predicate}
use Rattle.pp_language.specs.declared.token.Kind.{Kind}
use Rattle.pp_language.specs.declared.token.Kind.TheVariants.{Left}
use Rattle.pp_language.specs.declared.token.Token.{Token}
use Rattle.pp_language.specs.Texts.{Text, is_word, part}
use Rattle.pp_algebra.specs.Texts.{same_text}
use Rattle.pp_language.specs.Kinds.{is_plain_byte, spells}
use Rattle.pp_language.specs.Tokens.{IsGap, IsLastGap, AreTokensOf}
use Rattle.pp_language.specs.Sentences.{clean, AreSentences}
use Rattle.pp_language.specs.Words.{word_of, is_built_in}
use Rattle.pp_language.specs.Phrases.{Phrase, phrase_words, is_phrase}
use Rattle.pp_language.specs.Statements.{Statement, clause, Says}
use Rattle.pp_language.specs.Faults.{IsInGrammar}
use Rattle.pp_language.specs.Keys.{Key, named}
use Rattle.pp_language.specs.Meanings.{keyed, clause_by, text_names}
use Rattle.pp_language.specs.Printing.{atom_text, name_at, variable_text, term_text}

-- ===== what can be written

-- the text of an atom: what stands between quotes as it is, and quotes
abbrev pub is_writable : Text → Bool
is_writable bs = list_all (λ b. is_plain_byte b || nat_eq b 39) bs

-- each name can be written, and none stands twice
abbrev pub AreNames : List Text → Type 0
AreNames names = IsTrue (list_all is_writable names) × Distinct same_text names

-- a term of the language over these names; a number is written with up to 64 digits
abbrev mutual
  pub IsOver : List Text → Tree ℕ → Type 0
  IsOver names (int n) = IsInteger n
  IsOver names (node f ts) = (f < length names) × AreOver names ts
  IsOver names (variable v) = v < 10 ^ 64

  pub AreOver : List Text → Trees ℕ → Type 0
  AreOver names none = Unit {0}
  AreOver names (more t ts) = IsOver names t × AreOver names ts

-- ===== what is read

-- the term with each variable by its name, which is `_` and its number
abbrev pub by_name : Tree ℕ → Tree Key
by_name t = put (λ v. variable (named (variable_text v))) t

-- the words of these tokens are one phrase, and it means this term wherever it stands in a sentence
pub record Mean (names : List Text) (text : Text) (tokens : List Token) (t : Tree Key) : Type 0 where
  pub phrase : Phrase
  pub words : map (word_of text) tokens ≡ phrase_words phrase
  pub is_phrase : IsTrue (is_phrase phrase)
  pub means : (n : ℕ) → keyed names n phrase ≡ t

-- the text has one list of tokens, and they mean this term
pub record IsReadAlone (names : List Text) (text : Text) (t : Tree Key) : Type 0 where
  pub tokens : List Token
  pub are_tokens : AreTokensOf text 0 tokens (length text)
  pub only : (us : List Token) (j : ℕ) → AreTokensOf text 0 us j → IsLastGap (part text j (length text)) → us ≡ tokens
  pub mean : Mean names text tokens t

-- up to place i the text is these tokens, and white space and comments after the last one
pub record IsUpTo (text : Text) (tokens : List Token) (i : ℕ) : Type 0 where
  pub last : ℕ
  pub are_tokens : AreTokensOf text 0 tokens last
  pub within : last ≤ i
  pub gap : IsGap (part text last i)

-- no token that a term ends with goes on into this text
abbrev pub ends_tokens : Text → Bool
ends_tokens [] = true
ends_tokens (b ∷ bs) = not (is_word b) && not (nat_eq b 39)

-- and no `(` comes first in it, also not after white space and comments
pub record EndsTerm (behind : Text) : Type 0 where
  pub token : IsTrue (ends_tokens behind)
  pub no_arguments : (gap rest : Text) → IsGap gap → behind ≡ gap ++ 40 ∷ rest → ⊥

abbrev pub OpensNone : List Token → Type 0
OpensNone [] = Unit {0}
OpensNone (t ∷ ts) = t.kind ≡ Left → ⊥

-- after these tokens the text has those of this term, up to place j: each list of its tokens that goes so far has them there, and no `(` next
pub record IsReadAfter (names : List Text) (text : Text) (us : List Token) (j : ℕ) (t : Tree Key) : Type 0 where
  pub tokens : List Token
  pub are_tokens : AreTokensOf text 0 (us ++ tokens) j
  pub only : (vs : List Token) (k : ℕ) → AreTokensOf text 0 vs k → j ≤ k → (more : List Token) × (vs ≡ us ++ tokens ++ more) × OpensNone more
  pub mean : Mean names text tokens t

-- the text is one sentence, and the sentence is a clause without goals
pub record IsReadAsFact (names : List Text) (text : Text) (p : Predicate) (ts : Trees ℕ) : Type 0 where
  pub tokens : List Token
  pub are_sentences : AreSentences text (tokens ∷ []) clean
  pub head : Phrase
  pub says : Says (map (word_of text) tokens) (clause head [])
  pub writes : clause_by names head [] ≡ (p, record { head = ts; body = [] })

-- ===== the laws

-- a printed term is read as the same term: alone, and after other tokens
abbrev pub ReadAlone : Type 0
ReadAlone = (names : List Text) (t : Tree ℕ) → AreNames names → IsOver names t → IsReadAlone names (term_text names t) (by_name t)

abbrev pub ReadAmong : Type 0
ReadAmong = (names : List Text) (t : Tree ℕ) (before behind : Text) (us : List Token) → AreNames names → IsOver names t → EndsTerm behind
    → IsUpTo (before ++ term_text names t ++ behind) us (length before)
    → IsReadAfter names (before ++ term_text names t ++ behind) us (length before + length (term_text names t)) (by_name t)

-- different variables have different names
abbrev pub OwnNames : Type 0
OwnNames = (v w : ℕ) → v < 10 ^ 64 → w < 10 ^ 64 → variable_text v ≡ variable_text w → v ≡ w

-- an atom with arguments whose variables are numbered by first occurrence, and a point behind it, is the fact of these arguments
abbrev pub ReadAsFact : Type 0
ReadAsFact = (names : List Text) (f m : ℕ) (ts : Trees ℕ) → AreNames names → IsOver names (node f ts) → IsNumbered 0 (variables_all ts) m → is_built_in (name_at names f) (count ts) ≡ false
    → IsReadAsFact names (term_text names (node f ts) ++ codes ".") (record { name = f; arity = count ts }) ts

-- what is printed of an atom is a token only where its text can be written
abbrev pub NoOtherAtoms : Type 0
NoOtherAtoms = (bs : Text) (k : Kind) → IsTrue (spells k (atom_text bs)) → IsTrue (is_writable bs)

-- the names of a text of the grammar are such names
abbrev pub NamesOfTexts : Type 0
NamesOfTexts = (text : Text) (ss : List Statement) → IsInGrammar text ss → AreNames (text_names ss)
