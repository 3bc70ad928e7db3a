-- Which sentences are a text of the grammar, and the fault where they are none.
use Rattle.std.specs.Prelude.{◌≡◌, ℕ, suc, ◌<◌, ◌⊎◌, true, false, List, [], ◌∷◌, length, map, Some, slice_get}
use Rattle.pp_language.specs.declared.token.Token.{Token}
use Rattle.pp_language.specs.Texts.{Text}
use Rattle.pp_language.specs.Sentences.{Ending, clean, AreSentences}
use Rattle.pp_language.specs.Words.{Word, word_of}
use Rattle.pp_language.specs.Statements.{Statement, is_query, Says}

-- each sentence is this statement
abbrev pub AllSay : List (List Word) → List Statement → Type 0
AllSay [] [] = Unit {0}
AllSay [] (s ∷ ss) = ⊥
AllSay (ws ∷ wss) [] = ⊥
AllSay (ws ∷ wss) (s ∷ ss) = Says ws s × AllSay wss ss

-- directives and clauses, and then one query
abbrev pub EndInQuery : List Statement → Type 0
EndInQuery [] = ⊥
EndInQuery (s ∷ []) = is_query s ≡ true
EndInQuery (s ∷ t ∷ ss) = (is_query s ≡ false) × EndInQuery (t ∷ ss)

abbrev pub IsQuery : List Word → Type 0
IsQuery ws = (s : Statement) × Says ws s × (is_query s ≡ true)

-- the sentence at place i is neither a directive, nor a clause, nor a query
pub record IsWrongAt (wss : List (List Word)) (i : ℕ) : Type 0 where
  pub sentence : List Word
  pub stands : slice_get wss i ≡ Some sentence
  pub wrong : (s : Statement) → Says sentence s → ⊥

-- there is a sentence at place i, and an earlier one is a query
pub record IsBehindQuery (wss : List (List Word)) (i : ℕ) : Type 0 where
  pub earlier : ℕ
  pub before : earlier < i
  pub within : i < length wss
  pub sentence : List Word
  pub stands : slice_get wss earlier ≡ Some sentence
  pub asks : IsQuery sentence

abbrev pub NoQuery : List (List Word) → Type 0
NoQuery wss = (i : ℕ) (ws : List Word) → slice_get wss i ≡ Some ws → IsQuery ws → ⊥

-- a fault at the sentence k, counted from 1: the sentence itself, or the end of the text before it
abbrev pub IsFaultAt : List (List Word) → Ending → ℕ → Type 0
IsFaultAt wss e k =
    ((i : ℕ) × (k ≡ suc i) × (IsWrongAt wss i ⊎ IsBehindQuery wss i))
    ⊎ ((k ≡ suc (length wss)) × ((e ≡ clean → ⊥) ⊎ NoQuery wss))

-- the first fault
pub record IsFault (wss : List (List Word)) (e : Ending) (k : ℕ) : Type 0 where
  pub fault : IsFaultAt wss e k
  pub first : (j : ℕ) → j < k → IsFaultAt wss e j → ⊥

abbrev pub sentence_words : Text → List (List Token) → List (List Word)
sentence_words text tss = map (λ ts. map (word_of text) ts) tss

-- the text is in the grammar and consists of these statements
pub record IsInGrammar (text : Text) (statements : List Statement) : Type 0 where
  pub sentences : List (List Token)
  pub are_sentences : AreSentences text sentences clean
  pub say : AllSay (sentence_words text sentences) statements
  pub ends : EndInQuery statements

-- the first fault of the text
pub record IsSyntaxFault (text : Text) (k : ℕ) : Type 0 where
  pub sentences : List (List Token)
  pub ending : Ending
  pub are_sentences : AreSentences text sentences ending
  pub is_fault : IsFault (sentence_words text sentences) ending k
