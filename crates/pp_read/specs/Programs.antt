-- What a program stands for, and what a fault says.
use Rattle.std.specs.Prelude.{◌≡◌, false, List, [], ◌∷◌, map}
use Rattle.pp_language.specs.Texts.{Text}
use Rattle.pp_language.specs.Programs.{Written}
use Rattle.pp_language.specs.Sentences.{Ending}
use Rattle.pp_language.specs.Words.{Word}
use Rattle.pp_language.specs.Statements.{Statement, is_query}
use Rattle.pp_language.specs.Faults.{AllSay, IsFault, IsSyntaxFault}
use Rattle.pp_language.specs.Limits.{Passes}
use Rattle.pp_term.specs.Meanings.{clause_of}
use Rattle.pp_build.specs.Meanings.{query_of}
use Rattle.pp_lex.specs.declared.lists.Sentence.{Sentence}
use Rattle.pp_read.specs.declared.program.Program.{Program}
use Rattle.pp_read.specs.declared.progress.Progress.{Progress}
use Rattle.pp_read.specs.declared.fault.ReadFault.{ReadFault}
use Rattle.pp_read.specs.declared.fault.ReadFault.TheVariants.{Syntax, Limit, Memory}
use Rattle.pp_parse.specs.Words.{words_of}
use Rattle.pp_read.specs.Progress.{IsProgress}

abbrev pub written_of : Program → Written
written_of p = record { names = p.names; clauses = map clause_of p.clauses; query = query_of p.names p.query }

-- the text has this fault
abbrev pub IsFaultOf : Text → ReadFault → Type 0
IsFaultOf text (Syntax k) = IsSyntaxFault text k
IsFaultOf text (Limit w) = Passes text w
IsFaultOf text Memory = Unit {0}

-- ===== on the way

abbrev pub list_words : Text → List Sentence → List (List Word)
list_words text ss = map (λ s. words_of text s.tokens) ss

-- none but the last of the statements is a query
abbrev pub AsksLast : List Statement → Type 0
AsksLast [] = Unit {0}
AsksLast (s ∷ []) = Unit {0}
AsksLast (s ∷ t ∷ ss) = (is_query s ≡ false) × AsksLast (t ∷ ss)

-- all sentences are statements, and this is read of them
pub record AreAllRead (names : List Text) (wss : List (List Word)) (p : Progress) : Type 0 where
  pub statements : List Statement
  pub say : AllSay wss statements
  pub asks_last : AsksLast statements
  pub progress : IsProgress names statements p

-- the first fault, however the text ends
abbrev pub IsEarlyFault : List (List Word) → ReadFault → Type 0
IsEarlyFault wss (Syntax k) = (e : Ending) → IsFault wss e k
IsEarlyFault wss (Limit w) = ⊥
IsEarlyFault wss Memory = Unit {0}
