-- The laws of the language, as statements.
use Rattle.std.specs.Prelude.{◌≡◌, ℕ, List}
use Rattle.pp_language.specs.declared.token.Token.{Token}
use Rattle.pp_language.specs.declared.command.Command.{Command}
use Rattle.pp_language.specs.Commands.{AreWordsOf}
use Rattle.pp_language.specs.Texts.{Text}
use Rattle.pp_language.specs.Sentences.{Ending, AreSentences}
use Rattle.pp_language.specs.Programs.{Written}
use Rattle.pp_language.specs.Words.{Word}
use Rattle.pp_language.specs.Statements.{Statement, Says}
use Rattle.pp_language.specs.Faults.{IsInGrammar, IsSyntaxFault}
use Rattle.pp_language.specs.Limits.{Writes, Passes}
use Rattle.pp_language.specs.declared.which.Which.{Which}

-- a text has one list of sentences and one ending
abbrev pub HasOneReading : Type 0
HasOneReading = (text : Text) (ss us : List (List Token)) (e f : Ending) → AreSentences text ss e → AreSentences text us f → (ss ≡ us) × (e ≡ f)

-- a sentence is at most one statement
abbrev pub SaysOnce : Type 0
SaysOnce = (ws : List Word) (s t : Statement) → Says ws s → Says ws t → s ≡ t

-- a text of the grammar has no fault
abbrev pub GrammarHasNoFault : Type 0
GrammarHasNoFault = (text : Text) (ss : List Statement) (k : ℕ) → IsInGrammar text ss → IsSyntaxFault text k → ⊥

-- a text has one first fault
abbrev pub OneFirstFault : Type 0
OneFirstFault = (text : Text) (j k : ℕ) → IsSyntaxFault text j → IsSyntaxFault text k → j ≡ k

-- a text writes one program, or passes one limit first, or neither
abbrev pub WritesOneProgram : Type 0
WritesOneProgram = (text : Text) (w v : Written) → Writes text w → Writes text v → w ≡ v

abbrev pub PassesOneLimit : Type 0
PassesOneLimit = (text : Text) (w v : Which) → Passes text w → Passes text v → w ≡ v

abbrev pub WritesOrPasses : Type 0
WritesOrPasses = (text : Text) (w : Written) (v : Which) → Writes text w → Passes text v → ⊥

-- words ask for at most one command
abbrev pub HasOneCommand : Type 0
HasOneCommand = (words : List Text) (c d : Command) → AreWordsOf words c → AreWordsOf words d → c ≡ d
