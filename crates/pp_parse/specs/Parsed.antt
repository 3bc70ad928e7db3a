-- What is known of a sentence that was parsed.
use Rattle.std.specs.Prelude.{◌≡◌, ℕ, IsTrue, All, List, [], length}
use Rattle.pp_algebra.specs.Canon.{has, firsts}
use Rattle.pp_language.specs.Texts.{Text}
use Rattle.pp_algebra.specs.Texts.{same_text}
use Rattle.pp_language.specs.Kinds.{spells}
use Rattle.pp_language.specs.Words.{Word}
use Rattle.pp_language.specs.Phrases as phrases
use Rattle.pp_language.specs.Phrases.{parts_words}
use Rattle.pp_language.specs.PartsOf.{are_parts}
use Rattle.pp_language.specs.Statements.{Statement, statement_parts, is_statement, Says}
use Rattle.pp_parse.specs.declared.parts.Part.{Part}
use Rattle.pp_parse.specs.declared.statement.Layout.{Layout}
use Rattle.pp_parse.specs.declared.sentence.Parsed.{Parsed}
use Rattle.pp_parse.specs.Words.{texts_in, named_in, blanks_in}
use Rattle.pp_parse.specs.Parts.{AreParts}
use Rattle.pp_parse.specs.Layouts.{IsLayout}

-- the code's parts are these, over names that hold all atoms and over the sentence's variables
pub record IsKnown (names named : List Text) (count : ℕ) (qs : List phrases.Part) (ps : List Part) : Type 0 where
  pub named_is : named ≡ firsts same_text [] (named_in (parts_words qs))
  pub count_is : count ≡ blanks_in (parts_words qs)
  pub known : All (λ x. IsTrue (has same_text names x)) (texts_in (parts_words qs))
  pub spelled : All (λ w. IsTrue (spells w.kind w.text)) (parts_words qs)
  pub formed : IsTrue (are_parts qs)
  pub are : AreParts names named (length named) 0 qs ps

-- the parts are those of a statement with this layout
pub record IsReady (names named : List Text) (count : ℕ) (ps : List Part) (l : Layout) : Type 0 where
  pub statement : Statement
  pub is_statement : IsTrue (is_statement statement)
  pub known : IsKnown names named count (statement_parts statement) ps
  pub layout : IsLayout statement l

-- the words of a sentence are a statement with these parts
pub record IsParsed (names : List Text) (ws : List Word) (r : Parsed) : Type 0 where
  pub ready : IsReady names r.variables.named r.variables.blanks r.parts.items r.layout
  pub says : Says ws ready.statement
