-- What the reader knows of a sentence, and what it makes of it.
use Rattle.std.specs.Prelude.{◌≡◌, ℕ, List, Some, None}
use Rattle.pp_language.specs.Texts.{Text}
use Rattle.pp_language.specs.Words.{Word}
use Rattle.pp_language.specs.Statements.{Statement, directive, clause, query, Says}
use Rattle.pp_language.specs.Meanings.{clause_by, query_by}
use Rattle.pp_language.specs.Limits.{passed}
use Rattle.pp_term.specs.Meanings.{clause_of}
use Rattle.pp_build.specs.Meanings.{query_of}
use Rattle.pp_read.specs.declared.sentence.Said.{Said}
use Rattle.pp_read.specs.declared.sentence.Said.TheVariants.{Directive, Clause, Query, OverClause, OverQuery}
use Rattle.pp_read.specs.Sizes.{IsReadClause, IsReadQuery}

-- what a statement writes, with n clauses before it, or the first limit that it passes
abbrev pub IsMade : List Text → ℕ → Statement → Said → Type 0
IsMade names n (directive w) Directive = Unit {0}
IsMade names n (clause p is) (Clause c) = (passed n (clause p is) ≡ None) × (clause_of c ≡ clause_by names p is) × IsReadClause c
IsMade names n (query is) (Query q) = (passed n (query is) ≡ None) × (query_of names q ≡ query_by names is) × IsReadQuery q
IsMade names n (clause p is) (OverClause w) = passed n (clause p is) ≡ Some w
IsMade names n (query is) (OverQuery w) = passed n (query is) ≡ Some w
IsMade names n s r = ⊥

-- what is read of the words of a sentence
pub record IsSaid (names : List Text) (n : ℕ) (ws : List Word) (r : Said) : Type 0 where
  pub statement : Statement
  pub says : Says ws statement
  pub made : IsMade names n statement r
