-- What is read of the statements of a text so far.
use Rattle.std.specs.Prelude.{◌≡◌, false, All, List, map, Option, Some, None}
use Rattle.std.specs.List.{list_any}
use Rattle.pp_language.specs.Texts.{Text}
use Rattle.pp_language.specs.Statements.{Statement, is_query}
use Rattle.pp_language.specs.Meanings.{clauses_by, query_by, asked_by}
use Rattle.pp_language.specs.Limits.{first_passed}
use Rattle.pp_term.specs.declared.query.Query.{Query}
use Rattle.pp_term.specs.Meanings.{clause_of}
use Rattle.pp_build.specs.Meanings.{query_of}
use Rattle.pp_read.specs.declared.progress.Progress.{Progress}
use Rattle.pp_read.specs.Sizes.{IsReadClause, IsReadQuery}

-- the query of the statements, where there is one
abbrev pub IsAsked : List Text → List Statement → Option Query → Type 0
IsAsked names ss None = list_any is_query ss ≡ false
IsAsked names ss (Some q) = (query_of names q ≡ query_by names (asked_by ss)) × IsReadQuery q

pub record IsProgress (names : List Text) (ss : List Statement) (p : Progress) : Type 0 where
  pub passed : p.passed ≡ first_passed 0 ss
  pub asked : p.asked ≡ list_any is_query ss
  pub clauses : p.passed ≡ None → map clause_of p.clauses.items ≡ clauses_by names ss
  pub query : p.passed ≡ None → IsAsked names ss p.query
  pub formed : All IsReadClause p.clauses.items
