-- The terms of phrases, over fixed names and named variables.
use Rattle.std.specs.Prelude.{ℕ, ◌+◌, cond, List, codes}
use Rattle.pp_algebra.specs.Terms.{Tree, int, node, variable, Trees, none, more}
use Rattle.pp_algebra.specs.Canon.{place}
use Rattle.pp_language.specs.Texts.{Text}
use Rattle.pp_algebra.specs.Texts.{same_text}
use Rattle.pp_language.specs.Words.{atom_of}
use Rattle.pp_language.specs.Phrases.{Phrase, integer_phrase, variable_phrase, said, Phrases, no_phrases, phrase_and}
use Rattle.pp_language.specs.Meanings.{integer_of, blanks}

-- a named variable is numbered by its place, and the next `_` has number n
abbrev pub number_of : List Text → ℕ → Text → ℕ
number_of named n bs = cond (same_text bs (codes "_")) n (place same_text named bs)

-- the term of a phrase, from whose beginning on the next `_` has number n
abbrev mutual
  pub term_of : List Text → List Text → ℕ → Phrase → Tree ℕ
  term_of names named n (integer_phrase bs) = int (integer_of bs)
  term_of names named n (variable_phrase bs) = variable (number_of named n bs)
  term_of names named n (said w ps) = node (place same_text names (atom_of w.kind w.text)) (terms_of names named n ps)

  pub terms_of : List Text → List Text → ℕ → Phrases → Trees ℕ
  terms_of names named n no_phrases = none
  terms_of names named n (phrase_and p ps) = more (term_of names named n p) (terms_of names named (n + blanks p) ps)
