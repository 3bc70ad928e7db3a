-- The store of a query's variables: how it begins, a goal's face under it, and what applying a row to a goal changes.
use Rattle.std.specs.Prelude.{ℕ, ◌⊎◌, cond, nat_eq, List, [], ◌∷◌, None}
use Rattle.std.proofs.Common.{inl, inr}
use Rattle.pp_algebra.specs.Terms.{Tree, variable, Trees, put, put_all, variables_all}
use Rattle.pp_algebra.specs.Rows.{Domains, Pattern, Row, domain_at}
use Rattle.pp_algebra.specs.Canon.{has, place, firsts, canon}
use Rattle.pp_algebra.specs.Solve.{Item, IsSolved, HasNone}
use Rattle.pp_sld.specs.Goals.{Goal}
use Rattle.pp_algebra.specs.Numbered.{variables_from, column}
use Rattle.pp_sld.specs.Verdicts.{Mode}
use Rattle.pp_language.specs.Programs.{QueryItem, solves, infers, Query}
pub use Rattle.pp_algebra.specs.Canon.{same_either}

-- what is solved before the run, wherever it stands in the query
abbrev pub items_of : List QueryItem → List (Item ℕ)
items_of [] = []
items_of (solves i ∷ qs) = i ∷ items_of qs
items_of (infers g m ∷ qs) = items_of qs

-- an annotated goal
pub record Asked : Type 0 where
  pub goal : Goal ℕ
  pub mode : Mode

-- the annotated goals in textual order; they are numbered from 1
abbrev pub goals_of : List QueryItem → List Asked
goals_of [] = []
goals_of (solves i ∷ qs) = goals_of qs
goals_of (infers g m ∷ qs) = record { goal = g; mode = m } ∷ goals_of qs

-- the query's variables, each of domain `any`
abbrev pub unknowns : Query → Pattern ℕ
unknowns q = record { columns = variables_from 0 q.variables; domains = λ _. None }

abbrev pub Begins : Query → Row → Type 0
Begins q store = IsSolved (unknowns q) (items_of q.items) store

abbrev pub BeginsNowhere : Query → Type 0
BeginsNowhere q = HasNone (unknowns q) (items_of q.items)

-- a goal's arguments, each of the query's variables replaced by its column
abbrev pub arguments_under : Row → Goal ℕ → Trees ℕ
arguments_under store g = put_all (column store.columns) g.arguments

-- the canonical row of a goal's arguments under the store
abbrev pub face : Row → Goal ℕ → Row
face store g = canon nat_eq (record { columns = arguments_under store g; domains = domain_at store.domains })

-- the store's variables in a goal's face, in order of first occurrence
abbrev pub face_variables : Row → Goal ℕ → List ℕ
face_variables store g = firsts nat_eq [] (variables_all (arguments_under store g))

abbrev pub either_domains : Domains ℕ → Domains ℕ → Domains (ℕ ⊎ ℕ)
either_domains ds es (inl v) = ds v
either_domains ds es (inr w) = es w

-- a variable of the face becomes the given row's column, whose variables are fresh; any other variable stays
abbrev pub replaced_by : Row → List ℕ → ℕ → Tree (ℕ ⊎ ℕ)
replaced_by given vs v = cond (has nat_eq vs v) (put (λ w. variable (inr w)) (column given.columns (place nat_eq vs v)))
    (variable (inl v))

abbrev pub apply : Row → Goal ℕ → Row → Row
apply store g given = canon same_either (record {
  columns = put_all (replaced_by given (face_variables store g)) store.columns;
  domains = either_domains (domain_at store.domains) (domain_at given.domains);
})
