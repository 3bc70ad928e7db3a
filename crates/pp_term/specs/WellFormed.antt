-- Well-formed clauses and queries: as many terms as the predicate or built-in has arguments, and no variable beyond those that are counted.
use Rattle.std.specs.Prelude.{◌≡◌, ℕ, ◌<◌, ◌≤◌, List, [], ◌∷◌, All, length}
use Rattle.pp_algebra.specs.Covers.{IsIn}
use Rattle.pp_algebra.specs.Terms.{Tree, variables_all}
use Rattle.pp_term.specs.declared.pred.Shape.{Shape}
use Rattle.pp_term.specs.declared.pred.Shape.TheVariants.{User, Plus, Times, Indomain}
use Rattle.pp_term.specs.declared.clause.Goal.{Goal}
use Rattle.pp_term.specs.declared.clause.Goal.TheVariants.{Call, Equate, Member, Compare}
use Rattle.pp_term.specs.declared.clause.Clause.{Clause}
use Rattle.pp_term.specs.declared.query.Item.{Item}
use Rattle.pp_term.specs.declared.query.Item.TheVariants as items
use Rattle.pp_term.specs.declared.query.Query.{Query}
use Rattle.pp_row.specs.Columns.{trees_of}

-- all variables lie below this number
abbrev pub AreBelow : ℕ → List (Tree ℕ) → Type 0
AreBelow n ts = (v : ℕ) → IsIn v (variables_all (trees_of ts)) → v < n

abbrev pub arguments_of : Shape → ℕ
arguments_of (User p) = p.arity
arguments_of Plus = 3
arguments_of Times = 3
arguments_of Indomain = 1

-- so many terms over so many variables
pub record AreArguments (n : ℕ) (s : Shape) (ts : List (Tree ℕ)) : Type 0 where
  pub count : length ts ≡ arguments_of s
  pub below : AreBelow n ts

abbrev pub IsGoal : ℕ → Goal → Type 0
IsGoal n (Call s ts) = AreArguments n s ts
IsGoal n (Equate a b) = AreBelow n (a ∷ b ∷ [])
IsGoal n (Member t d) = AreBelow n (t ∷ [])
IsGoal n (Compare r a b) = AreBelow n (a ∷ b ∷ [])

pub record IsClause (c : Clause) : Type 0 where
  pub head : AreArguments c.vars (User c.pred) c.head
  pub body : All (IsGoal c.vars) c.body

abbrev pub IsItem : ℕ → Item → Type 0
IsItem n (items.Equate a b) = AreBelow n (a ∷ b ∷ [])
IsItem n (items.Member t d) = AreBelow n (t ∷ [])
IsItem n (items.Infer s ts m) = AreArguments n s ts

pub record IsQuery (q : Query) : Type 0 where
  pub named : length q.named ≤ q.vars
  pub items : All (IsItem q.vars) q.items
