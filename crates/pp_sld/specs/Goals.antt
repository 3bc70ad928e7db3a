-- Goals, clauses and configurations: what a branch of a search still has to do, and what it has bound so far.
use Rattle.std.specs.Prelude.{ℕ, Bool, cond, ◌&&◌, nat_eq, List, [], ◌∷◌, map, Option}
use Rattle.pp_algebra.specs.Terms.{Tree, node, Trees, more, put_all}
use Rattle.pp_algebra.specs.Rows.{Domain, Row}
use Rattle.pp_sld.specs.BuiltIns.{Test}

-- a predicate is named by its name and its number of arguments
pub record Predicate : Type 0 where
  pub name : ℕ
  pub arity : ℕ

-- what a goal asks: a predicate, `=`, membership in this set, or a built-in on integers
pub data Shape : Type 0 where
  user : Predicate → Shape
  equals : Shape
  member : Domain → Shape
  test : Test → Shape

pub record Goal (V : Type 0) : Type 0 where
  pub shape : Shape
  pub arguments : Trees V

-- a clause's variables are its own, numbered from 0
pub record Clause : Type 0 where
  pub head : Trees ℕ
  pub body : List (Goal ℕ)

-- the clauses of each predicate, in textual order
abbrev pub Program : Type 0
Program = Predicate → List Clause

abbrev pub same_predicate : Predicate → Predicate → Bool
same_predicate p q = nat_eq p.name q.name && nat_eq p.arity q.arity

-- the program of a list of clauses, each with the predicate of its head
abbrev pub program_of : List (Predicate × Clause) → Program
program_of [] p = []
program_of (c ∷ cs) p = cond (same_predicate c.0 p) (c.1 ∷ program_of cs p) (program_of cs p)

-- the state of a branch: the goals to do, the values of the call's variables, the domains, the depth left
pub record Config : Type 0 where
  pub goals : List (Goal ℕ)
  pub columns : Trees ℕ
  pub domains : List (Option Domain)
  pub depth : ℕ

abbrev pub put_goal : {V W : Type 0} → (V → Tree W) → Goal V → Goal W
put_goal s g = record { shape = g.shape; arguments = put_all s g.arguments }

-- a goal as one tree, so that goals and columns are the columns of one row
abbrev pub goal_tree : {V : Type 0} → Goal V → Tree V
goal_tree g = node 0 g.arguments

abbrev pub with_goals : {V : Type 0} → List (Goal V) → Trees V → Trees V
with_goals [] ts = ts
with_goals (g ∷ gs) ts = more (goal_tree g) (with_goals gs ts)

abbrev pub shapes : {V : Type 0} → List (Goal V) → List Shape
shapes gs = map (λ g. g.shape) gs

abbrev pub row_of : Config → Row
row_of c = record { columns = with_goals c.goals c.columns; domains = c.domains }
