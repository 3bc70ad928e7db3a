-- What a goal of a body is, as it is lent.
use Rattle.std.specs.Prelude.{◌≡◌, ℕ, List}
use Rattle.pp_algebra.specs.Terms.{count}
use Rattle.pp_sld.specs.BuiltIns.{Test, less, at_most, equal, differ, plus, times, indomain}
use Rattle.pp_sld.specs.Goals as goals
use Rattle.pp_sld.specs.Goals.{user, equals, member, test, Goal}
use Rattle.pp_term.specs.declared.pred.Shape.{Shape}
use Rattle.pp_term.specs.declared.pred.Shape.TheVariants.{User, Plus, Times, Indomain}
use Rattle.pp_term.specs.declared.clause.Clause.{Clause}
use Rattle.pp_term.specs.Meanings.{shape_of}
use Rattle.pp_term.specs.WellFormed.{arguments_of}
use Rattle.pp_row.specs.Reading.{IsForest, forest}
use Rattle.pp_clause.specs.Predicates.{Names}
use Rattle.pp_clause.specs.Goals.{Asks}
use Rattle.pp_clause.specs.declared.goal_at.GoalAt.{GoalAt}
use Rattle.pp_resolve.specs.declared.root.Root.{Root}

abbrev pub arity_of : Test → ℕ
arity_of less = 2
arity_of at_most = 2
arity_of equal = 2
arity_of differ = 2
arity_of plus = 3
arity_of times = 3
arity_of indomain = 1

-- how many arguments a goal has that asks this
abbrev pub width_of : goals.Shape → ℕ
width_of (user p) = p.arity
width_of equals = 2
width_of (member d) = 1
width_of (test t) = arity_of t

pub record IsShown (cs : List Clause) (g : Goal ℕ) (d : GoalAt) : Type 0 where
  pub asks : Asks cs d.kind g.shape
  pub whole : IsForest d.arguments.now
  pub arguments : forest d.arguments.now ≡ g.arguments
  pub full : count g.arguments ≡ width_of g.shape

-- the goal that is searched
abbrev pub root_of : Root → Goal ℕ
root_of r = record { shape = shape_of r.shape; arguments = forest r.cells.items }

abbrev pub IsNamed : List Clause → ℕ → Shape → Type 0
IsNamed cs n (User p) = Names cs n p
IsNamed cs n Plus = Unit {0}
IsNamed cs n Times = Unit {0}
IsNamed cs n Indomain = Unit {0}

pub record IsRoot (cs : List Clause) (r : Root) : Type 0 where
  pub named : IsNamed cs r.predicate r.shape
  pub whole : IsForest r.cells.items
  pub width : count (forest r.cells.items) ≡ arguments_of r.shape
