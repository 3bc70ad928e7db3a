-- The arguments of a goal that is lent: how many there are, and their terms under bindings.
use Rattle.std.specs.Prelude.{◌≡◌, ℕ, zero, suc}
use Rattle.pp_algebra.specs.Terms.{Trees, put_all, count}
use Rattle.pp_algebra.specs.Rows.{Row}
use Rattle.pp_algebra.specs.Least.{rest}
use Rattle.pp_row.specs.Reading.{IsForest, forest}
use Rattle.pp_tests.specs.declared.built_in.Test.{Test}
use Rattle.pp_tests.specs.declared.built_in.Test.TheVariants.{Less, AtMost, Equal, Differ, Plus, Times, Indomain}
use Rattle.pp_unify.specs.States.{value_in}
use Rattle.pp_unify.specs.Forests.{counted_all, AreOver}
use Rattle.pp_clause.specs.declared.goal_at.GoalAt.{GoalAt}
use Rattle.pp_clause.specs.declared.goal_at.Kind.{Kind}
use Rattle.pp_clause.specs.declared.goal_at.Kind.TheVariants as kinds

abbrev pub arity_of : Test → ℕ
arity_of Less = 2
arity_of AtMost = 2
arity_of Equal = 2
arity_of Differ = 2
arity_of Plus = 3
arity_of Times = 3
arity_of Indomain = 1

-- a goal of this kind has so many arguments
abbrev pub HasArity : Kind → ℕ → Type 0
HasArity (kinds.User n) k = Unit {0}
HasArity kinds.Equate k = k ≡ 2
HasArity (kinds.Member d) k = k ≡ 1
HasArity (kinds.Test t) k = k ≡ arity_of t

-- the goal's arguments, their variables counted from a first number
abbrev pub terms_of : GoalAt → ℕ → Trees ℕ
terms_of g first = counted_all first (forest g.arguments.now)

-- the same with all bindings in place
abbrev pub terms_in : Row → GoalAt → ℕ → Trees ℕ
terms_in r g first = put_all (value_in r) (terms_of g first)

-- the goal's cells are whole terms over the variables of the bindings, as many as its kind has
pub record IsLent (r : Row) (g : GoalAt) (first : ℕ) : Type 0 where
  pub whole : IsForest g.arguments.now
  pub over : AreOver r (terms_of g first)
  pub arity : HasArity g.kind (count (forest g.arguments.now))

-- the terms after the first k
abbrev pub after : ℕ → Trees ℕ → Trees ℕ
after zero ts = ts
after (suc k) ts = rest (after k ts)
