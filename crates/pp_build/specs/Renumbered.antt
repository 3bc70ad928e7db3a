-- A clause whose variables are numbered by first occurrence: the head's first, then the goals', from left to right.
use Rattle.std.specs.Prelude.{ℕ, nat_eq, List, [], ◌∷◌, ◌++◌, map}
use Rattle.std.specs.List.{flat_map}
use Rattle.pp_algebra.specs.Terms.{Tree, variable, put, variables_all}
use Rattle.pp_algebra.specs.Canon.{place, firsts}
use Rattle.pp_row.specs.Columns.{trees_of}
use Rattle.pp_term.specs.declared.clause.Goal.{Goal}
use Rattle.pp_term.specs.declared.clause.Goal.TheVariants.{Call, Equate, Member, Compare}
use Rattle.pp_term.specs.declared.clause.Clause.{Clause}

abbrev pub goal_terms : Goal → List (Tree ℕ)
goal_terms (Call s ts) = ts
goal_terms (Equate a b) = a ∷ b ∷ []
goal_terms (Member t d) = t ∷ []
goal_terms (Compare r a b) = a ∷ b ∷ []

-- the variables from left to right, each as often as it stands there
abbrev pub variables_in : List (Tree ℕ) → List ℕ
variables_in ts = variables_all (trees_of ts)

abbrev pub goal_variables : Goal → List ℕ
goal_variables g = variables_in (goal_terms g)

abbrev pub clause_variables : Clause → List ℕ
clause_variables c = variables_in c.head ++ flat_map goal_variables c.body

-- a variable by its place in the list
abbrev pub placed : List ℕ → ℕ → Tree ℕ
placed vs v = variable (place nat_eq vs v)

abbrev pub put_goal : (ℕ → Tree ℕ) → Goal → Goal
put_goal s (Call h ts) = Call h (map (put s) ts)
put_goal s (Equate a b) = Equate (put s a) (put s b)
put_goal s (Member t d) = Member (put s t) d
put_goal s (Compare r a b) = Compare r (put s a) (put s b)

abbrev pub put_clause : (ℕ → Tree ℕ) → Clause → Clause
put_clause s c = record { pred = c.pred; head = map (put s) c.head; body = map (put_goal s) c.body; vars = c.vars }

abbrev pub renumbered : Clause → Clause
renumbered c = put_clause (placed (firsts nat_eq [] (clause_variables c))) c
