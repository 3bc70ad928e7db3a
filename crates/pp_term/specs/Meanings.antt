-- What the plain values stand for in the definitions of search.
use Rattle.std.specs.Prelude.{ℕ, ℤ, List, [], ◌∷◌, map, Option, Some, None}
use Rattle.std.specs.FinSet as set
use Rattle.pp_algebra.specs.Rows.{Domain}
use Rattle.pp_sld.specs.BuiltIns as builtins
use Rattle.pp_sld.specs.Goals as goals
use Rattle.pp_sld.specs.Verdicts as verdicts
use Rattle.pp_domain.specs.Sets.{set_of}
use Rattle.pp_term.specs.declared.pred.Pred.{Pred}
use Rattle.pp_term.specs.declared.pred.Shape.{Shape}
use Rattle.pp_term.specs.declared.pred.Shape.TheVariants.{User, Plus, Times, Indomain}
use Rattle.pp_term.specs.declared.pred.Relation.{Relation}
use Rattle.pp_term.specs.declared.pred.Relation.TheVariants.{Less, AtMost, Equal, Differ}
use Rattle.pp_term.specs.declared.pred.Mode.{Mode}
use Rattle.pp_term.specs.declared.pred.Mode.TheVariants.{Most, Unique, Consistent}
use Rattle.pp_term.specs.declared.clause.Goal.{Goal}
use Rattle.pp_term.specs.declared.clause.Goal.TheVariants.{Call, Equate, Member, Compare}
use Rattle.pp_term.specs.declared.clause.Clause.{Clause}
use Rattle.pp_row.specs.Columns.{trees_of}

abbrev pub predicate_of : Pred → goals.Predicate
predicate_of p = record { name = p.name; arity = p.arity }

abbrev pub shape_of : Shape → goals.Shape
shape_of (User p) = goals.user (predicate_of p)
shape_of Plus = goals.test builtins.plus
shape_of Times = goals.test builtins.times
shape_of Indomain = goals.test builtins.indomain

abbrev pub test_of : Relation → builtins.Test
test_of Less = builtins.less
test_of AtMost = builtins.at_most
test_of Equal = builtins.equal
test_of Differ = builtins.differ

-- no domain is the empty set
abbrev pub members_by : Option (List (ℤ × ℤ)) → Domain
members_by None = set.empty
members_by (Some ps) = set_of ps

abbrev pub goal_of : Goal → goals.Goal ℕ
goal_of (Call s ts) = record { shape = shape_of s; arguments = trees_of ts }
goal_of (Equate a b) = record { shape = goals.equals; arguments = trees_of (a ∷ b ∷ []) }
goal_of (Member t d) = record { shape = goals.member (members_by d); arguments = trees_of (t ∷ []) }
goal_of (Compare r a b) = record { shape = goals.test (test_of r); arguments = trees_of (a ∷ b ∷ []) }

-- the predicate of a clause, and the clause
abbrev pub clause_of : Clause → goals.Predicate × goals.Clause
clause_of c = (predicate_of c.pred, record { head = trees_of c.head; body = map goal_of c.body })

-- the clauses in order as a program
abbrev pub program : List Clause → goals.Program
program cs = goals.program_of (map clause_of cs)

abbrev pub mode_of : Mode → verdicts.Mode
mode_of Most = verdicts.most
mode_of Unique = verdicts.unique
mode_of Consistent = verdicts.consistent
