-- What the code makes of the parts of a sentence: goals and items.
use Rattle.std.specs.Prelude.{ℕ, ◌<◌, cond, ◌&&◌, nat_eq, List, length, codes}
use Rattle.pp_algebra.specs.Terms.{Tree, none, more}
use Rattle.pp_algebra.specs.Least.{arguments}
use Rattle.pp_algebra.specs.Solve.{equation, membership}
use Rattle.pp_sld.specs.BuiltIns.{plus, times, indomain}
use Rattle.pp_sld.specs.Goals.{Predicate, Shape, user, equals, member, test, Goal}
use Rattle.pp_sld.specs.Verdicts.{most}
use Rattle.pp_language.specs.Texts.{Text}
use Rattle.pp_algebra.specs.Texts.{same_text}
use Rattle.pp_language.specs.Printing.{name_at}
use Rattle.pp_language.specs.Programs.{QueryItem, solves, infers}
use Rattle.pp_term.specs.Meanings.{members_by, test_of, mode_of}
use Rattle.pp_parse.specs.declared.parts.Part.{Part}
use Rattle.pp_parse.specs.declared.items.Entry.{Entry}
use Rattle.pp_parse.specs.declared.items.Entry.TheVariants.{Call, Equate, Member, Compare, Infer}
use Rattle.pp_build.specs.Pieces.{tree_at, HasTermAt, IsAtom, predicate_of_tree}

-- a built-in by its name and number of arguments, or a predicate
abbrev pub shape_by : List Text → Predicate → Shape
shape_by names p =
    let name = name_at names p.name in
    cond (same_text name (codes "plus") && nat_eq p.arity 3) (test plus)
    (cond (same_text name (codes "times") && nat_eq p.arity 3) (test times)
    (cond (same_text name (codes "indomain") && nat_eq p.arity 1) (test indomain) (user p)))

abbrev pub goal_of_tree : List Text → Tree ℕ → Goal ℕ
goal_of_tree names t = record { shape = shape_by names (predicate_of_tree t); arguments = arguments t }

abbrev pub goal_from : List Text → List Part → Entry → Goal ℕ
goal_from names ps (Call a) = goal_of_tree names (tree_at ps a)
goal_from names ps (Equate a b) = record { shape = equals; arguments = more (tree_at ps a) (more (tree_at ps b) none) }
goal_from names ps (Member a d) = record { shape = member (members_by d); arguments = more (tree_at ps a) none }
goal_from names ps (Compare r a b) = record { shape = test (test_of r); arguments = more (tree_at ps a) (more (tree_at ps b) none) }
goal_from names ps (Infer a m) = goal_of_tree names (tree_at ps a)

abbrev pub item_from : List Text → List Part → Entry → QueryItem
item_from names ps (Call a) = infers (goal_of_tree names (tree_at ps a)) most
item_from names ps (Equate a b) = solves (equation (tree_at ps a) (tree_at ps b))
item_from names ps (Member a d) = solves (membership (tree_at ps a) (members_by d))
item_from names ps (Compare r a b) = solves (equation (tree_at ps a) (tree_at ps b))
item_from names ps (Infer a m) = infers (goal_of_tree names (tree_at ps a)) (mode_of m)

-- ===== where this can be made

-- an atom of these names stands there, with or without arguments
pub record HasCallableAt (names : List Text) (ps : List Part) (i : ℕ) : Type 0 where
  pub term : HasTermAt ps i
  pub atom : IsAtom (tree_at ps i)
  pub name : (predicate_of_tree (tree_at ps i)).name < length names

abbrev pub IsGoalEntry : List Text → List Part → Entry → Type 0
IsGoalEntry names ps (Call a) = HasCallableAt names ps a
IsGoalEntry names ps (Equate a b) = HasTermAt ps a × HasTermAt ps b
IsGoalEntry names ps (Member a d) = HasTermAt ps a
IsGoalEntry names ps (Compare r a b) = HasTermAt ps a × HasTermAt ps b
IsGoalEntry names ps (Infer a m) = ⊥

abbrev pub IsItemEntry : List Text → List Part → Entry → Type 0
IsItemEntry names ps (Call a) = ⊥
IsItemEntry names ps (Equate a b) = HasTermAt ps a × HasTermAt ps b
IsItemEntry names ps (Member a d) = HasTermAt ps a
IsItemEntry names ps (Compare r a b) = ⊥
IsItemEntry names ps (Infer a m) = HasCallableAt names ps a
