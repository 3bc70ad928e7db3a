-- Terms over the row of the bindings.
use Rattle.std.proofs.Common.{◌≡◌, ℕ, List, [], ◌∷◌, ◌++◌, All, sym, subst}
use Rattle.std.proofs.lemmas.List.Elements.{All-nil, All-cons}
use Rattle.pp_algebra.specs.Terms.{Tree, Trees, variables, variables_all}
use Rattle.pp_algebra.specs.Rows.{Row}
use Rattle.pp_algebra.proofs.Order.{IsIn-left, IsIn-right}
use Rattle.pp_sld.specs.Goals.{Goal, with_goals}
use Rattle.pp_row.specs.Columns.{trees_of}
use Rattle.pp_moves.proofs.Places.{in_columns, in_goals, in_after, in_first}
use Rattle.pp_unify.specs.States.{IsOver}
use Rattle.pp_unify.specs.Forests.{AreOver}

terms_over : (r : Row) (ts : List (Tree ℕ)) → AreOver r (trees_of ts) → All (IsOver r) ts
terms_over r [] o = All-nil (IsOver r)
terms_over r (t ∷ ts) o = All-cons (IsOver r) t ts (λ v i. o v (IsIn-left v (variables t) (variables_all (trees_of ts)) i)) (terms_over r ts (λ v i. o v (IsIn-right v (variables t) (variables_all (trees_of ts)) i)))

-- the call's columns
pub columns_over : (r : Row) (gs : List (Goal ℕ)) (calls : Trees ℕ) (ts : List (Tree ℕ)) → trees_of ts ≡ calls → AreOver r (with_goals gs calls) → All (IsOver r) ts
columns_over r gs calls ts e o = terms_over r ts (subst (AreOver r) (sym e) (λ v i. o v (in_columns gs calls v i)))

-- a goal between others
pub goal_over : (r : Row) (before : List (Goal ℕ)) (g : Goal ℕ) (after : List (Goal ℕ)) (calls : Trees ℕ) → AreOver r (with_goals (before ++ g ∷ after) calls) → AreOver r g.arguments
goal_over r before g after calls o v i = o v (in_goals (before ++ g ∷ after) calls v (in_after before (g ∷ after) v (in_first g after v i)))

pub among : (r : Row) (gs before : List (Goal ℕ)) (g : Goal ℕ) (after : List (Goal ℕ)) (calls : Trees ℕ) → gs ≡ before ++ g ∷ after → AreOver r (with_goals gs calls) → AreOver r g.arguments
among r gs before g after calls e o = goal_over r before g after calls (subst (λ xs. AreOver r (with_goals xs calls)) e o)
