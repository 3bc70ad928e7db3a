-- What is known of a goal's first argument, by its first cell.
use Rattle.std.proofs.Common.{◌≡◌, ℕ, ◌<◌, pos, [], length, Option, refl, ap, sym, ◌∙◌}
use Rattle.pp_row.specs.declared.cell.Cell.{Cell}
use Rattle.pp_row.specs.declared.cell.Cell.TheVariants as cells
use Rattle.pp_row.specs.Reading.{IsForest, forest}
use Rattle.pp_row.proofs.Next.{next}
use Rattle.pp_algebra.specs.Terms.{Tree, int, node, variable, none, more, put_all}
use Rattle.pp_algebra.specs.Numbered.{counted_from}
use Rattle.pp_algebra.specs.Rows.{Row}
use Rattle.pp_heap.specs.Values.{term_at}
use Rattle.pp_clause.specs.declared.first.First.TheVariants.{Free}
use Rattle.pp_clause.specs.Firsts.{top, first_of}
use Rattle.pp_clause.specs.declared.goal_at.GoalAt.{GoalAt}
use Rattle.pp_unify.specs.States.{value_in, in_place, first_cell}
use Rattle.pp_unify.specs.Forests.{counted_all}
use Rattle.pp_goal.specs.Apart.{top_by}
use Rattle.pp_goal.specs.Arguments.{terms_in}

pub top_is : (t : Tree ℕ) → top t ≡ top_by (first_cell t)
top_is (int n) = refl
top_is (node f none) = refl
top_is (node f (more t ts)) = refl
top_is (variable v) = refl

-- the goal has a first argument
pub first_is : (r : Row) (g : GoalAt) (n : ℕ) (c : Option Cell) → IsForest g.arguments.now → 0 < length g.arguments.now
    → c ≡ first_cell (in_place r (counted_from n (term_at g.arguments.now 0))) → top_by c ≡ first_of (terms_in r g n)
first_is r g n c f l e =
    let some = (next g.arguments.now 0 (cells.Int (pos 0)) f l).some in
    ap top_by e
    ∙ sym (top_is (in_place r (counted_from n (term_at g.arguments.now 0))))
    ∙ sym (ap (λ ts. first_of (put_all (value_in r) (counted_all n ts))) some)

pub first_none : (r : Row) (g : GoalAt) (n : ℕ) → g.arguments.now ≡ [] → Free ≡ first_of (terms_in r g n)
first_none r g n e = sym (ap (λ cs. first_of (put_all (value_in r) (counted_all n (forest cs)))) e)
