-- The search of one goal: its root, and the rows of its answers and loose ends.
use Rattle.std.specs.Prelude.{◌≡◌, ℕ, zero, suc, nat_eq, List, [], ◌∷◌, map, length}
use Rattle.pp_algebra.specs.Rows.{Row, domain_at}
use Rattle.pp_algebra.specs.Numbered.{variables_from}
use Rattle.pp_algebra.specs.Canon.{canon}
use Rattle.pp_sld.specs.Goals.{Shape, Program, Config}
use Rattle.pp_sld.specs.Trees.{Search, IsSearch}
use Rattle.pp_sld.specs.Trace.{Leaf, answers_with, loose_with, leaves, answers, loose_ends}

-- one goal under its face: nothing is done yet, and the columns are the call's
abbrev pub root : Shape → Row → ℕ → Config
root shape face depth = record {
  goals = record { shape = shape; arguments = face.columns } ∷ [];
  columns = variables_from 0 (length face.domains);
  domains = face.domains;
  depth = depth;
}

-- the row that a branch has come to
unfoldable pub leaf_row : Config → Row
leaf_row c = canon nat_eq (record { columns = c.columns; domains = domain_at c.domains })

-- the rows of leaves: of each, of the answers among them, and of the loose ends
abbrev pub row_at : Leaf → Row
row_at (answers_with c) = leaf_row c
row_at (loose_with c) = leaf_row c

abbrev pub answer_rows : List Leaf → List Row
answer_rows ls = map leaf_row (answers ls)

abbrev pub loose_rows : List Leaf → List Row
loose_rows ls = map leaf_row (loose_ends ls)

-- the rows of the answers and of the loose ends of a configuration, from left to right, with nothing cut short
pub record HasLeaves (clauses : Program) (c : Config) (A C : List Row) : Type 0 where
  pub tree : Search
  pub is_tree : IsSearch clauses c tree
  pub answers : answer_rows (leaves tree) ≡ A
  pub loose_ends : loose_rows (leaves tree) ≡ C
