-- The trace of a search tree: what a walk from left to right meets, its leaves, and what it counts.
use Rattle.std.specs.Prelude.{ℕ, suc, Bool, List, [], ◌∷◌, ◌++◌, cond}
use Rattle.pp_sld.specs.Goals.{Config}
use Rattle.pp_sld.specs.Trees.{Search, answer, loose, refused, passed, choice, Searches, no_more, child, failed}

-- the end of a branch that has a row: an answer or a loose end
pub data Leaf : Type 0 where
  answers_with loose_with : Config → Leaf

-- what a walk from left to right meets: a reduction, or a leaf
pub data Mark : Type 0 where
  tried : Mark
  ends : Leaf → Mark

abbrev mutual
  pub trace : Search → List Mark
  trace (answer c) = ends (answers_with c) ∷ []
  trace (loose c) = ends (loose_with c) ∷ []
  trace refused = tried ∷ []
  trace (passed t) = tried ∷ trace t
  trace (choice ts) = trace_all ts

  pub trace_all : Searches → List Mark
  trace_all no_more = []
  trace_all (child t ts) = tried ∷ (trace t ++ trace_all ts)
  trace_all (failed ts) = tried ∷ trace_all ts

-- the leaves among what was met, and the number of reductions
abbrev pub met : List Mark → List Leaf
met [] = []
met (tried ∷ ms) = met ms
met (ends l ∷ ms) = l ∷ met ms

abbrev pub reductions : List Mark → ℕ
reductions [] = 0
reductions (tried ∷ ms) = suc (reductions ms)
reductions (ends l ∷ ms) = reductions ms

-- the leaves of a tree, and of several, from left to right
abbrev pub leaves : Search → List Leaf
leaves t = met (trace t)

abbrev pub leaves_all : Searches → List Leaf
leaves_all ts = met (trace_all ts)

-- the answers and the loose ends among them
abbrev pub answers : List Leaf → List Config
answers [] = []
answers (answers_with c ∷ ls) = c ∷ answers ls
answers (loose_with c ∷ ls) = answers ls

abbrev pub loose_ends : List Leaf → List Config
loose_ends [] = []
loose_ends (answers_with c ∷ ls) = loose_ends ls
loose_ends (loose_with c ∷ ls) = c ∷ loose_ends ls

-- what has been met when the walk stops: at the first leaf at which it is settled, or after all
abbrev pub until : (List Mark → Bool) → List Mark → List Mark → List Mark
until settled seen [] = seen
until settled seen (tried ∷ ms) = until settled (seen ++ tried ∷ []) ms
until settled seen (ends l ∷ ms) = cond (settled (seen ++ ends l ∷ [])) (seen ++ ends l ∷ []) (until settled (seen ++ ends l ∷ []) ms)
