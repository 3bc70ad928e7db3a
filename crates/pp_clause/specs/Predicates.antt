-- The predicates of a program by number.
use Rattle.std.specs.Prelude.{◌≡◌, ℕ, Bool, List, [], ◌∷◌}
use Rattle.std.specs.List.{flat_map}
use Rattle.pp_algebra.specs.Canon.{firsts, place}
use Rattle.pp_sld.specs.Goals.{same_predicate}
use Rattle.pp_term.specs.declared.pred.Pred.{Pred}
use Rattle.pp_term.specs.declared.pred.Shape.TheVariants.{User, Plus, Times, Indomain}
use Rattle.pp_term.specs.declared.clause.Goal.{Goal}
use Rattle.pp_term.specs.declared.clause.Goal.TheVariants.{Call, Equate, Member, Compare}
use Rattle.pp_term.specs.declared.clause.Clause.{Clause}
use Rattle.pp_term.specs.Meanings.{predicate_of}

abbrev pub same_pred : Pred → Pred → Bool
same_pred p q = same_predicate (predicate_of p) (predicate_of q)

-- the predicate that a goal calls; a built-in has none
abbrev pub called : Goal → List Pred
called (Call (User p) ts) = p ∷ []
called (Call Plus ts) = []
called (Call Times ts) = []
called (Call Indomain ts) = []
called (Equate a b) = []
called (Member t d) = []
called (Compare r a b) = []

-- that of the head, and those of the body's goals
abbrev pub mentioned : Clause → List Pred
mentioned c = c.pred ∷ flat_map called c.body

-- each predicate once, in order of first mention
abbrev pub predicates : List Clause → List Pred
predicates cs = firsts same_pred [] (flat_map mentioned cs)

-- n is the number of p: its place among the predicates, or their count where it isn't among them
abbrev pub Names : List Clause → ℕ → Pred → Type 0
Names cs n p = place same_pred (predicates cs) p ≡ n
