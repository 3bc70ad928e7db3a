-- What is done with the selected goal, and what it comes to on the bindings.
use Rattle.std.specs.Prelude.{◌≡◌, ℕ, ℤ, Bool, List, [], map, All, Option, Some, None}
use Rattle.std.specs.List.{slice_get}
use Rattle.pp_algebra.specs.Terms.{Trees}
use Rattle.pp_algebra.specs.Rows.{Row}
use Rattle.pp_algebra.specs.Solve.{Item}
use Rattle.pp_sld.specs.Goals.{Shape, user, equals, member, test, Goal, put_goal}
use Rattle.pp_sld.specs.Selection as selection
use Rattle.pp_sld.specs.Selection.{calls, solves, never, splits, both_sides, first_in, at_place, act}
use Rattle.pp_sld.specs.Ways.{values_of}
use Rattle.pp_term.specs.declared.pred.Pred.{Pred}
use Rattle.pp_term.specs.declared.clause.Clause.{Clause}
use Rattle.pp_term.specs.Meanings.{predicate_of}
use Rattle.pp_clause.specs.Predicates.{Names}
use Rattle.pp_unify.specs.States.{value_in}
use Rattle.pp_unify.specs.Laws.{item_in, IsItemOver}
use Rattle.pp_unify.specs.Forests.{AreDecided}
use Rattle.pp_goal.specs.declared.acts.Act.{Act}
use Rattle.pp_goal.specs.declared.acts.Act.TheVariants.{Wait, Fail, Hold, Equate, Narrow, Bind, Split, Call}

-- the goal with all bindings in place
abbrev pub placed : Row → Goal ℕ → Goal ℕ
placed r g = put_goal (value_in r) g

-- what the definitions do with it
abbrev pub does : Row → Goal ℕ → Option selection.Act
does r g = act r.domains (placed r g)

abbrev pub narrowed_by : Shape → Trees ℕ → List (Item ℕ)
narrowed_by (user p) ts = []
narrowed_by equals ts = []
narrowed_by (member d) ts = first_in d ts
narrowed_by (test t) ts = []

-- what the act solves, of a goal that asks this
abbrev pub items_by : Shape → Trees ℕ → Act → List (Item ℕ)
items_by s ts Wait = []
items_by s ts Fail = []
items_by s ts Hold = []
items_by s ts Equate = both_sides ts
items_by s ts Narrow = narrowed_by s ts
items_by s ts (Bind i n) = at_place i n ts
items_by s ts Split = []
items_by s ts (Call n) = []

abbrev pub Solves : Row → Goal ℕ → Act → Type 0
Solves r g a = does r g ≡ Some (solves (map (item_in r) (items_by g.shape g.arguments a)))

-- the act is that of the definitions
abbrev pub ActsAs : List Clause → Row → Goal ℕ → Act → Type 0
ActsAs cs r g Wait = does r g ≡ None
ActsAs cs r g Fail = does r g ≡ Some never
ActsAs cs r g Hold = Solves r g Hold
ActsAs cs r g Equate = Solves r g Equate
ActsAs cs r g Narrow = Solves r g Narrow
ActsAs cs r g (Bind i n) = Solves r g (Bind i n)
ActsAs cs r g Split = does r g ≡ Some splits
ActsAs cs r g (Call n) = (p : Pred) × Names cs n p × (does r g ≡ Some (calls (predicate_of p)))

-- items of the goal, over the variables of the bindings, were solved, or they have no solution
abbrev pub Performed : Row → Goal ℕ → Bool → Row → Type 0
Performed r g b q = (js : List (Item ℕ)) × (does r g ≡ Some (solves (map (item_in r) js))) × All (IsItemOver r) js
    × AreDecided r js b q

-- the values of a split
abbrev pub values : Row → Goal ℕ → List ℤ
values r g = values_of r.domains (placed r g).arguments

-- the first argument was made equal to the value at this place, or it can't be
abbrev pub TookValue : Row → Goal ℕ → ℕ → Bool → Row → Type 0
TookValue r g place b q = (n : ℤ) × (slice_get (values r g) place ≡ Some n)
    × AreDecided r (at_place 0 n g.arguments) b q
