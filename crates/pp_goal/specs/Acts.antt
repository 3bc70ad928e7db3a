-- What an act on a goal stands for: the act of the definition, and the items that it solves.
use Rattle.std.specs.Prelude.{◌≡◌, ℕ, ◌<◌, List, [], map, Option, Some, None, option_copied}
use Rattle.pp_algebra.specs.Members.{IsInteger}
use Rattle.pp_algebra.specs.Terms.{Trees}
use Rattle.pp_algebra.specs.Rows.{Row}
use Rattle.pp_algebra.specs.Solve.{Item}
use Rattle.pp_sld.specs.BuiltIns as built_ins
use Rattle.pp_sld.specs.Selection as sld
use Rattle.pp_sld.specs.Selection.{both_sides, first_in, at_place}
use Rattle.pp_term.specs.declared.pred.Pred.{Pred}
use Rattle.pp_term.specs.declared.clause.Clause.{Clause}
use Rattle.pp_term.specs.Meanings.{predicate_of, members_by}
use Rattle.pp_tests.specs.declared.built_in.Decision.{Decision}
use Rattle.pp_tests.specs.declared.built_in.Decision.TheVariants as decisions
use Rattle.pp_unify.specs.Laws.{item_in}
use Rattle.pp_clause.specs.declared.goal_at.Kind.{Kind}
use Rattle.pp_clause.specs.declared.goal_at.Kind.TheVariants as kinds
use Rattle.pp_clause.specs.Predicates.{Names}
use Rattle.pp_goal.specs.declared.acts.Act.{Act}
use Rattle.pp_goal.specs.declared.acts.Act.TheVariants.{Wait, Fail, Hold, Equate, Narrow, Bind, Split, Call}

abbrev pub narrowed : Kind → Trees ℕ → List (Item ℕ)
narrowed (kinds.User n) ts = []
narrowed kinds.Equate ts = []
narrowed (kinds.Member d) ts = first_in (members_by (option_copied d)) ts
narrowed (kinds.Test t) ts = []

-- what the act solves, of a goal of this kind with these arguments
abbrev pub items : Kind → Trees ℕ → Act → List (Item ℕ)
items k ts Wait = []
items k ts Fail = []
items k ts Hold = []
items k ts Equate = both_sides ts
items k ts Narrow = narrowed k ts
items k ts (Bind i n) = at_place i n ts
items k ts Split = []
items k ts (Call n) = []

-- the act of the definition solves these items, with all bindings in place
abbrev pub Solves : Row → List (Item ℕ) → Option sld.Act → Type 0
Solves r js o = o ≡ Some (sld.solves (map (item_in r) js))

-- the act is this one of the definition, for a goal of this kind with these arguments under these bindings
abbrev pub IsAct : List Clause → Kind → Row → Trees ℕ → Act → Option sld.Act → Type 0
IsAct cs k r ts Wait o = o ≡ None
IsAct cs k r ts Fail o = o ≡ Some sld.never
IsAct cs k r ts Hold o = Solves r (items k ts Hold) o
IsAct cs k r ts Equate o = Solves r (items k ts Equate) o
IsAct cs k r ts Narrow o = Solves r (items k ts Narrow) o
IsAct cs k r ts (Bind i n) o = Solves r (items k ts (Bind i n)) o
IsAct cs k r ts Split o = o ≡ Some sld.splits
IsAct cs k r ts (Call n) o = (p : Pred) × Names cs n p × (o ≡ Some (sld.calls (predicate_of p)))

-- a decision about so many arguments can be carried out
abbrev pub IsMade : ℕ → built_ins.Decision → Type 0
IsMade k built_ins.wait = Unit {0}
IsMade k built_ins.fail = Unit {0}
IsMade k built_ins.hold = Unit {0}
IsMade k built_ins.split = k ≡ 1
IsMade k (built_ins.bind i n) = (i < k) × IsInteger n

-- the act can be performed on a goal with so many arguments
abbrev pub IsReady : ℕ → Act → Type 0
IsReady k Wait = Unit {0}
IsReady k Fail = Unit {0}
IsReady k Hold = Unit {0}
IsReady k Equate = k ≡ 2
IsReady k Narrow = k ≡ 1
IsReady k (Bind i n) = (i < k) × IsInteger n
IsReady k Split = k ≡ 1
IsReady k (Call n) = Unit {0}

-- the act by which a decision is carried out
abbrev pub acted : Decision → Act
acted decisions.Wait = Wait
acted decisions.Fail = Fail
acted decisions.Hold = Hold
acted (decisions.Bind i n) = Bind i n
acted decisions.Split = Split
