-- What a step comes to, in the words of the walk.
use Rattle.std.specs.Prelude.{◌≡◌, ℕ, ◌≤◌, List, ◌++◌, Bool, true, false, cond, nat_eq, length, reverse, Option}
use Rattle.pp_algebra.specs.Rows.{Row}
use Rattle.pp_sld.specs.Goals.{Goal, Config, put_goal}
use Rattle.pp_sld.specs.Reach.{Chosen}
use Rattle.pp_sld.specs.Ways.{Next, next}
use Rattle.pp_term.specs.Meanings.{program}
use Rattle.pp_goal.specs.declared.acts.Act.{Act}
use Rattle.pp_goal.specs.declared.acts.Act.TheVariants.{Wait, Fail, Hold, Equate, Narrow, Bind, Split, Call}
use Rattle.pp_walk.specs.declared.event.Event.{Event}
use Rattle.pp_walk.specs.declared.event.Event.TheVariants.{Failed, Choice}
use Rattle.pp_resolve.specs.declared.engine.Engine.{Engine}
use Rattle.pp_walk.specs.Moves.{IsDeadAt}
use Rattle.pp_resolve.specs.declared.history.Rest.{Rest}
use Rattle.pp_resolve.specs.declared.history.Selected.{Selected}
use Rattle.pp_resolve.specs.Links.{before, after, after_first, below, goals_in}
use Rattle.pp_unify.specs.Forests.{AreDecided}
use Rattle.pp_resolve.specs.Standing.{counted, config_in}
use Rattle.pp_resolve.specs.Kept.{kept_of}
use Rattle.pp_resolve.specs.Acts.{items_by}
use Rattle.pp_resolve.specs.Engines.{goal_of, row_of, place_of, BeginsAt, IsGoalAt}

abbrev pub alternatives_of : ℕ → Event
alternatives_of n = cond (nat_eq n 0) Failed (Choice n)

-- what follows the configuration here
abbrev pub follows : Engine → Next
follows e = next (program e.clauses.now) (place_of e).here

-- it solves items
abbrev pub IsSolving : Act → Type 0
IsSolving Wait = ⊥
IsSolving Fail = ⊥
IsSolving Hold = Unit {0}
IsSolving Equate = Unit {0}
IsSolving Narrow = Unit {0}
IsSolving (Bind i n) = Unit {0}
IsSolving Split = ⊥
IsSolving (Call n) = ⊥

-- the link stands for the goals after the first that is left
abbrev pub IsNext : Engine → ℕ → Type 0
IsNext e n = (below e.clauses.now (goal_of e) (reverse e.history.links.items) n
    ≡ goals_in e.clauses.now (goal_of e) e.history.links.items (after_first e.front.rest))
    × (n ≤ length e.history.links.items)

-- the alternative at this place leads there, or it fails and the engine stands where it stood
abbrev pub Took : Engine → ℕ → Bool → Engine → Type 0
Took old k true new = Chosen (program old.clauses.now) (place_of old).here k (place_of new).here
Took old k false new = IsDeadAt (program old.clauses.now) (place_of old).here k × (place_of new ≡ place_of old)

abbrev pub selected_as : Option ℕ → Act → Selected
selected_as at a = record { at = at; act = a }

-- the goals before and behind the one at this place
abbrev pub others : Engine → Option ℕ → List (Goal ℕ)
others e at = before e.clauses.now (goal_of e) (kept_of e.history) at
    ++ after e.clauses.now (goal_of e) (kept_of e.history) e.front at

-- the configuration without the goal at this place, over a row
abbrev pub without : Engine → Option ℕ → Row → Config
without e at r = config_in r (others e at) e.columns.columns e.front.depth

-- what the act solves was solved for the goal at this place, and the goal is done; or it has no solution
abbrev pub Solved : Engine → Option ℕ → Act → Bool → Engine → Type 0
Solved old at a true new = ((l : Rest) (g : Goal ℕ) → BeginsAt old at l → IsGoalAt old l g
    → AreDecided (row_of old) (items_by g.shape (put_goal (counted l.first) g).arguments a) true (row_of new))
    × ((place_of new).here ≡ without old at (row_of new))
Solved old at a false new = ((l : Rest) (g : Goal ℕ) → BeginsAt old at l → IsGoalAt old l g
    → (q : Row) × AreDecided (row_of old) (items_by g.shape (put_goal (counted l.first) g).arguments a) false q)
    × (place_of new ≡ place_of old)
