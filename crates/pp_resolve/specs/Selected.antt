-- The selected goal, where it stands among those that are suspended and those that are left.
use Rattle.std.specs.Prelude.{◌≡◌, ℕ, ◌<◌, List, ◌∷◌, ◌++◌, length}
use Rattle.pp_sld.specs.Goals.{Goal, put_goal}
use Rattle.pp_clause.specs.declared.first.First.{First}
use Rattle.pp_clause.specs.Firsts.{first_of}
use Rattle.pp_goal.specs.declared.acts.Act.{Act}
use Rattle.pp_goal.specs.declared.acts.Act.TheVariants.{Wait}
use Rattle.pp_resolve.specs.declared.history.Rest.{Rest}
use Rattle.pp_resolve.specs.declared.engine.Engine.{Engine}
use Rattle.pp_resolve.specs.Standing.{counted}
use Rattle.pp_resolve.specs.Kept.{kept_of}
use Rattle.pp_resolve.specs.Links.{goals_of, IsRest}
use Rattle.pp_resolve.specs.Acts.{placed}
use Rattle.pp_resolve.specs.Engines.{goal_of, row_of, DoWait, IsGoalAt, Looks}

abbrev pub all_goals : Engine → List (Goal ℕ)
all_goals e = goals_of e.clauses.now (goal_of e) (kept_of e.history) e.front

abbrev pub AllGoalsWait : Engine → Type 0
AllGoalsWait e = DoWait (row_of e) (all_goals e)

-- the goals before it wait
abbrev pub StandsAfter : Engine → Goal ℕ → Type 0
StandsAfter e g = (before : List (Goal ℕ)) × (after : List (Goal ℕ)) × (all_goals e ≡ before ++ g ∷ after)
    × DoWait (row_of e) before

pub record IsSelectedAt (e : Engine) (l : Rest) (a : Act) : Type 0 where
  pub rest : IsRest e.clauses.now (goal_of e) (length e.history.links.items) l
  pub some : l.from < l.to
  pub looks : Looks e l a
  pub ready : a ≡ Wait → ⊥
  pub stands : (g : Goal ℕ) → IsGoalAt e l g → StandsAfter e (put_goal (counted l.first) g)

-- the top of the goal's first argument
abbrev pub IsFirstOf : Engine → Rest → First → Type 0
IsFirstOf e l first = (g : Goal ℕ) → IsGoalAt e l g
    → first ≡ first_of (placed (row_of e) (put_goal (counted l.first) g)).arguments

abbrev pub IsSelected : Engine → Rest × Act → Type 0
IsSelected e p = IsSelectedAt e p.0 p.1
