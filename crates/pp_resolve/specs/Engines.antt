-- What an engine stands for: the configuration here, and those that it can go back to, the last one first.
use Rattle.std.specs.Prelude.{◌≡◌, ℕ, suc, ◌<◌, ◌≤◌, true, false, List, [], ◌++◌, length, map, take, reverse, All, Option, Some, None}
use Rattle.std.specs.List.{slice_get}
use Rattle.pp_algebra.specs.Terms.{Trees, count, variables_all}
use Rattle.pp_algebra.specs.Covers.{IsIn}
use Rattle.pp_algebra.specs.Rows.{Row, IsRow}
use Rattle.pp_sld.specs.Goals.{Goal, Config, Predicate, user, put_goal, with_goals}
use Rattle.pp_term.specs.declared.clause.Clause.{Clause}
use Rattle.pp_unify.specs.States.{present}
use Rattle.pp_unify.specs.Forests.{AreOver}
use Rattle.pp_walk.specs.Places.{Place}
use Rattle.pp_resolve.specs.declared.engine.Engine.{Engine}
use Rattle.pp_resolve.specs.declared.history.Rest.{Rest}
use Rattle.pp_resolve.specs.declared.history.Front.{Front}
use Rattle.pp_resolve.specs.declared.history.Waits.{Waits}
use Rattle.pp_resolve.specs.declared.history.Selected.{Selected}
use Rattle.pp_resolve.specs.declared.suspended.Suspension.{Suspension}
use Rattle.pp_goal.specs.declared.acts.Act.{Act}
use Rattle.pp_goal.specs.declared.acts.Act.TheVariants.{Wait}
use Rattle.pp_resolve.specs.Standing.{counted, config_in}
use Rattle.pp_resolve.specs.Suspensions.{is_among}
use Rattle.pp_resolve.specs.Kept.{Kept, kept_of}
use Rattle.pp_resolve.specs.Frames.{Frame, frames_of, frame_of, IsFit}
use Rattle.pp_resolve.specs.Links.{goals_of, goals_in, below, first_of, open_from, body_of, IsRest, AreLinks}
use Rattle.pp_resolve.specs.Shown.{root_of, IsRoot}
use Rattle.pp_goal.specs.Acts.{IsReady}
use Rattle.pp_resolve.specs.Acts.{does, ActsAs}

abbrev pub DoWait : Row → List (Goal ℕ) → Type 0
DoWait r gs = All (λ g. does r g ≡ None) gs

-- a goal stands at this place: a suspended one, or the first that is left
abbrev pub IsPlace : Kept → Front → Option ℕ → Type 0
IsPlace k f None = f.rest.from < f.rest.to
IsPlace k f (Some i) = (i < length k.suspended) × (is_among i k.done ≡ false)

-- these goals begin with it
abbrev pub IsRestAt : Kept → Front → Option ℕ → Rest → Type 0
IsRestAt k f None l = l ≡ f.rest
IsRestAt k f (Some i) l = (s : Suspension) × (slice_get k.suspended i ≡ Some s) × (l ≡ s.rest)

-- how many suspended goals stand before it
abbrev pub bound : Kept → Option ℕ → ℕ
bound k None = length k.suspended
bound k (Some i) = i

module _ (cs : List Clause) (root : Goal ℕ) where
  -- what is done with the goal at a place of a body
  abbrev pub LooksAt : Row → Rest → Act → Type 0
  LooksAt r l a = (g : Goal ℕ) → slice_get (body_of cs root l.body) l.from ≡ Some g
      → ActsAs cs r (put_goal (counted l.first) g) a × IsReady (count g.arguments) a

  -- a goal that may wait: it is no call
  pub record IsSuspension (s : Suspension) : Type 0 where
    pub rest : IsRest cs root 0 s.rest
    pub some : s.rest.from < s.rest.to
    pub waits : (g : Goal ℕ) → slice_get (body_of cs root s.rest.body) s.rest.from ≡ Some g → (p : Predicate)
        → g.shape ≡ user p → ⊥

  -- the variables of the first goal are below the number
  abbrev pub AreBelow : ℕ → Rest → Type 0
  AreBelow k l = All (λ g. (v : ℕ) → IsIn v (variables_all g.arguments) → v < k) (first_of cs root l)

  -- what is suspended over a row
  pub record AreSuspended (r : Row) (ss : List Suspension) (ds : List ℕ) : Type 0 where
    pub goals : (j : ℕ) (s : Suspension) → slice_get ss j ≡ Some s → IsSuspension s
    pub below : (i j : ℕ) (s t : Suspension) → slice_get ss i ≡ Some s → slice_get ss j ≡ Some t → i ≤ j
        → AreBelow t.below s.rest
    pub sized : (j : ℕ) (s : Suspension) → slice_get ss j ≡ Some s → s.below ≤ count r.columns
    pub done : (i : ℕ) → is_among i ds ≡ true → i < length ss

  -- the suspended goals before this place that are not done wait
  abbrev pub WaitUpTo : Row → List Suspension → List ℕ → ℕ → Type 0
  WaitUpTo r ss ds n = (j : ℕ) (s : Suspension) → slice_get ss j ≡ Some s → j < n → is_among j ds ≡ false
      → DoWait r (first_of cs root s.rest)

  -- they waited in a state that is kept
  pub record DidWait (k : Kept) (w : Waits) : Type 0 where
    pub there : w.since < length k.states
    pub upto : w.upto ≤ length k.suspended
    pub below : (j : ℕ) (s : Suspension) → slice_get k.suspended j ≡ Some s → j < w.upto
        → s.below ≤ count (present (take (suc w.since) k.states)).columns
    pub goals : WaitUpTo (present (take (suc w.since) k.states)) k.suspended k.done w.upto

  -- the selected goal, and what is done with it
  pub record IsMetIn (r : Row) (k : Kept) (f : Front) (s : Selected) : Type 0 where
    pub there : IsPlace k f s.at
    pub looks : (l : Rest) → IsRestAt k f s.at l → LooksAt r l s.act
    pub ready : s.act ≡ Wait → ⊥
    pub wait : WaitUpTo r k.suspended k.done (bound k s.at)

  -- where something is kept, it is the selected goal
  abbrev pub IsKnown : Row → Kept → Front → Option Selected → Type 0
  IsKnown r k f None = Unit {0}
  IsKnown r k f (Some s) = IsMetIn r k f s

module _ (cs : List Clause) (root : Goal ℕ) (calls : Trees ℕ) where
  abbrev pub config_of : Frame → Config
  config_of f = config_in (present f.kept.states) (goals_of cs root f.kept f.front) calls f.front.depth

  -- a state that a machine can stand in
  pub record Stands (f : Frame) : Type 0 where
    pub row : IsRow (present f.kept.states)
    pub over : AreOver (present f.kept.states) (with_goals (goals_of cs root f.kept f.front) calls)
    pub rest : IsRest cs root (length f.kept.links) f.front.rest
    pub links : AreLinks cs root (reverse f.kept.links)
    pub suspended : AreSuspended cs root (present f.kept.states) f.kept.suspended f.kept.done
    pub waiting : f.front.waiting ≡ length (open_from cs root f.kept.done 0 f.kept.suspended)
    pub waits : DidWait cs root f.kept f.front.waits
    pub known : IsKnown cs root (present f.kept.states) f.kept f.front f.front.selected

abbrev pub goal_of : Engine → Goal ℕ
goal_of e = root_of e.root

abbrev pub row_of : Engine → Row
row_of e = present e.history.bindings

abbrev pub frame_here : Engine → Frame
frame_here e = frame_of e.history e.front

abbrev pub place_of : Engine → Place
place_of e = record {
  above = map (config_of e.clauses.now (goal_of e) e.columns.columns) (frames_of e.history);
  here = config_of e.clauses.now (goal_of e) e.columns.columns (frame_here e);
}

-- it can go back
pub record IsKept (e : Engine) : Type 0 where
  pub fit : IsFit e.history
  pub kept : All (Stands e.clauses.now (goal_of e) e.columns.columns) (frames_of e.history)
  pub root : IsRoot e.clauses.now e.root

-- it stands somewhere
pub record IsGood (e : Engine) : Type 0 where
  pub ready : IsKept e
  pub here : Stands e.clauses.now (goal_of e) e.columns.columns (frame_here e)

-- the same goal is searched in the same program
pub record IsSameSearch (old new : Engine) : Type 0 where
  pub clauses : new.clauses.now ≡ old.clauses.now
  pub root : new.root ≡ old.root
  pub columns : new.columns ≡ old.columns

-- it stands at the same place, and nothing was bound
pub record IsSamePlace (old new : Engine) : Type 0 where
  pub good : IsGood new
  pub search : IsSameSearch old new
  pub place : place_of new ≡ place_of old
  pub bindings : new.history.bindings ≡ old.history.bindings

abbrev pub left : Engine → List (Goal ℕ)
left e = goals_in e.clauses.now (goal_of e) e.history.links.items e.front.rest

-- the suspended goals before this place wait
abbrev pub WaitBefore : Engine → ℕ → Type 0
WaitBefore e n = WaitUpTo e.clauses.now (goal_of e) (row_of e) e.history.suspended.goals.items
    e.history.suspended.done.items n

-- all that are suspended wait
abbrev pub AllWait : Engine → Type 0
AllWait e = WaitBefore e (length e.history.suspended.goals.items)

abbrev pub IsPlaceOf : Engine → Option ℕ → Type 0
IsPlaceOf e at = IsPlace (kept_of e.history) e.front at

abbrev pub BeginsAt : Engine → Option ℕ → Rest → Type 0
BeginsAt e at l = IsRestAt (kept_of e.history) e.front at l

abbrev pub IsMet : Engine → Selected → Type 0
IsMet e s = IsMetIn e.clauses.now (goal_of e) (row_of e) (kept_of e.history) e.front s

-- the selected goal, or all wait and none is left
abbrev pub Finds : Engine → Option Selected → Type 0
Finds e None = AllWait e × (left e ≡ [])
Finds e (Some s) = IsMet e s

-- the goal at a place of a body, over the variables of the bindings
abbrev pub IsGoalAt : Engine → Rest → Goal ℕ → Type 0
IsGoalAt e l g = slice_get (body_of e.clauses.now (goal_of e) l.body) l.from ≡ Some g

-- what is done with it
abbrev pub Looks : Engine → Rest → Act → Type 0
Looks e l a = (g : Goal ℕ) → IsGoalAt e l g
    → ActsAs e.clauses.now (row_of e) (put_goal (counted l.first) g) a × IsReady (count g.arguments) a

-- what is done with the first goal that is left, or none is
abbrev pub Sees : Engine → Option Act → Type 0
Sees e None = left e ≡ []
Sees e (Some a) = (e.front.rest.from < e.front.rest.to) × Looks e e.front.rest a

-- links may be added behind the others
abbrev pub HasMoreLinks : Engine → Engine → Type 0
HasMoreLinks old new = (more : List Rest) × (new.history.links.items ≡ old.history.links.items ++ more)

-- the link stands for these goals
abbrev pub IsLinkOf : Engine → Engine → Rest → ℕ → Type 0
IsLinkOf old new rest n = (below new.clauses.now (goal_of new) (reverse new.history.links.items) n
    ≡ goals_in old.clauses.now (goal_of old) old.history.links.items rest) × (n ≤ length new.history.links.items)
