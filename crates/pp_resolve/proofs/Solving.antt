-- The goal at a place is taken away, and what it asks was solved.
use Rattle.std.proofs.Common.{◌≡◌, ℕ, suc, ◌-◌, ◌<◌, ◌≤◌, inl, inr, Bool, true, false, List, [], ◌∷◌, ◌++◌, length, map, take, drop, reverse, All, Option, Some, None, refl, ap, sym, ◌∙◌, subst, arith, append_assoc, length-append}
use Rattle.std.specs.List.{slice_get}
use Rattle.std.proofs.lemmas.List.{take-append-le}
use Rattle.pp_algebra.specs.Terms.{Trees, variables_all, count}
use Rattle.pp_algebra.specs.Rows.{Row, IsRow}
use Rattle.pp_algebra.proofs.Order.{IsIn-left, IsIn-right}
use Rattle.pp_algebra.proofs.Antisym.{IsIn-either}
use Rattle.pp_sld.specs.Goals.{Goal, Config, put_goal, with_goals}
use Rattle.pp_term.specs.declared.clause.Clause.{Clause}
use Rattle.pp_unify.specs.States.{present, IsLonger}
use Rattle.pp_unify.specs.Forests.{AreOver, AreDecided}
use Rattle.pp_clause.specs.declared.goal_at.GoalAt.{GoalAt}
use Rattle.pp_row.specs.Reading.{forest}
use Rattle.pp_goal.specs.declared.acts.Act.{Act}
use Rattle.pp_goal.specs.Arguments.{IsLent, terms_of}
use Rattle.pp_goal.specs.Acts.{IsReady, items}
use Rattle.pp_walk.specs.Places.{Place}
use Rattle.pp_resolve.specs.declared.root.Root.{Root}
use Rattle.pp_resolve.specs.declared.history.Rest.{Rest}
use Rattle.pp_resolve.specs.declared.history.Front.{Front}
use Rattle.pp_resolve.specs.declared.history.Waits.{Waits}
use Rattle.pp_resolve.specs.declared.history.History.{History}
use Rattle.pp_resolve.specs.declared.suspended.Suspension.{Suspension}
use Rattle.pp_resolve.specs.declared.engine.Engine.{Engine}
use Rattle.pp_resolve.specs.Standing.{counted, config_in}
use Rattle.pp_resolve.specs.Suspensions.{is_among}
use Rattle.pp_resolve.specs.Kept.{Kept, kept_of}
use Rattle.pp_resolve.specs.Frames.{Frame, frames, frames_of, AreThere, IsFit}
use Rattle.pp_resolve.specs.Links.{after_first, open_from, goals_in, goals_of, before, after, body_of}
use Rattle.pp_resolve.specs.Shown.{root_of, IsRoot, IsShown}
use Rattle.pp_resolve.specs.Acts.{items_by}
use Rattle.pp_resolve.specs.Engines.{AreSuspended, DidWait, WaitUpTo, IsRestAt, IsPlaceOf, BeginsAt, IsGoalAt, Stands, config_of, goal_of, row_of, place_of, IsKept, IsGood, IsSameSearch}
use Rattle.pp_resolve.specs.Events.{others, without}
use Rattle.pp_resolve.proofs.Linked.{has_item, goal_there, stepped_rest, first_is}
use Rattle.pp_resolve.proofs.Open.{still_done, done_either, open_at, open_done_at, parts}
use Rattle.pp_resolve.proofs.Moving.{moved, goal_over_at}
use Rattle.pp_resolve.proofs.Showing.{shown_lent}
use Rattle.pp_resolve.proofs.Acting.{decided_by}
use Rattle.pp_resolve.proofs.Following.{solved_row}
use Rattle.pp_resolve.proofs.Stepping.{item_there}
use Rattle.pp_resolve.proofs.Saved.{history_longer}

-- ===== engines by their parts

abbrev kept : List Row → List Rest → List Suspension → List ℕ → Kept
kept rs ls ss ds = record { states = rs; links = ls; suspended = ss; done = ds }

abbrev place : List Config → Config → Place
place above here = record { above = above; here = here }

abbrev pub frame : Kept → Front → Frame
frame k f = record { kept = k; front = f }

-- what is kept is told by its lists
pub kept_is : (h : History) (rs : List Row) (ls : List Rest) (ss : List Suspension) (ds : List ℕ) → h.bindings ≡ rs → h.links.items ≡ ls → h.suspended.goals.items ≡ ss → h.suspended.done.items ≡ ds → kept_of h ≡ kept rs ls ss ds
kept_is h rs ls ss ds b l g d =
    ap (λ x. kept x h.links.items h.suspended.goals.items h.suspended.done.items) b
    ∙ ap (λ x. kept rs x h.suspended.goals.items h.suspended.done.items) l
    ∙ ap (λ x. kept rs ls x h.suspended.done.items) g
    ∙ ap (kept rs ls ss) d

-- it stands there, and can go back as it could
pub good_at : (e : Engine) (h : History) (f : Front) (k : Kept) → IsKept e → IsFit h → frames_of h ≡ frames_of e.history → kept_of h ≡ k → Stands e.clauses.now (goal_of e) e.columns.columns (frame k f) → IsGood (moved e h f)
good_at e h f k r fit fr same s = record {
  ready = record { fit = fit; kept = subst (All (Stands e.clauses.now (goal_of e) e.columns.columns)) (sym fr) r.kept; root = r.root };
  here = subst (λ x. Stands e.clauses.now (goal_of e) e.columns.columns (frame x f)) (sym same) s;
}

-- what holds by the program, the goal and the call's columns holds in the same search
searched : (P : List Clause → Root → Row → Type 0) (a b : Engine) → IsSameSearch a b → P a.clauses.now a.root a.columns → P b.clauses.now b.root b.columns
searched P a b s h =
    subst (λ cs. P cs b.root b.columns) (sym s.clauses)
    (subst (λ r. P a.clauses.now r b.columns) (sym s.root)
    (subst (P a.clauses.now a.root) (sym s.columns) h))

pub good_as : (a b : Engine) → IsSameSearch a b → IsGood (moved a b.history b.front) → IsGood b
good_as a b s g = record {
  ready = record {
    fit = g.ready.fit;
    kept = searched (λ cs r c. All (Stands cs (root_of r) c.columns) (frames_of b.history)) a b s g.ready.kept;
    root = searched (λ cs r c. IsRoot cs r) a b s g.ready.root;
  };
  here = searched (λ cs r c. Stands cs (root_of r) c.columns (frame (kept_of b.history) b.front)) a b s g.here;
}

pub place_as : (a b : Engine) → IsSameSearch a b → place_of b ≡ place_of (moved a b.history b.front)
place_as a b s = searched (λ cs r c. place (map (config_of cs (root_of r) c.columns) (frames_of b.history)) (config_of cs (root_of r) c.columns (frame (kept_of b.history) b.front)) ≡ place_of (moved a b.history b.front)) a b s refl

-- ===== the goal at a place is taken away

-- fewer goals are over the row
fewer_over : (r : Row) (before : List (Goal ℕ)) (g : Goal ℕ) (after : List (Goal ℕ)) (calls : Trees ℕ) → AreOver r (with_goals (before ++ g ∷ after) calls) → AreOver r (with_goals (before ++ after) calls)
fewer_over r [] g after calls o v i = o v (IsIn-right v (variables_all g.arguments) (variables_all (with_goals after calls)) i)
fewer_over r (x ∷ xs) g after calls o v i = elim (IsIn-either v (variables_all x.arguments) (variables_all (with_goals (xs ++ after) calls)) i) [
  | inl j ↦ o v (IsIn-left v (variables_all x.arguments) (variables_all (with_goals (xs ++ g ∷ after) calls)) j)
  | inr j ↦ fewer_over r xs g after calls (λ w k. o w (IsIn-right w (variables_all x.arguments) (variables_all (with_goals (xs ++ g ∷ after) calls)) k)) v j
]

-- the first goal that is left is gone
abbrev pub past_first : Front → Front
past_first f = record { waiting = f.waiting; waits = f.waits; rest = after_first f.rest; depth = f.depth; selected = None }

-- a suspended goal is gone
abbrev pub one_less : Front → Front
one_less f = record { waiting = f.waiting - 1; waits = f.waits; rest = f.rest; depth = f.depth; selected = None }

abbrev pub with_done : Kept → ℕ → Kept
with_done k i = kept k.states k.links k.suspended (k.done ++ i ∷ [])

-- nothing is known of the selected goal
abbrev pub unselected : Front → Front
unselected f = record { waiting = f.waiting; waits = f.waits; rest = f.rest; depth = f.depth; selected = None }

module _ (cs : List Clause) (root : Goal ℕ) (calls : Trees ℕ) (k : Kept) (f : Front) (s : Stands cs root calls (frame k f)) where
  pub stands_unselected : Stands cs root calls (frame k (unselected f))
  stands_unselected = record { row = s.row; over = s.over; rest = s.rest; links = s.links; suspended = s.suspended; waiting = s.waiting; waits = s.waits; known = tt }

  pub stands_first : f.rest.from < f.rest.to → Stands cs root calls (frame k (past_first f))
  stands_first w =
      let g = goal_there cs root (length k.links) f.rest s.rest w in
      let raw = put_goal (counted f.rest.first) g.0 in
      let p = parts cs root k f None f.rest g.0 w refl g.1 in
      record {
        row = s.row;
        over = fewer_over (present k.states) (before cs root k None) raw (after cs root k f None) calls (subst (λ gs. AreOver (present k.states) (with_goals gs calls)) p s.over);
        rest = stepped_rest cs root (length k.links) f.rest s.rest w;
        links = s.links;
        suspended = s.suspended;
        waiting = s.waiting;
        waits = s.waits;
        known = tt;
      }

  module _ (i : ℕ) (w : i < length k.suspended) (undone : is_among i k.done ≡ false) where
    -- the others are left
    pub done_goals : goals_of cs root (with_done k i) (one_less f) ≡ before cs root k (Some i) ++ after cs root k f (Some i)
    done_goals =
        let left = goals_in cs root k.links f.rest in
        let start = before cs root k (Some i) in
        ap (λ gs. gs ++ left) (open_done_at cs root k.done k.suspended i w)
        ∙ append_assoc start (open_from cs root k.done (suc i) (drop (suc i) k.suspended)) left

    abbrev there : (t : Suspension) × (slice_get k.suspended i ≡ Some t)
    there = has_item k.suspended i w

    abbrev goal : (g : Goal ℕ) × (slice_get (body_of cs root (there).0.rest.body) (there).0.rest.from ≡ Some g)
    goal = let t = s.suspended.goals i (there).0 (there).1 in goal_there cs root 0 (there).0.rest t.rest t.some

    abbrev raw : Goal ℕ
    raw = put_goal (counted (there).0.rest.first) (goal).0

    pub some_waiting : f.waiting ≡ suc (length (open_from cs root (k.done ++ i ∷ []) 0 k.suspended))
    some_waiting =
        let start = before cs root k (Some i) in
        let behind = open_from cs root k.done (suc i) (drop (suc i) k.suspended) in
        let all = ap length (open_at cs root k.done k.suspended i (there).0 (there).1 undone ∙ ap (λ gs. start ++ (gs ++ behind)) (first_is cs root (there).0.rest (goal).0 (goal).1)) ∙ length-append start (raw ∷ behind) in
        let rest = ap length (open_done_at cs root k.done k.suspended i w) ∙ length-append start behind in
        omega (arith, s.waiting, all, rest)

    over_others : AreOver (present k.states) (with_goals (before cs root k (Some i) ++ after cs root k f (Some i)) calls)
    over_others =
        let p = parts cs root k f (Some i) (there).0.rest (goal).0 (w, undone) ((there).0, (there).1, refl) (goal).1 in
        fewer_over (present k.states) (before cs root k (Some i)) raw (after cs root k f (Some i)) calls (subst (λ gs. AreOver (present k.states) (with_goals gs calls)) p s.over)

    pub stands_done : Stands cs root calls (frame (with_done k i) (one_less f))
    stands_done = record {
      row = s.row;
      over = subst (λ gs. AreOver (present k.states) (with_goals gs calls)) (sym done_goals) over_others;
      rest = s.rest;
      links = s.links;
      suspended = record {
        goals = s.suspended.goals;
        below = s.suspended.below;
        sized = s.suspended.sized;
        done = λ j h. done_either j i k.done h (j < length k.suspended) (s.suspended.done j) (λ e. subst (λ n. n < length k.suspended) (sym e) w);
      };
      waiting = omega (arith, some_waiting);
      waits = record {
        there = s.waits.there;
        upto = s.waits.upto;
        below = s.waits.below;
        goals = λ j t e l o. s.waits.goals j t e l (still_done j i k.done o);
      };
      known = tt;
    }

-- ===== later states

module _ (cs : List Clause) (root : Goal ℕ) where
  -- they waited in a state that is kept still
  pub waits_later : (k : Kept) (rs : List Row) (w : Waits) → IsLonger k.states rs → DidWait cs root k w → DidWait cs root (kept rs k.links k.suspended k.done) w
  waits_later k rs w l d =
      let same : take (suc w.since) rs ≡ take (suc w.since) k.states = ap (take (suc w.since)) l.1 ∙ take-append-le (suc w.since) k.states l.0 (omega (arith, d.there)) in
      record {
        there = omega (arith, d.there, ap length l.1, length-append k.states l.0);
        upto = d.upto;
        below = λ j t e b. subst (λ xs. t.below ≤ count (present xs).columns) (sym same) (d.below j t e b);
        goals = subst (λ xs. WaitUpTo cs root (present xs) k.suspended k.done w.upto) (sym same) d.goals;
      }

  -- the suspended goals are over more variables
  pub suspended_later : (r q : Row) (ss : List Suspension) (ds : List ℕ) → count r.columns ≤ count q.columns → AreSuspended cs root r ss ds → AreSuspended cs root q ss ds
  suspended_later r q ss ds c u = record { goals = u.goals; below = u.below; sized = λ j t e. let z = u.sized j t e in omega (arith, c, z); done = u.done }

  pub stands_later : (calls : Trees ℕ) (k : Kept) (f : Front) (rs : List Row) → IsLonger k.states rs → IsRow (present rs) → count (present rs).columns ≡ count (present k.states).columns → Stands cs root calls (frame k f) → Stands cs root calls (frame (kept rs k.links k.suspended k.done) (unselected f))
  stands_later calls k f rs l row c s = record {
    row = row;
    over = λ v i. let z = s.over v i in omega (arith, c, z);
    rest = s.rest;
    links = s.links;
    suspended = suspended_later (present k.states) (present rs) k.suspended k.done (omega (arith, c)) s.suspended;
    waiting = s.waiting;
    waits = waits_later k rs f.waits l s.waits;
    known = tt;
  }

-- an engine with other states, of whose selected goal nothing is known
abbrev pub solved_to : Engine → List Row → Engine
solved_to e rs = moved e (record e.history { bindings = rs }) (unselected e.front)

module _ (e : Engine) (good : IsGood e) (rs : List Row) where
  pub later_good : IsLonger e.history.bindings rs → IsRow (present rs) → count (present rs).columns ≡ count (row_of e).columns → IsGood (solved_to e rs)
  later_good l row c =
      let longer = history_longer e.history rs l good.ready.fit in
      good_at e (record e.history { bindings = rs }) (unselected e.front) (kept rs e.history.links.items e.history.suspended.goals.items e.history.suspended.done.items) good.ready longer.1 longer.0 refl
      (stands_later e.clauses.now (goal_of e) e.columns.columns (kept_of e.history) e.front rs l row c good.here)

  pub later_above : IsLonger e.history.bindings rs → (place_of (solved_to e rs)).above ≡ (place_of e).above
  later_above l = ap (map (config_of e.clauses.now (goal_of e) e.columns.columns)) (history_longer e.history rs l good.ready.fit).0

  -- the same states
  pub same_good : rs ≡ e.history.bindings → IsGood (solved_to e rs)
  same_good b = subst (λ x. IsGood (solved_to e x)) (sym b)
      (good_at e e.history (unselected e.front) (kept_of e.history) good.ready good.ready.fit refl refl (stands_unselected e.clauses.now (goal_of e) e.columns.columns (kept_of e.history) e.front good.here))

  pub same_place_of : rs ≡ e.history.bindings → place_of (solved_to e rs) ≡ place_of e
  same_place_of b = ap (λ x. place_of (solved_to e x)) b

pub others_later : (e : Engine) (rs : List Row) (at : Option ℕ) → others (solved_to e rs) at ≡ others e at
others_later e rs None = refl
others_later e rs (Some i) = refl

pub without_later : (e : Engine) (rs : List Row) (at : Option ℕ) (r : Row) → without (solved_to e rs) at r ≡ without e at r
without_later e rs at r = ap (λ gs. config_in r gs e.columns.columns e.front.depth) (others_later e rs at)

-- ===== the goal at a place, as it is lent

one_rest : (k : Kept) (f : Front) (at : Option ℕ) (l m : Rest) → IsRestAt k f at l → IsRestAt k f at m → l ≡ m
one_rest k f None l m b c = b ∙ sym c
one_rest k f (Some i) l m b c = let same : b.0 ≡ c.0 = cc (sym b.1 ∙ c.1) in b.2 ∙ ap (λ s. s.rest) same ∙ sym c.2

-- what the act solves of the goal there was solved
abbrev pub AreSolvedAt : Engine → Option ℕ → Act → Row → Type 0
AreSolvedAt e at a q = (m : Rest) (g : Goal ℕ) → BeginsAt e at m → IsGoalAt e m g → AreDecided (row_of e) (items_by g.shape (put_goal (counted m.first) g).arguments a) true q

module _ (e : Engine) (good : IsGood e) (at : Option ℕ) (there : IsPlaceOf e at) (l : Rest) (begins : BeginsAt e at l) (d : GoalAt) (shown : (g : Goal ℕ) → IsGoalAt e l g → IsShown e.clauses.now g d) where
  abbrev item : (g : Goal ℕ) × IsGoalAt e l g
  item = item_there e at l good there begins

  pub lent_at : IsLent (row_of e) d l.first
  lent_at = shown_lent e.clauses.now (row_of e) (item).0 d l.first (shown (item).0 (item).1) (goal_over_at e at l (item).0 good there begins (item).1)

  pub ready_at : (a : Act) → ((m : Rest) (g : Goal ℕ) → BeginsAt e at m → IsGoalAt e m g → IsReady (count g.arguments) a) → IsReady (count (forest d.arguments.now)) a
  ready_at a h = subst (λ ts. IsReady (count ts) a) (sym (shown (item).0 (item).1).arguments) (h l (item).0 begins (item).1)

  pub decided_at : (a : Act) (b : Bool) (q : Row) → AreDecided (row_of e) (items d.kind (terms_of d l.first) a) b q
      → (m : Rest) (g : Goal ℕ) → BeginsAt e at m → IsGoalAt e m g → AreDecided (row_of e) (items_by g.shape (put_goal (counted m.first) g).arguments a) b q
  decided_at a b q h m g c is =
      let same : l ≡ m = one_rest (kept_of e.history) e.front at l m begins c in
      subst (λ x. AreDecided (row_of e) (items_by g.shape (put_goal (counted x.first) g).arguments a) b q) same
      (decided_by e.clauses.now (row_of e) g d l.first (shown g (subst (λ x. IsGoalAt e x g) (sym same) is)) a b q h)

  pub solved_at : (a : Act) (q : Row) → AreDecided (row_of e) (items d.kind (terms_of d l.first) a) true q → IsRow q × (count q.columns ≡ count (row_of e).columns)
  solved_at a q h = solved_row (items d.kind (terms_of d l.first) a) (row_of e) q good.here.row h

-- ===== the states are those before again

module _ (e : Engine) (good : IsGood e) (n : Engine) (rs back : List Row) (same : IsSameSearch (solved_to e rs) n) (fit : IsFit n.history) (kept_still : kept_of n.history ≡ kept_of (solved_to e rs).history) (choices : n.history.choices ≡ e.history.choices) (front : n.front ≡ unselected e.front) (b : back ≡ e.history.bindings) where
  abbrev again : History
  again = record n.history { bindings = back }

  abbrev end : Engine
  end = record n { history = again }

  end_search : IsSameSearch e end
  end_search = record { clauses = same.clauses; root = same.root; columns = same.columns }

  again_kept : kept_of again ≡ kept_of e.history
  again_kept = kept_is again e.history.bindings e.history.links.items e.history.suspended.goals.items e.history.suspended.done.items b (ap (λ k. k.links) kept_still) (ap (λ k. k.suspended) kept_still) (ap (λ k. k.done) kept_still)

  again_fit : IsFit again
  again_fit = record {
    there = subst (λ k. AreThere k (reverse n.history.choices.items)) (sym again_kept) (subst (λ c. AreThere (kept_of e.history) (reverse c.items)) (sym choices) good.ready.fit.there);
    ordered = fit.ordered;
  }

  again_frames : frames_of again ≡ frames_of e.history
  again_frames = ap (λ k. frames k (reverse n.history.choices.items)) again_kept ∙ ap (λ c. frames (kept_of e.history) (reverse c.items)) choices

  pub again_good : IsGood end
  again_good = good_as e end end_search
      (good_at e again n.front (kept_of e.history) good.ready again_fit again_frames again_kept
      (subst (λ f. Stands e.clauses.now (goal_of e) e.columns.columns (frame (kept_of e.history) f)) (sym front) (stands_unselected e.clauses.now (goal_of e) e.columns.columns (kept_of e.history) e.front good.here)))

  pub again_place : place_of end ≡ place_of e
  again_place =
      place_as e end end_search
      ∙ ap (λ fs. place (map (config_of e.clauses.now (goal_of e) e.columns.columns) fs) (config_of e.clauses.now (goal_of e) e.columns.columns (frame (kept_of again) n.front))) again_frames
      ∙ ap (λ k. place (map (config_of e.clauses.now (goal_of e) e.columns.columns) (frames_of e.history)) (config_of e.clauses.now (goal_of e) e.columns.columns (frame k n.front))) again_kept
      ∙ ap (λ f. place (map (config_of e.clauses.now (goal_of e) e.columns.columns) (frames_of e.history)) (config_of e.clauses.now (goal_of e) e.columns.columns (frame (kept_of e.history) f))) front
