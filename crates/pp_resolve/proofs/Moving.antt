-- An engine that stands at the same place with other links, or with a goal suspended.
use Rattle.std.proofs.Common.{◌≡◌, ℕ, ◌+◌, ◌<◌, ◌≤◌, false, List, [], ◌++◌, length, get_or, map, reverse, All, Option, Some, None, refl, ap, sym, ◌∙◌, subst}
use Rattle.std.specs.List.{slice_get}
use Rattle.pp_algebra.specs.Rows.{Row, IsRow}
use Rattle.pp_sld.specs.Goals.{Goal, Config, put_goal, with_goals}
use Rattle.pp_term.specs.declared.clause.Clause.{Clause}
use Rattle.pp_unify.specs.States.{present}
use Rattle.pp_unify.specs.Forests.{AreOver, counted_all}
use Rattle.pp_walk.specs.Places.{Place}
use Rattle.pp_resolve.specs.declared.history.Rest.{Rest}
use Rattle.pp_resolve.specs.declared.history.Front.{Front}
use Rattle.pp_resolve.specs.declared.history.Selected.{Selected}
use Rattle.pp_resolve.specs.declared.history.History.{History}
use Rattle.pp_resolve.specs.declared.engine.Engine.{Engine}
use Rattle.pp_resolve.specs.Standing.{counted, config_in}
use Rattle.pp_resolve.specs.Suspensions.{is_among}
use Rattle.pp_resolve.specs.Kept.{Kept, kept_of}
use Rattle.pp_resolve.specs.Frames.{frames_of, IsFit}
use Rattle.pp_resolve.specs.Links.{piece, below, open_from, goals_in, goals_of, before, after, IsRest, AreLinks}
use Rattle.pp_resolve.specs.Engines.{AreSuspended, DidWait, IsKnown, IsMetIn, IsPlace, IsRestAt, WaitUpTo, bound, config_of, Stands, goal_of, row_of, IsGood, IsSamePlace, IsGoalAt, IsPlaceOf, BeginsAt}
use Rattle.pp_resolve.specs.Shown.{root_of}
use Rattle.pp_resolve.proofs.Overs.{among}
use Rattle.pp_resolve.proofs.Linked.{along_zero, along_still, link_along, goals_done}
use Rattle.pp_resolve.proofs.Open.{parts, rest_there}

abbrev place : List Config → Config → Place
place above here = record { above = above; here = here }

-- what a history keeps, with these states
abbrev pub kept_at : History → List Row → Kept
kept_at h rs = record { states = rs; links = h.links.items; suspended = h.suspended.goals.items; done = h.suspended.done.items }

-- an engine of the same search
abbrev pub moved : Engine → History → Front → Engine
moved e h f = record { clauses = e.clauses; root = e.root; columns = e.columns; history = h; front = f }

pub same_place : (e : Engine) (h : History) (f : Front) → IsGood e → h.bindings ≡ e.history.bindings → IsFit h → frames_of h ≡ frames_of e.history
    → goals_of e.clauses.now (goal_of e) (kept_at h e.history.bindings) f ≡ goals_of e.clauses.now (goal_of e) (kept_of e.history) e.front → f.depth ≡ e.front.depth
    → IsRest e.clauses.now (goal_of e) (length h.links.items) f.rest → AreLinks e.clauses.now (goal_of e) (reverse h.links.items)
    → AreSuspended e.clauses.now (goal_of e) (row_of e) h.suspended.goals.items h.suspended.done.items → f.waiting ≡ length (open_from e.clauses.now (goal_of e) h.suspended.done.items 0 h.suspended.goals.items)
    → DidWait e.clauses.now (goal_of e) (kept_at h e.history.bindings) f.waits → IsKnown e.clauses.now (goal_of e) (row_of e) (kept_at h e.history.bindings) f f.selected
    → IsSamePlace e (moved e h f)
same_place e h f g b fit fr gs d rest links suspended waiting waits known =
    let cs = e.clauses.now in
    let root = goal_of e in
    let calls = e.columns.columns in
    let goals = goals_of cs root (kept_of h) f in
    record {
      good = record {
        ready = record { fit = fit; kept = subst (All (Stands cs root calls)) (sym fr) g.ready.kept; root = g.ready.root };
        here = record {
          row = subst (λ rs. IsRow (present rs)) (sym b) g.here.row;
          over = subst (λ rs. AreOver (present rs) (with_goals goals calls)) (sym b) (subst (λ xs. AreOver (present e.history.bindings) (with_goals xs calls)) (sym gs) g.here.over);
          rest = rest;
          links = links;
          suspended = subst (λ rs. AreSuspended cs root (present rs) h.suspended.goals.items h.suspended.done.items) (sym b) suspended;
          waiting = waiting;
          waits = subst (λ rs. DidWait cs root (kept_at h rs) f.waits) (sym b) waits;
          known = subst (λ rs. IsKnown cs root (present rs) (kept_at h rs) f f.selected) (sym b) known;
        };
      };
      search = record { clauses = refl; root = refl; columns = refl };
      place =
          ap (λ fs. place (map (config_of cs root calls) fs) (config_in (present h.bindings) goals calls f.depth)) fr
          ∙ ap (λ rs. place (map (config_of cs root calls) (frames_of e.history)) (config_in (present rs) goals calls f.depth)) b
          ∙ ap (λ xs. place (map (config_of cs root calls) (frames_of e.history)) (config_in (present e.history.bindings) xs calls f.depth)) gs
          ∙ ap (λ n. place (map (config_of cs root calls) (frames_of e.history)) (config_in (present e.history.bindings) (goals_of cs root (kept_of e.history) e.front) calls n)) d;
      bindings = b;
    }

-- the same history
pub same_goals : (e : Engine) (f : Front) → IsGood e → goals_in e.clauses.now (goal_of e) e.history.links.items f.rest ≡ goals_in e.clauses.now (goal_of e) e.history.links.items e.front.rest → f.depth ≡ e.front.depth → f.waiting ≡ e.front.waiting
    → IsRest e.clauses.now (goal_of e) (length e.history.links.items) f.rest → DidWait e.clauses.now (goal_of e) (kept_of e.history) f.waits → IsKnown e.clauses.now (goal_of e) (row_of e) (kept_of e.history) f f.selected
    → IsSamePlace e (moved e e.history f)
same_goals e f g gs d o rest waits known =
    same_place e e.history f g refl g.ready.fit refl
    (ap (λ xs. open_from e.clauses.now (goal_of e) e.history.suspended.done.items 0 e.history.suspended.goals.items ++ xs) gs)
    d rest g.here.links g.here.suspended (o ∙ g.here.waiting) waits known

pub same_self : (e : Engine) → IsGood e → IsSamePlace e e
same_self e g = same_goals e e.front g refl refl refl g.here.rest g.here.waits g.here.known

pub same_through : (a b c : Engine) → IsSamePlace a b → IsSamePlace b c → IsSamePlace a c
same_through a b c m n = record {
  good = n.good;
  search = record { clauses = n.search.clauses ∙ m.search.clauses; root = n.search.root ∙ m.search.root; columns = n.search.columns ∙ m.search.columns };
  place = n.place ∙ m.place;
  bindings = n.bindings ∙ m.bindings;
}

module _ (cs : List Clause) (root : Goal ℕ) where
  -- links that come behind change no goals
  pub left_still : (ls ms more : List Rest) (l : Rest) → ms ≡ ls ++ more → l.next ≤ length ls → goals_in cs root ms l ≡ goals_in cs root ls l
  left_still ls ms more l e w = ap (λ gs. piece cs root l ++ gs) (along_still (λ l gs. piece cs root l ++ gs) ls ms more l.next e w)

  -- at the end of a body stands the link that it names
  pub settled_left : (ls : List Rest) (rest l : Rest) (i : ℕ) → rest.from ≡ rest.to → rest.next ≡ i + 1 → (w : i < length ls) (e : l ≡ get_or ls i l) → AreLinks cs root (reverse ls) → goals_in cs root ls l ≡ goals_in cs root ls rest
  settled_left ls rest l i d up w e h = sym (goals_done cs root ls rest d ∙ ap (below cs root (reverse ls)) up ∙ link_along cs root ls i l w e h (λ l gs. piece cs root l ++ gs))

  pub nothing_left : (ls : List Rest) (rest : Rest) → rest.from ≡ rest.to → rest.next ≡ 0 → goals_in cs root ls rest ≡ []
  nothing_left ls rest d z = goals_done cs root ls rest d ∙ ap (below cs root (reverse ls)) z ∙ along_zero (λ l gs. piece cs root l ++ gs) (reverse ls)

-- what holds by the program, the goal and the bindings holds at the same place
pub carried : (P : List Clause → Goal ℕ → List Row → Type 0) (a b : Engine) → IsSamePlace a b → P a.clauses.now (goal_of a) a.history.bindings → P b.clauses.now (goal_of b) b.history.bindings
carried P a b s p =
    subst (λ cs. P cs (goal_of b) b.history.bindings) (sym s.search.clauses)
    (subst (λ r. P a.clauses.now (root_of r) b.history.bindings) (sym s.search.root)
    (subst (λ rs. P a.clauses.now (goal_of a) rs) (sym s.bindings) p))

-- the selected goal is the same where the suspended goals and the first of those that are left are
module _ (cs : List Clause) (root : Goal ℕ) (r : Row) (k m : Kept) (f h : Front) (es : m.suspended ≡ k.suspended) (ed : m.done ≡ k.done) (er : h.rest ≡ f.rest) where
  pub place_still : (at : Option ℕ) → IsPlace k f at → IsPlace m h at
  place_still None p = subst (λ l. l.from < l.to) (sym er) p
  place_still (Some i) p = (subst (λ ss. i < length ss) (sym es) p.0, subst (λ ds. is_among i ds ≡ false) (sym ed) p.1)

  pub rest_back : (at : Option ℕ) (l : Rest) → IsRestAt m h at l → IsRestAt k f at l
  rest_back None l e = e ∙ er
  rest_back (Some i) l e = (e.0, subst (λ ss. slice_get ss i ≡ Some e.0) es e.1, e.2)

  wait_still : (n : ℕ) → WaitUpTo cs root r k.suspended k.done n → WaitUpTo cs root r m.suspended m.done n
  wait_still n w = subst (λ ss. WaitUpTo cs root r ss m.done n) (sym es) (subst (λ ds. WaitUpTo cs root r k.suspended ds n) (sym ed) w)

  bound_still : (at : Option ℕ) → WaitUpTo cs root r k.suspended k.done (bound k at) → WaitUpTo cs root r m.suspended m.done (bound m at)
  bound_still None w = wait_still (length m.suspended) (subst (λ ss. WaitUpTo cs root r k.suspended k.done (length ss)) (sym es) w)
  bound_still (Some i) w = wait_still i w

  pub met_still : (s : Selected) → IsMetIn cs root r k f s → IsMetIn cs root r m h s
  met_still s w = record { there = place_still s.at w.there; looks = λ l b. w.looks l (rest_back s.at l b); ready = w.ready; wait = bound_still s.at w.wait }

  pub known_on : (o : Option Selected) → IsKnown cs root r k f o → IsKnown cs root r m h o
  known_on None w = tt
  known_on (Some s) w = met_still s w

-- links that come behind change nothing of what is known
pub known_still : (cs : List Clause) (root : Goal ℕ) (r : Row) (k m : Kept) (f : Front) (o : Option Selected) → m.suspended ≡ k.suspended → m.done ≡ k.done → IsKnown cs root r k f o → IsKnown cs root r m f o
known_still cs root r k m f None e d h = tt
known_still cs root r k m f (Some s) e d h = met_still cs root r k m f f e d refl s h

-- a goal at a place is over the row
pub goal_over_at : (e : Engine) (at : Option ℕ) (l : Rest) (g : Goal ℕ) → IsGood e → IsPlaceOf e at → BeginsAt e at l → IsGoalAt e l g → AreOver (row_of e) (counted_all l.first g.arguments)
goal_over_at e at l g good p b is =
    let cs = e.clauses.now in
    let root = goal_of e in
    let k = kept_of e.history in
    among (row_of e) (goals_of cs root k e.front) (before cs root k at) (put_goal (counted l.first) g) (after cs root k e.front at) e.columns.columns
    (parts cs root k e.front at l g p b is) good.here.over

-- goals stand there
pub rest_at_place : (e : Engine) (at : Option ℕ) (l : Rest) → IsGood e → IsPlaceOf e at → BeginsAt e at l → IsRest e.clauses.now (goal_of e) (length e.history.links.items) l × (l.from < l.to)
rest_at_place e at l good p b = rest_there e.clauses.now (goal_of e) (row_of e) (kept_of e.history) e.front at l good.here.suspended good.here.rest p b
