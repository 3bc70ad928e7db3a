-- The first goal that is left is suspended.
use Rattle.std.proofs.Common.{◌≡◌, ℕ, suc, ◌+◌, ◌≤◌, Bool, true, false, List, [], ◌∷◌, ◌++◌, length, None, Some, refl, ap, sym, ◌∙◌, arith, append_assoc, length-append}
use Rattle.std.specs.List.{slice_get}
use Rattle.pp_algebra.specs.Terms.{count}
use Rattle.pp_algebra.specs.Rows.{Row}
use Rattle.pp_sld.specs.Goals.{Goal, put_goal}
use Rattle.pp_term.specs.declared.clause.Clause.{Clause}
use Rattle.pp_goal.specs.declared.acts.Act.TheVariants.{Wait}
use Rattle.pp_resolve.specs.declared.history.Rest.{Rest}
use Rattle.pp_resolve.specs.declared.history.Front.{Front}
use Rattle.pp_resolve.specs.declared.history.History.{History}
use Rattle.pp_resolve.specs.declared.suspended.Suspension.{Suspension}
use Rattle.pp_resolve.specs.declared.engine.Engine.{Engine}
use Rattle.pp_resolve.specs.Standing.{counted}
use Rattle.pp_resolve.specs.Suspensions.{is_among}
use Rattle.pp_resolve.specs.Kept.{kept_of}
use Rattle.pp_resolve.specs.Frames.{frames_of, IsFit}
use Rattle.pp_resolve.specs.Links.{body_of, first_of, open_from, after_first, goals_in, goals_of}
use Rattle.pp_resolve.specs.Acts.{does}
use Rattle.pp_resolve.specs.Engines.{goal_of, row_of, left, AreBelow, AreSuspended, IsSuspension, WaitUpTo, DidWait, AllWait, IsGood, IsSamePlace, Sees}
use Rattle.pp_resolve.proofs.Linked.{first_is, goals_open, goal_there, stepped_rest}
use Rattle.pp_resolve.proofs.Open.{open_more}
use Rattle.pp_resolve.proofs.Moving.{kept_at, moved, same_place}
use Rattle.pp_resolve.proofs.Waits.{no_call, wait_more, waits_present, suspended_more}
use Rattle.pp_resolve.proofs.Woken.{one_waits}

module _ (e : Engine) (good : IsGood e) (wait : AllWait e) (sees : Sees e (Some Wait)) (bound : ℕ) (below : AreBelow e.clauses.now (goal_of e) bound e.front.rest) (sized : bound ≤ count (row_of e).columns)
    (last : (j : ℕ) (s : Suspension) → slice_get e.history.suspended.goals.items j ≡ Some s → length e.history.suspended.goals.items ≡ suc j → s.below ≤ bound) where
  abbrev cs : List Clause
  cs = e.clauses.now

  abbrev root : Goal ℕ
  root = goal_of e

  abbrev r : Row
  r = row_of e

  abbrev ss : List Suspension
  ss = e.history.suspended.goals.items

  abbrev ds : List ℕ
  ds = e.history.suspended.done.items

  abbrev rest : Rest
  rest = record { body = e.front.rest.body; from = e.front.rest.from; to = e.front.rest.to; first = e.front.rest.first; next = 0 }

  abbrev t : Suspension
  t = record { rest = rest; below = bound }

  abbrev there : (g : Goal ℕ) × (slice_get (body_of cs root e.front.rest.body) e.front.rest.from ≡ Some g)
  there = goal_there cs root (length e.history.links.items) e.front.rest good.here.rest sees.0

  abbrev raw : Goal ℕ
  raw = put_goal (counted e.front.rest.first) (there).0

  first : first_of cs root rest ≡ raw ∷ []
  first = first_is cs root rest (there).0 (there).1

  waits : does r raw ≡ None
  waits = (sees.1 (there).0 (there).1).0

  its : IsSuspension cs root t
  its = record {
    rest = record { formed = good.here.rest.formed; from = good.here.rest.from; to = good.here.rest.to; next = omega arith; small = good.here.rest.small };
    some = sees.0;
    waits = λ g at. no_call r _ g.shape (sees.1 g at).0;
  }

  suspended : AreSuspended cs root r (ss ++ t ∷ []) ds
  suspended = suspended_more cs root r ss ds t good.here.suspended its below sized last

  not_done : is_among (length ss) ds ≡ false
  not_done = go (is_among (length ss) ds) refl
    where
      go : (b : Bool) → is_among (length ss) ds ≡ b → b ≡ false
      go true h = absurd (omega (arith, good.here.suspended.done (length ss) h))
      go false h = refl

  more : open_from cs root ds 0 (ss ++ t ∷ []) ≡ open_from cs root ds 0 ss ++ raw ∷ []
  more = open_more cs root ds ss t not_done ∙ ap (λ gs. open_from cs root ds 0 ss ++ gs) first

  goals_are : open_from cs root ds 0 (ss ++ t ∷ []) ++ goals_in cs root e.history.links.items (after_first e.front.rest) ≡ goals_of cs root (kept_of e.history) e.front
  goals_are =
      ap (λ gs. gs ++ goals_in cs root e.history.links.items (after_first e.front.rest)) more
      ∙ append_assoc (open_from cs root ds 0 ss) (raw ∷ []) (goals_in cs root e.history.links.items (after_first e.front.rest))
      ∙ ap (λ gs. open_from cs root ds 0 ss ++ gs) (sym (goals_open cs root e.front.rest (there).0 (there).1 e.history.links.items sees.0))

  one_more : e.front.waiting + 1 ≡ length (open_from cs root ds 0 (ss ++ t ∷ []))
  one_more = let n = ap length more ∙ length-append (open_from cs root ds 0 ss) (raw ∷ []) in omega (arith, n, good.here.waiting)

  all : WaitUpTo cs root r (ss ++ t ∷ []) ds (length (ss ++ t ∷ []))
  all = wait_more cs root r ss ds t wait (one_waits e rest (there).0 (there).1 waits)

  pub one_fewer : length (left e) ≡ suc (length (goals_in cs root e.history.links.items (after_first e.front.rest)))
  one_fewer = ap length (goals_open cs root e.front.rest (there).0 (there).1 e.history.links.items sees.0)

  module _ (h : History) (goals : h.suspended.goals.items ≡ ss ++ t ∷ []) (done : h.suspended.done.items ≡ ds) (links : h.links.items ≡ e.history.links.items) (bindings : h.bindings ≡ e.history.bindings) (fit : IsFit h) (frames : frames_of h ≡ frames_of e.history)
      (since upto : ℕ) (now : suc since ≡ length h.bindings) (all_of : upto ≡ length h.suspended.goals.items) where
    abbrev front : Front
    front = record { waiting = e.front.waiting + 1; waits = record { since = since; upto = upto }; rest = after_first e.front.rest; depth = e.front.depth; selected = None }

    waits_now : DidWait cs root (kept_at h e.history.bindings) front.waits
    waits_now =
        waits_present cs root (kept_at h e.history.bindings) front.waits (now ∙ ap length bindings) (omega (arith, all_of))
        (rw goals suspended.sized)
        (rw (all_of, goals, done) all)

    pub passed : IsSamePlace e (moved e h front)
    passed =
        same_place e h front good bindings fit frames
        (rw (goals, done, links) goals_are) refl
        (rw links (stepped_rest cs root (length e.history.links.items) e.front.rest good.here.rest sees.0))
        (rw links good.here.links)
        (rw (goals, done) suspended)
        (rw (goals, done) one_more)
        waits_now tt

    pub passed_wait : AllWait (moved e h front)
    passed_wait = rw (bindings, goals, done) all

    pub passed_fewer : length (left e) ≡ suc (length (left (moved e h front)))
    passed_fewer = rw links one_fewer
