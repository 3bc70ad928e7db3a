-- What follows the place where an engine stands.
use Rattle.std.proofs.Common.{◌≡◌, ℕ, zero, suc, ◌<◌, inl, inr, true, false, cond, List, [], ◌∷◌, ◌++◌, length, map, All, Option, Some, None, refl, ap, sym, ◌∙◌, subst, arith, append-nil}
use Rattle.std.proofs.lemmas.List.{length-map}
use Rattle.pp_algebra.specs.Terms.{Trees}
use Rattle.pp_algebra.specs.Rows.{Row}
use Rattle.pp_algebra.specs.Solve.{Item}
use Rattle.pp_sld.specs.Goals.{Program, Predicate, Goal, put_goal, with_goals}
use Rattle.pp_sld.specs.Selection.{solves, calls, never, splits}
use Rattle.pp_sld.specs.Ways.{Way, Leads, IsDead, finished, left_loose, fails, one, choices, next}
use Rattle.pp_term.specs.declared.clause.Clause.{Clause}
use Rattle.pp_term.specs.Meanings.{program}
use Rattle.pp_unify.specs.Laws.{item_in, IsItemOver}
use Rattle.pp_unify.specs.Forests.{AreOver, AreDecided}
use Rattle.pp_goal.specs.declared.acts.Act.{Act}
use Rattle.pp_goal.specs.declared.acts.Act.TheVariants.{Wait, Fail, Hold, Equate, Narrow, Bind, Split, Call}
use Rattle.pp_walk.specs.declared.event.Event.{Event}
use Rattle.pp_walk.specs.declared.event.Event.TheVariants.{Failed, Choice}
use Rattle.pp_walk.specs.Places.{Place}
use Rattle.pp_walk.specs.Moves.{Stepped, step_cost}
use Rattle.pp_resolve.specs.declared.history.Rest.{Rest}
use Rattle.pp_resolve.specs.declared.history.Front.{Front}
use Rattle.pp_resolve.specs.declared.history.Selected.{Selected}
use Rattle.pp_resolve.specs.declared.engine.Engine.{Engine}
use Rattle.pp_resolve.specs.Standing.{counted, config_in}
use Rattle.pp_resolve.specs.Kept.{Kept, kept_of}
use Rattle.pp_resolve.specs.Links.{open_from, goals_of, before, after}
use Rattle.pp_resolve.specs.Acts.{does, values, items_by, ActsAs, Solves}
use Rattle.pp_resolve.specs.Engines.{goal_of, row_of, place_of, left, DoWait, AllWait, IsGood, IsSamePlace, IsPlace, IsRestAt, IsPlaceOf, BeginsAt, IsGoalAt, IsMet}
use Rattle.pp_resolve.specs.Events.{alternatives_of, follows, IsSolving, without, Solved}
use Rattle.pp_resolve.proofs.Linked.{other, goal_there, has_item}
use Rattle.pp_resolve.proofs.Open.{parts, before_wait}
use Rattle.pp_resolve.proofs.Moving.{goal_over_at, rest_at_place}
use Rattle.pp_resolve.proofs.Acting.{items_by-over}
use Rattle.pp_resolve.proofs.Following as so
use Rattle.pp_resolve.proofs.Following.{ended, stuck_all}

-- ===== events

nothing_in : (ws : List Way) → length ws ≡ 0 → ws ≡ []
nothing_in [] e = refl
nothing_in (w ∷ ws) e = absurd (omega (arith, e))

pub met : (clauses : Program) (p : Place) (n : ℕ) (e : Event) → e ≡ alternatives_of n → (ws : List Way) × (next clauses p.here ≡ choices ws) × (length ws ≡ n) → Stepped clauses p e p
met clauses p zero e is k = subst (λ x. Stepped clauses p x p) (sym is) (inr (inl (k.1 ∙ ap choices (nothing_in k.0 k.2))), refl)
met clauses p (suc n) e is k = subst (λ x. Stepped clauses p x p) (sym (is ∙ ap (λ b. cond b Failed (Choice (suc n))) (other (suc n) 0 (λ z. absurd (omega (arith, z)))))) (k.0, k.1, sym k.2, omega arith, refl)

-- a step from the same place
pub stepped_from : (old mid : Engine) (q : Place) (e : Event) → IsSamePlace old mid → Stepped (program mid.clauses.now) (place_of mid) e q → Stepped (program old.clauses.now) (place_of old) e q
stepped_from old mid q e s h =
    subst (λ cs. Stepped (program cs) (place_of old) e q) s.search.clauses (subst (λ p. Stepped (program mid.clauses.now) p e q) s.place h)

pub follows_same : (old mid : Engine) → IsSamePlace old mid → follows mid ≡ follows old
follows_same old mid s = ap (λ p. next (program mid.clauses.now) p.here) s.place ∙ ap (λ cs. next (program cs) (place_of old).here) s.search.clauses

-- ===== no goal is left that doesn't wait

no_goals : (gs : List (Goal ℕ)) → length gs ≡ 0 → gs ≡ []
no_goals [] e = refl
no_goals (g ∷ gs) e = absurd (omega (arith, e))

some_wait : (clauses : Program) (r : Row) (gs : List (Goal ℕ)) (columns : Trees ℕ) (deep : ℕ) → 0 < length gs → DoWait r gs → next clauses (config_in r gs columns deep) ≡ left_loose
some_wait clauses r [] columns deep w h = absurd (omega (arith, w))
some_wait clauses r (g ∷ gs) columns deep w h = stuck_all clauses r g gs columns deep h

module _ (e : Engine) (good : IsGood e) (wait : AllWait e) (none : left e ≡ []) where
  abbrev those : List (Goal ℕ)
  those = open_from e.clauses.now (goal_of e) e.history.suspended.done.items 0 e.history.suspended.goals.items

  all_open : goals_of e.clauses.now (goal_of e) (kept_of e.history) e.front ≡ those
  all_open = ap (λ gs. those ++ gs) none ∙ append-nil those

  pub at_end : e.front.waiting ≡ 0 → follows e ≡ finished
  at_end z =
      ap (λ gs. next (program e.clauses.now) (config_in (row_of e) gs e.columns.columns e.front.depth)) (all_open ∙ no_goals those (sym good.here.waiting ∙ z))
      ∙ ended (program e.clauses.now) (row_of e) e.columns.columns e.front.depth

  pub at_stop : 0 < e.front.waiting → follows e ≡ left_loose
  at_stop p =
      ap (λ gs. next (program e.clauses.now) (config_in (row_of e) gs e.columns.columns e.front.depth)) all_open
      ∙ some_wait (program e.clauses.now) (row_of e) those e.columns.columns e.front.depth (omega (arith, p, good.here.waiting)) (before_wait e.clauses.now (goal_of e) (row_of e) (kept_of e.history) None wait)

pub end_cost : (e : Engine) → IsGood e → AllWait e → left e ≡ [] → step_cost (follows e) ≡ 0
end_cost e good wait none = go e.front.waiting refl
  where
    go : (n : ℕ) → e.front.waiting ≡ n → step_cost (follows e) ≡ 0
    go zero z = ap step_cost (at_end e good wait none z)
    go (suc n) z = ap step_cost (at_stop e good wait none (omega (arith, z)))

-- ===== the goal at a place

begins_there : (k : Kept) (f : Front) (at : Option ℕ) → IsPlace k f at → (l : Rest) × IsRestAt k f at l
begins_there k f None p = (f.rest, refl)
begins_there k f (Some i) p = let s = has_item k.suspended i p.0 in (s.0.rest, (s.0, s.1, refl))

-- goals begin there
pub begins_at : (e : Engine) (at : Option ℕ) → IsPlaceOf e at → (l : Rest) × BeginsAt e at l
begins_at e at = begins_there (kept_of e.history) e.front at

-- a goal stands there
pub item_there : (e : Engine) (at : Option ℕ) (l : Rest) → IsGood e → IsPlaceOf e at → BeginsAt e at l → (g : Goal ℕ) × IsGoalAt e l g
item_there e at l good p b = let r = rest_at_place e at l good p b in goal_there e.clauses.now (goal_of e) (length e.history.links.items) l r.0 r.1

-- it is selected
module _ (e : Engine) (good : IsGood e) (s : Selected) (is : IsMet e s) (l : Rest) (begins : BeginsAt e s.at l) (g : Goal ℕ) (at : IsGoalAt e l g) where
  abbrev r : Row
  r = row_of e

  abbrev columns : Trees ℕ
  columns = e.columns.columns

  abbrev raw : Goal ℕ
  raw = put_goal (counted l.first) g

  abbrev ahead : List (Goal ℕ)
  ahead = before e.clauses.now (goal_of e) (kept_of e.history) s.at

  abbrev behind : List (Goal ℕ)
  behind = after e.clauses.now (goal_of e) (kept_of e.history) e.front s.at

  pub parts_are : goals_of e.clauses.now (goal_of e) (kept_of e.history) e.front ≡ ahead ++ raw ∷ behind
  parts_are = parts e.clauses.now (goal_of e) (kept_of e.history) e.front s.at l g is.there begins at

  pub wait_ahead : DoWait r ahead
  wait_ahead = before_wait e.clauses.now (goal_of e) r (kept_of e.history) s.at is.wait

  pub over : AreOver r (with_goals (ahead ++ raw ∷ behind) columns)
  over = subst (λ gs. AreOver r (with_goals gs columns)) parts_are good.here.over

  pub here_is : config_in r (ahead ++ raw ∷ behind) columns e.front.depth ≡ (place_of e).here
  here_is = ap (λ gs. config_in r gs columns e.front.depth) (sym parts_are)

  abbrev clauses : Program
  clauses = program e.clauses.now

  pub at_refused : does r raw ≡ Some never → follows e ≡ fails
  at_refused d = subst (λ c. next clauses c ≡ fails) here_is (so.refused clauses r good.here.row ahead raw behind columns e.front.depth over wait_ahead d)

  pub at_spent : (p : Predicate) → does r raw ≡ Some (calls p) → e.front.depth ≡ 0 → follows e ≡ left_loose
  at_spent p d z = subst (λ c. next clauses c ≡ left_loose) here_is (so.spent clauses r good.here.row ahead raw behind columns e.front.depth over wait_ahead p d z)

  pub at_called : (p : Predicate) → does r raw ≡ Some (calls p) → (d : ℕ) → e.front.depth ≡ suc d → (ws : List Way) × (follows e ≡ choices ws) × (length ws ≡ length (clauses p))
  at_called p h d k =
      let way = so.way clauses r good.here.row ahead raw behind columns e.front.depth over wait_ahead p h d k in
      (map way (clauses p), subst (λ c. next clauses c ≡ choices (map way (clauses p))) here_is (so.called clauses r good.here.row ahead raw behind columns e.front.depth over wait_ahead p h d k), length-map (clauses p) way)

  pub call_cost : (p : Predicate) → does r raw ≡ Some (calls p) → step_cost (follows e) ≡ 0
  call_cost p h = go e.front.depth refl
    where
      go : (n : ℕ) → e.front.depth ≡ n → step_cost (follows e) ≡ 0
      go zero z = ap step_cost (at_spent p h z)
      go (suc n) z = ap step_cost (at_called p h n z).1

  pub at_split : does r raw ≡ Some splits → (ws : List Way) × (follows e ≡ choices ws) × (length ws ≡ length (values r raw))
  at_split h =
      let way = so.value_way clauses r good.here.row ahead raw behind columns e.front.depth over wait_ahead h in
      (map way (values r raw), subst (λ c. next clauses c ≡ choices (map way (values r raw))) here_is (so.split_follows clauses r good.here.row ahead raw behind columns e.front.depth over wait_ahead h), length-map (values r raw) way)

  module _ (js : List (Item ℕ)) (js_over : All (IsItemOver r) js) (h : does r raw ≡ Some (solves (map (item_in r) js))) where
    abbrev way : Way
    way = so.solving clauses r good.here.row ahead raw behind columns e.front.depth over wait_ahead js js_over

    pub solved_next : follows e ≡ one way
    solved_next = subst (λ c. next clauses c ≡ one way) here_is (so.solved_follows clauses r good.here.row ahead raw behind columns e.front.depth over wait_ahead js js_over h)

    pub solved_went : (q : Row) → AreDecided r js true q → (v : Way) × (follows e ≡ one v) × Leads v (without e s.at q)
    solved_went q a = (way, solved_next, so.solved_leads clauses r good.here.row ahead raw behind columns e.front.depth over wait_ahead js js_over h q a)

    pub solved_failed : (q : Row) → AreDecided r js false q → (v : Way) × (follows e ≡ one v) × IsDead v
    solved_failed q a = (way, solved_next, so.solved_dead clauses r good.here.row ahead raw behind columns e.front.depth over wait_ahead js js_over h q a)

pub solves_of : (cs : List Clause) (r : Row) (g : Goal ℕ) (a : Act) → IsSolving a → ActsAs cs r g a → Solves r g a
solves_of cs r g Wait s h = absurd s
solves_of cs r g Fail s h = absurd s
solves_of cs r g Hold s h = h
solves_of cs r g Equate s h = h
solves_of cs r g Narrow s h = h
solves_of cs r g (Bind i n) s h = h
solves_of cs r g Split s h = absurd s
solves_of cs r g (Call n) s h = absurd s

-- what is solved of the selected goal
module _ (e : Engine) (good : IsGood e) (s : Selected) (is : IsMet e s) (solving : IsSolving s.act) (l : Rest) (begins : BeginsAt e s.at l) (g : Goal ℕ) (at : IsGoalAt e l g) where
  abbrev its : Goal ℕ
  its = put_goal (counted l.first) g

  abbrev what : List (Item ℕ)
  what = items_by its.shape its.arguments s.act

  what_over : All (IsItemOver (row_of e)) what
  what_over = items_by-over (row_of e) its.shape its.arguments s.act (goal_over_at e s.at l g good is.there begins at)

  solves_what : Solves (row_of e) its s.act
  solves_what = solves_of e.clauses.now (row_of e) its s.act solving (is.looks l begins g at).0

  pub solving_cost : step_cost (follows e) ≡ 1
  solving_cost = ap step_cost (solved_next e good s is l begins g at what what_over solves_what)

  pub performs : (q : Row) → AreDecided (row_of e) what true q → (v : Way) × (follows e ≡ one v) × Leads v (without e s.at q)
  performs = solved_went e good s is l begins g at what what_over solves_what

  pub fails_to : (q : Row) → AreDecided (row_of e) what false q → (v : Way) × (follows e ≡ one v) × IsDead v
  fails_to = solved_failed e good s is l begins g at what what_over solves_what

-- the same by what was solved at its place
module _ (e : Engine) (good : IsGood e) (s : Selected) (is : IsMet e s) (solving : IsSolving s.act) where
  abbrev l : (l : Rest) × BeginsAt e s.at l
  l = begins_at e s.at is.there

  abbrev g : (g : Goal ℕ) × IsGoalAt e (l).0 g
  g = item_there e s.at (l).0 good is.there (l).1

  pub solved_cost : step_cost (follows e) ≡ 1
  solved_cost = solving_cost e good s is solving (l).0 (l).1 (g).0 (g).1

  pub solved_step : (n : Engine) → Solved e s.at s.act true n → (v : Way) × (follows e ≡ one v) × Leads v (place_of n).here
  solved_step n h =
      let k = performs e good s is solving (l).0 (l).1 (g).0 (g).1 (row_of n) (h.0 (l).0 (g).0 (l).1 (g).1) in
      (k.0, k.1, subst (Leads k.0) (sym h.1) k.2)

  pub failed_step : (n : Engine) → Solved e s.at s.act false n → (v : Way) × (follows e ≡ one v) × IsDead v
  failed_step n h =
      let q = h.0 (l).0 (g).0 (l).1 (g).1 in
      fails_to e good s is solving (l).0 (l).1 (g).0 (g).1 q.0 q.1
