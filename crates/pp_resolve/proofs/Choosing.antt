-- An engine takes an alternative of the selected goal.
use Rattle.std.proofs.Common.{◌≡◌, inl, inr, ℕ, ℤ, zero, suc, ◌-◌, ◌^◌, ◌<◌, ◌≤◌, Bool, true, false, List, [], ◌∷◌, ◌++◌, length, map, take, drop, reverse, All, Option, Some, None, refl, ap, sym, ◌∙◌, subst, arith, append_assoc}
use Rattle.std.specs.List.{slice_get}
use Rattle.std.proofs.lemmas.List.{take_all}
use Rattle.std.proofs.lemmas.List.Elements.{All-head, All-tail}
use Rattle.pp_algebra.specs.Members.{IsInteger}
use Rattle.pp_algebra.specs.Terms.{Trees, none, put_all, variables_all, count}
use Rattle.pp_algebra.specs.Rows.{Row, IsRow}
use Rattle.pp_algebra.specs.Covers.{IsIn}
use Rattle.pp_algebra.specs.Givens.{givens}
use Rattle.pp_algebra.specs.Solve.{Item}
use Rattle.pp_algebra.proofs.Antisym.{IsIn-either}
use Rattle.pp_sld.specs.BuiltIns as built
use Rattle.pp_sld.specs.Goals as goals
use Rattle.pp_sld.specs.Goals.{Predicate, user, equals, member, test, put_goal, with_goals}
use Rattle.pp_sld.specs.Selection.{calls, solves, splits, act_of, act_by}
use Rattle.pp_sld.specs.Ways.{left_loose, one, next, values_of}
use Rattle.pp_sld.specs.Reach.{Chosen}
use Rattle.pp_term.specs.declared.pred.Pred.{Pred}
use Rattle.pp_term.specs.declared.clause.Goal.{Goal}
use Rattle.pp_term.specs.declared.clause.Goal.TheVariants.{Call, Equate, Member, Compare}
use Rattle.pp_term.specs.declared.clause.Clause.{Clause}
use Rattle.pp_term.specs.Meanings.{predicate_of, goal_of, clause_of, program}
use Rattle.pp_term.specs.WellFormed.{IsGoal, IsClause}
use Rattle.pp_row.specs.Columns.{trees_of}
use Rattle.pp_row.specs.Reading.{forest}
use Rattle.pp_clause.specs.declared.goal_at.GoalAt.{GoalAt}
use Rattle.pp_clause.specs.Predicates.{Names}
use Rattle.pp_clause.specs.Places.{IsClauseAt}
use Rattle.pp_unify.specs.States.{present, value_in, with_many, IsLonger}
use Rattle.pp_unify.specs.Forests.{AreOver, AreDecided, pairs, counted_all}
use Rattle.pp_goal.specs.Arguments.{IsLent, terms_of, terms_in}
use Rattle.pp_goal.specs.Acts.{IsReady}
use Rattle.pp_goal.specs.declared.acts.Act.{Act}
use Rattle.pp_goal.specs.declared.acts.Act.TheVariants as acts
use Rattle.pp_walk.specs.Moves.{HasChoice, IsDeadAt}
use Rattle.pp_walk.specs.Places.{Place}
use Rattle.pp_resolve.specs.declared.history.Rest.{Rest}
use Rattle.pp_resolve.specs.declared.history.Front.{Front}
use Rattle.pp_resolve.specs.declared.history.Selected.{Selected}
use Rattle.pp_resolve.specs.declared.engine.Engine.{Engine}
use Rattle.pp_resolve.specs.Standing.{counted, config_in}
use Rattle.pp_resolve.specs.Kept.{kept_of}
use Rattle.pp_resolve.specs.Links.{after_first, goals_at, body_of, piece, below, before, after, goals_in, goals_of, IsFormedAt, IsRest}
use Rattle.pp_resolve.specs.Shown.{width_of, IsShown}
use Rattle.pp_resolve.specs.Acts.{does, values, ActsAs}
use Rattle.pp_resolve.specs.Engines as engines
use Rattle.pp_resolve.specs.Engines.{config_of, Stands, row_of, place_of, left, DoWait, AllWait, IsKept, IsGood, IsSamePlace, IsGoalAt, BeginsAt, IsMetIn, IsMet, IsLinkOf}
use Rattle.pp_resolve.specs.Events.{follows, selected_as, without, Solved, IsNext, Took}
use Rattle.pp_resolve.proofs.Linked.{goal_there}
use Rattle.pp_resolve.proofs.Saved.{history_longer}
use Rattle.pp_resolve.proofs.Moving.{carried, left_still, met_still, goal_over_at}
use Rattle.pp_resolve.proofs.Showing.{shown_lent}
use Rattle.pp_resolve.proofs.Following as so
use Rattle.pp_resolve.proofs.Stepping.{begins_at, item_there, wait_ahead, over, here_is, at_spent, at_called, at_split, at_refused, at_end, at_stop}
use Rattle.pp_resolve.proofs.Solving.{waits_later, suspended_later}

-- ===== states that are longer

pub kept_longer : (e : Engine) (rs : List Row) (f : Front) → IsKept e → IsLonger e.history.bindings rs → IsKept (record { clauses = e.clauses; root = e.root; columns = e.columns; history = record e.history { bindings = rs }; front = f })
kept_longer e rs f k l =
    let longer = history_longer e.history rs l k.fit in
    record { fit = longer.1; kept = subst (All (Stands e.clauses.now (engines.goal_of e) e.columns.columns)) (sym longer.0) k.kept; root = k.root }

pub above_longer : (e : Engine) (rs : List Row) (f : Front) → IsKept e → IsLonger e.history.bindings rs → (place_of (record { clauses = e.clauses; root = e.root; columns = e.columns; history = record e.history { bindings = rs }; front = f })).above ≡ (place_of e).above
above_longer e rs f k l = ap (map (config_of e.clauses.now (engines.goal_of e) e.columns.columns)) (history_longer e.history rs l k.fit).0

pub took_true : (old new : Engine) (k : ℕ) (b : Bool) → b ≡ true → Chosen (program old.clauses.now) (place_of old).here k (place_of new).here → Took old k b new
took_true old new k b t h = subst (λ x. Took old k x new) (sym t) h

pub took_false : (old new : Engine) (k : ℕ) (b : Bool) → b ≡ false → IsDeadAt (program old.clauses.now) (place_of old).here k → place_of new ≡ place_of old → Took old k b new
took_false old new k b t h p = subst (λ x. Took old k x new) (sym t) (h, p)

-- ===== states that are the same again

abbrev with_states : Engine → List Row → Engine
with_states e rs = record { clauses = e.clauses; root = e.root; columns = e.columns; history = record e.history { bindings = rs }; front = e.front }

pub good_again : (e : Engine) (rs : List Row) → rs ≡ e.history.bindings → IsGood e → IsGood (with_states e rs)
good_again e rs b g = subst (λ x. IsGood (with_states e x)) (sym b) g

pub place_again : (e : Engine) (rs : List Row) → rs ≡ e.history.bindings → place_of (with_states e rs) ≡ place_of e
place_again e rs b = ap (λ x. place_of (with_states e x)) b

-- where it stood before it took the choice
pub back_again : (p q r : Place) (b : Bool) → p.above ≡ q.here ∷ q.above → (b ≡ false → p.above ≡ []) → (b ≡ true → p.above ≡ r.here ∷ r.above) → r ≡ q
back_again p q r false h empty more = absurd (cc (sym (empty refl) ∙ h))
back_again p q r true h empty more =
    let e : r.here ∷ r.above ≡ q.here ∷ q.above = sym (more refl) ∙ h in
    let here : r.here ≡ q.here = cc e in
    let above : r.above ≡ q.above = cc e in
    ap (λ x. let y : Place = record { above = x; here = r.here } in y) above ∙ ap (λ x. let y : Place = record { above = q.above; here = x } in y) here

-- ===== variables of bodies

goal_below : (n : ℕ) (g : Goal) → IsGoal n g → (v : ℕ) → IsIn v (variables_all (goal_of g).arguments) → v < n
goal_below n (Call s ts) h v i = h.below v i
goal_below n (Equate a b) h v i = h v i
goal_below n (Member t d) h v i = h v i
goal_below n (Compare r a b) h v i = h v i

body_below : (n : ℕ) (gs : List Goal) → All (IsGoal n) gs → (v : ℕ) → IsIn v (variables_all (with_goals (map goal_of gs) none)) → v < n
body_below n [] h v i = absurd i
body_below n (g ∷ gs) h v i = elim (IsIn-either v (variables_all (goal_of g).arguments) (variables_all (with_goals (map goal_of gs) none)) i) [
  | inl j ↦ goal_below n g (All-head (IsGoal n) g gs h) v j
  | inr j ↦ body_below n gs (All-tail (IsGoal n) g gs h) v j
]

-- ===== what calls is a call

never_calls : (ts : Trees ℕ) (d : built.Decision) (p : Predicate) → act_of ts d ≡ Some (calls p) → ⊥
never_calls ts built.wait p e = absurd (cc e)
never_calls ts built.fail p e = absurd (cc e)
never_calls ts built.hold p e = absurd (cc e)
never_calls ts built.split p e = absurd (cc e)
never_calls ts (built.bind i n) p e = absurd (cc e)

shape_called : (r : Row) (ts : Trees ℕ) (s : goals.Shape) (p : Predicate) → act_by r.domains ts s ≡ Some (calls p) → s ≡ user p
shape_called r ts (user q) p e = let f : q ≡ p = cc e in ap user f
shape_called r ts equals p e = absurd (cc e)
shape_called r ts (member d) p e = absurd (cc e)
shape_called r ts (test t) p e = absurd (never_calls ts (built.decide t (givens r.domains ts)) p e)

-- ===== a call

module _ (e : Engine) (good : IsGood e) (n : ℕ) (met : IsMet e (selected_as None (acts.Call n))) where
  abbrev cs : List Clause
  cs = e.clauses.now

  abbrev what : Selected
  what = selected_as None (acts.Call n)

  abbrev there : (g : goals.Goal ℕ) × IsGoalAt e e.front.rest g
  there = goal_there cs (engines.goal_of e) (length e.history.links.items) e.front.rest good.here.rest met.there

  abbrev raw : goals.Goal ℕ
  raw = put_goal (counted e.front.rest.first) (there).0

  abbrev named : (p : Pred) × Names cs n p × (does (row_of e) raw ≡ Some (calls (predicate_of p)))
  named = (met.looks e.front.rest refl (there).0 (there).1).0

  abbrev p : Pred
  p = (named).0

  pub call_lent : (d : GoalAt) → ((g : goals.Goal ℕ) → IsGoalAt e e.front.rest g → IsShown cs g d) → IsLent (row_of e) d e.front.rest.first
  call_lent d shown = shown_lent cs (row_of e) (there).0 d e.front.rest.first (shown (there).0 (there).1) (goal_over_at e None e.front.rest (there).0 good met.there refl (there).1)

  module _ (place : ℕ) (choice : HasChoice (program cs) (place_of e).here place) where
    pub left_depth : (d : ℕ) × (e.front.depth ≡ suc d) × (place < length (program cs (predicate_of p)))
    left_depth = go e.front.depth refl
      where
        go : (k : ℕ) → e.front.depth ≡ k → (d : ℕ) × (e.front.depth ≡ suc d) × (place < length (program cs (predicate_of p)))
        go zero z = absurd (cc (sym (at_spent e good what met e.front.rest refl (there).0 (there).1 (predicate_of p) (named).2 z) ∙ choice.1))
        go (suc d) z =
            let k = at_called e good what met e.front.rest refl (there).0 (there).1 (predicate_of p) (named).2 d z in
            let same : k.0 ≡ choice.0 = cc (sym k.1 ∙ choice.1) in
            (d, z, omega (arith, choice.2, ap length same, k.2))

    pub called_pred : (x : Pred) × Names cs n x × (place < length (program cs (predicate_of x)))
    called_pred = (p, (named).1, (left_depth).2)

    module _ (number : ℕ) (its : (x : Pred) → Names cs n x → (c : Clause) × IsClauseAt cs x place number c) where
      abbrev c : Clause
      c = (its p (named).1).0

      abbrev at : IsClauseAt cs p place number c
      at = (its p (named).1).1

      only : (x : Clause) → slice_get cs number ≡ Some x → c ≡ x
      only x f = cc (sym (at).at ∙ f)

      pub clause_formed : (x : Clause) → slice_get cs number ≡ Some x → IsClause x
      clause_formed x f = subst IsClause (only x f) (at).formed

      pub clause_width : (d : GoalAt) → ((g : goals.Goal ℕ) → IsGoalAt e e.front.rest g → IsShown cs g d) → (x : Clause) → slice_get cs number ≡ Some x → length x.head ≡ count (forest d.arguments.now)
      clause_width d shown x f =
          let s = shown (there).0 (there).1 in
          let shape = shape_called (row_of e) (put_goal (value_in (row_of e)) raw).arguments (there).0.shape (predicate_of p) (named).2 in
          ap (λ y. length y.head) (sym (only x f))
          ∙ (at).formed.head.count
          ∙ ap (λ q. q.arity) (at).predicate
          ∙ sym (ap count s.arguments ∙ s.full ∙ ap width_of shape)

      module _ (d : GoalAt) (shown : (g : goals.Goal ℕ) → IsGoalAt e e.front.rest g → IsShown cs g d) (q : Row) (b : Bool)
          (entered : (x : Clause) → slice_get cs number ≡ Some x → AreDecided (with_many (row_of e) x.vars) (pairs (count (row_of e).columns) (trees_of x.head) e.front.rest.first (forest d.arguments.now)) b q) where
        abbrev ahead : List (goals.Goal ℕ)
        ahead = before cs (engines.goal_of e) (kept_of e.history) None

        abbrev behind : List (goals.Goal ℕ)
        behind = after cs (engines.goal_of e) (kept_of e.history) e.front None

        abbrev wait : DoWait (row_of e) ahead
        wait = wait_ahead e good what met e.front.rest refl (there).0 (there).1

        abbrev cl : goals.Clause
        cl = (clause_of c).1

        decided : AreDecided (with_many (row_of e) c.vars) (pairs (count (row_of e).columns) (trees_of c.head) e.front.rest.first (there).0.arguments) b q
        decided = subst (λ ts. AreDecided (with_many (row_of e) c.vars) (pairs (count (row_of e).columns) (trees_of c.head) e.front.rest.first ts) b q) (shown (there).0 (there).1).arguments (entered c (at).at)

        abbrev o : AreOver (row_of e) (with_goals (ahead ++ raw ∷ behind) e.columns.columns)
        o = over e good what met e.front.rest refl (there).0 (there).1

        abbrev same : config_in (row_of e) (ahead ++ raw ∷ behind) e.columns.columns e.front.depth ≡ (place_of e).here
        same = here_is e good what met e.front.rest refl (there).0 (there).1

        pub call_fails : b ≡ false → IsDeadAt (program cs) (place_of e).here place
        call_fails f =
            subst (λ x. IsDeadAt (program cs) x place) same
            (so.call_failed (program cs) (row_of e) good.here.row ahead raw behind e.columns.columns e.front.depth o wait (predicate_of p) (named).2 (left_depth).0 (left_depth).1 place cl (at).nth c.vars (at).formed.head.below (body_below c.vars c.body (at).formed.body) q
            (subst (λ x. AreDecided (with_many (row_of e) c.vars) (pairs (count (row_of e).columns) (trees_of c.head) e.front.rest.first (there).0.arguments) x q) f decided))

        module _ (t : b ≡ true) (first to nx : ℕ) (is_first : first ≡ count (row_of e).columns) (is_to : (x : Clause) → slice_get cs number ≡ Some x → to ≡ length x.body) (small : to < 2 ^ 32) (linked : IsNext e nx) where
          abbrev rest : Rest
          rest = record { body = Some number; from = 0; to = to; first = first; next = nx }

          abbrev front : Front
          front = record { waiting = e.front.waiting; waits = e.front.waits; rest = rest; depth = e.front.depth - 1; selected = None }

          solved : AreDecided (with_many (row_of e) c.vars) (pairs (count (row_of e).columns) (trees_of c.head) e.front.rest.first (there).0.arguments) true q
          solved = subst (λ x. AreDecided (with_many (row_of e) c.vars) (pairs (count (row_of e).columns) (trees_of c.head) e.front.rest.first (there).0.arguments) x q) t decided

          body_is : body_of cs (engines.goal_of e) (Some number) ≡ map goal_of c.body
          body_is = ap goals_at (at).at

          mapped : (gs : List Goal) → length (map goal_of gs) ≡ length gs
          mapped [] = refl
          mapped (g ∷ gs) = ap suc (mapped gs)

          piece_is : piece cs (engines.goal_of e) rest ≡ map (put_goal (counted (count (row_of e).columns))) (map goal_of c.body)
          piece_is =
              let size : to - 0 ≡ to = omega arith in
              ap (λ k. map (put_goal (counted first)) (take k (drop 0 (body_of cs (engines.goal_of e) (Some number))))) size
              ∙ ap (λ gs. map (put_goal (counted first)) (take to gs)) body_is
              ∙ ap (map (put_goal (counted first))) (take_all to (map goal_of c.body) (omega (arith, mapped c.body, is_to c (at).at)))
              ∙ ap (λ k. map (put_goal (counted k)) (map goal_of c.body)) is_first

          abbrev all : List (goals.Goal ℕ)
          all = ahead ++ map (put_goal (counted (count (row_of e).columns))) (map goal_of c.body) ++ behind

          goals_are : goals_of cs (engines.goal_of e) (kept_of e.history) front ≡ all
          goals_are =
              ap (λ gs. ahead ++ (gs ++ below cs (engines.goal_of e) (reverse e.history.links.items) nx)) piece_is
              ∙ ap (λ gs. ahead ++ (map (put_goal (counted (count (row_of e).columns))) (map goal_of c.body) ++ gs)) linked.0
              ∙ sym (append_assoc ahead (map (put_goal (counted (count (row_of e).columns))) (map goal_of c.body)) behind)

          less : (left_depth).0 ≡ e.front.depth - 1
          less = let z = (left_depth).1 in omega (arith, z)

          there_is : config_in q all e.columns.columns (left_depth).0 ≡ config_in q (goals_of cs (engines.goal_of e) (kept_of e.history) front) e.columns.columns (e.front.depth - 1)
          there_is = ap (λ gs. config_in q gs e.columns.columns (left_depth).0) (sym goals_are) ∙ ap (config_in q (goals_of cs (engines.goal_of e) (kept_of e.history) front) e.columns.columns) less

          pub call_takes : Chosen (program cs) (place_of e).here place (config_in q (goals_of cs (engines.goal_of e) (kept_of e.history) front) e.columns.columns (e.front.depth - 1))
          call_takes =
              subst (Chosen (program cs) (place_of e).here place) there_is
              (subst (λ x. Chosen (program cs) x place (config_in q all e.columns.columns (left_depth).0)) same
              (so.call_chosen (program cs) (row_of e) good.here.row ahead raw behind e.columns.columns e.front.depth o wait (predicate_of p) (named).2 (left_depth).0 (left_depth).1 place cl (at).nth c.vars (at).formed.head.below (body_below c.vars c.body (at).formed.body) q solved))

          more : count (row_of e).columns ≤ count q.columns
          more = so.call_count (program cs) (row_of e) good.here.row ahead raw behind e.columns.columns e.front.depth o wait (predicate_of p) (named).2 (left_depth).0 (left_depth).1 place cl (at).nth c.vars (at).formed.head.below (body_below c.vars c.body (at).formed.body) q solved

          pub call_good : (rs : List Row) → present rs ≡ q → IsLonger e.history.bindings rs → IsGood (record { clauses = e.clauses; root = e.root; columns = e.columns; history = record e.history { bindings = rs }; front = front })
          call_good rs pr l = record {
            ready = kept_longer e rs front good.ready l;
            here = record {
              row = subst IsRow (sym pr) (so.call_row (program cs) (row_of e) good.here.row ahead raw behind e.columns.columns e.front.depth o wait (predicate_of p) (named).2 (left_depth).0 (left_depth).1 place cl (at).nth c.vars (at).formed.head.below (body_below c.vars c.body (at).formed.body) q solved);
              over = subst (λ x. AreOver x (with_goals (goals_of cs (engines.goal_of e) (kept_of e.history) front) e.columns.columns)) (sym pr) (subst (λ gs. AreOver q (with_goals gs e.columns.columns)) (sym goals_are)
                  (so.call_over (program cs) (row_of e) good.here.row ahead raw behind e.columns.columns e.front.depth o wait (predicate_of p) (named).2 (left_depth).0 (left_depth).1 place cl (at).nth c.vars (at).formed.head.below (body_below c.vars c.body (at).formed.body) q solved));
              rest = record { formed = subst IsFormedAt (sym (at).at) (at).formed; from = omega arith; to = omega (arith, ap length body_is, mapped c.body, is_to c (at).at); next = linked.1; small = small };
              links = good.here.links;
              suspended = suspended_later cs (engines.goal_of e) (row_of e) (present rs) e.history.suspended.goals.items e.history.suspended.done.items (subst (λ x. count (row_of e).columns ≤ count x.columns) (sym pr) more) good.here.suspended;
              waiting = good.here.waiting;
              waits = waits_later cs (engines.goal_of e) (kept_of e.history) rs e.front.waits l good.here.waits;
              known = tt;
            };
          }

-- the link that was made stands for the goals after the first
pub next_linked : (a b : Engine) (more : List Rest) (n : ℕ) → IsSamePlace a b → b.front ≡ a.front → b.history.links.items ≡ a.history.links.items ++ more → IsRest a.clauses.now (engines.goal_of a) (length a.history.links.items) a.front.rest → IsLinkOf a b (after_first a.front.rest) n → IsNext b n
next_linked a b more n s f new r k = (
  k.0
      ∙ carried (λ cs root rs. goals_in a.clauses.now (engines.goal_of a) a.history.links.items (after_first a.front.rest) ≡ goals_in cs root a.history.links.items (after_first a.front.rest)) a b s refl
      ∙ sym (left_still b.clauses.now (engines.goal_of b) a.history.links.items b.history.links.items more (after_first a.front.rest) new r.next)
      ∙ ap (λ x. goals_in b.clauses.now (engines.goal_of b) b.history.links.items (after_first x.rest)) (sym f),
  k.1,
)

-- the same goal is selected
pub met_linked : (a b : Engine) (s : Selected) → IsSamePlace a b → b.front ≡ a.front → b.history.suspended ≡ a.history.suspended → IsMet a s → IsMet b s
met_linked a b s same f u m =
    carried (λ cs root rs. IsMetIn cs root (present rs) (kept_of b.history) b.front s) a b same
    (met_still a.clauses.now (engines.goal_of a) (row_of a) (kept_of a.history) (kept_of b.history) a.front b.front (ap (λ x. x.goals.items) u) (ap (λ x. x.done.items) u) (ap (λ x. x.rest) f) s m)

pub choice_same : (a b : Engine) (k : ℕ) → IsSamePlace a b → HasChoice (program a.clauses.now) (place_of a).here k → HasChoice (program b.clauses.now) (place_of b).here k
choice_same a b k s h = subst (λ p. HasChoice (program b.clauses.now) p.here k) (sym s.place) (subst (λ cs. HasChoice (program cs) (place_of a).here k) (sym s.search.clauses) h)

pub took_from : (a b c : Engine) (k : ℕ) (x : Bool) → IsSamePlace a b → Took b k x c → Took a k x c
took_from a b c k true s h = subst (λ p. Chosen (program a.clauses.now) p.here k (place_of c).here) s.place (subst (λ cs. Chosen (program cs) (place_of b).here k (place_of c).here) s.search.clauses h)
took_from a b c k false s h = (subst (λ p. IsDeadAt (program a.clauses.now) p.here k) s.place (subst (λ cs. IsDeadAt (program cs) (place_of b).here k) s.search.clauses h.0), h.1 ∙ s.place)

-- ===== a split

module _ (e : Engine) (good : IsGood e) (at : Option ℕ) (met : IsMet e (selected_as at acts.Split)) (l : Rest) (begins : BeginsAt e at l) (d : GoalAt) (shown : (g : goals.Goal ℕ) → IsGoalAt e l g → IsShown e.clauses.now g d) where
  abbrev item : (g : goals.Goal ℕ) × IsGoalAt e l g
  item = item_there e at l good met.there begins

  abbrev whole : goals.Goal ℕ
  whole = put_goal (counted l.first) (item).0

  abbrev seen : IsShown e.clauses.now (item).0 d
  seen = shown (item).0 (item).1

  abbrev splitting : does (row_of e) whole ≡ Some splits
  splitting = (met.looks l begins (item).0 (item).1).0

  pub split_one : count (forest d.arguments.now) ≡ 1
  split_one = ap count (seen).arguments ∙ (met.looks l begins (item).0 (item).1).1

  -- the first argument can be bound
  pub split_ready : (n : ℤ) → IsInteger n → (m : Rest) (g : goals.Goal ℕ) → BeginsAt e at m → IsGoalAt e m g → IsReady (count g.arguments) (acts.Bind 0 n)
  split_ready n z m g b is = let one = (met.looks m b g is).1 in (omega (arith, one), z)

  terms_are : terms_of d l.first ≡ (whole).arguments
  terms_are = ap (counted_all l.first) (seen).arguments

  values_are : values_of (row_of e).domains (terms_in (row_of e) d l.first) ≡ values (row_of e) whole
  values_are = ap (λ ts. values_of (row_of e).domains (put_all (value_in (row_of e)) ts)) terms_are

  module _ (place : ℕ) (choice : HasChoice (program e.clauses.now) (place_of e).here place) where
    pub split_place : place < length (values_of (row_of e).domains (terms_in (row_of e) d l.first))
    split_place =
        let k = at_split e good (selected_as at acts.Split) met l begins (item).0 (item).1 splitting in
        let same : k.0 ≡ choice.0 = cc (sym k.1 ∙ choice.1) in
        omega (arith, choice.2, ap length same, k.2, ap length values_are)

    module _ (n : ℤ) (found : slice_get (values_of (row_of e).domains (terms_in (row_of e) d l.first)) place ≡ Some n) (new : Engine) where
      abbrev front_goals : List (goals.Goal ℕ)
      front_goals = before e.clauses.now (engines.goal_of e) (kept_of e.history) at

      abbrev back_goals : List (goals.Goal ℕ)
      back_goals = after e.clauses.now (engines.goal_of e) (kept_of e.history) e.front at

      abbrev they_wait : DoWait (row_of e) front_goals
      they_wait = wait_ahead e good (selected_as at acts.Split) met l begins (item).0 (item).1

      abbrev they_over : AreOver (row_of e) (with_goals (front_goals ++ whole ∷ back_goals) e.columns.columns)
      they_over = over e good (selected_as at acts.Split) met l begins (item).0 (item).1

      abbrev stand : config_in (row_of e) (front_goals ++ whole ∷ back_goals) e.columns.columns e.front.depth ≡ (place_of e).here
      stand = here_is e good (selected_as at acts.Split) met l begins (item).0 (item).1

      value_there : slice_get (values (row_of e) whole) place ≡ Some n
      value_there = ap (λ ns. slice_get ns place) (sym values_are) ∙ found

      pub split_takes : Solved e at (acts.Bind 0 n) true new → Chosen (program e.clauses.now) (place_of e).here place (place_of new).here
      split_takes h =
          subst (Chosen (program e.clauses.now) (place_of e).here place) (sym h.1)
          (subst (λ x. Chosen (program e.clauses.now) x place (without e at (row_of new))) stand
          (so.value_chosen (program e.clauses.now) (row_of e) good.here.row front_goals whole back_goals e.columns.columns e.front.depth they_over they_wait splitting place n value_there (row_of new) (h.0 l (item).0 begins (item).1)))

      pub split_fails : Solved e at (acts.Bind 0 n) false new → IsDeadAt (program e.clauses.now) (place_of e).here place
      split_fails h =
          let q = h.0 l (item).0 begins (item).1 in
          subst (λ x. IsDeadAt (program e.clauses.now) x place) stand
          (so.value_failed (program e.clauses.now) (row_of e) good.here.row front_goals whole back_goals e.columns.columns e.front.depth they_over they_wait splitting place n value_there q.0 q.1)

      pub split_took : (b : Bool) → Solved e at (acts.Bind 0 n) b new → Took e place b new
      split_took true h = split_takes h
      split_took false h = (split_fails h, h.1)

-- ===== without a choice

none_ahead : (e : Engine) (k : ℕ) → follows e ≡ left_loose → HasChoice (program e.clauses.now) (place_of e).here k → ⊥
none_ahead e k f h = absurd (cc (sym f ∙ h.1))

pub ended_chooses : (e : Engine) (k : ℕ) → IsGood e → AllWait e → left e ≡ [] → HasChoice (program e.clauses.now) (place_of e).here k → ⊥
ended_chooses e k good wait empty h = go e.front.waiting refl
  where
    go : (n : ℕ) → e.front.waiting ≡ n → ⊥
    go zero z = absurd (cc (sym (at_end e good wait empty z) ∙ h.1))
    go (suc n) z = none_ahead e k (at_stop e good wait empty (omega (arith, z))) h

module _ (e : Engine) (k : ℕ) (good : IsGood e) (at : Option ℕ) (act : Act) (met : IsMet e (selected_as at act)) (h : HasChoice (program e.clauses.now) (place_of e).here k) where
  abbrev l : (l : Rest) × BeginsAt e at l
  l = begins_at e at met.there

  abbrev g : (g : goals.Goal ℕ) × IsGoalAt e (l).0 g
  g = item_there e at (l).0 good met.there (l).1

  abbrev its : goals.Goal ℕ
  its = put_goal (counted (l).0.first) (g).0

  never_solves : (is : List (Item ℕ)) → does (row_of e) its ≡ Some (solves is) → ⊥
  never_solves is s =
      let ahead = before e.clauses.now (engines.goal_of e) (kept_of e.history) at in
      let behind = after e.clauses.now (engines.goal_of e) (kept_of e.history) e.front at in
      let o = so.solves_one (program e.clauses.now) (row_of e) good.here.row ahead its behind e.columns.columns e.front.depth (over e good (selected_as at act) met (l).0 (l).1 (g).0 (g).1) (wait_ahead e good (selected_as at act) met (l).0 (l).1 (g).0 (g).1) is s in
      let f : follows e ≡ one o.0 = ap (next (program e.clauses.now)) (sym (here_is e good (selected_as at act) met (l).0 (l).1 (g).0 (g).1)) ∙ o.1 in
      absurd (cc (sym f ∙ h.1))

  -- what is neither a call nor a split has no alternatives
  pub no_choice : ((n : ℕ) → act ≡ acts.Call n → ⊥) → (act ≡ acts.Split → ⊥) → ⊥
  no_choice call split = go act refl (met.looks (l).0 (l).1 (g).0 (g).1).0
    where
      go : (a : Act) → act ≡ a → ActsAs e.clauses.now (row_of e) its a → ⊥
      go acts.Wait is s = met.ready is
      go acts.Fail is s = absurd (cc (sym (at_refused e good (selected_as at act) met (l).0 (l).1 (g).0 (g).1 s) ∙ h.1))
      go acts.Hold is s = never_solves _ s
      go acts.Equate is s = never_solves _ s
      go acts.Narrow is s = never_solves _ s
      go (acts.Bind i n) is s = never_solves _ s
      go acts.Split is s = split is
      go (acts.Call n) is s = call n is

-- a suspended goal is no call
pub no_call : (e : Engine) (i n : ℕ) → IsGood e → IsMet e (selected_as (Some i) (acts.Call n)) → ⊥
no_call e i n good met =
    let l = begins_at e (Some i) met.there in
    let g = item_there e (Some i) l.0 good met.there l.1 in
    let raw = put_goal (counted l.0.first) g.0 in
    let named = (met.looks l.0 l.1 g.0 g.1).0 in
    let t = l.1.0 in
    let at = subst (λ x. IsGoalAt e x g.0) l.1.2 g.1 in
    (good.here.suspended.goals i t l.1.1).waits g.0 at (predicate_of named.0) (shape_called (row_of e) (put_goal (value_in (row_of e)) raw).arguments g.0.shape (predicate_of named.0) named.2)
