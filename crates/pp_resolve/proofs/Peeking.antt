-- How many alternatives there are, by the selected goal.
use Rattle.std.proofs.Common.{◌≡◌, ℕ, zero, suc, ◌<◌, ◌≤◌, ◌⊎◌, inl, inr, List, [], ◌∷◌, ◌++◌, length, map, Some, refl, ap, sym, ◌∙◌, subst, arith}
use Rattle.std.specs.List.{slice_get}
use Rattle.std.proofs.lemmas.Bool.{cases_lt}
use Rattle.std.proofs.lemmas.List.{length-map}
use Rattle.pp_algebra.specs.Rows.{Row}
use Rattle.pp_algebra.specs.Solve.{Item}
use Rattle.pp_sld.specs.Goals.{Program, Predicate, Clause, Goal, put_goal, with_goals}
use Rattle.pp_sld.specs.Selection.{solves, calls, never, splits}
use Rattle.pp_sld.specs.Ways.{Way, choices, next}
use Rattle.pp_term.specs.Meanings.{program}
use Rattle.pp_unify.specs.Forests.{AreOver}
use Rattle.pp_goal.specs.Apart.{AreApart}
use Rattle.pp_goal.specs.declared.acts.Act.{Act}
use Rattle.pp_goal.specs.declared.acts.Act.TheVariants as acts
use Rattle.pp_resolve.specs.declared.engine.Engine.{Engine}
use Rattle.pp_resolve.specs.declared.history.Rest.{Rest}
use Rattle.pp_resolve.specs.Standing.{counted, config_in}
use Rattle.pp_clause.specs.declared.first.First.{First}
use Rattle.pp_clause.specs.Firsts.{first_of, CannotMatch}
use Rattle.pp_clause.proofs.Places.{get_some}
use Rattle.pp_walk.specs.Moves.{HasChoice, IsDeadAt}
use Rattle.pp_resolve.specs.Acts.{placed, does, values, ActsAs}
use Rattle.pp_resolve.specs.Engines.{goal_of, row_of, place_of, DoWait, IsGood}
use Rattle.pp_resolve.specs.Events.{follows}
use Rattle.pp_resolve.specs.Selected.{all_goals, AllGoalsWait, StandsAfter, IsSelectedAt}
use Rattle.pp_resolve.proofs.Linked.{goal_there}
use Rattle.pp_resolve.proofs.Following as so
use Rattle.pp_resolve.proofs.Following.{ended, stuck_all}

-- what holds below a number and from it on
pub by_place : (P : ℕ → Type 0) (n k : ℕ) → (k < n → P k) → (n ≤ k → P k) → P k
by_place P n k below above = go (cases_lt k n)
  where
    go : (k < n) ⊎ (n ≤ k) → P k
    go (inl h) = below h
    go (inr h) = above h

-- all goals wait
pub none_chosen : (e : Engine) → AllGoalsWait e → (ws : List Way) → follows e ≡ choices ws → ⊥
none_chosen e h ws f = go (all_goals e) refl
  where
    go : (gs : List (Goal ℕ)) → all_goals e ≡ gs → ⊥
    go [] s = absurd (cc (sym (ap (λ x. next (program e.clauses.now) (config_in (row_of e) x e.columns.columns e.front.depth)) s ∙ ended (program e.clauses.now) (row_of e) e.columns.columns e.front.depth) ∙ f))
    go (g ∷ gs) s = absurd (cc (sym (ap (λ x. next (program e.clauses.now) (config_in (row_of e) x e.columns.columns e.front.depth)) s ∙ stuck_all (program e.clauses.now) (row_of e) g gs e.columns.columns e.front.depth (subst (DoWait (row_of e)) s h)) ∙ f))

module _ (e : Engine) (good : IsGood e) (g : Goal ℕ) (s : StandsAfter e g) where
  abbrev clauses : Program
  clauses = program e.clauses.now

  abbrev r : Row
  r = row_of e

  abbrev before : List (Goal ℕ)
  before = s.0

  abbrev after : List (Goal ℕ)
  after = s.1

  over : AreOver r (with_goals (s.0 ++ g ∷ s.1) e.columns.columns)
  over = subst (λ gs. AreOver r (with_goals gs e.columns.columns)) s.2 good.here.over

  here : follows e ≡ next clauses (config_in r (s.0 ++ g ∷ s.1) e.columns.columns e.front.depth)
  here = ap (λ gs. next clauses (config_in r gs e.columns.columns e.front.depth)) s.2

  pub so_called : (p : Predicate) → does r g ≡ Some (calls p) → (ws : List Way) → follows e ≡ choices ws → length ws ≡ length (clauses p)
  so_called p h ws f = go e.front.depth refl
    where
      go : (n : ℕ) → e.front.depth ≡ n → length ws ≡ length (clauses p)
      go zero z = absurd (cc (sym (here ∙ so.spent clauses r good.here.row (s.0) g (s.1) e.columns.columns e.front.depth over s.3 p h z) ∙ f))
      go (suc d) z =
          let way = so.way clauses r good.here.row (s.0) g (s.1) e.columns.columns e.front.depth over s.3 p h d z in
          let same : ws ≡ map way (clauses p) = cc (sym f ∙ (here ∙ so.called clauses r good.here.row (s.0) g (s.1) e.columns.columns e.front.depth over s.3 p h d z)) in
          ap length same ∙ length-map (clauses p) way

  -- a clause that the first argument rules out is dead
  pub so_left_out : (p : Predicate) → does r g ≡ Some (calls p) → (first : First) → first ≡ first_of (placed r g).arguments
      → (k : ℕ) → HasChoice clauses (place_of e).here k → ((cl : Clause) → slice_get (clauses p) k ≡ Some cl → CannotMatch first cl) → IsDeadAt clauses (place_of e).here k
  so_left_out p h first is k c out = go e.front.depth refl
    where
      go : (n : ℕ) → e.front.depth ≡ n → IsDeadAt clauses (place_of e).here k
      go zero z = absurd (cc (sym (here ∙ so.spent clauses r good.here.row (s.0) g (s.1) e.columns.columns e.front.depth over s.3 p h z) ∙ c.1))
      go (suc d) z =
          let cl = get_some (clauses p) k (omega (arith, so_called p h c.0 c.1, c.2)) in
          subst (λ gs. IsDeadAt clauses (config_in r gs e.columns.columns e.front.depth) k) (sym s.2)
          (so.call_left_out clauses r good.here.row (s.0) g (s.1) e.columns.columns e.front.depth over s.3 p h d z first k cl.0 cl.1 is (out cl.0 cl.1))

  -- one with an argument of another top is dead
  pub so_apart : (p : Predicate) → does r g ≡ Some (calls p) → (k : ℕ) → HasChoice clauses (place_of e).here k → ((cl : Clause) → slice_get (clauses p) k ≡ Some cl → AreApart (placed r g).arguments cl.head) → IsDeadAt clauses (place_of e).here k
  so_apart p h k c out = go e.front.depth refl
    where
      go : (n : ℕ) → e.front.depth ≡ n → IsDeadAt clauses (place_of e).here k
      go zero z = absurd (cc (sym (here ∙ so.spent clauses r good.here.row (s.0) g (s.1) e.columns.columns e.front.depth over s.3 p h z) ∙ c.1))
      go (suc d) z =
          let cl = get_some (clauses p) k (omega (arith, so_called p h c.0 c.1, c.2)) in
          subst (λ gs. IsDeadAt clauses (config_in r gs e.columns.columns e.front.depth) k) (sym s.2)
          (so.call_apart clauses r good.here.row (s.0) g (s.1) e.columns.columns e.front.depth over s.3 p h d z k cl.0 cl.1 (out cl.0 cl.1))

  pub so_split : does r g ≡ Some splits → (ws : List Way) → follows e ≡ choices ws → length ws ≡ length (values r g)
  so_split h ws f =
      let way = so.value_way clauses r good.here.row (s.0) g (s.1) e.columns.columns e.front.depth over s.3 h in
      let same : ws ≡ map way (values r g) = cc (sym f ∙ (here ∙ so.split_follows clauses r good.here.row (s.0) g (s.1) e.columns.columns e.front.depth over s.3 h)) in
      ap length same ∙ length-map (values r g) way

  pub so_refused : does r g ≡ Some never → (ws : List Way) → follows e ≡ choices ws → ⊥
  so_refused h ws f = absurd (cc (sym (here ∙ so.refused clauses r good.here.row (s.0) g (s.1) e.columns.columns e.front.depth over s.3 h) ∙ f))

  pub so_solves : (is : List (Item ℕ)) → does r g ≡ Some (solves is) → (ws : List Way) → follows e ≡ choices ws → ⊥
  so_solves is h ws f =
      let o = so.solves_one clauses r good.here.row (s.0) g (s.1) e.columns.columns e.front.depth over s.3 is h in
      absurd (cc (sym (here ∙ o.1) ∙ f))

-- what is neither a call nor a split
pub other_chosen : (e : Engine) (l : Rest) (a : Act) → IsGood e → IsSelectedAt e l a → ((n : ℕ) → a ≡ acts.Call n → ⊥) → (a ≡ acts.Split → ⊥) → (ws : List Way) → follows e ≡ choices ws → ⊥
other_chosen e l a good s call split ws f =
    let g = goal_there e.clauses.now (goal_of e) (length e.history.links.items) l s.rest s.some in
    go (put_goal (counted l.first) g.0) (s.stands g.0 g.1) a (s.looks g.0 g.1).0 s.ready call split
  where
    go : (g : Goal ℕ) → StandsAfter e g → (a : Act) → ActsAs e.clauses.now (row_of e) g a → (a ≡ acts.Wait → ⊥) → ((n : ℕ) → a ≡ acts.Call n → ⊥) → (a ≡ acts.Split → ⊥) → ⊥
    go g k acts.Wait h r c p = r refl
    go g k acts.Fail h r c p = so_refused e good g k h ws f
    go g k acts.Hold h r c p = so_solves e good g k _ h ws f
    go g k acts.Equate h r c p = so_solves e good g k _ h ws f
    go g k acts.Narrow h r c p = so_solves e good g k _ h ws f
    go g k (acts.Bind i n) h r c p = so_solves e good g k _ h ws f
    go g k acts.Split h r c p = p refl
    go g k (acts.Call n) h r c p = c n refl
