-- What each turn of a walk makes of it.
use Rattle.std.proofs.Common.{◌≡◌, ℕ, zero, suc, ◌+◌, ◌*◌, ◌^◌, ◌-◌, ◌<◌, ◌≤◌, Bool, true, false, cond, List, [], ◌∷◌, ◌++◌, length, Option, Some, None, refl, ap, sym, ◌∙◌, subst, inl, inr, arith, length-append, append_assoc, append-nil}
use Rattle.std.specs.Prelude.{MatchOption}
use Rattle.std.specs.List.{slice_get}
use Rattle.pp_algebra.specs.Rows.{Row}
use Rattle.pp_algebra.specs.Covers.{IsIn}
use Rattle.pp_algebra.proofs.Antisym.{IsIn-either}
use Rattle.pp_sld.specs.Goals.{Program, Config}
use Rattle.pp_sld.specs.Ways.{Way, Next, finished, left_loose, fails, one, choices, next}
use Rattle.pp_sld.specs.Trees.{Search, IsSearch}
use Rattle.pp_sld.specs.Trace.{Leaf, answers_with, loose_with, Mark, tried, ends, trace, trace_all, met, leaves, reductions, until}
use Rattle.pp_sld.specs.Leaves.{leaf_row, row_at}
use Rattle.pp_sld.specs.Verdicts.{Mode}
use Rattle.pp_sld.specs.Findings.{Finding, finding_of, empty, join_finding, finding, settled}
use Rattle.pp_sld.specs.Lattice.{IsUnder, LeavesUnder}
use Rattle.pp_sld.specs.Walks.{settled_by, walk}
use Rattle.pp_sld.specs.Paths.{kids, skip}
use Rattle.pp_sld.specs.Reach.{Chosen}
use Rattle.pp_sld.proofs.Exists.{goes}
use Rattle.pp_sld.proofs.Trees.{tree, tree-IsSearch, tree_is, finished_tree, loose_tree, fails_tree, dead_tree, went_tree, choice_tree, goes_at, fails_at, none_at_end}
use Rattle.pp_sld.proofs.LeafRows.{met-append}
use Rattle.pp_sld.proofs.Fitting.{leaves_join, under-left}
use Rattle.pp_walk.specs.Places.{Place}
use Rattle.pp_walk.specs.Moves.{Stepped, step_cost, IsDeadAt, Chose, Committed, IsNextPlace, WentBack}
use Rattle.pp_walk.specs.declared.event.Event.TheVariants.{Went, Choice, Failed, Answer, Loose}
use Rattle.pp_walk.specs.declared.stage.Stage.{Stage}
use Rattle.pp_walk.specs.declared.stage.Stage.TheVariants.{Enter, Try, Back}
use Rattle.pp_walk.specs.Walking.{State, state, AreTaken, FitsHere, owed, remaining, IsReady, effort, IsThinned, stop, Walked, Goes, Ends, Costs, Turns}
use Rattle.pp_walk.proofs.Marks.{tries, tries-last, length-tries, met-tries, reductions-tries, until-tries, until-grows, later_thinned, thinned_is, thinned_twice, passed_over, none_left}
use Rattle.pp_sld.proofs.Walks.{reductions-append}

slice_some : (ws : List Way) (k : ℕ) → k < length ws → (w : Way) × (slice_get ws k ≡ Some w)
slice_some [] k h = absurd (omega (arith, h))
slice_some (w ∷ ws) zero h = (w, refl)
slice_some (w ∷ ws) (suc k) h = slice_some ws k (omega (arith, h))

module _ (clauses : Program) (m : Mode) (call : Row) where
  abbrev rest : State → List Mark
  rest w = remaining clauses w.stage w.place w.levels

  -- ===== turns that meet reductions alone

  -- of what is left then, some may be left out
  sparing : (old new : State) (n : ℕ) (ms : List Mark) (k : ℕ) (later : List Mark) → rest old ≡ tries n ++ (ms ++ (tries k ++ later)) → rest new ≡ ms ++ later → new.finding ≡ old.finding → new.steps ≤ old.steps + n
      → AreTaken clauses new.place.above new.levels → FitsHere clauses new.stage new.place.here
      → 2 * length new.levels + effort new.stage < 4 * n + 2 * length old.levels + effort old.stage
      → IsReady clauses call old.stage old.place old.levels → Goes clauses m call old new
  sparing old new n ms k later s g f c t h d r = record {
    ready = record {
      taken = t;
      here = h;
      under = subst (LeavesUnder call) (ap met s ∙ met-tries n (ms ++ (tries k ++ later)) ∙ met-append ms (tries k ++ later) ∙ ap (λ x. met ms ++ x) (met-tries k later) ∙ sym (met-append ms later) ∙ ap met (sym g)) r.under;
    };
    nearer = (let e : length (rest old) ≡ n + (length ms + (k + length later)) = ap length s ∙ length-append (tries n) (ms ++ (tries k ++ later)) ∙ ap (λ x. x + length (ms ++ (tries k ++ later))) (length-tries n) ∙ ap (λ x. n + x) (length-append ms (tries k ++ later) ∙ ap (λ x. length ms + x) (length-append (tries k) later ∙ ap (λ x. x + length later) (length-tries k))) in
        let z : length (rest new) ≡ length ms + length later = ap length g ∙ length-append ms later in omega (arith, e, z, d));
    walked = λ root from w.
        let e : met (w.seen ++ tries n) ≡ met w.seen = met-append w.seen (tries n) ∙ ap (λ x. met w.seen ++ x) (ap met (sym (append-nil (tries n))) ∙ met-tries n []) ∙ append-nil (met w.seen) in
        let before : until (settled_by m call) w.seen (rest old) ≡ until (settled_by m call) (w.seen ++ tries n) (ms ++ (tries k ++ later)) = ap (until (settled_by m call) w.seen) s ∙ until-tries (settled_by m call) n w.seen (ms ++ (tries k ++ later)) in
        record {
          seen = w.seen ++ tries n;
          under = subst (LeavesUnder call) (sym e) w.under;
          passes = subst (λ x. IsThinned (until (settled_by m call) (w.seen ++ tries n) x) (stop clauses m call root)) (sym g)
              (thinned_twice (until (settled_by m call) (w.seen ++ tries n) (ms ++ later)) (until (settled_by m call) (w.seen ++ tries n) (ms ++ (tries k ++ later))) (stop clauses m call root)
              (later_thinned m call (w.seen ++ tries n) ms k later)
              (subst (λ x. IsThinned x (stop clauses m call root)) before w.passes));
          finding = f ∙ w.finding ∙ ap (finding_of m) (sym e);
          steps = omega (arith, c, w.steps, reductions-append w.seen (tries n), reductions-tries n);
        };
  }

  pub quiet : (old new : State) (n : ℕ) → rest old ≡ tries n ++ rest new → new.finding ≡ old.finding → new.steps ≤ old.steps + n
      → AreTaken clauses new.place.above new.levels → FitsHere clauses new.stage new.place.here
      → 2 * length new.levels + effort new.stage < 4 * n + 2 * length old.levels + effort old.stage
      → IsReady clauses call old.stage old.place old.levels → Goes clauses m call old new
  quiet old new n s = sparing old new n [] 0 (rest new) s refl

  -- ===== a leaf

  module _ (old : State) (l : Leaf) (later : List Mark) (f : Finding) (s : rest old ≡ ends l ∷ later) (r : IsReady clauses call old.stage old.place old.levels) (e : f ≡ join_finding old.finding (finding_of m (l ∷ []))) where
    pub leaf_under : IsUnder call (row_at l)
    leaf_under = subst (LeavesUnder call) (ap met s) r.under l (inl refl)

    abbrev Gathers : (root : Config) (from : ℕ) → Walked clauses m call root from old → Type 0
    Gathers root from w = LeavesUnder call (met (w.seen ++ ends l ∷ [])) × (f ≡ finding_of m (met (w.seen ++ ends l ∷ [])))

    gathers : (root : Config) (from : ℕ) (w : Walked clauses m call root from old) → Gathers root from w
    gathers root from w =
        let a : met (w.seen ++ ends l ∷ []) ≡ met w.seen ++ l ∷ [] = met-append w.seen (ends l ∷ []) in
        let u : LeavesUnder call (met w.seen ++ l ∷ []) = λ x i. elim (IsIn-either x (met w.seen) (l ∷ []) i) [ inl p ↦ w.under x p | inr p ↦ elim p [ inl q ↦ subst (λ y. IsUnder call (row_at y)) q leaf_under | inr q ↦ absurd q ] ] in (
          subst (LeavesUnder call) (sym a) u,
          e ∙ ap (λ x. join_finding x (finding_of m (l ∷ []))) w.finding ∙ sym (leaves_join m call (met w.seen) (l ∷ []) u) ∙ ap (finding_of m) (sym a),
        )

    -- what the walk makes of the leaf
    at_leaf : (b : Bool) → settled call f ≡ b → (root : Config) (from : ℕ) (w : Walked clauses m call root from old) → IsThinned (cond b (w.seen ++ ends l ∷ []) (until (settled_by m call) (w.seen ++ ends l ∷ []) later)) (stop clauses m call root)
    at_leaf b k root from w =
        let p : settled_by m call (w.seen ++ ends l ∷ []) ≡ b = ap (settled call) (sym (gathers root from w).1) ∙ k in
        subst (λ x. IsThinned x (stop clauses m call root)) (ap (until (settled_by m call) w.seen) s ∙ ap (λ x. cond x (w.seen ++ ends l ∷ []) (until (settled_by m call) (w.seen ++ ends l ∷ []) later)) p) w.passes

    counts : (root : Config) (from n : ℕ) (w : Walked clauses m call root from old) → n ≤ old.steps → n ≤ from + reductions (w.seen ++ ends l ∷ [])
    counts root from n w c = omega (arith, c, w.steps, reductions-append w.seen (ends l ∷ []))

    pub leaf_ends : (n : ℕ) → settled call f ≡ true → n ≤ old.steps → Ends clauses m call old f n
    leaf_ends n k c root from w =
        let p = at_leaf true k root from w in
        let u = counts root from n w c in
        ((gathers root from w).1 ∙ ap (finding_of m) p.0, omega (arith, p.1, u))

    pub leaf_goes : (n : ℕ) → settled call f ≡ false → n ≤ old.steps → later ≡ owed clauses old.place.above old.levels → old.stage ≡ Enter → Goes clauses m call old (state Back old.place old.levels f n)
    leaf_goes n k c o g = record {
      ready = record { taken = r.taken; here = tt; under = λ x i. subst (LeavesUnder call) (ap met s) r.under x (inr (subst (λ y. IsIn x (met y)) (sym o) i)) };
      nearer = (let z : length (rest old) ≡ suc (length (owed clauses old.place.above old.levels)) = ap length s ∙ ap (λ y. suc (length y)) o in omega (arith, z));
      walked = λ root from w. record {
        seen = w.seen ++ ends l ∷ [];
        under = (gathers root from w).0;
        passes = subst (λ x. IsThinned (until (settled_by m call) (w.seen ++ ends l ∷ []) x) (stop clauses m call root)) o (at_leaf false k root from w);
        finding = (gathers root from w).1;
        steps = counts root from n w c;
      };
    }

  -- ===== the last turn, and turns that found no memory

  pub all_done : (old : State) (f : Finding) (n : ℕ) → rest old ≡ [] → f ≡ old.finding → n ≤ old.steps → Ends clauses m call old f n
  all_done old f n s e c root from w =
      let p : IsThinned w.seen (stop clauses m call root) = subst (λ x. IsThinned (until (settled_by m call) w.seen x) (stop clauses m call root)) s w.passes in
      (e ∙ w.finding ∙ ap (finding_of m) p.0, omega (arith, c, w.steps, p.1))

  pub costs : (old : State) (n : ℕ) → n ≤ old.steps → Costs clauses m call old n
  costs old n c root from w = omega (arith, c, w.steps, until-grows (settled_by m call) w.seen (rest old), w.passes.1)

  pub costs_one : (old : State) (later : List Mark) (n : ℕ) → rest old ≡ tried ∷ later → n ≤ old.steps + 1 → Costs clauses m call old n
  costs_one old later n s c root from w =
      let p : IsThinned (until (settled_by m call) (w.seen ++ tried ∷ []) later) (stop clauses m call root) = subst (λ x. IsThinned (until (settled_by m call) w.seen x) (stop clauses m call root)) s w.passes in
      omega (arith, c, w.steps, until-grows (settled_by m call) (w.seen ++ tried ∷ []) later, p.1, reductions-append w.seen (tried ∷ []))

  -- ===== one step at a configuration

  module _ (p q : Place) (ks : List ℕ) (f : Finding) (s s' : ℕ) (c : s' ≡ s + step_cost (next clauses p.here)) (r : IsReady clauses call Enter p ks) where
    abbrev entered : State
    entered = state Enter p ks f s

    pub went : Stepped clauses p Went q → Goes clauses m call entered (state Enter q ks f s')
    went h = quiet entered (state Enter q ks f s') 1
        (ap (λ x. x ++ owed clauses p.above ks) (went_tree clauses p.here h.0 q.here h.1 h.2) ∙ ap (λ x. tried ∷ (trace (tree clauses q.here) ++ owed clauses x ks)) (sym h.3))
        refl (omega (arith, c, ap step_cost h.1)) (subst (λ x. AreTaken clauses x ks) (sym h.3) r.taken) tt (omega arith) r

    pub at_choice : (n : ℕ) → n < 2 ^ 64 → Stepped clauses p (Choice n) q → Goes clauses m call entered (state (Try 0) q ks f s')
    at_choice n b h = subst (λ x. Goes clauses m call entered (state (Try 0) x ks f s')) (sym h.4)
        (quiet entered (state (Try 0) p ks f s') 0 (ap (λ x. x ++ owed clauses p.above ks) (choice_tree clauses p.here h.0 h.1).0)
        refl (omega (arith, c, ap step_cost h.1)) r.taken (h.0, h.1, omega (arith, b, h.2)) (omega arith) r)

    one_tried : trace (tree clauses p.here) ≡ tried ∷ [] → s' ≤ s + 1 → Goes clauses m call entered (state Back p ks f s')
    one_tried e d = quiet entered (state Back p ks f s') 1 (ap (λ x. x ++ owed clauses p.above ks) e) refl d r.taken tt (omega arith) r

    pub failed : Stepped clauses p Failed q → Goes clauses m call entered (state Back q ks f s')
    failed h = subst (λ x. Goes clauses m call entered (state Back x ks f s')) (sym h.1)
        (elim h.0 [
          | inl e ↦ one_tried (fails_tree clauses p.here e) (omega (arith, c, ap step_cost e))
          | inr k ↦ elim k [
            | inl e ↦ (let t = choice_tree clauses p.here [] e in quiet entered (state Back p ks f s') 0 (ap (λ x. x ++ owed clauses p.above ks) (t.0 ∙ none_at_end clauses [] (kids (tree clauses p.here)) 0 (omega arith) t.1)) refl (omega (arith, c, ap step_cost e)) r.taken tt (omega arith) r)
            | inr e ↦ one_tried (dead_tree clauses p.here e.0 e.1 e.2) (omega (arith, c, ap step_cost e.1))
          ]
        ])

    -- an answer or a loose end
    pub answer_left : Stepped clauses p Answer q → rest entered ≡ ends (answers_with p.here) ∷ owed clauses p.above ks
    answer_left h = ap (λ x. x ++ owed clauses p.above ks) (finished_tree clauses p.here h.0)

    pub loose_left_here : Stepped clauses p Loose q → rest entered ≡ ends (loose_with p.here) ∷ owed clauses p.above ks
    loose_left_here h = ap (λ x. x ++ owed clauses p.above ks) (loose_tree clauses p.here h.0)

  -- what comes after a leaf
  abbrev pub AfterLeaf : Finding → Option Stage → Type 0
  AfterLeaf f o = MatchOption o (settled call f ≡ true) (λ s. (settled call f ≡ false) × (s ≡ Back))

  pub after_leaf : (o : Option Stage) (p q : Place) (ks : List ℕ) (f f' : Finding) (s s' : ℕ) (l : Leaf) → q ≡ p → s' ≤ s → rest (state Enter p ks f s) ≡ ends l ∷ owed clauses p.above ks → IsReady clauses call Enter p ks → f' ≡ join_finding f (finding_of m (l ∷ [])) → AfterLeaf f' o → Turns clauses m call (state Enter p ks f s) o q ks f' s'
  after_leaf None p q ks f f' s s' l e c t r j k = leaf_ends (state Enter p ks f s) l (owed clauses p.above ks) f' t r j s' k c
  after_leaf (Some n) p q ks f f' s s' l e c t r j k =
      subst (λ x. Goes clauses m call (state Enter p ks f s) (state x q ks f' s')) (sym k.1)
      (subst (λ x. Goes clauses m call (state Enter p ks f s) (state Back x ks f' s')) (sym e)
      (leaf_goes (state Enter p ks f s) l (owed clauses p.above ks) f' t r j s' k.0 c refl refl))

  module _ (o : Option Stage) (p q q' : Place) (ks : List ℕ) (f f' : Finding) (s s' : ℕ) (z : q' ≡ q) (c : s' ≡ s + step_cost (next clauses p.here)) (r : IsReady clauses call Enter p ks) where
    pub met_answer : Stepped clauses p Answer q → f' ≡ join_finding f (finding m (leaf_row q.here ∷ []) []) → AfterLeaf f' o → Turns clauses m call (state Enter p ks f s) o q' ks f' s'
    met_answer h j k = after_leaf o p q' ks f f' s s' (answers_with p.here) (z ∙ h.1) (omega (arith, c, ap step_cost h.0)) (answer_left p q ks f s s' c r h) r (j ∙ ap (λ (x : Place). join_finding f (finding m (leaf_row x.here ∷ []) [])) h.1) k

    pub met_loose : Stepped clauses p Loose q → f' ≡ join_finding f (finding m [] (leaf_row q.here ∷ [])) → AfterLeaf f' o → Turns clauses m call (state Enter p ks f s) o q' ks f' s'
    met_loose h j k = after_leaf o p q' ks f f' s s' (loose_with p.here) (z ∙ h.1) (omega (arith, c, ap step_cost h.0)) (loose_left_here p q ks f s s' c r h) r (j ∙ ap (λ (x : Place). join_finding f (finding m [] (leaf_row x.here ∷ []))) h.1) k

  -- a row of a leaf lies under the call
  pub answer_under : (p q : Place) → Stepped clauses p Answer q → LeavesUnder call (leaves (tree clauses p.here)) → IsUnder call (leaf_row q.here)
  answer_under p q h u = subst (λ (x : Place). IsUnder call (leaf_row x.here)) (sym h.1) (subst (λ x. LeavesUnder call (met x)) (finished_tree clauses p.here h.0) u (answers_with p.here) (inl refl))

  pub loose_under : (p q : Place) → Stepped clauses p Loose q → LeavesUnder call (leaves (tree clauses p.here)) → IsUnder call (leaf_row q.here)
  loose_under p q h u = subst (λ (x : Place). IsUnder call (leaf_row x.here)) (sym h.1) (subst (λ x. LeavesUnder call (met x)) (loose_tree clauses p.here h.0) u (loose_with p.here) (inl refl))

  -- a step that found no memory
  pub step_costs : (p : Place) (ks : List ℕ) (f : Finding) (s s' : ℕ) (x : Next) → next clauses p.here ≡ x → s' ≤ s + step_cost x → Costs clauses m call (state Enter p ks f s) s'
  step_costs p ks f s s' finished e c = costs (state Enter p ks f s) s' (omega (arith, c))
  step_costs p ks f s s' left_loose e c = costs (state Enter p ks f s) s' (omega (arith, c))
  step_costs p ks f s s' fails e c = costs_one (state Enter p ks f s) (owed clauses p.above ks) s' (ap (λ x. x ++ owed clauses p.above ks) (fails_tree clauses p.here e)) c
  step_costs p ks f s s' (one w) e c =
      elim (goes w) [
        | inl a ↦ costs_one (state Enter p ks f s) (trace (tree clauses a.0) ++ owed clauses p.above ks) s' (ap (λ x. x ++ owed clauses p.above ks) (went_tree clauses p.here w a.0 e a.1)) c
        | inr k ↦ costs_one (state Enter p ks f s) (owed clauses p.above ks) s' (ap (λ x. x ++ owed clauses p.above ks) (dead_tree clauses p.here w e k)) c
      ]
  step_costs p ks f s s' (choices ws) e c = costs (state Enter p ks f s) s' (omega (arith, c))

  -- ===== alternatives

  module _ (p : Place) (from : ℕ) (ks : List ℕ) (f : Finding) (s : ℕ) where
    abbrev trying : State
    trying = state (Try from) p ks f s

    pub exhausted : IsNextPlace clauses p.here from None → IsReady clauses call (Try from) p ks → Goes clauses m call trying (state Back p ks f s)
    exhausted h r =
        let ws = r.here.0 in
        quiet trying (state Back p ks f s) (length ws - from)
        (ap (λ x. x ++ owed clauses p.above ks) (none_left clauses p.here ws r.here.1 from h))
        refl (omega arith) r.taken tt (omega arith) r

    module _ (at : ℕ) (h : IsNextPlace clauses p.here from (Some at)) where
      -- what is passed over, and then what is tried
      tries_here : (ms : List Mark) → trace_all (skip at (kids (tree clauses p.here))) ≡ tried ∷ ms → (ws : List Way) → next clauses p.here ≡ choices ws → rest trying ≡ tries (suc (at - from)) ++ (ms ++ owed clauses p.above ks)
      tries_here ms e ws g =
          let a : from + (at - from) ≡ at = omega (arith, h.0) in
          ap (λ x. x ++ owed clauses p.above ks) (passed_over clauses p.here ws g from (at - from) (λ i j k. h.2 i j (omega (arith, k, h.0))) ∙ ap (λ x. tries (at - from) ++ trace_all (skip x (kids (tree clauses p.here)))) a ∙ ap (λ x. tries (at - from) ++ x) e ∙ tries-last (at - from) ms)
          ∙ append_assoc (tries (suc (at - from))) ms (owed clauses p.above ks)

      module _ (next_at : ℕ) (n : next_at ≡ suc at) where
        abbrev left_at : List Mark
        left_at = trace_all (skip next_at (kids (tree clauses p.here)))

        goes_left : (q : Config) → Chosen clauses p.here at q → trace_all (skip at (kids (tree clauses p.here))) ≡ tried ∷ (trace (tree clauses q) ++ left_at)
        goes_left q g = goes_at clauses g.0 (kids (tree clauses p.here)) at g.2 q g.3 g.4 (choice_tree clauses p.here g.0 g.1).1 ∙ ap (λ x. tried ∷ (trace (tree clauses q) ++ trace_all (skip x (kids (tree clauses p.here))))) (sym n)

        fails_left : IsDeadAt clauses p.here at → trace_all (skip at (kids (tree clauses p.here))) ≡ tried ∷ left_at
        fails_left g = fails_at clauses g.0 (kids (tree clauses p.here)) at g.2 g.3 g.4 (choice_tree clauses p.here g.0 g.1).1 ∙ ap (λ x. tried ∷ trace_all (skip x (kids (tree clauses p.here)))) (sym n)

        pub tried_goes : (q : Place) (s' : ℕ) → Chose clauses p at true q → s' ≤ s + 1 → IsReady clauses call (Try from) p ks → Goes clauses m call trying (state Enter q (next_at ∷ ks) f s')
        tried_goes q s' g c r =
            quiet trying (state Enter q (next_at ∷ ks) f s') (suc (at - from))
            (tries_here (trace (tree clauses q.here) ++ left_at) (goes_left q.here g.0) g.0.0 g.0.1
            ∙ ap (λ x. tries (suc (at - from)) ++ x) (append_assoc (trace (tree clauses q.here)) left_at (owed clauses p.above ks) ∙ ap (λ x. trace (tree clauses q.here) ++ owed clauses x (next_at ∷ ks)) (sym g.1)))
            refl (omega (arith, c)) (subst (λ x. AreTaken clauses x (next_at ∷ ks)) (sym g.1) (r.here, r.taken)) tt (omega arith) r

        pub tried_fails : (q : Place) (s' : ℕ) → Chose clauses p at false q → s' ≤ s + 1 → IsReady clauses call (Try from) p ks → Goes clauses m call trying (state (Try next_at) q ks f s')
        tried_fails q s' g c r =
            subst (λ x. Goes clauses m call trying (state (Try next_at) x ks f s')) (sym g.1)
            (quiet trying (state (Try next_at) p ks f s') (suc (at - from)) (tries_here left_at (fails_left g.0) g.0.0 g.0.1) refl (omega (arith, c)) r.taken r.here (omega arith) r)

        -- the same where no later one leads on, without a choice
        module _ (last : IsNextPlace clauses p.here next_at None) where
          none_behind : (ws : List Way) → next clauses p.here ≡ choices ws → left_at ≡ tries (length ws - next_at)
          none_behind ws g = none_left clauses p.here ws g next_at last

          pub committed_goes : (q : Place) (s' : ℕ) → Committed clauses p at true q → s' ≤ s + 1 → IsReady clauses call (Try from) p ks → Goes clauses m call trying (state Enter q ks f s')
          committed_goes q s' g c r =
              let ws = g.0.0 in
              let ms = trace (tree clauses q.here) in
              sparing trying (state Enter q ks f s') (suc (at - from)) ms (length ws - next_at) (owed clauses p.above ks)
              (tries_here (ms ++ left_at) (goes_left q.here g.0) ws g.0.1
              ∙ ap (λ x. tries (suc (at - from)) ++ x) (append_assoc ms left_at (owed clauses p.above ks) ∙ ap (λ x. ms ++ (x ++ owed clauses p.above ks)) (none_behind ws g.0.1)))
              (ap (λ x. ms ++ owed clauses x ks) g.1)
              refl (omega (arith, c)) (subst (λ x. AreTaken clauses x ks) (sym g.1) r.taken) tt (omega arith) r

          pub committed_fails : (q : Place) (s' : ℕ) → Committed clauses p at false q → s' ≤ s + 1 → IsReady clauses call (Try from) p ks → Goes clauses m call trying (state Back q ks f s')
          committed_fails q s' g c r =
              let ws = g.0.0 in
              subst (λ x. Goes clauses m call trying (state Back x ks f s')) (sym g.1)
              (sparing trying (state Back p ks f s') (suc (at - from)) [] (length ws - next_at) (owed clauses p.above ks)
              (tries_here left_at (fails_left g.0) ws g.0.1 ∙ ap (λ x. tries (suc (at - from)) ++ (x ++ owed clauses p.above ks)) (none_behind ws g.0.1))
              refl refl (omega (arith, c)) r.taken tt (omega arith) r)

      -- a try that found no memory, and one after which there was none
      pub try_costs : (s' : ℕ) → s' ≤ s + 1 → Costs clauses m call trying s'
      try_costs s' c =
          let ws = h.1.0 in
          let n = slice_some ws at h.1.2 in
          elim (goes n.0) [
            | inl a ↦ (let ms = trace (tree clauses a.0) ++ left_at (suc at) refl in costs_one trying (tries (at - from) ++ (ms ++ owed clauses p.above ks)) s' (tries_here ms (goes_left (suc at) refl a.0 (ws, h.1.1, n.0, n.1, a.1)) ws h.1.1) c)
            | inr k ↦ (let ms = left_at (suc at) refl in costs_one trying (tries (at - from) ++ (ms ++ owed clauses p.above ks)) s' (tries_here ms (fails_left (suc at) refl (ws, h.1.1, n.0, n.1, k)) ws h.1.1) c)
          ]

  -- ===== back

  pub at_root : (p : Place) (ks : List ℕ) (f : Finding) (s : ℕ) → ks ≡ [] → AreTaken clauses p.above ks → Ends clauses m call (state Back p ks f s) f s
  at_root p ks f s e t = all_done (state Back p ks f s) f s (none p.above (subst (AreTaken clauses p.above) e t)) refl (omega arith)
    where
      none : (cs : List Config) → AreTaken clauses cs [] → owed clauses cs ks ≡ []
      none [] h = refl
      none (c ∷ cs) h = absurd h

  pub went_back : (p q : Place) (b : Bool) (k : ℕ) (ks all : List ℕ) (f : Finding) (s : ℕ) → all ≡ k ∷ ks → WentBack p b q → IsReady clauses call Back p all → Goes clauses m call (state Back p all f s) (state (Try k) q ks f s)
  went_back p q b k ks all f s e h r = by_case p.above b refl h
    where
      by_case : (cs : List Config) (b : Bool) → p.above ≡ cs → WentBack p b q → Goes clauses m call (state Back p all f s) (state (Try k) q ks f s)
      by_case cs true g h =
          let t : AreTaken clauses (q.here ∷ q.above) (k ∷ ks) = subst (λ x. AreTaken clauses x (k ∷ ks)) h (subst (AreTaken clauses p.above) e r.taken) in
          quiet (state Back p all f s) (state (Try k) q ks f s) 0 (ap (λ x. owed clauses p.above x) e ∙ ap (λ x. owed clauses x (k ∷ ks)) h) refl (omega arith) t.1 t.0 (omega (arith, ap length e)) r
      by_case cs false g h = absurd (subst (λ x. AreTaken clauses x (k ∷ ks)) h.0 (subst (AreTaken clauses p.above) e r.taken))

  -- ===== the beginning and the end of a walk

  pub enter_under : (s : Stage) (p : Place) (ks : List ℕ) → s ≡ Enter → IsReady clauses call s p ks → LeavesUnder call (leaves (tree clauses p.here))
  enter_under s p ks e r =
      let h : IsReady clauses call Enter p ks = subst (λ x. IsReady clauses call x p ks) e r in
      under-left call (leaves (tree clauses p.here)) (met (owed clauses p.above ks)) (subst (LeavesUnder call) (met-append (trace (tree clauses p.here)) (owed clauses p.above ks)) h.under)

  module _ (p : Place) (a : p.above ≡ []) where
    all_left : remaining clauses Enter p [] ≡ trace (tree clauses p.here)
    all_left = ap (λ x. trace (tree clauses p.here) ++ owed clauses x []) a ∙ append-nil (trace (tree clauses p.here))

    pub starts_ready : ((t : Search) → IsSearch clauses p.here t → LeavesUnder call (leaves t)) → IsReady clauses call Enter p []
    starts_ready h = record {
      taken = subst (λ x. AreTaken clauses x []) (sym a) tt;
      here = tt;
      under = subst (λ x. LeavesUnder call (met x)) (sym all_left) (h (tree clauses p.here) (tree-IsSearch clauses p.here));
    }

    pub starts_walked : (f : Finding) (s : ℕ) → f ≡ empty m → Walked clauses m call p.here s (state Enter p [] f s)
    starts_walked f s e = record {
      seen = [];
      under = λ x i. absurd i;
      passes = thinned_is (until (settled_by m call) [] (remaining clauses Enter p [])) (stop clauses m call p.here) (ap (until (settled_by m call) []) all_left);
      finding = e;
      steps = omega arith;
    }

  stops_at : (root : Config) (t : Search) → IsSearch clauses root t → stop clauses m call root ≡ until (settled_by m call) [] (trace t)
  stops_at root t h = ap (λ x. until (settled_by m call) [] (trace x)) (tree_is clauses root t h)

  pub found : (root : Config) (t : Search) (f : Finding) → IsSearch clauses root t → f ≡ finding_of m (met (stop clauses m call root)) → f ≡ finding_of m (met (until (settled_by m call) [] (trace t)))
  found root t f h e = e ∙ ap (λ x. finding_of m (met x)) (stops_at root t h)

  pub counted : (root : Config) (t : Search) (from n : ℕ) → IsSearch clauses root t → n ≤ from + reductions (stop clauses m call root) → n ≤ from + walk m call t
  counted root t from n h c = subst (λ x. n ≤ from + reductions x) (stops_at root t h) c
