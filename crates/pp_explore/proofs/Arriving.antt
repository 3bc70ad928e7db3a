-- A walker comes to the beginning of a work.
use Rattle.std.proofs.Common.{◌≡◌, ◌≢◌, ◌↔◌, ℕ, suc, ◌+◌, ◌-◌, ◌<◌, ◌≤◌, arith, Bool, false, IsTrue, List, [], ◌∷◌, ◌++◌, map, length, take, Option, Some, None, refl, ap, sym, ◌∙◌, subst, inl, inr, ◌⊎◌, append-nil, length-append}
use Rattle.pp_algebra.specs.Rows.{Row}
use Rattle.pp_sld.specs.Goals.{Program, Config}
use Rattle.pp_sld.specs.Trace.{Leaf}
use Rattle.pp_sld.specs.Reach.{Reaches, Misses}
use Rattle.pp_sld.specs.Lattice.{LeavesUnder}
use Rattle.pp_sld.specs.Verdicts.{Mode}
use Rattle.pp_sld.specs.Findings.{Finding}
use Rattle.pp_sld.specs.Works as works
use Rattle.pp_sld.specs.Works.{Level, Work, spent, at, worth, path_worth, next_levels, siblings, IsLater}
use Rattle.pp_sld.specs.Reports.{HasWalked}
use Rattle.pp_sld.proofs.Trees.{tree, tree_is, tree-IsSearch}
use Rattle.pp_sld.proofs.Standing.{path_misses_leaves}
use Rattle.pp_sld.proofs.Reports.{walk_begins, walk_goes_on}
use Rattle.pp_sld.proofs.LaterWorks.{later_through}
use Rattle.pp_walk.specs.Places.{Place}
use Rattle.pp_walk.specs.Moves.{IsAtChoice}
use Rattle.pp_path.specs.declared.levels.Level.{Level as CodeLevel}
use Rattle.pp_path.specs.Works.{level_by, work_by, levels_of}
use Rattle.pp_explore.specs.declared.stage.Stage.{Stage}
use Rattle.pp_explore.specs.declared.stage.Stage.TheVariants.{Try}
use Rattle.pp_explore.specs.Standing.{StaysOver, MissesOver, nows}
use Rattle.pp_explore.specs.Exploring.{IsUnderCall, HasExplored, HasGathered}
use Rattle.pp_explore.specs.Searching.{state, FitsWork, Keeps, PathIs, Arrives, IsAbove, IsReady, HasSearched, places_left, levels_left}
use Rattle.pp_explore.proofs.Levels.{moves_on, ends_with, front_of, map-levels-append, nows-append, sibling_is_before}
use Rattle.pp_explore.proofs.Turns.{moved_to, keeps_end, next_later}

-- ===== the levels of the code

length-levels : (ls : List CodeLevel) → length (map level_by ls) ≡ length ls
length-levels [] = refl
length-levels (l ∷ ls) = ap suc (length-levels ls)

-- a work that was moved on has a level
next_deep : (u w : Option (List CodeLevel)) → work_by w ≡ works.next (work_by u) → (w ≡ None → ⊥) → (clauses : Program) → 1 ≤ length (levels_of w)
next_deep u None e n clauses = absurd (n refl)
next_deep None (Some ls) e n clauses = absurd (cc e)
next_deep (Some ks) (Some ls) e n clauses =
    let h = moved_to clauses (map level_by ks) (next_levels (map level_by ks)) (map level_by ls) (moves_on (map level_by ks)) (sym e) in
    omega (arith, ap length h.new, length-append h.front (siblings h.last ∷ []), length-levels ls)

pub next_has_level : (clauses : Program) (u w : Option (List CodeLevel)) → work_by w ≡ works.next (work_by u) → (w ≡ None → ⊥) → 1 ≤ length (levels_of w)
next_has_level clauses u w e n = next_deep u w e n clauses

pub spent_of : (b : Bool) (w : Option (List CodeLevel)) → (IsTrue b ↔ (w ≢ None)) → b ≡ false → work_by w ≡ spent
spent_of b None h e = refl
spent_of b (Some ls) h e = absurd (cc (e, h.1 (λ k. (cc))))

pub at_of : (w : Option (List CodeLevel)) → (w ≡ None → ⊥) → work_by w ≡ at (map level_by (levels_of w))
at_of None n = absurd (n refl)
at_of (Some ls) n = refl

pub not_spent : (w : Option (List CodeLevel)) → (w ≡ None → ⊥) → work_by w ≡ spent → ⊥
not_spent None n e = n refl
not_spent (Some ls) n e = (cc e)

pub above_of : (levels : List CodeLevel) (ks : List ℕ) → 1 ≤ length levels → ks ≡ nows (take (length levels - 1) levels) → IsAbove (map level_by levels) ks
above_of levels ks h e =
    let r = ends_with levels h in
    (map level_by r.front, level_by r.last, ap (map level_by) r.is ∙ map-levels-append r.front (r.last ∷ []), e ∙ ap nows (front_of levels r.front r.last r.is))

-- a step to the next part
left-front : (ls front : List Level) (l : Level) (behind : List Level) → ls ≡ front ++ l ∷ behind → (l.end - l.now) + 1 + places_left front ≤ places_left ls
left-front ls [] l behind e = subst (λ x. (l.end - l.now) + 1 + 0 ≤ places_left x) (sym e) (omega arith)
left-front ls (m ∷ front) l behind e =
    let h = left-front (front ++ l ∷ behind) front l behind refl in
    subst (λ x. (l.end - l.now) + 1 + places_left (m ∷ front) ≤ places_left x) (sym e) (omega (arith, h))

left-snoc : (front : List Level) (l : Level) → places_left (front ++ l ∷ []) ≡ (l.end - l.now) + 1 + places_left front
left-snoc [] l = refl
left-snoc (m ∷ front) l = omega (arith, left-snoc front l)

pub left_smaller : (clauses : Program) (w v : Work) → works.next w ≡ v → (v ≡ spent → ⊥) → levels_left v < levels_left w
left_smaller clauses spent v e n = absurd (n (sym e))
left_smaller clauses (at ls) spent e n = absurd (n refl)
left_smaller clauses (at ls) (at ks) e n =
    let h = moved_to clauses ls (next_levels ls) ks (moves_on ls) e in
    omega (arith, left-front ls h.front h.last h.behind h.old, ap places_left h.new, left-snoc h.front (siblings h.last), sibling_is_before h.last h.sibling)

module _ (clauses : Program) where
  -- ===== paths that miss

  reaches_front : (ks js : List ℕ) (c x : Config) → Reaches clauses c (ks ++ js) x → (d : Config) × Reaches clauses c ks d
  reaches_front [] js c x r = (c, refl)
  reaches_front (k ∷ ks) js c x r = let q = reaches_front ks js r.3 x r.5 in (q.0, (r.0, r.1, r.2, r.3, r.4, q.1))

  misses_front : (root : Config) (ks js : List ℕ) → Misses clauses root ks → Misses clauses root (ks ++ js)
  misses_front root ks js m x r = let q = reaches_front ks js root x r in m q.0 q.1

  last_nows : (levels : List CodeLevel) (h : 1 ≤ length levels) → nows levels ≡ nows (take (length levels - 1) levels) ++ ((ends_with levels h).last.now ∷ [])
  last_nows levels h =
      let r = ends_with levels h in
      ap nows r.is ∙ (nows-append r.front (r.last ∷ []) ∙ ap (λ x. nows x ++ r.last.now ∷ []) (sym (front_of levels r.front r.last r.is)))

  module _ (p : Place) (ks : List ℕ) where
    -- the path of all levels but the last misses
    pub misses_above : (levels : List CodeLevel) → 1 ≤ length levels → MissesOver clauses p ks (nows (take (length levels - 1) levels)) → MissesOver clauses p ks (nows levels)
    misses_above levels h m root s =
        subst (Misses clauses root) (sym (last_nows levels h)) (misses_front root (nows (take (length levels - 1) levels)) ((ends_with levels h).last.now ∷ []) (m root s))

    -- the choice of the last level doesn't come
    pub misses_last : (levels : List CodeLevel) (q : Place) (js : List ℕ) → 1 ≤ length levels → js ≡ nows (take (length levels - 1) levels) → StaysOver clauses p ks q js → ((k : ℕ) (is : List ℕ) → MissesOver clauses q js (js ++ k ∷ is)) → MissesOver clauses p ks (nows levels)
    misses_last levels q js h e o m root s =
        subst (Misses clauses root) (ap (λ x. x ++ (ends_with levels h).last.now ∷ []) e ∙ sym (last_nows levels h)) (m (ends_with levels h).last.now [] root (o root s))

    pub misses_from : (q : Place) (js is : List ℕ) → StaysOver clauses p ks q js → MissesOver clauses q js is → MissesOver clauses p ks is
    misses_from q js is o m root s = m root (o root s)

    pub missed_path : (w : Option (List CodeLevel)) → (w ≡ None → ⊥) → MissesOver clauses p ks (nows (levels_of w)) → PathIs clauses p ks (work_by w) []
    missed_path w n m root s =
        ap (λ x. path_worth x (tree clauses root)) (at_of w n) ∙ path_misses_leaves clauses root (nows (levels_of w)) (tree clauses root) (m root s) (tree-IsSearch clauses root)

    -- past a part that misses
    pub keeps_past : (u w v : Work) → Keeps clauses p ks u [] (w ∷ []) → PathIs clauses p ks w [] → works.next w ≡ v → Keeps clauses p ks u [] (v ∷ [])
    keeps_past u w v h i e root s task xs k =
        let t = tree clauses root in
        subst (λ x. HasWalked t task (xs ++ []) (x ∷ [])) e
        (subst (λ y. HasWalked t task y (works.next w ∷ [])) (append-nil (xs ++ []))
        (subst (λ y. HasWalked t task ((xs ++ []) ++ y) (works.next w ∷ [])) (i root s) (walk_goes_on t task (xs ++ []) w [] (h root s task xs k))))

    -- ===== what a walker arrives at

    pub arrives_trying : (u w : Work) (v : Option (List CodeLevel)) (q : Place) (js : List ℕ) → (v ≡ None → ⊥) → works.next w ≡ work_by v → Keeps clauses p ks u [] (w ∷ []) → PathIs clauses p ks w [] → (w ≡ u) ⊎ IsLater w u
        → IsAbove (map level_by (levels_of v)) js → IsAtChoice clauses q.here → Arrives clauses p ks u (Some (Try 0)) q js (work_by v)
    arrives_trying u w v q js n e h i l a b = (
      (a.0, a.1, at_of v n ∙ ap at a.2, a.3, b, λ k x y. absurd (omega (arith, y))),
      keeps_past u w (work_by v) h i e,
      λ task j. subst (IsLater (work_by v)) j (later_still u w (work_by v) (map level_by (levels_of v)) (e ∙ at_of v n) (at_of v n) l),
    )
      where
        later_still : (u w v : Work) (ls : List Level) → works.next w ≡ at ls → v ≡ at ls → (w ≡ u) ⊎ IsLater w u → IsLater v u
        later_still u w v ls e i (inl k) = subst (IsLater v) k (next_later w v ls e i)
        later_still u w v ls e i (inr k) = later_through v w u (next_later w v ls e i) k

    pub arrives_nowhere : (u w v : Work) (q : Place) (js : List ℕ) → works.next w ≡ v → v ≡ spent → Keeps clauses p ks u [] (w ∷ []) → PathIs clauses p ks w [] → Arrives clauses p ks u None q js v
    arrives_nowhere u w v q js e z h i = keeps_end clauses p ks u [] (keeps_past u w spent h i (e ∙ z))

    pub later_on_next : (u w v : Work) → works.next w ≡ v → (v ≡ spent → ⊥) → (w ≡ u) ⊎ IsLater w u → (v ≡ u) ⊎ IsLater v u
    later_on_next u w spent e n l = absurd (n refl)
    later_on_next u w (at ls) e n (inl k) = inr (subst (IsLater (at ls)) k (next_later w (at ls) ls e refl))
    later_on_next u w (at ls) e n (inr k) = inr (later_through (at ls) w u (next_later w (at ls) ls e refl) k)

    -- ===== the whole search of a task

    module _ (m : Mode) (call : Row) where
      explored : (w : Work) (ms : List Leaf) (rest : List Work) → Keeps clauses p ks w ms rest → HasExplored clauses p ks w ms rest
      explored w ms rest h root s t i = subst (λ x. HasWalked x w ms rest) (tree_is clauses root t i) (h root s w [] (walk_begins (tree clauses root) w))

      pub task_missed : (w : Work) (f : Finding) → Keeps clauses p ks w [] [] → HasGathered clauses m p ks w f [] f
      task_missed w f h = ([], refl, explored w [] [] h)

      pub task_searched : (w v : Work) (s : Stage) (q : Place) (js : List ℕ) (f g : Finding) (rest : List Work) → Keeps clauses p ks w [] (v ∷ []) → StaysOver clauses p ks q js → HasSearched clauses m (state s q js v f) rest g → HasGathered clauses m p ks w f rest g
      task_searched w v s q js f g rest k o h = (
        h.0,
        h.1,
        explored w h.0 rest (λ root i task xs a.
            subst (λ y. HasWalked (tree clauses root) task (y ++ h.0) rest) (append-nil xs) (h.2 root (o root i) task (xs ++ []) (k root i task xs a))),
      )

      pub ready_there : (w v : Work) (s : Stage) (q : Place) (js : List ℕ) (f : Finding) → IsUnderCall clauses call p ks w → StaysOver clauses p ks q js → Keeps clauses p ks w [] (v ∷ []) → FitsWork clauses s q js v → IsReady clauses call (state s q js v f)
      ready_there w v s q js f u o k fits = record {
        root = u.0;
        stands = o u.0 u.1;
        under = (let t = tree clauses u.0 in
            subst (LeavesUnder call) (k u.0 u.1 w [] (walk_begins t w) ∙ append-nil (worth v t)) (u.2 t (tree-IsSearch clauses u.0)));
        fits = fits;
      }
