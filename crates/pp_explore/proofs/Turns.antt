-- What the turns of a search make of it.
use Rattle.std.proofs.Common.{◌≡◌, ℕ, zero, suc, ◌+◌, ◌-◌, ◌<◌, ◌≤◌, arith, Bool, true, false, List, [], ◌∷◌, ◌++◌, map, length, reverse, take, Option, Some, None, refl, ap, sym, ◌∙◌, subst, inl, inr, ◌⊎◌, append-nil, append_assoc, length-append}
use Rattle.std.proofs.lemmas.List.{length-reverse}
use Rattle.std.proofs.lemmas.Bool.{lt-ltb}
use Rattle.std.proofs.Math.Seq.{take-length}
use Rattle.pp_algebra.specs.Rows.{Row}
use Rattle.pp_sld.specs.Goals.{Program, Config}
use Rattle.pp_sld.specs.Trace.{Leaf, answers_with, loose_with, met}
use Rattle.pp_sld.specs.Leaves.{leaf_row, row_at}
use Rattle.pp_sld.specs.Verdicts.{Mode}
use Rattle.pp_sld.specs.Findings.{Finding}
use Rattle.pp_sld.specs.Lattice.{IsUnder, LeavesUnder, add_answer, add_loose}
use Rattle.pp_sld.specs.Works as works
use Rattle.pp_sld.specs.Works.{Level, Work, spent, at, level, places, worth, path_worth, down, work_of, next_levels, has_sibling, siblings, IsLater}
use Rattle.pp_sld.specs.Reports.{HasWalked}
use Rattle.pp_sld.specs.Reach.{Misses, Chosen}
use Rattle.pp_sld.specs.Paths.{at_path, PathComesTo, kids}
use Rattle.pp_sld.proofs.Trees.{tree, tree-IsSearch, went_tree, choice_tree, none_at_end}
use Rattle.pp_sld.proofs.Standing.{stands_answer, stands_loose, stands_fails, stands_dead, stands_choice, stands_leaves, path_misses_leaves}
use Rattle.pp_sld.proofs.WorkLeaves.{next_keeps, down_keeps}
use Rattle.pp_sld.proofs.LaterWorks.{next_is_later, down_is_later, later_through}
use Rattle.pp_sld.proofs.Reports.{walk_goes_down, walk_goes_on, walk_ends}
use Rattle.pp_sld.proofs.Fitting.{under-left, under-right}
use Rattle.pp_path.specs.declared.levels.Level.{Level as CodeLevel}
use Rattle.pp_path.specs.Works.{level_by, work_by, skipped, HasMore}
use Rattle.pp_walk.specs.Places.{Place}
use Rattle.pp_walk.specs.Moves.{Stepped, IsAtChoice, HasChoice, IsDeadAt}
use Rattle.pp_walk.specs.declared.event.Event.TheVariants.{Went, Choice, Failed, Answer, Loose}
use Rattle.pp_explore.specs.declared.stage.Stage.{Stage}
use Rattle.pp_explore.specs.declared.stage.Stage.TheVariants.{Enter, Try}
use Rattle.pp_explore.specs.declared.stage.Turned.{Turned}
use Rattle.pp_explore.specs.Standing.{StandsOver, back_by, Took}
use Rattle.pp_explore.specs.Exploring.{add_leaves}
use Rattle.pp_explore.specs.Searching.{state, IsOn, IsPlaceOf, KnownDead, HasLeft, PathIs, GivesUp, FitsWork, AreDead, IsReady, size, owed, owed_here, distance, upward, Keeps, Goes, Ends, Turns}
use Rattle.pp_explore.proofs.Added.{add_leaves-append}
use Rattle.pp_explore.proofs.Levels.{map-levels-append, same-last, next_snoc, MovesOn, MovesIfSome, moves_on, sibling_is_before, places-append, length-places, length-snoc, reverse-snoc, reverse-middle, take-places}
use Rattle.pp_explore.proofs.Distances.{smaller, smaller_chosen, size_whole, owed_back}
use Rattle.pp_explore.proofs.Standing.{length-over, over_went, over_chose, choice_back, misses_if_none}

later_on : (s : Stage) (task w v : Work) → IsOn s task w → IsLater v w → IsLater v task
later_on Enter task w v (inl e) h = subst (IsLater v) e h
later_on Enter task w v (inr k) h = later_through v w task h k
later_on (Try from) task w v k h = later_through v w task h k

-- on to the next part
pub next_later : (w v : Work) (ls : List Level) → works.next w ≡ at ls → v ≡ at ls → IsLater v w
next_later w v ls e h = elim (next_is_later w) [
  | inl z ↦ absurd (cc (z, e))
  | inr z ↦ subst (λ x. IsLater x w) (e ∙ sym h) z
]

-- the levels of a work
abbrev levels_in : Work → List Level
levels_in spent = []
levels_in (at ls) = ls

same_levels_of : (w : Work) (ls ks : List Level) → w ≡ at ls → w ≡ at ks → ls ≡ ks
same_levels_of w ls ks e i = ap levels_in (sym e ∙ i)

same_last_of : (w : Work) (ls ks : List Level) (l k : Level) → w ≡ at (ls ++ l ∷ []) → w ≡ at (ks ++ k ∷ []) → l ≡ k
same_last_of w ls ks l k e i = same-last ls ks l k (same_levels_of w (ls ++ l ∷ []) (ks ++ k ∷ []) e i)

module _ (clauses : Program) where
  -- ===== where a search lands that gives up what its path leads to

  pub record Landing (p : Place) (ks : List ℕ) (ls : List Level) (bound : ℕ) : Type 0 where
    pub front : List Level
    pub last : Level
    pub is : ls ≡ front ++ last ∷ []
    pub path : take (length ls - 1) ks ≡ places front
    pub shorter : length front < length ks
    pub choice : IsAtChoice clauses (back_by (length ks - (length ls - 1)) p.above p.here).here
    pub nearer : owed_here clauses (back_by (length ks - (length ls - 1)) p.above p.here) (reverse ls) ≤ bound

  lands : (root : Config) (p : Place) (ks : List ℕ) (old new : List Level) → StandsOver clauses root p ks → ks ≡ places old → MovesOn old new → Landing p ks new (owed clauses p.above (reverse old))
  lands root p ks old new s e h =
      let many : length old ≡ length h.front + suc (length h.behind) = ap length h.old ∙ length-append h.front (h.last ∷ h.behind) in
      let deep : length ks ≡ length old = ap length e ∙ length-places old in
      let up : length new - 1 ≡ length h.front = omega (arith, ap length h.new, length-snoc h.front (siblings h.last)) in
      let far : length ks - (length new - 1) ≡ suc (length h.behind) = omega (arith, many, deep, up) in
      let wide : length p.above ≡ length (reverse h.behind) + suc (length (reverse h.front)) = omega (arith, length-over clauses root p ks s, many, deep, length-reverse h.behind, length-reverse h.front) in
      let back = owed_back clauses (reverse h.behind) h.last (reverse h.front) p.above p.here wide in
      record {
        front = h.front;
        last = siblings h.last;
        is = h.new;
        path = ap (λ n. take n ks) up ∙ (ap (take (length h.front)) e ∙ take-places old h.front h.last h.behind h.old);
        shorter = omega (arith, many, deep);
        choice = subst (λ n. IsAtChoice clauses (back_by n p.above p.here).here) (sym far) (choice_back clauses root (length h.behind) p ks (omega (arith, many, deep)) s);
        nearer =
            subst (λ n. owed_here clauses (back_by n p.above p.here) (reverse new) ≤ owed clauses p.above (reverse old)) (sym far)
            (subst (λ x. owed_here clauses (back_by (suc (length h.behind)) p.above p.here) x ≤ owed clauses p.above (reverse old)) (sym (ap reverse h.new ∙ reverse-snoc h.front (siblings h.last)))
            (subst (λ x. owed_here clauses (back_by (suc (length h.behind)) p.above p.here) (siblings h.last ∷ reverse h.front) ≤ owed clauses p.above x) (sym (ap reverse h.old ∙ reverse-middle h.front h.last h.behind))
            (subst (λ n. owed_here clauses (back_by (suc n) p.above p.here) (siblings h.last ∷ reverse h.front) ≤ owed clauses p.above (reverse h.behind ++ h.last ∷ reverse h.front)) (length-reverse h.behind) back)));
      }

  -- a work whose next part is there has moved on
  pub moved_to : (old : List Level) (o : Option (List Level)) (new : List Level) → MovesIfSome old o → work_of o ≡ at new → MovesOn old new
  moved_to old None new h e = absurd (cc e)
  moved_to old (Some ls) new h e = let i : ls ≡ new = cc e in subst (MovesOn old) i h

  -- ===== what is kept

  pub keeps_left : (p : Place) (ks : List ℕ) (w : Work) (ms : List Leaf) (v : Work) → PathIs clauses p ks w ms → works.next w ≡ v → Keeps clauses p ks w ms (v ∷ [])
  keeps_left p ks w ms v h e root s task xs k =
      let t = tree clauses root in
      subst (λ x. HasWalked t task (xs ++ ms) (x ∷ [])) e
      (subst (λ y. HasWalked t task (xs ++ y) (works.next w ∷ [])) (h root s) (walk_goes_on t task xs w [] k))

  pub keeps_same : (p : Place) (ks : List ℕ) (w : Work) → Keeps clauses p ks w [] (w ∷ [])
  keeps_same p ks w root s task xs k = subst (λ y. HasWalked (tree clauses root) task y (w ∷ [])) (sym (append-nil xs)) k

  -- nothing is left
  pub keeps_end : (p : Place) (ks : List ℕ) (w : Work) (ms : List Leaf) → Keeps clauses p ks w ms (spent ∷ []) → Keeps clauses p ks w ms []
  keeps_end p ks w ms h root s task xs k = walk_ends (tree clauses root) task (xs ++ ms) [] (h root s task xs k)

  -- an alternative that fails has no leaves
  pub dead_path : (p : Place) (ks : List ℕ) (ls : List Level) (l : Level) (w : Work) → w ≡ at (ls ++ l ∷ []) → ks ≡ places ls → IsAtChoice clauses p.here → (HasChoice clauses p.here l.now → IsDeadAt clauses p.here l.now) → PathIs clauses p ks w []
  dead_path p ks ls l w e k a d root s =
      let i : ks ++ l.now ∷ [] ≡ places (ls ++ l ∷ []) = ap (λ x. x ++ l.now ∷ []) k ∙ sym (places-append ls (l ∷ [])) in
      ap (λ x. path_worth x (tree clauses root)) e
      ∙ path_misses_leaves clauses root (places (ls ++ l ∷ [])) (tree clauses root) (subst (Misses clauses root) i (misses_if_none clauses root p ks l.now s a d)) (tree-IsSearch clauses root)

  -- the leaves at the path are those of the configuration where the search stands
  pub entered_path : (p : Place) (ks : List ℕ) (w : Work) (ms : List Leaf) → FitsWork clauses Enter p ks w → ((root : Config) → StandsOver clauses root p ks → at_path ks (tree clauses root) ≡ ms) → PathIs clauses p ks w ms
  entered_path p ks w ms f h root s =
      ap (λ x. path_worth x (tree clauses root)) f.1 ∙ (ap (λ x. at_path x (tree clauses root)) (sym f.2) ∙ h root s)

  module _ (m : Mode) (call : Row) where
    -- ===== giving up

    module _ (s : Stage) (p q : Place) (ks js : List ℕ) (w v : Work) (f g : Finding) (ms : List Leaf) (path_is : PathIs clauses p ks w ms) (found : g ≡ add_leaves m ms f) (r : IsReady clauses call (state s p ks w f)) where
      pub left_ends : HasLeft p ks w false q js v → Ends clauses m call (state s p ks w f) v g
      left_ends h = record { met = ms; finding = found; keeps = keeps_end p ks w ms (keeps_left p ks w ms spent path_is h.0) }

      left_under : works.next w ≡ v → LeavesUnder call (worth v (tree clauses r.root))
      left_under e =
          subst (λ x. LeavesUnder call (worth x (tree clauses r.root))) e
          (under-right call (path_worth w (tree clauses r.root)) (worth (works.next w) (tree clauses r.root)) (subst (LeavesUnder call) (next_keeps w (tree clauses r.root)) r.under))

      left_to : (ls : List Level) → works.next w ≡ at ls → v ≡ at ls → StandsOver clauses r.root q js → (x : ℕ) → FitsWork clauses (Try x) q js v → owed_here clauses q (reverse ls) < distance clauses s p w
          → Goes clauses m call (state s p ks w f) (state (Try x) q js v g)
      left_to ls e i over x fits near = record {
        met = ms;
        finding = found;
        keeps = keeps_left p ks w ms v path_is (e ∙ sym i);
        ready = record { root = r.root; stands = over; under = left_under (e ∙ sym i); fits = fits };
        nearer = subst (λ y. owed_here clauses q (upward y) < distance clauses s p w) (sym i) near;
        later = λ task k. later_on s task w v k (next_later w v ls e i);
      }

    none_dead : (c : Config) (now x : ℕ) → x ≡ 0 → AreDead clauses c now x
    none_dead c now x e k h i = absurd (omega (arith, e, i))

    -- up to a choice above
    up_fits : (p q : Place) (ks js : List ℕ) (v : Work) (ls : List Level) (bound x : ℕ) → Landing p ks ls bound → v ≡ at ls → js ≡ take (length ls - 1) ks → q ≡ back_by (length ks - (length ls - 1)) p.above p.here → x ≡ 0 → FitsWork clauses (Try x) q js v
    up_fits p q ks js v ls bound x h i j k z = (h.front, h.last, i ∙ ap at h.is, j ∙ h.path, subst (λ (y : Place). IsAtChoice clauses y.here) (sym k) h.choice, none_dead q.here h.last.now x z)

    up_near : (p q : Place) (ks : List ℕ) (ls : List Level) (bound : ℕ) → Landing p ks ls bound → q ≡ back_by (length ks - (length ls - 1)) p.above p.here → owed_here clauses q (reverse ls) ≤ bound
    up_near p q ks ls bound h k = subst (λ (y : Place). owed_here clauses y (reverse ls) ≤ bound) (sym k) h.nearer

    -- ===== giving up, from each stage

    abbrev pub Steps : ℕ → ℕ → List ℕ → List ℕ → Type 0
    Steps x from ks js = (x ≡ 0) ⊎ ((x ≡ from) × (length js ≡ length ks))

    module _ (p q : Place) (ks js : List ℕ) (w v : Work) (f g : Finding) (ms : List Leaf) (path_is : PathIs clauses p ks w ms) (found : g ≡ add_leaves m ms f) (over : (root : Config) → StandsOver clauses root p ks → StandsOver clauses root q js) (from x : ℕ) (dry : Steps x from ks js) where
      left_from_enter : IsReady clauses call (state Enter p ks w f) → from ≡ 0 → HasLeft p ks w true q js v → Goes clauses m call (state Enter p ks w f) (state (Try x) q js v g)
      left_from_enter r z h =
          let ls0 = r.fits.0 in
          let ls = h.0 in
          let e : work_of (next_levels ls0) ≡ at ls = ap works.next (sym r.fits.1) ∙ h.1 in
          let land = lands r.root p ks ls0 ls r.stands r.fits.2 (moved_to ls0 (next_levels ls0) ls (moves_on ls0) e) in
          let nil : x ≡ 0 = elim dry [ inl a ↦ a | inr a ↦ a.0 ∙ z ] in
          let near = up_near p q ks ls (owed clauses p.above (reverse ls0)) land h.4 in
          left_to Enter p q ks js w v f g ms path_is found r ls h.1 h.2 (over r.root r.stands) x
          (up_fits p q ks js v ls (owed clauses p.above (reverse ls0)) x land h.2 h.3 h.4 nil)
          (omega (arith, near, ap (λ y. owed clauses p.above (upward y)) r.fits.1))

      module _ (k0 : ℕ) (r : IsReady clauses call (state (Try k0) p ks w f)) (known : KnownDead clauses (Try k0) p w from) (h : HasLeft p ks w true q js v) where
        abbrev olds : List Level
        olds = r.fits.0

        abbrev here : Level
        here = r.fits.1

        here_owed : distance clauses (Try k0) p w ≡ size clauses p.here here.now here.end + 1 + owed clauses p.above (reverse olds)
        here_owed = ap (λ y. owed_here clauses p (upward y)) r.fits.2 ∙ ap (owed_here clauses p) (reverse-snoc olds here)

        next_here : work_of (next_levels (olds ++ here ∷ [])) ≡ at h.0
        next_here = ap works.next (sym r.fits.2) ∙ h.1

        left_up : has_sibling here ≡ false → Goes clauses m call (state (Try k0) p ks w f) (state (Try x) q js v g)
        left_up b =
            let ls = h.0 in
            let e : work_of (next_levels olds) ≡ at ls = ap work_of (sym (next_snoc olds here false b)) ∙ next_here in
            let land = lands r.root p ks olds ls r.stands r.fits.3 (moved_to olds (next_levels olds) ls (moves_on olds) e) in
            let short : length js ≡ length land.front = ap length (h.3 ∙ land.path) ∙ length-places land.front in
            let nil : x ≡ 0 = elim dry [ inl a ↦ a | inr a ↦ absurd (omega (arith, a.1, short, land.shorter)) ] in
            let near = up_near p q ks ls (owed clauses p.above (reverse olds)) land h.4 in
            left_to (Try k0) p q ks js w v f g ms path_is found r ls h.1 h.2 (over r.root r.stands) x
            (up_fits p q ks js v ls (owed clauses p.above (reverse olds)) x land h.2 h.3 h.4 nil)
            (omega (arith, near, here_owed))

        left_aside : has_sibling here ≡ true → Goes clauses m call (state (Try k0) p ks w f) (state (Try x) q js v g)
        left_aside b =
            let ls = h.0 in
            let a : at (olds ++ siblings here ∷ []) ≡ at ls = ap work_of (sym (next_snoc olds here true b)) ∙ next_here in
            let e : olds ++ siblings here ∷ [] ≡ ls = cc a in
            let deep : length ks ≡ length olds = ap length r.fits.3 ∙ length-places olds in
            let up : length ls - 1 ≡ length ks = omega (arith, deep, ap length e, length-snoc olds (siblings here)) in
            let none : length ks - (length ls - 1) ≡ 0 = omega (arith, up) in
            let stay : js ≡ ks = h.3 ∙ (ap (λ n. take n ks) up ∙ take-length ks) in
            let place : q ≡ back_by 0 p.above p.here = h.4 ∙ ap (λ n. back_by n p.above p.here) none in
            let at_here : q.here ≡ p.here = ap (λ (y : Place). y.here) place in
            let at_above : q.above ≡ p.above = ap (λ (y : Place). y.above) place in
            let less = smaller clauses p.here here.now here.end (omega (arith, sibling_is_before here b)) in
            let dead : AreDead clauses p.here (suc here.now) x =
            elim dry [
              | inl z ↦ none_dead p.here (suc here.now) x z
              | inr z ↦ λ k i j. known.2 k (omega (arith, i, known.1 olds here r.fits.2)) (omega (arith, j, z.0))
            ] in
            left_to (Try k0) p q ks js w v f g ms path_is found r ls h.1 h.2 (over r.root r.stands) x
            (olds, siblings here, h.2 ∙ ap at (sym e), stay ∙ r.fits.3, subst (IsAtChoice clauses) (sym at_here) r.fits.4, subst (λ c. AreDead clauses c (suc here.now) x) (sym at_here) dead)
            (omega (
              arith,
              less,
              here_owed,
              ap (λ (y : Place). owed_here clauses y (reverse ls)) place,
              ap (owed_here clauses p) (ap reverse (sym e) ∙ reverse-snoc olds (siblings here)),
            ))

        left_from_try : (b : Bool) → has_sibling here ≡ b → Goes clauses m call (state (Try k0) p ks w f) (state (Try x) q js v g)
        left_from_try true b = left_aside b
        left_from_try false b = left_up b

      pub left_goes : (s : Stage) → IsReady clauses call (state s p ks w f) → KnownDead clauses s p w from → HasLeft p ks w true q js v → Goes clauses m call (state s p ks w f) (state (Try x) q js v g)
      left_goes Enter r k h = left_from_enter r k h
      left_goes (Try k0) r k h = left_from_try k0 r k h (has_sibling r.fits.1) refl

    -- ===== one step at a configuration

    pub went_goes : (p q : Place) (ks : List ℕ) (w : Work) (f : Finding) → Stepped clauses p Went q → IsReady clauses call (state Enter p ks w f) → Goes clauses m call (state Enter p ks w f) (state Enter q ks w f)
    went_goes p q ks w f h r = record {
      met = [];
      finding = refl;
      keeps = keeps_same p ks w;
      ready = record { root = r.root; stands = over_went clauses r.root p q ks h r.stands; under = r.under; fits = r.fits };
      nearer = omega (arith, ap length (went_tree clauses p.here h.0 q.here h.1 h.2), ap (λ x. owed clauses x (upward w)) h.3);
      later = λ task k. k;
    }

    pub choice_goes : (p : Place) (ks : List ℕ) (w v : Work) (f : Finding) (n : ℕ) → Stepped clauses p (Choice n) p → v ≡ down n w → IsReady clauses call (state Enter p ks w f) → Goes clauses m call (state Enter p ks w f) (state (Try 0) p ks v f)
    choice_goes p ks w v f n h d r =
        let ls = r.fits.0 in
        let is : v ≡ at (ls ++ level 0 n ∷ []) = d ∙ ap (down n) r.fits.1 in
        let comes : (root : Config) → StandsOver clauses root p ks → PathComesTo n (places ls) (tree clauses root) = λ root s.
        subst (λ x. PathComesTo x (places ls) (tree clauses root)) (sym h.2) (subst (λ x. PathComesTo (length h.0) x (tree clauses root)) r.fits.2 (stands_choice clauses root ks p.here h.0 s.0 h.1)) in
        record {
          met = [];
          finding = refl;
          keeps = λ root s task xs k.
              let t = tree clauses root in
              subst (λ y. HasWalked t task y (v ∷ [])) (sym (append-nil xs))
              (subst (λ x. HasWalked t task xs (x ∷ [])) (sym is)
              (walk_goes_down t task xs ls [] n (comes root s) (subst (λ x. HasWalked t task xs (x ∷ [])) r.fits.1 k)));
          ready = record {
            root = r.root;
            stands = r.stands;
            under = (let t = tree clauses r.root in
                subst (LeavesUnder call) (sym (ap (λ x. worth x t) is ∙ down_keeps ls n t (comes r.root r.stands))) (subst (λ x. LeavesUnder call (worth x t)) r.fits.1 r.under));
            fits = (ls, level 0 n, is, r.fits.2, (h.0, h.1), none_dead p.here 0 0 refl);
          };
          nearer = omega (arith, size_whole clauses p.here h.0 n h.1 h.2, ap (λ x. owed_here clauses p (upward x)) is, ap (owed_here clauses p) (reverse-snoc ls (level 0 n)), ap (λ x. owed clauses p.above (upward x)) r.fits.1);
          later = λ task k. later_on Enter task w v k (subst (λ x. IsLater x w) (sym is) (subst (IsLater (at (ls ++ level 0 n ∷ []))) (sym r.fits.1) (down_is_later ls n)));
        }

    -- ===== the leaves of a configuration

    pub failed_path : (p q : Place) (ks : List ℕ) (root : Config) → Stepped clauses p Failed q → StandsOver clauses root p ks → at_path ks (tree clauses root) ≡ []
    failed_path p q ks root h s = elim h.0 [
      | inl e ↦ stands_fails clauses root ks p.here s.0 e
      | inr k ↦ elim k [
        | inl e ↦ (let a = choice_tree clauses p.here [] e in stands_leaves clauses root ks p.here s.0 ∙ ap met (a.0 ∙ none_at_end clauses [] (kids (tree clauses p.here)) 0 (omega arith) a.1))
        | inr d ↦ stands_dead clauses root ks p.here d.0 s.0 d.1 d.2
      ]
    ]

    pub answer_path : (p q : Place) (ks : List ℕ) (root : Config) → Stepped clauses p Answer q → StandsOver clauses root p ks → at_path ks (tree clauses root) ≡ answers_with p.here ∷ []
    answer_path p q ks root h s = stands_answer clauses root ks p.here s.0 h.0

    pub loose_path : (p q : Place) (ks : List ℕ) (root : Config) → Stepped clauses p Loose q → StandsOver clauses root p ks → at_path ks (tree clauses root) ≡ loose_with p.here ∷ []
    loose_path p q ks root h s = stands_loose clauses root ks p.here s.0 h.0

    -- a leaf of the work lies under the call
    pub leaf_under : (p : Place) (ks : List ℕ) (w : Work) (f : Finding) (l : Leaf) → PathIs clauses p ks w (l ∷ []) → IsReady clauses call (state Enter p ks w f) → IsUnder call (row_at l)
    leaf_under p ks w f l h r =
        let t = tree clauses r.root in
        let u : LeavesUnder call (path_worth w t ++ worth (works.next w) t) = subst (LeavesUnder call) (next_keeps w t) r.under in
        subst (LeavesUnder call) (h r.root r.stands) (under-left call (path_worth w t) (worth (works.next w) t) u) l (inl refl)

    -- ===== an alternative that is taken

    pub chose_goes : (p q : Place) (ks js : List ℕ) (w : Work) (f : Finding) (from k : ℕ) → Took clauses p ks k true q js → IsPlaceOf w k → IsReady clauses call (state (Try from) p ks w f) → Goes clauses m call (state (Try from) p ks w f) (state Enter q js w f)
    chose_goes p q ks js w f from k h place r =
        let ls = r.fits.0 in
        let l = r.fits.1 in
        let now : k ≡ l.now = place ls l r.fits.2 in
        let taken : Chosen clauses p.here l.now q.here = subst (λ x. Chosen clauses p.here x q.here) now h.0.0 in
        let path : js ≡ places (ls ++ l ∷ []) = h.1 ∙ (ap (λ x. ks ++ x ∷ []) now ∙ (ap (λ x. x ++ l.now ∷ []) r.fits.3 ∙ sym (places-append ls (l ∷ [])))) in
        record {
          met = [];
          finding = refl;
          keeps = keeps_same p ks w;
          ready = record { root = r.root; stands = subst (StandsOver clauses r.root q) (sym h.1) (over_chose clauses r.root p q ks k h.0 r.stands); under = r.under; fits = (ls ++ l ∷ [], r.fits.2, path) };
          nearer = omega (
            arith,
            smaller_chosen clauses p.here l.now l.end q.here taken,
            ap (λ x. owed_here clauses p (upward x)) r.fits.2,
            ap (owed_here clauses p) (reverse-snoc ls l),
            ap (λ x. owed clauses q.above (upward x)) r.fits.2,
            ap (owed clauses q.above) (reverse-snoc ls l),
            ap (λ x. owed clauses x (l ∷ reverse ls)) h.0.1,
          );
          later = λ task i. inr i;
        }

    pub choice_turns : (p q : Place) (ks : List ℕ) (w v : Work) (f : Finding) (n : ℕ) → Stepped clauses p (Choice n) q → v ≡ down n w → IsReady clauses call (state Enter p ks w f) → Goes clauses m call (state Enter p ks w f) (state (Try 0) q ks v f)
    choice_turns p q ks w v f n h d r =
        subst (λ x. Goes clauses m call (state Enter p ks w f) (state (Try 0) x ks v f)) (sym h.4) (choice_goes p ks w v f n (h.0, h.1, h.2, h.3, refl) d r)

    given_up : (p q o : Place) (ks js : List ℕ) (w v : Work) (t : Turned) (f g : Finding) (ms : List Leaf) → q ≡ p → GivesUp clauses q ks w 0 t o js v → IsReady clauses call (state Enter p ks w f) → PathIs clauses p ks w ms → g ≡ add_leaves m ms f → Turns clauses m call (state Enter p ks w f) t o js v g
    given_up p q o ks js w v t f g ms e h r i k = subst (λ x. GivesUp clauses x ks w 0 t o js v) e h m call Enter f g ms r refl i k

    module _ (p q o : Place) (ks js : List ℕ) (w v : Work) (t : Turned) (f g : Finding) where
      pub failed_turns : Stepped clauses p Failed q → GivesUp clauses q ks w 0 t o js v → IsReady clauses call (state Enter p ks w f) → g ≡ f → Turns clauses m call (state Enter p ks w f) t o js v g
      failed_turns h u r e = given_up p q o ks js w v t f g [] h.1 u r (entered_path p ks w [] r.fits (λ root s. failed_path p q ks root h s)) e

      pub answer_turns : (q' : Place) → q' ≡ q → Stepped clauses p Answer q → GivesUp clauses q' ks w 0 t o js v → IsReady clauses call (state Enter p ks w f) → g ≡ add_answer m (leaf_row q.here) f → Turns clauses m call (state Enter p ks w f) t o js v g
      answer_turns q' z h u r e =
          given_up p q' o ks js w v t f g (answers_with p.here ∷ []) (z ∙ h.1) u r (entered_path p ks w (answers_with p.here ∷ []) r.fits (λ root s. answer_path p q ks root h s)) (e ∙ ap (λ (x : Place). add_answer m (leaf_row x.here) f) h.1)

      pub loose_turns : (q' : Place) → q' ≡ q → Stepped clauses p Loose q → GivesUp clauses q' ks w 0 t o js v → IsReady clauses call (state Enter p ks w f) → g ≡ add_loose m (leaf_row q.here) f → Turns clauses m call (state Enter p ks w f) t o js v g
      loose_turns q' z h u r e =
          given_up p q' o ks js w v t f g (loose_with p.here ∷ []) (z ∙ h.1) u r (entered_path p ks w (loose_with p.here ∷ []) r.fits (λ root s. loose_path p q ks root h s)) (e ∙ ap (λ (x : Place). add_loose m (leaf_row x.here) f) h.1)

    pub answer_is_under : (p q : Place) (ks : List ℕ) (w : Work) (f : Finding) → Stepped clauses p Answer q → IsReady clauses call (state Enter p ks w f) → IsUnder call (leaf_row q.here)
    answer_is_under p q ks w f h r =
        subst (λ (x : Place). IsUnder call (leaf_row x.here)) (sym h.1) (leaf_under p ks w f (answers_with p.here) (entered_path p ks w (answers_with p.here ∷ []) r.fits (λ root s. answer_path p q ks root h s)) r)

    pub loose_is_under : (p q : Place) (ks : List ℕ) (w : Work) (f : Finding) → Stepped clauses p Loose q → IsReady clauses call (state Enter p ks w f) → IsUnder call (leaf_row q.here)
    loose_is_under p q ks w f h r =
        subst (λ (x : Place). IsUnder call (leaf_row x.here)) (sym h.1) (leaf_under p ks w f (loose_with p.here) (entered_path p ks w (loose_with p.here ∷ []) r.fits (λ root s. loose_path p q ks root h s)) r)

    -- ===== an alternative that is known to fail, or is tried and fails

    dead_here : (p : Place) (ks : List ℕ) (w : Work) (f : Finding) (k0 at_place : ℕ) → IsPlaceOf w at_place → (HasChoice clauses p.here at_place → IsDeadAt clauses p.here at_place) → IsReady clauses call (state (Try k0) p ks w f) → PathIs clauses p ks w []
    dead_here p ks w f k0 at_place place d r =
        dead_path p ks r.fits.0 r.fits.1 w r.fits.2 r.fits.3 r.fits.4 (subst (λ x. HasChoice clauses p.here x → IsDeadAt clauses p.here x) (place r.fits.0 r.fits.1 r.fits.2) d)

    pub passed_turns : (p q : Place) (ks js : List ℕ) (w v : Work) (t : Turned) (f : Finding) (k0 at_place from : ℕ) → IsPlaceOf w at_place → AreDead clauses p.here at_place from → (HasChoice clauses p.here at_place → IsDeadAt clauses p.here at_place) → GivesUp clauses p ks w from t q js v → IsReady clauses call (state (Try k0) p ks w f) → Turns clauses m call (state (Try k0) p ks w f) t q js v f
    passed_turns p q ks js w v t f k0 at_place from place dead d h r =
        h m call (Try k0) f f [] r (at_place, place, dead) (dead_here p ks w f k0 at_place place d r) refl

    -- ===== alternatives that are passed over at once

    -- one turn after another
    goes_on : (s t u : Stage) (p q o : Place) (ks js is : List ℕ) (w v x : Work) (f g h : Finding) → ((root : Config) → StandsOver clauses root p ks → StandsOver clauses root q js) → Goes clauses m call (state s p ks w f) (state t q js v g) → Goes clauses m call (state t q js v g) (state u o is x h) → Goes clauses m call (state s p ks w f) (state u o is x h)
    goes_on s t u p q o ks js is w v x f g h over a b = record {
      met = a.met ++ b.met;
      finding = b.finding ∙ (ap (add_leaves m b.met) a.finding ∙ sym (add_leaves-append m a.met b.met f));
      keeps = λ root st task xs k. subst (λ y. HasWalked (tree clauses root) task y (x ∷ [])) (append_assoc xs a.met b.met) (b.keeps root (over root st) task (xs ++ a.met) (a.keeps root st task xs k));
      ready = b.ready;
      nearer = omega (arith, a.nearer, b.nearer);
      later = λ task k. b.later task (a.later task k);
    }

    -- the walker stands still
    passes_one : (p : Place) (ks : List ℕ) (w : Work) (f : Finding) (k0 from : ℕ) (ls : List Level) (l : Level) → w ≡ at (ls ++ l ∷ []) → suc l.now < l.end → l.now < from → AreDead clauses p.here l.now from → IsReady clauses call (state (Try k0) p ks w f) → Goes clauses m call (state (Try k0) p ks w f) (state (Try from) p ks (works.next w) f)
    passes_one p ks w f k0 from ls l e more lt dead r =
        let place : IsPlaceOf w l.now = λ ks k i. ap (λ (x : Level). x.now) (same_last_of w ls ks l k e i) in
        let on : works.next w ≡ at (ls ++ siblings l ∷ []) = ap works.next e ∙ ap work_of (next_snoc ls l true (lt-ltb (suc l.now) l.end more)) in
        let many : length (ls ++ siblings l ∷ []) - 1 ≡ length ks = omega (arith, length-snoc ls (siblings l), ap length r.fits.3, length-places r.fits.0, length-snoc ls l, length-snoc r.fits.0 r.fits.1, ap length (same_levels_of w (ls ++ l ∷ []) (r.fits.0 ++ r.fits.1 ∷ []) e r.fits.2)) in
        let none : length ks - (length (ls ++ siblings l ∷ []) - 1) ≡ 0 = omega (arith, many) in
        left_goes p p ks ks w (works.next w) f f [] (dead_here p ks w f k0 l.now place (dead l.now (omega arith) lt) r) refl (λ root s. s) from from (inr (refl, refl)) (Try k0) r (l.now, place, dead)
        (ls ++ siblings l ∷ [], on, on, sym (ap (λ n. take n ks) many ∙ take-length ks), sym (ap (λ n. back_by n p.above p.here) none))

    passes : (n : ℕ) (p : Place) (ks : List ℕ) (w : Work) (f : Finding) (k0 from : ℕ) (ls : List Level) (l : Level) → w ≡ at (ls ++ l ∷ []) → l.now + suc n < l.end → l.now + n < from → AreDead clauses p.here l.now from → IsReady clauses call (state (Try k0) p ks w f) → Goes clauses m call (state (Try k0) p ks w f) (state (Try from) p ks (skipped (suc n) w) f)
    passes zero p ks w f k0 from ls l e more lt dead r = passes_one p ks w f k0 from ls l e (omega (arith, more)) (omega (arith, lt)) dead r
    passes (suc n) p ks w f k0 from ls l e more lt dead r =
        let one = passes_one p ks w f k0 from ls l e (omega (arith, more)) (omega (arith, lt)) dead r in
        let on : works.next w ≡ at (ls ++ siblings l ∷ []) = ap works.next e ∙ ap work_of (next_snoc ls l true (lt-ltb (suc l.now) l.end (omega (arith, more)))) in
        goes_on (Try k0) (Try from) (Try from) p p p ks ks ks w (works.next w) (skipped (suc n) (works.next w)) f f f (λ root s. s) one
        (passes n p ks (works.next w) f from from ls (siblings l) on (omega (arith, more)) (omega (arith, lt)) (λ k i j. dead k (omega (arith, i)) j) one.ready)

    pub passed_at_once : (p : Place) (ks : List ℕ) (w : Option (List CodeLevel)) (f : Finding) (k0 now from n : ℕ) → HasMore w n → 0 < n → now + n ≤ from → IsPlaceOf (work_by w) now → AreDead clauses p.here now from → IsReady clauses call (state (Try k0) p ks (work_by w) f) → Goes clauses m call (state (Try k0) p ks (work_by w) f) (state (Try from) p ks (skipped n (work_by w)) f)
    passed_at_once p ks w f k0 now from zero h some lt place dead r = absurd (omega (arith, some))
    passed_at_once p ks w f k0 now from (suc n) h some lt place dead r =
        let l : Level = level_by h.1 in
        let e : work_by w ≡ at (map level_by h.0 ++ l ∷ []) = ap work_by h.2 ∙ ap at (map-levels-append h.0 (h.1 ∷ [])) in
        let here : now ≡ l.now = place (map level_by h.0) l e in
        passes n p ks (work_by w) f k0 from (map level_by h.0) l e h.3 (omega (arith, lt, here)) (subst (λ k. AreDead clauses p.here k from) here dead) r

    module _ (p q o : Place) (ks is js : List ℕ) (w v : Work) (f : Finding) (k0 k : ℕ) (h : Took clauses p ks k false q is) (place : IsPlaceOf w k) (r : IsReady clauses call (state (Try k0) p ks w f)) where
      no_path : PathIs clauses p ks w []
      no_path = dead_here p ks w f k0 k place (λ _. h.0.0) r

      stayed : HasLeft q is w true o js v → HasLeft p ks w true o js v
      stayed l = subst (λ (x : Place). HasLeft x ks w true o js v) h.0.1 (subst (λ x. HasLeft q x w true o js v) h.1 l)

      pub try_ends : HasLeft q is w false o js v → Ends clauses m call (state (Try k0) p ks w f) v f
      try_ends l = left_ends (Try k0) p o ks js w v f f [] no_path refl r l

      pub try_goes : ((root : Config) → StandsOver clauses root q is → StandsOver clauses root o js) → HasLeft q is w true o js v → Goes clauses m call (state (Try k0) p ks w f) (state (Try 0) o js v f)
      try_goes over l =
          left_goes p o ks js w v f f [] no_path refl
          (λ root s. over root (subst (λ (x : Place). StandsOver clauses root x is) (sym h.0.1) (subst (StandsOver clauses root p) (sym h.1) s)))
          0 0 (inl refl) (Try k0) r (k, place, none_dead p.here k 0 refl) (stayed l)

    -- what is known of the alternatives here
    pub dead_before : (p : Place) (ks : List ℕ) (w : Work) (from at_place : ℕ) → IsPlaceOf w at_place → FitsWork clauses (Try from) p ks w → AreDead clauses p.here at_place from
    dead_before p ks w from at_place place f = subst (λ x. AreDead clauses p.here x from) (sym (place f.0 f.1 f.2)) f.5
