-- Between two turns of a run, and what a turn makes of it.
use Rattle.std.proofs.Common.{◌≡◌, ℕ, suc, ◌+◌, ◌-◌, ◌<◌, ◌≤◌, Bool, true, false, List, [], ◌∷◌, ◌++◌, length, set, replicate, Option, Some, None, All, append-nil, refl, ap, sym, ◌∙◌, subst, arith}
use Rattle.std.specs.Prelude.{not, slice_get}
use Rattle.std.proofs.lemmas.Bool.{not-false, not-true}
use Rattle.std.proofs.lemmas.List.{length_push, length-set, length-replicate}
use Rattle.pp_algebra.specs.Rows.{Row}
use Rattle.pp_sld.specs.Goals.{Program}
use Rattle.pp_sld.specs.Verdicts.{Verdict, fail, same, nothing, unfinished, narrow, HasVerdict}
use Rattle.pp_propagation.specs.Stores.{Asked, face}
use Rattle.pp_propagation.specs.Turns.{Commit, State, goal_at, store_after, committed, commit, turned, Turn}
use Rattle.pp_propagation.specs.Histories.{Change, with_change, changes_from, changes, is_unfinished, numbers_from, unfinished_goals}
use Rattle.pp_propagation.specs.Watchers.{Watcher, HasRoom, after, NotedInPart}
use Rattle.pp_propagation.proofs.Watching.{noted_in_turn, nothing_noted}
use Rattle.pp_watch.proofs.Parts.{after_have_room, part_on}
use Rattle.pp_propagation.specs.Runs.{yes, stopped, Run, ended, failed, opening, Ends, none_waits, turns_are_made, goal_fails, Turns, all_changes, part_of_the_next}
use Rattle.pp_propagation.proofs.Passing.{one_more, counted}
use Rattle.pp_fix.specs.declared.fix.End.TheVariants.{Yes, No, Stopped}
use Rattle.pp_fix.specs.declared.fix.Fixed.{Fixed}
use Rattle.pp_fix.specs.Marked.{marked}
use Rattle.pp_fix.specs.Committing.{TurnOf, changes_in, HaveNotedTurn, IsBrokenOff, before_it, while_told, behind_it, is_fail, IsVerdictAt, waits_after}
use Rattle.pp_fix.specs.Fixing.{end_by, IsFixed, IsBetweenTurns}
use Rattle.pp_store.proofs.Numbering.{goal_there}
use Rattle.pp_fix.proofs.Marking.{AreFlags, none_is_up, flag_set, marked_is}

fail_is : (v : Verdict) → is_fail v ≡ true → v ≡ fail
fail_is fail e = refl
fail_is same e = let f : false ≡ true = e in absurd (cc (f))
fail_is nothing e = let f : false ≡ true = e in absurd (cc (f))
fail_is unfinished e = let f : false ≡ true = e in absurd (cc (f))
fail_is (narrow given) e = let f : false ≡ true = e in absurd (cc (f))

pub fails_by : (v : Verdict) (b : Bool) → b ≡ not (is_fail v) → b ≡ false → is_fail v ≡ true
fails_by v b e f = not-false (is_fail v) (sym e ∙ f)

pub goes_by : (v : Verdict) (b : Bool) → b ≡ not (is_fail v) → b ≡ true → is_fail v ≡ false
goes_by v b e f = not-true (is_fail v) (sym e ∙ f)

pub first_none : (ks : List ℕ) (r : Option ℕ) → r ≡ slice_get ks 0 → r ≡ None → ks ≡ []
first_none [] r e f = refl
first_none (k ∷ ks) r e f = let g : Some k ≡ None = sym e ∙ f in absurd (cc (g))

pub first_some : (ks : List ℕ) (r : Option ℕ) (x : ℕ) → r ≡ slice_get ks 0 → r ≡ Some x → (later : List ℕ) × (ks ≡ x ∷ later)
first_some [] r x e f = let g : None ≡ Some x = sym e ∙ f in absurd (cc (g))
first_some (k ∷ ks) r x e f = let g : Some k ≡ Some x = sym e ∙ f in let h : k ≡ x = cc (g) in (ks, ap (λ j. j ∷ ks) h)

-- the changes of turns one after another
changes-append : (n : ℕ) (first then : List Commit) → changes_from n (first ++ then) ≡ changes_from n first ++ changes_from (n + length first) then
changes-append n [] then = ap (λ m. changes_from m then) (let e : n ≡ n + 0 = omega arith in e)
changes-append n (c ∷ first) then =
    ap (with_change n c c.verdict) (changes-append (suc n) first then ∙ ap (λ m. changes_from (suc n) first ++ changes_from m then) (omega arith))
    ∙ more c.verdict (changes_from (suc n) first) (changes_from (n + suc (length first)) then)
  where
    more : (v : Verdict) (cs ds : List Change) → with_change n c v (cs ++ ds) ≡ with_change n c v cs ++ ds
    more fail cs ds = refl
    more same cs ds = refl
    more nothing cs ds = refl
    more unfinished cs ds = refl
    more (narrow given) cs ds = refl

module _ (clauses : Program) (goals : List Asked) (depth : ℕ) (begun : Row) (old : List Watcher) where
  -- so many whole turns lead from the opening state to one with this store, these goals that wait, and these flags, and the watchers have
  -- noted their changes
  pub record Between (made : ℕ) (store : Row) (waiting : List ℕ) (flags : List Bool) (watchers : List Watcher) : Type 0 where
    pub state : State
    pub leads : Turns clauses goals depth made (opening goals begun) state
    pub has_store : state.store ≡ store
    pub waits : state.waiting ≡ waiting
    pub many : length flags ≡ length goals
    pub flags_are : AreFlags (length goals) state.history flags
    pub watched : watchers ≡ after old (changes state.history)

  pub begins : (waiting : List ℕ) (flags : List Bool) → waiting ≡ numbers_from 1 (length goals) → flags ≡ replicate (length goals) false → All HasRoom old → Between 0 begun waiting flags old
  begins waiting flags e f h = record {
    state = opening goals begun;
    leads = refl;
    has_store = refl;
    waits = sym e;
    many = ap length f ∙ length-replicate (length goals) false;
    flags_are = subst (AreFlags (length goals) []) (sym f) (none_is_up (length goals));
    watched = sym (nothing_noted old h);
  }

  pub have_room : (made : ℕ) (store : Row) (waiting : List ℕ) (flags : List Bool) (watchers : List Watcher) → Between made store waiting flags watchers → All HasRoom watchers
  have_room made store waiting flags watchers b = subst (All HasRoom) (sym b.watched) (after_have_room old (changes b.state.history))

  -- before the first turn
  pub at_start : (turns : ℕ) → All HasRoom old → IsBetweenTurns clauses goals depth turns begun begun old old
  at_start turns h = record { made = 0; within = omega arith; state = opening goals begun; leads = refl; has_store = refl; noted = all_changes (sym (nothing_noted old h)) }

  pub between_turns : (turns made : ℕ) (store : Row) (waiting : List ℕ) (flags : List Bool) (watchers : List Watcher) → made ≤ turns → Between made store waiting flags watchers → IsBetweenTurns clauses goals depth turns begun store old watchers
  between_turns turns made store waiting flags watchers l b =
      record { made = made; within = l; state = b.state; leads = b.leads; has_store = b.has_store; noted = all_changes b.watched }

  -- the turn that comes
  module _ (made : ℕ) (store : Row) (k : ℕ) (later : List ℕ) (flags : List Bool) (watchers : List Watcher) (b : Between made store (k ∷ later) flags watchers)
      (low : 1 ≤ k) (high : k ≤ length goals) (v : Verdict) (h : IsVerdictAt clauses goals depth store k v) where
    abbrev asked : Asked
    asked = (goal_there goals k low high).0

    abbrev entry : Commit
    entry = committed b.state.store k asked v

    comes : Turn clauses goals depth b.state entry (turned goals later k asked v b.state)
    comes = record {
      asked = asked;
      later = later;
      first = b.waits;
      is_goal = (goal_there goals k low high).1;
      has_verdict = subst (λ s. HasVerdict clauses depth asked.mode asked.goal.shape (face s asked.goal) v) (sym b.has_store) (h asked (goal_there goals k low high).1);
      commits = refl;
      leads = refl;
    }

    flags_next : (new : List Bool) → new ≡ set flags (k - 1) (is_unfinished (Some v)) → AreFlags (length goals) (b.state.history ++ entry ∷ []) new
    flags_next new e = subst (AreFlags (length goals) (b.state.history ++ entry ∷ [])) (sym e) (flag_set (length goals) b.state.history flags entry b.flags_are b.many low high)

    many_next : (new : List Bool) → new ≡ set flags (k - 1) (is_unfinished (Some v)) → length new ≡ length goals
    many_next new e = ap length e ∙ length-set flags (k - 1) (is_unfinished (Some v)) ∙ b.many

    abbrev made_now : TurnOf
    made_now = record { turn = made + 1; goal = k; verdict = v }

    -- the changes of the turns that were made and of this one
    then_changes : changes b.state.history ++ changes_in made_now store asked ≡ changes (b.state.history ++ entry ∷ [])
    then_changes =
        ap (λ r. changes b.state.history ++ changes_from (made + 1) (committed r k asked v ∷ [])) (sym b.has_store)
        ∙ ap (λ n. changes b.state.history ++ changes_from n (entry ∷ [])) (let e : made + 1 ≡ 1 + length b.state.history = omega (arith, counted clauses goals depth made (opening goals begun) b.state b.leads) in e)
        ∙ sym (changes-append 1 b.state.history (entry ∷ []))

    watched_next : (new : List Watcher) → HaveNotedTurn goals made_now store watchers new → new ≡ after old (changes (b.state.history ++ entry ∷ []))
    watched_next new h =
        h.noted asked (goal_there goals k low high).1
        ∙ ap (λ ws. after ws (changes_in made_now store asked)) b.watched
        ∙ noted_in_turn old (changes b.state.history) (changes_in made_now store asked)
        ∙ ap (after old) then_changes

    -- where it doesn't fail, it leads on
    goes_on : (w : Verdict) → is_fail w ≡ false → turned goals later k asked w b.state ≡ Some (commit b.state (waits_after goals b.state.store (store_after b.state.store asked.goal w) later w) (committed b.state.store k asked w))
    goes_on fail e = let f : true ≡ false = e in absurd (cc (f))
    goes_on same e = refl
    goes_on nothing e = refl
    goes_on unfinished e = refl
    goes_on (narrow given) e = refl

    pub leads_on : is_fail v ≡ false → (next : Row) (waiting : List ℕ) (new : List Bool) (those : List Watcher)
        → ((a : Asked) → goal_at goals k ≡ Some a → next ≡ store_after store a.goal v)
        → waiting ≡ waits_after goals store next later v
        → new ≡ set flags (k - 1) (is_unfinished (Some v))
        → HaveNotedTurn goals made_now store watchers those
        → Between (suc made) next waiting new those
    leads_on e next waiting new those s w f h =
        let is : next ≡ store_after store asked.goal v = s asked (goal_there goals k low high).1 in
        let here : store_after b.state.store asked.goal v ≡ next = ap (λ r. store_after r asked.goal v) b.has_store ∙ sym is in
        let after = commit b.state (waits_after goals b.state.store (store_after b.state.store asked.goal v) later v) entry in
        record {
          state = after;
          leads = one_more clauses goals depth made (opening goals begun) b.state after entry b.leads (subst (λ x. Turn clauses goals depth b.state entry x) (goes_on v e) comes);
          has_store = here;
          waits = ap (λ r. waits_after goals r (store_after b.state.store asked.goal v) later v) b.has_store ∙ ap (λ r. waits_after goals store r later v) here ∙ sym w;
          many = many_next new f;
          flags_are = flags_next new f;
          watched = watched_next those h;
        }

    abbrev next_flags : List Bool
    next_flags = set flags (k - 1) (is_unfinished (Some v))

    -- a turn that was broken off leaves the store before it, or the one after it
    pub broken_off : (turns : ℕ) → made < turns → (next : Row) (those : List Watcher) → IsBrokenOff goals made_now store next watchers those → IsBetweenTurns clauses goals depth turns begun next old those
    broken_off turns l next those (before_it e f) =
        subst (λ ws. IsBetweenTurns clauses goals depth turns begun next old ws) (sym f)
        (subst (λ r. IsBetweenTurns clauses goals depth turns begun r old watchers) (sym e) (between_turns turns made store (k ∷ later) flags watchers (omega (arith, l)) b))
    broken_off turns l next those (while_told e f h) =
        let there = commit b.state (waits_after goals b.state.store (store_after b.state.store asked.goal v) later v) entry in
        let part = part_on old those (changes b.state.history) (changes_in made_now store asked) (subst (λ ws. NotedInPart (changes_in made_now store asked) [] ws those) b.watched (h.noted asked (goal_there goals k low high).1)) in
        record {
          made = made;
          within = omega (arith, l);
          state = b.state;
          leads = b.leads;
          has_store = b.has_store ∙ sym f;
          noted = part_of_the_next entry there (subst (λ x. Turn clauses goals depth b.state entry x) (goes_on v e) comes) (subst (λ cs. NotedInPart cs (changes b.state.history) old those) then_changes part);
        }
    broken_off turns l next those (behind_it f h) = go (is_fail v) refl
      where
        go : (c : Bool) → is_fail v ≡ c → IsBetweenTurns clauses goals depth turns begun next old those
        go true e = let d = fail_is v e in record {
          made = made;
          within = omega (arith, l);
          state = b.state;
          leads = b.leads;
          has_store = b.has_store ∙ sym (f asked (goal_there goals k low high).1 ∙ ap (store_after store asked.goal) d);
          noted = all_changes (watched_next those h ∙ ap (after old) (no_change d));
        }
          where
            no_change : v ≡ fail → changes (b.state.history ++ entry ∷ []) ≡ changes b.state.history
            no_change d = changes-append 1 b.state.history (entry ∷ []) ∙ ap (λ u. changes b.state.history ++ changes_from (1 + length b.state.history) (committed b.state.store k asked u ∷ [])) d ∙ append-nil (changes b.state.history)
        go false e =
            between_turns turns (suc made) next (waits_after goals store next later v) next_flags those (omega (arith, l))
            (leads_on e next (waits_after goals store next later v) next_flags those f refl refl h)

    pub fails_now : (turns : ℕ) → made < turns → is_fail v ≡ true → (next : Row) → ((a : Asked) → goal_at goals k ≡ Some a → next ≡ store_after store a.goal v) → (new : List Bool) → new ≡ set flags (k - 1) (is_unfinished (Some v))
        → (those : List Watcher) → HaveNotedTurn goals made_now store watchers those → (f : Fixed) → f.end ≡ No → f.turns ≡ made + 1 → f.unfinished ≡ marked 1 new
        → IsFixed clauses goals depth turns begun next old those f
    fails_now turns l d next s new g those h f ending many list = let e = fail_is v d in record {
      run = failed b.state entry;
      is_run = record {
        made = made;
        left = suc (turns - suc made);
        within = omega (arith, l);
        last = b.state;
        leads = b.leads;
        ends = goal_fails (turns - suc made) refl entry (subst (λ x. Turn clauses goals depth b.state entry x) (stops v e) comes) refl;
      };
      ends = sym (ap end_by ending);
      has_store = b.has_store ∙ sym (s asked (goal_there goals k low high).1 ∙ ap (store_after store asked.goal) e);
      made = length_push b.state.history entry ∙ omega (arith, counted clauses goals depth made (opening goals begun) b.state b.leads, many);
      unfinished = list ∙ marked_is (length goals) (b.state.history ++ entry ∷ []) new (flags_next new g) (many_next new g);
      watched = watched_next those h;
    }
      where
        stops : (w : Verdict) → w ≡ fail → turned goals later k asked w b.state ≡ None
        stops w x = ap (λ u. turned goals later k asked u b.state) x

  -- a run that ends between two turns
  pub ends_now : (turns made left : ℕ) → made + left ≡ turns → (store : Row) (waiting : List ℕ) (flags : List Bool) (watchers : List Watcher) → (b : Between made store waiting flags watchers) → (r : Run) → Ends clauses goals depth left b.state r → (f : Fixed) → r.end ≡ end_by f.end → r.store ≡ b.state.store → r.history ≡ b.state.history
      → f.turns ≡ made → f.unfinished ≡ marked 1 flags → IsFixed clauses goals depth turns begun store old watchers f
  ends_now turns made left w store waiting flags watchers b r e f ending kept equal many list = record {
    run = r;
    is_run = record { made = made; left = left; within = w; last = b.state; leads = b.leads; ends = e };
    ends = ending;
    has_store = kept ∙ b.has_store;
    made = ap length equal ∙ omega (arith, counted clauses goals depth made (opening goals begun) b.state b.leads, many);
    unfinished = list ∙ marked_is (length goals) b.state.history flags b.flags_are b.many ∙ ap (unfinished_goals (length goals)) (sym equal);
    watched = b.watched ∙ ap (λ h. after old (changes h)) (sym equal);
  }

  pub rests_now : (turns made : ℕ) → made ≤ turns → (store : Row) (waiting : List ℕ) (flags : List Bool) (watchers : List Watcher) → Between made store waiting flags watchers → waiting ≡ [] → (f : Fixed) → f.end ≡ Yes → f.turns ≡ made → f.unfinished ≡ marked 1 flags → IsFixed clauses goals depth turns begun store old watchers f
  rests_now turns made l store waiting flags watchers b e f ending many list =
      ends_now turns made (turns - made) (omega (arith, l)) store waiting flags watchers b (ended yes b.state) (none_waits (b.waits ∙ e) refl) f (sym (ap end_by ending)) refl refl many list

  pub stops_now : (turns : ℕ) (store : Row) (k : ℕ) (later : List ℕ) (flags : List Bool) (watchers : List Watcher) → Between turns store (k ∷ later) flags watchers → (f : Fixed) → f.end ≡ Stopped → f.turns ≡ turns → f.unfinished ≡ marked 1 flags → IsFixed clauses goals depth turns begun store old watchers f
  stops_now turns store k later flags watchers b f ending many list =
      ends_now turns turns 0 (omega arith) store (k ∷ later) flags watchers b (ended stopped b.state) (turns_are_made (λ w. let g : [] ≡ k ∷ later = sym w ∙ b.waits in absurd (cc (g))) refl refl) f (sym (ap end_by ending)) refl refl many list
