-- The run of a query that was read, and what the watchers have noted of it.
use Rattle.std.proofs.Common.{◌≡◌, ℕ, zero, suc, ◌+◌, List, [], ◌∷◌, ◌++◌, length, filter, None, All, refl, ap, sym, ◌∙◌, subst, inl, inr, arith}
use Rattle.pp_algebra.specs.Rows.{Row}
use Rattle.pp_sld.specs.Goals.{Program as Rules}
use Rattle.pp_sld.specs.Verdicts.{Verdict, fail, same, nothing, unfinished, narrow}
use Rattle.pp_language.specs.declared.command.Settings.{Settings}
use Rattle.pp_language.specs.Texts.{Text}
use Rattle.pp_language.specs.Programs.{Query}
use Rattle.pp_language.specs.Limits.{Writes}
use Rattle.pp_propagation.specs.Stores.{Asked, goals_of, Begins, BeginsNowhere}
use Rattle.pp_propagation.specs.Turns.{Commit, State, turned}
use Rattle.pp_propagation.specs.Histories.{with_change, changes_from, changes, is_unfinished, last_verdict, numbers_from}
use Rattle.pp_propagation.specs.Watchers.{Watcher, HasRoom, after}
use Rattle.pp_propagation.specs.Runs.{Run, no_store, all_changes, Ends, none_waits, turns_are_made, goal_fails, IsRunFrom, IsRun, begins, begins_nowhere}
use Rattle.pp_propagation.specs.Replies.{NotedInARun}
use Rattle.pp_propagation.proofs.Watching.{nothing_noted}
use Rattle.pp_term.specs.declared.clause.Clause.{Clause}
use Rattle.pp_term.specs.declared.query.Query.{Query as Asks}
use Rattle.pp_term.specs.Meanings.{program}
use Rattle.pp_build.specs.Meanings as reading
use Rattle.pp_read.specs.declared.program.Program.{Program}
use Rattle.pp_read.specs.Programs.{written_of}
use Rattle.pp_store.specs.Queries.{query_by, goals_in}
use Rattle.pp_fix.specs.declared.fix.Fixed.{Fixed}
use Rattle.pp_fix.specs.Fixing.{IsFixed, IsBetweenTurns}
use Rattle.pp_run.specs.declared.run.Ran.{Ran}
use Rattle.pp_run.specs.Made.{IsRan, no_ran, NotedInTurns, HasNotedOf, HasNoted}

-- ===== a turn that fails tells no change

only_fail : (goals : List Asked) (later : List ℕ) (k : ℕ) (a : Asked) (v : Verdict) (s : State) → None ≡ turned goals later k a v s → v ≡ fail
only_fail goals later k a fail s e = refl
only_fail goals later k a same s e = absurd (cc e)
only_fail goals later k a nothing s e = absurd (cc e)
only_fail goals later k a unfinished s e = absurd (cc e)
only_fail goals later k a (narrow g) s e = absurd (cc e)

fail_changes : (n : ℕ) (h : List Commit) (c : Commit) → c.verdict ≡ fail → changes_from n (h ++ c ∷ []) ≡ changes_from n h
fail_changes n [] c e = ap (λ v. with_change n c v []) e
fail_changes n (x ∷ h) c e = ap (with_change n x x.verdict) (fail_changes (suc n) h c e)

-- ===== a run that was made

none_unfinished : (first n : ℕ) → [] ≡ filter (λ (k : ℕ). is_unfinished (last_verdict None k [])) (numbers_from first n)
none_unfinished first zero = refl
none_unfinished first (suc n) = none_unfinished (suc first) n

module _ (clauses : Rules) (settings : Settings) (old new : List Watcher) where
  pub nowhere_ran : (q : Query) → All HasRoom old → new ≡ old → BeginsNowhere q → IsRan clauses q settings old new no_ran
  nowhere_ran q room e h = record {
    run = no_store;
    is_run = begins_nowhere h refl;
    watched = e ∙ sym (nothing_noted old room);
    ends = refl;
    has_store = refl;
    made = refl;
    unfinished = none_unfinished 1 (length (goals_of q.items));
  }

  module _ (q : Asks) (begun last : Row) (h : Begins (query_by q) begun) where
    pub fixed_ran : (f : Fixed) (row : Row) → row ≡ last → IsFixed clauses (goals_in q) settings.depth settings.turns begun last old new f → IsRan clauses (query_by q) settings old new (record { fixed = f; row = row })
    fixed_ran f row e k = record {
      run = k.run;
      is_run = begins begun h k.is_run;
      watched = k.watched;
      ends = k.ends;
      has_store = k.has_store ∙ sym e;
      made = k.made;
      unfinished = k.unfinished;
    }

    pub between_noted : IsBetweenTurns clauses (goals_in q) settings.depth settings.turns begun last old new → HasNotedOf clauses (query_by q) settings old new
    between_noted k = inr (record { store = begun; begins = h; made = k.made; within = k.within; state = k.state; leads = k.leads; noted = k.noted })

  -- ===== what was noted where memory was wanted behind the run

  module _ (q : Query) (r : Run) (watched : new ≡ after old (changes r.history)) where
    at_end : (left : ℕ) (last : State) → Ends clauses (goals_of q.items) settings.depth left last r → changes r.history ≡ changes last.history
    at_end left last (none_waits w e) = ap (λ (x : Run). changes x.history) e
    at_end left last (turns_are_made w l e) = ap (λ (x : Run). changes x.history) e
    at_end left last (goal_fails more l c t e) =
        ap (λ (x : Run). changes x.history) e
        ∙ fail_changes 1 last.history c (only_fail (goals_of q.items) t.later c.goal t.asked c.verdict last t.leads)

    from_noted : (begun : Row) → Begins q begun → IsRunFrom clauses (goals_of q.items) settings.depth settings.turns begun r → NotedInTurns clauses q settings old new
    from_noted begun h k = record {
      store = begun;
      begins = h;
      made = k.made;
      within = omega (arith, k.within);
      state = k.last;
      leads = k.leads;
      noted = all_changes (watched ∙ ap (after old) (at_end k.left k.last k.ends));
    }

    run_noted : All HasRoom old → IsRun clauses q settings.depth settings.turns r → HasNotedOf clauses q settings old new
    run_noted room (begins_nowhere h e) = inl (watched ∙ ap (λ (x : Run). after old (changes x.history)) e ∙ nothing_noted old room)
    run_noted room (begins begun h k) = inr (from_noted begun h k)

  pub ran_noted : (q : Query) (r : Ran) → All HasRoom old → IsRan clauses q settings old new r → HasNotedOf clauses q settings old new
  ran_noted q r room k = run_noted q k.run k.watched room k.is_run

-- ===== over a table of the same clauses

module _ (table clauses : List Clause) (same_clauses : table ≡ clauses) (settings : Settings) (old new : List Watcher) (q : Asks) (begun last : Row) (h : Begins (query_by q) begun) where
  pub table_noted : IsBetweenTurns (program table) (goals_in q) settings.depth settings.turns begun last old new → HasNotedOf (program clauses) (query_by q) settings old new
  table_noted k = subst (λ (cs : List Clause). HasNotedOf (program cs) (query_by q) settings old new) same_clauses (between_noted (program table) settings old new q begun last h k)

  pub table_ran : (f : Fixed) (row : Row) → row ≡ last → IsFixed (program table) (goals_in q) settings.depth settings.turns begun last old new f → IsRan (program clauses) (query_by q) settings old new (record { fixed = f; row = row })
  table_ran f row e k = subst (λ (cs : List Clause). IsRan (program cs) (query_by q) settings old new (record { fixed = f; row = row })) same_clauses (fixed_ran (program table) settings old new q begun last h f row e k)

  pub table_ran_noted : (f : Fixed) → All HasRoom old → IsFixed (program table) (goals_in q) settings.depth settings.turns begun last old new f → HasNotedOf (program clauses) (query_by q) settings old new
  table_ran_noted f room k = ran_noted (program clauses) settings old new (query_by q) (record { fixed = f; row = last }) room (table_ran f last refl k)

-- ===== the query that is run is the one that was read

module _ (settings : Settings) (p : Program) where
  pub run_read : (r : Run) → IsRun (program p.clauses) (query_by p.query) settings.depth settings.turns r → IsRun (program p.clauses) (reading.query_of p.names p.query) settings.depth settings.turns r
  run_read r (begins_nowhere h e) = begins_nowhere h e
  run_read r (begins begun h k) = begins begun h k

  module _ (text : Text) (writes : Writes text (written_of p)) (old new : List Watcher) where
    turns_read : NotedInTurns (program p.clauses) (query_by p.query) settings old new → NotedInARun settings text old new
    turns_read k = record {
      written = written_of p;
      writes = writes;
      store = k.store;
      begins = k.begins;
      made = k.made;
      within = k.within;
      state = k.state;
      leads = k.leads;
      noted = k.noted;
    }

    pub noted_read : HasNotedOf (program p.clauses) (query_by p.query) settings old new → HasNoted settings text old new
    noted_read (inl e) = inl e
    noted_read (inr k) = inr (turns_read k)
