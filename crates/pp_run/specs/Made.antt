-- What the run of a query comes to, and what the watchers have noted where it was broken off.
use Rattle.std.specs.Prelude.{◌≡◌, ℕ, ◌≤◌, ◌⊎◌, List, [], length, Option}
use Rattle.pp_algebra.specs.Terms.{none}
use Rattle.pp_algebra.specs.Rows.{Row}
use Rattle.pp_sld.specs.Goals.{Program}
use Rattle.pp_language.specs.declared.command.Settings.{Settings}
use Rattle.pp_language.specs.Texts.{Text}
use Rattle.pp_language.specs.declared.limits.TheConstants.{TEXT_LIMIT}
use Rattle.pp_language.specs.Limits.{Writes}
use Rattle.pp_language.specs.Programs.{Query}
use Rattle.pp_propagation.specs.Stores.{goals_of, Begins}
use Rattle.pp_propagation.specs.Turns.{State}
use Rattle.pp_propagation.specs.Histories.{unfinished_goals, changes}
use Rattle.pp_propagation.specs.Watchers.{Watcher, after}
use Rattle.pp_propagation.specs.Runs.{Run, IsRun, opening, Turns, HaveNoted}
use Rattle.pp_propagation.specs.Replies.{NotedInARun}
use Rattle.pp_io.specs.Ends.{GaveAll}
use Rattle.pp_term.specs.Meanings.{program}
use Rattle.pp_read.specs.declared.program.Program.{Program as Given}
use Rattle.pp_read.specs.Programs.{written_of}
use Rattle.pp_store.specs.Queries.{query_by}
use Rattle.pp_fix.specs.declared.fix.End.TheVariants.{No}
use Rattle.pp_fix.specs.Fixing.{end_by}
use Rattle.pp_run.specs.declared.run.Ran.{Ran}

-- the run of the query over the clauses ended so, and the watchers have noted its changes
pub record IsRan (clauses : Program) (q : Query) (settings : Settings) (old new : List Watcher) (r : Ran) : Type 0 where
  pub run : Run
  pub is_run : IsRun clauses q settings.depth settings.turns run
  pub watched : new ≡ after old (changes run.history)
  pub ends : run.end ≡ end_by r.fixed.end
  pub has_store : run.store ≡ r.row
  pub made : length run.history ≡ r.fixed.turns
  pub unfinished : r.fixed.unfinished ≡ unfinished_goals (length (goals_of q.items)) run.history

-- so is the run of what was read
abbrev pub IsRanOf : Given → Settings → List Watcher → List Watcher → Ran → Type 0
IsRanOf p settings old new r = IsRan (program p.clauses) (query_by p.query) settings old new r

-- the run of a query that begins nowhere
abbrev pub no_ran : Ran
no_ran = record {
  fixed = record { end = No; turns = 0; unfinished = [] };
  row = record { columns = none; domains = [] };
}

-- whole turns of the query's run were made, and the watchers have noted their changes
pub record NotedInTurns (clauses : Program) (q : Query) (settings : Settings) (old new : List Watcher) : Type 0 where
  pub store : Row
  pub begins : Begins q store
  pub made : ℕ
  pub within : made ≤ settings.turns
  pub state : State
  pub leads : Turns clauses (goals_of q.items) settings.depth made (opening (goals_of q.items) store) state
  pub noted : HaveNoted clauses (goals_of q.items) settings.depth state old new

-- no turn of the query's run was made, or some
abbrev pub HasNotedOf : Program → Query → Settings → List Watcher → List Watcher → Type 0
HasNotedOf clauses q settings old new = (new ≡ old) ⊎ NotedInTurns clauses q settings old new

-- so it is with the run of what a text writes
abbrev pub HasNoted : Settings → Text → List Watcher → List Watcher → Type 0
HasNoted settings text old new = (new ≡ old) ⊎ NotedInARun settings text old new

-- all that was left was read, and it writes this
abbrev pub IsGiven : Option Text → Option Text → Given → Type 0
IsGiven left rest p = (text : Text) × GaveAll left rest text × (length text ≤ TEXT_LIMIT) × Writes text (written_of p)
