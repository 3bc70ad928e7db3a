-- The reply: the status and the bytes that words and a text call for, and what the call makes of the watchers.
use Rattle.std.specs.Prelude.{◌≡◌, ℕ, ◌≤◌, Bool, true, false, cond, List, [], ◌++◌, length}
use Rattle.pp_algebra.specs.Rows.{Row}
use Rattle.pp_sld.specs.Goals.{program_of}
use Rattle.pp_language.specs.declared.command.CommandKind.{CommandKind}
use Rattle.pp_language.specs.declared.command.CommandKind.TheVariants.{Make}
use Rattle.pp_language.specs.declared.command.Settings.{Settings}
use Rattle.pp_language.specs.declared.command.Command.{Command}
use Rattle.pp_language.specs.declared.status.Status.{Status}
use Rattle.pp_language.specs.declared.status.Status.TheVariants.{Yes, No, Usage, Syntax, Stopped, Limit}
use Rattle.pp_language.specs.declared.which.Which.{Which}
use Rattle.pp_language.specs.Texts.{Text}
use Rattle.pp_language.specs.Programs.{Written}
use Rattle.pp_language.specs.Faults.{IsSyntaxFault}
use Rattle.pp_language.specs.Limits.{IsTooLong, Writes, Passes}
use Rattle.pp_language.specs.Generator.{make_text}
use Rattle.pp_language.specs.Answers.{store_text, no_text, usage_text, syntax_text, which_name, limit_text, length_text}
use Rattle.pp_language.specs.Told.{summary_text, failed_summary_text}
use Rattle.pp_propagation.specs.Stores.{goals_of, Begins}
use Rattle.pp_propagation.specs.Turns.{State}
use Rattle.pp_propagation.specs.Histories.{unfinished_goals, changes}
use Rattle.pp_propagation.specs.Watchers.{Watcher, after, told}
use Rattle.pp_propagation.specs.Runs.{End, yes, no, stopped, Run, IsRun, opening, Turns, HaveNoted}

-- ===== a run as a text

abbrev pub status_of : End → Status
status_of yes = Yes
status_of no = No
status_of stopped = Stopped

-- what is written of a run that ended so
abbrev pub answer_text : List Text → List Text → Row → List ℕ → End → Text
answer_text names named store unfinished no = no_text
answer_text names named store unfinished yes = store_text names named store unfinished false
answer_text names named store unfinished stopped = store_text names named store unfinished true

-- the answer of a run of what a text writes
abbrev pub answer_of : Written → Run → Text
answer_of w r = answer_text w.names w.query.named r.store (unfinished_goals (length (goals_of w.query.items)) r.history)
    r.end

abbrev pub summary_by : ℕ → Row → End → Text
summary_by turns store no = failed_summary_text turns
summary_by turns store yes = summary_text turns store false
summary_by turns store stopped = summary_text turns store true

-- the summary of a run of a generated text
abbrev pub summary_of : Run → Text
summary_of r = summary_by (length r.history) r.store r.end

-- ===== the reply

-- what the text writes has this run, under these settings
pub record RunsAs (settings : Settings) (text : Text) (w : Written) (r : Run) : Type 0 where
  pub writes : Writes text w
  pub is_run : IsRun (program_of w.clauses) w.query settings.depth settings.turns r

-- what stands before the answer of a run: what the watchers tell, where the words ask for it
abbrev pub told_if : Bool → List Text → List Watcher → Text
told_if trace names ws = cond trace (told names ws) []

-- what a text calls for that is not too long, and what a run makes of the watchers
pub data IsReplyWithin (settings : Settings) (trace : Bool) (text : Text) (old new : List Watcher) (s : Status)
    (b : Text) : Type 0 where
  faulty : (k : ℕ) → IsSyntaxFault text k → new ≡ old → s ≡ Syntax → b ≡ syntax_text k
      → IsReplyWithin settings trace text old new s b
  limited : (which : Which) → Passes text which → new ≡ old → s ≡ Limit → b ≡ limit_text (which_name which)
      → IsReplyWithin settings trace text old new s b
  answered : (w : Written) (r : Run) → RunsAs settings text w r → new ≡ after old (changes r.history)
      → s ≡ status_of r.end
      → b ≡ told_if trace w.names new ++ answer_of w r → IsReplyWithin settings trace text old new s b

-- the length is counted before anything is read
pub data IsReplyToText (settings : Settings) (trace : Bool) (text : Text) (old new : List Watcher) (s : Status)
    (b : Text) : Type 0 where
  too_long : IsTooLong text → new ≡ old → s ≡ Limit → b ≡ length_text → IsReplyToText settings trace text old new s b
  within : (IsTooLong text → ⊥) → IsReplyWithin settings trace text old new s b
      → IsReplyToText settings trace text old new s b

-- the generated text of this number is run, and its summary written
pub record IsSummary (settings : Settings) (number : ℕ) (old new : List Watcher) (s : Status) (b : Text) : Type 0 where
  pub written : Written
  pub run : Run
  pub runs : RunsAs settings (make_text number) written run
  pub watched : new ≡ after old (changes run.history)
  pub ends : s ≡ status_of run.end
  pub says : b ≡ summary_of run

-- `make` reads no text; what was told is written where the words ask for it
abbrev pub IsReplyBy : CommandKind → Command → Text → List Watcher → List Watcher → Status → Text → Type 0
IsReplyBy (Make n) command text old new s b = IsSummary command.settings n old new s b
IsReplyBy kind command text old new s b = IsReplyToText command.settings command.trace text old new s b

-- no command that the call serves is asked for
abbrev pub IsUnserved : (List Text → Command → Type 0) → List Text → Type 0
IsUnserved serves words = (command : Command) → serves words command → ⊥

-- words that aren't valid call for the usage line
abbrev pub IsUsage : Status → Text → Type 0
IsUsage s b = (s ≡ Usage) × (b ≡ usage_text)

-- the reply of a call that serves these commands, and what it makes of the watchers
pub data IsReply (serves : List Text → Command → Type 0) (words : List Text) (text : Text) (old new : List Watcher)
    (s : Status) (b : Text) : Type 0 where
  usage : IsUnserved serves words → new ≡ old → IsUsage s b → IsReply serves words text old new s b
  served : (command : Command) → serves words command → IsReplyBy command.kind command text old new s b
      → IsReply serves words text old new s b

-- ===== the watchers after want of memory

-- the text that a command runs
abbrev pub text_of : CommandKind → Text → Text
text_of (Make n) text = make_text n
text_of kind text = text

-- whole turns of the run of what the text writes were made, and the watchers have noted their changes
pub record NotedInARun (settings : Settings) (text : Text) (old new : List Watcher) : Type 0 where
  pub written : Written
  pub writes : Writes text written
  pub store : Row
  pub begins : Begins written.query store
  pub made : ℕ
  pub within : made ≤ settings.turns
  pub state : State
  pub leads : Turns (program_of written.clauses) (goals_of written.query.items) settings.depth made
      (opening (goals_of written.query.items) store) state
  pub noted : HaveNoted (program_of written.clauses) (goals_of written.query.items) settings.depth state old new

-- no run was made, or some turns of one
pub data IsOutOfMemory (serves : List Text → Command → Type 0) (words : List Text) (text : Text)
    (old new : List Watcher) : Type 0 where
  before_a_run : new ≡ old → IsOutOfMemory serves words text old new
  in_a_run : (command : Command) → serves words command
      → NotedInARun command.settings (text_of command.kind text) old new
      → IsOutOfMemory serves words text old new
