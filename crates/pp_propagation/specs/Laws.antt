-- The laws of runs, as statements.
use Rattle.std.specs.Prelude.{◌≡◌, ℕ, ◌+◌, ◌⊎◌, List, [], ◌++◌, length, Option, All}
use Rattle.pp_algebra.specs.Terms.{count}
use Rattle.pp_algebra.specs.Rows.{Row, IsRow}
use Rattle.pp_sld.specs.Goals.{Goal, Program}
use Rattle.pp_language.specs.declared.command.CommandKind.{CommandKind}
use Rattle.pp_language.specs.declared.command.CommandKind.TheVariants.{Make}
use Rattle.pp_language.specs.declared.command.Command.{Command}
use Rattle.pp_language.specs.declared.which.Which.{Which}
use Rattle.pp_language.specs.declared.status.Status.{Status}
use Rattle.pp_language.specs.Texts.{Text}
use Rattle.pp_language.specs.Faults.{IsSyntaxFault}
use Rattle.pp_language.specs.Limits.{Writes, Passes}
use Rattle.pp_language.specs.Generator.{make_text}
use Rattle.pp_language.specs.Programs.{Query, Written}
use Rattle.pp_propagation.specs.Stores.{Asked, face, face_variables, apply}
use Rattle.pp_propagation.specs.Turns.{Commit, State, Turn}
use Rattle.pp_propagation.specs.Runs.{Run, opening, Turns, IsRunOn, IsRunFrom, IsRun}
use Rattle.pp_propagation.specs.Replies.{IsUnserved, IsReply}
use Rattle.pp_propagation.specs.Histories.{Change}
use Rattle.pp_propagation.specs.Watchers.{Watcher, HasRoom, after}

-- a goal's face is a row, with a column for each argument and a domain for each of the store's variables in it
abbrev pub FacesAreRows : Type 0
FacesAreRows = (store : Row) (g : Goal ℕ) → IsRow store
    → IsRow (face store g) × (count (face store g).columns ≡ count g.arguments)
    × (length (face store g).domains ≡ length (face_variables store g))

-- a store to which a row was applied is a row of as many columns
abbrev pub StoresStayRows : Type 0
StoresStayRows = (store : Row) (g : Goal ℕ) (given : Row) → IsRow store → IsRow given
    → IsRow (apply store g given) × (count (apply store g given).columns ≡ count store.columns)

-- a state has at most one turn
abbrev pub HasOneTurn : Type 0
HasOneTurn = (clauses : Program) (goals : List Asked) (depth : ℕ) (s : State) (c d : Commit) (x y : Option State)
    → Turn clauses goals depth s c x → Turn clauses goals depth s d y → (c ≡ d) × (x ≡ y)

-- from a store that is lent there is one run at given settings
abbrev pub HasOneRunFrom : Type 0
HasOneRunFrom = (clauses : Program) (goals : List Asked) (depth turns : ℕ) (store : Row)
    → (r : Run) × IsRunFrom clauses goals depth turns store r
    × ((q : Run) → IsRunFrom clauses goals depth turns store q → r ≡ q)

-- a query has one run at given settings
abbrev pub HasOneRun : Type 0
HasOneRun = (clauses : Program) (q : Query) (depth turns : ℕ)
    → (r : Run) × IsRun clauses q depth turns r × ((w : Run) → IsRun clauses q depth turns w → r ≡ w)

-- each whole turn adds one entry to the history
abbrev pub TurnsAreCounted : Type 0
TurnsAreCounted = (clauses : Program) (goals : List Asked) (depth n : ℕ) (s t : State) → Turns clauses goals depth n s t
    → length t.history ≡ length s.history + n

-- a run that goes on from a state to which whole turns lead is a run from where they began
abbrev pub RunsGoOn : Type 0
RunsGoOn = (clauses : Program) (goals : List Asked) (depth n rest : ℕ) (s t : State) (r : Run)
    → Turns clauses goals depth n s t → IsRunOn clauses goals depth rest t r
    → IsRunOn clauses goals depth (n + rest) s r

-- a run passes through each state to which whole turns lead, as many as its setting allows: it goes on from there, and
-- its history begins with what was made so far
abbrev pub RunsPassThrough : Type 0
RunsPassThrough = (clauses : Program) (goals : List Asked) (depth n rest : ℕ) (store : Row) (t : State) (r : Run)
    → Turns clauses goals depth n (opening goals store) t → IsRunFrom clauses goals depth (n + rest) store r
    → IsRunOn clauses goals depth rest t r × ((later : List Commit) × (r.history ≡ t.history ++ later))

-- words ask a call for at most one of the commands that it serves
abbrev pub ServesOne : (List Text → Command → Type 0) → Type 0
ServesOne serves = (words : List Text) (c d : Command) → serves words c → serves words d → c ≡ d

-- words, a text and the watchers before have at most one reply, which says what the watchers are then
abbrev pub RepliesOnce : (List Text → Command → Type 0) → Type 0
RepliesOnce serves = (words : List Text) (text : Text) (old new later : List Watcher) (s t : Status) (b c : Text)
    → IsReply serves words text old new s b → IsReply serves words text old later t c
    → (new ≡ later) × (s ≡ t) × (b ≡ c)

-- it is known which command the words ask for, if any
abbrev pub IsAsked : (List Text → Command → Type 0) → List Text → Type 0
IsAsked serves words = ((c : Command) × serves words c) ⊎ IsUnserved serves words

-- the text has a fault, passes a limit, or writes something
abbrev pub HasMeaning : Text → Type 0
HasMeaning text = ((k : ℕ) × IsSyntaxFault text k)
    ⊎ (((which : Which) × Passes text which) ⊎ ((w : Written) × Writes text w))

-- the text that a command runs has a meaning
abbrev pub IsMeant : CommandKind → Text → Type 0
IsMeant (Make n) text = (w : Written) × Writes (make_text n) w
IsMeant kind text = HasMeaning text

-- whatever is asked for, and whatever the text means that is run, there is a reply
abbrev pub HasReply : (List Text → Command → Type 0) → Type 0
HasReply serves = (words : List Text) (text : Text) (old : List Watcher) → IsAsked serves words
    → ((c : Command) → serves words c → IsMeant c.kind text)
    → (new : List Watcher) × (s : Status) × (b : Text) × IsReply serves words text old new s b

-- watchers that note some changes and then others note them all
abbrev pub NotedInTurn : Type 0
NotedInTurn = (ws : List Watcher) (first then : List Change) → after (after ws first) then ≡ after ws (first ++ then)

-- where each watcher has room, no change leaves the list as it is
abbrev pub NothingNoted : Type 0
NothingNoted = (ws : List Watcher) → All HasRoom ws → after ws [] ≡ ws
