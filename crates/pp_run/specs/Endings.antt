-- How a call of the program ends: what it wrote for a reply, and what it left in its source.
use Rattle.std.specs.Prelude.{◌≡◌, ◌≢◌, ◌⊎◌, ◌++◌, Bool, List, Option}
use Rattle.pp_language.specs.declared.command.CommandKind.{CommandKind}
use Rattle.pp_language.specs.declared.command.CommandKind.TheVariants.{Make}
use Rattle.pp_language.specs.declared.command.Settings.{Settings}
use Rattle.pp_language.specs.declared.status.Status.{Status}
use Rattle.pp_language.specs.declared.status.Status.TheVariants.{Yes, No, Usage, Syntax, Stopped, Limit, ReadFault, WriteFault, Memory}
use Rattle.pp_language.specs.Texts.{Text}
use Rattle.pp_propagation.specs.Watchers.{Watcher}
use Rattle.pp_propagation.specs.Replies.{IsReplyToText}
use Rattle.pp_io.specs.Ends.{Took}

-- where `reply` says which status and bytes are called for: a write fault took a prefix of such bytes, a read fault and
-- want of memory
-- took nothing, and any other status is called for with the bytes that were taken
abbrev pub Replied : (Status → Text → Type 0) → Option Text → Option Text → Status → Type 0
Replied reply before after ReadFault = after ≡ before
Replied reply before after Memory = after ≡ before
Replied reply before after WriteFault = (s : Status) × (b : Text) × reply s b × (done : Text) × (rest : Text)
    × (b ≡ done ++ rest) × Took before after done
Replied reply before after Yes = (b : Text) × reply Yes b × Took before after b
Replied reply before after No = (b : Text) × reply No b × Took before after b
Replied reply before after Usage = (b : Text) × reply Usage b × Took before after b
Replied reply before after Syntax = (b : Text) × reply Syntax b × Took before after b
Replied reply before after Stopped = (b : Text) × reply Stopped b × Took before after b
Replied reply before after Limit = (b : Text) × reply Limit b × Took before after b

-- a run was made, or the text was refused for what it is
abbrev pub HasReadText : Status → Type 0
HasReadText Yes = Unit {0}
HasReadText No = Unit {0}
HasReadText Stopped = Unit {0}
HasReadText Syntax = Unit {0}
HasReadText Limit = Unit {0}
HasReadText Usage = ⊥
HasReadText ReadFault = ⊥
HasReadText WriteFault = ⊥
HasReadText Memory = ⊥

-- a command that ended so has read a text: `make` reads none
abbrev pub HasRead : CommandKind → Status → Type 0
HasRead (Make n) s = ⊥
HasRead kind s = HasReadText s

-- bytes were written whole with this status, or a write failed behind a prefix of them
abbrev pub Wrote : Status → Text → Option Text → Option Text → Status → Type 0
Wrote s b before after result =
    ((result ≡ s) × Took before after b)
    ⊎ ((result ≡ WriteFault) × (done : Text) × (rest : Text) × (b ≡ done ++ rest) × Took before after done)

-- the endings of a call whose words aren't valid
abbrev pub IsWordsEnd : Status → Type 0
IsWordsEnd s = (s ≡ Usage) ⊎ ((s ≡ WriteFault) ⊎ (s ≡ Memory))

-- the endings before the first write
abbrev pub TookNothing : Status → Type 0
TookNothing s = (s ≡ ReadFault) ⊎ (s ≡ Memory)

-- a status that a reply to a text may have
pub record IsOrdinary (s : Status) : Type 0 where
  pub words : s ≢ Usage
  pub reading : s ≢ ReadFault
  pub writing : s ≢ WriteFault
  pub memory : s ≢ Memory

-- a status with which a call may end that made a run, or wanted memory for it
pub record IsRunEnd (s : Status) : Type 0 where
  pub words : s ≢ Usage
  pub reading : s ≢ ReadFault
  pub grammar : s ≢ Syntax
  pub limits : s ≢ Limit

-- the reply to a text that is not run, whatever the settings and the watchers are
abbrev pub IsRefusal : Text → Status → Text → Type 0
IsRefusal text s b = (settings : Settings) (trace : Bool) (ws : List Watcher)
    → IsReplyToText settings trace text ws ws s b
