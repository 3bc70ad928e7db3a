-- Commands: what the words of the command line, those after the program's own name, ask for.
use Rattle.std.specs.Prelude.{◌≡◌, ℕ, suc, ◌≤◌, ◌⊎◌, Bool, true, false, IsTrue, ◌&&◌, cond, nat_le, List, [], ◌∷◌, ◌++◌, length, slice_index_or, codes}
use Rattle.std.specs.List.{list_all}
use Rattle.pp_language.specs.declared.command.CommandKind.{CommandKind}
use Rattle.pp_language.specs.declared.command.CommandKind.TheVariants.{Run, Alone, Make}
use Rattle.pp_language.specs.declared.command.Settings.{Settings}
use Rattle.pp_language.specs.declared.command.Command.{Command}
use Rattle.pp_language.specs.declared.limits.TheConstants.{WORKER_LIMIT, AHEAD_LIMIT, DEPTH_LIMIT, TURN_LIMIT, MAKE_LIMIT, DEFAULT_WORKERS, DEFAULT_AHEAD, DEFAULT_DEPTH, DEFAULT_TURNS}
use Rattle.pp_language.specs.Texts.{Text, is_between}
use Rattle.pp_language.specs.Kinds.{value_of, are_digits}

-- what an option gives a value to
pub data Setting : Type 0 where
  worker_count look_ahead search_depth turn_count : Setting

abbrev pub same_setting : Setting → Setting → Bool
same_setting worker_count worker_count = true
same_setting look_ahead look_ahead = true
same_setting search_depth search_depth = true
same_setting turn_count turn_count = true
same_setting _ _ = false

abbrev pub option_name : Setting → Text
option_name worker_count = codes "--workers"
option_name look_ahead = codes "--ahead"
option_name search_depth = codes "--depth"
option_name turn_count = codes "--turns"

-- the least value is 1
abbrev pub greatest_value : Setting → ℕ
greatest_value worker_count = WORKER_LIMIT
greatest_value look_ahead = AHEAD_LIMIT
greatest_value search_depth = DEPTH_LIMIT
greatest_value turn_count = TURN_LIMIT

abbrev pub default_value : Setting → ℕ
default_value worker_count = DEFAULT_WORKERS
default_value look_ahead = DEFAULT_AHEAD
default_value search_depth = DEFAULT_DEPTH
default_value turn_count = DEFAULT_TURNS

abbrev pub kind_name : CommandKind → Text
kind_name Run = codes "run"
kind_name Alone = codes "alone"
kind_name (Make n) = codes "make"

-- workers are set where there are some
abbrev pub has_setting : CommandKind → Setting → Bool
has_setting Alone worker_count = false
has_setting Alone look_ahead = false
has_setting _ _ = true

abbrev pub has_trace : CommandKind → Bool
has_trace (Make n) = false
has_trace _ = true

-- one to seven digits
abbrev pub is_number : Text → Bool
is_number word = are_digits word && nat_le (length word) 7

-- what stands after the command's name: an option with its value, the option `--trace`, or a number by itself
pub data Entry : Type 0 where
  sets : Setting → ℕ → Entry
  traces : Entry
  counts : ℕ → Entry

-- the word is a number, which is n
abbrev pub IsNumber : Text → ℕ → Type 0
IsNumber word n = IsTrue (is_number word) × (value_of 0 word ≡ n)

-- an option and its value are two words, or one with `=` between them
abbrev pub IsEntry : List Text → Entry → Type 0
IsEntry ws (sets s n) =
    (digits : Text) × IsNumber digits n × ((ws ≡ option_name s ∷ digits ∷ []) ⊎ (ws ≡ (option_name s ++ codes "=" ++ digits) ∷ []))
IsEntry ws traces = ws ≡ codes "--trace" ∷ []
IsEntry ws (counts n) = (digits : Text) × IsNumber digits n × (ws ≡ digits ∷ [])

-- the words are these entries, one after another
abbrev pub AreEntries : List Text → List Entry → Type 0
AreEntries ws [] = ws ≡ []
AreEntries ws (e ∷ es) = (first : List Text) × (rest : List Text) × (ws ≡ first ++ rest) × IsEntry first e × AreEntries rest es

-- the values that a setting is given
abbrev pub values : Setting → List Entry → List ℕ
values s [] = []
values s (sets t n ∷ es) = cond (same_setting s t) (n ∷ values s es) (values s es)
values s (traces ∷ es) = values s es
values s (counts n ∷ es) = values s es

abbrev pub trace_count : List Entry → ℕ
trace_count [] = 0
trace_count (sets t n ∷ es) = trace_count es
trace_count (traces ∷ es) = suc (trace_count es)
trace_count (counts n ∷ es) = trace_count es

-- the numbers that stand by themselves
abbrev pub numbers : List Entry → List ℕ
numbers [] = []
numbers (sets t n ∷ es) = numbers es
numbers (traces ∷ es) = numbers es
numbers (counts n ∷ es) = n ∷ numbers es

-- `make` takes one number, and the others none
abbrev pub numbers_of : CommandKind → List ℕ
numbers_of (Make n) = n ∷ []
numbers_of _ = []

-- the command has this option, and its value is within the limit
abbrev pub is_allowed : CommandKind → Entry → Bool
is_allowed kind (sets s n) = has_setting kind s && is_between 1 (greatest_value s) n
is_allowed kind traces = has_trace kind
is_allowed kind (counts n) = is_between 1 MAKE_LIMIT n

-- the value that a setting is given, or its default
abbrev pub given : Setting → List Entry → ℕ
given s es = slice_index_or (values s es) 0 (default_value s)

abbrev pub settings_by : List Entry → Settings
settings_by es = record {
  depth = given search_depth es;
  turns = given turn_count es;
  workers = given worker_count es;
  ahead = given look_ahead es;
}

-- the words ask for this command: its name, and then its options in any order, each at most once
pub record AreWordsOf (words : List Text) (command : Command) : Type 0 where
  pub entries : List Entry
  pub rest : List Text
  pub begins : words ≡ kind_name command.kind ∷ rest
  pub are_entries : AreEntries rest entries
  pub allowed : IsTrue (list_all (is_allowed command.kind) entries)
  pub once : (s : Setting) → length (values s entries) ≤ 1
  pub traced_once : trace_count entries ≤ 1
  pub numbers : numbers entries ≡ numbers_of command.kind
  pub settings : command.settings ≡ settings_by entries
  pub trace : command.trace ≡ nat_le 1 (trace_count entries)

-- the words ask for no command
abbrev pub AreNoWords : List Text → Type 0
AreNoWords words = (command : Command) → AreWordsOf words command → ⊥

-- the words ask for a command that the call `alone` serves
abbrev pub AreWordsOfAlone : List Text → Command → Type 0
AreWordsOfAlone words command = AreWordsOf words command × (command.kind ≡ Alone)
