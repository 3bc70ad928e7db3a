-- What the texts that clap keeps under a name give, and the command that words so read ask for.
use Rattle.std.specs.Prelude.{◌≡◌, ℕ, Bool, true, false, not, ◌&&◌, cond, nat_eq, codes, List, [], ◌∷◌, map, Option, Some, None, option_map, option_and_then}
use Rattle.std.specs.Borrow.{Bor}
use Rattle.std.specs.List.{list_all}
use Rattle.clap.specs.Walk.{Row, all_of}
use Rattle.clap.specs.Simple.{matches_of}
use Rattle.clap.specs.Faults.{fault_of}
use Rattle.clap.specs.Kinds.{Kinds}
use Rattle.pp_algebra.specs.Texts.{same_text}
use Rattle.pp_language.specs.declared.command.CommandKind.{CommandKind}
use Rattle.pp_language.specs.declared.command.Command.{Command}
use Rattle.pp_language.specs.declared.command.Settings.{Settings}
use Rattle.pp_language.specs.declared.limits.TheConstants.{MAKE_LIMIT}
use Rattle.pp_language.specs.Texts.{Text, is_between}
use Rattle.pp_language.specs.Kinds.{value_of}
use Rattle.pp_language.specs.Commands.{Setting, worker_count, look_ahead, search_depth, turn_count, is_number, has_setting, has_trace, greatest_value, default_value}
use Rattle.pp_language.proofs.CommandsRead.{kind_by}
use Rattle.pp_line.specs.Line.{line}

-- the word begins with one hyphen and more behind it
abbrev pub is_short : Text → Bool
is_short [] = false
is_short (a ∷ []) = false
is_short (a ∷ b ∷ more) = nat_eq a 45 && not (nat_eq b 45)

-- a word that is left to clap
abbrev pub is_open : Text → Bool
is_open w = not (same_text w (codes "--")) && not (is_short w)

-- the kinds of a refusal of the words, and what is kept of them
unfoldable pub line_faults : List Text → Kinds
line_faults ws = fault_of line ws

unfoldable pub line_rows : List Text → List Row
line_rows ws = matches_of line ws

-- the words are taken, and these rows are kept of them
abbrev pub IsRead : List Text → List Row → Type 0
IsRead ws rows = (line_faults ws ≡ []) × (rows ≡ line_rows ws)

abbrev pub listed : Option (List Text) → List Text
listed None = []
listed (Some ts) = ts

-- the texts that are kept under a name
abbrev pub kept : List Row → Text → List Text
kept rows id = listed (all_of id rows)

-- the texts that are lent
abbrev pub texts_of : Option (Bor (List (Bor Text))) → List Text
texts_of ts = listed (option_map (λ s. map (λ t. t.now) s.now) ts)

-- the only text, if there is one; none where there are more
abbrev pub single : List Text → Option (Option Text)
single [] = Some None
single (t ∷ []) = Some (Some t)
single (t ∷ u ∷ ts) = None

-- the command has the setting, and the value is within its limit
abbrev pub is_value : CommandKind → Setting → ℕ → Bool
is_value kind s n = has_setting kind s && is_between 1 (greatest_value s) n

-- the only value that a setting is given, or its default
abbrev pub value_by : CommandKind → Setting → Option Text → Option ℕ
value_by kind s None = Some (default_value s)
value_by kind s (Some t) = cond (is_number t && is_value kind s (value_of 0 t)) (Some (value_of 0 t)) None

abbrev pub value_read : CommandKind → Setting → List Text → Option ℕ
value_read kind s ts = option_and_then (value_by kind s) (single ts)

-- whether changes are told
abbrev pub trace_by : CommandKind → Option Text → Option Bool
trace_by kind None = Some false
trace_by kind (Some t) = cond (has_trace kind) (Some true) None

abbrev pub trace_read : CommandKind → List Text → Option Bool
trace_read kind ts = option_and_then (trace_by kind) (single ts)

-- the command of this name, with the only number that stands by itself
abbrev pub named_by : Text → Option Text → Option CommandKind
named_by name None = kind_by name []
named_by name (Some t) = cond (is_number t && is_between 1 MAKE_LIMIT (value_of 0 t)) (kind_by name (value_of 0 t ∷ [])) None

abbrev pub kind_read : Text → List Text → Option CommandKind
kind_read name ts = option_and_then (named_by name) (single ts)

abbrev pub all_settings : Option ℕ → Option ℕ → Option ℕ → Option ℕ → Option Settings
all_settings None turns workers ahead = None
all_settings (Some d) None workers ahead = None
all_settings (Some d) (Some t) None ahead = None
all_settings (Some d) (Some t) (Some w) None = None
all_settings (Some d) (Some t) (Some w) (Some a) = Some (record { depth = d; turns = t; workers = w; ahead = a })

abbrev pub settings_read : CommandKind → (Text → List Text) → Option Settings
settings_read kind texts =
    all_settings (value_read kind search_depth (texts (codes "depth"))) (value_read kind turn_count (texts (codes "turns")))
    (value_read kind worker_count (texts (codes "workers"))) (value_read kind look_ahead (texts (codes "ahead")))

abbrev pub whole_command : CommandKind → Option Settings → Option Bool → Option Command
whole_command kind None trace = None
whole_command kind (Some s) None = None
whole_command kind (Some s) (Some t) = Some (record { kind = kind; settings = s; trace = t })

abbrev pub command_with : (Text → List Text) → Option CommandKind → Option Command
command_with texts None = None
command_with texts (Some kind) = whole_command kind (settings_read kind texts) (trace_read kind (texts (codes "trace")))

-- the command that a name and the texts that are kept give
abbrev pub command_read : Text → (Text → List Text) → Option Command
command_read name texts = command_with texts (kind_read name (texts (codes "number")))

abbrev pub unless_refused : Kinds → Option Command → Option Command
unless_refused [] c = c
unless_refused (k ∷ ks) c = None

-- the command that words give
abbrev pub words_read : List Text → Option Command
words_read [] = None
words_read (name ∷ rest) =
    cond (list_all is_open rest) (unless_refused (line_faults (name ∷ rest)) (command_read name (kept (line_rows (name ∷ rest))))) None
