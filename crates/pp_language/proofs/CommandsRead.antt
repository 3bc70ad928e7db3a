-- Words read into their entries, and entries into a command: what words ask for, as a function.
use Rattle.std.proofs.Common.{◌≡◌, ℕ, ◌≤◌, inl, inr, Bool, true, false, IsTrue, ◌&&◌, cond, nat_eq, nat_le, List, [], ◌∷◌, ◌++◌, length, Option, Some, None, refl, ◌∙◌, ap, arith}
use Rattle.std.specs.Prelude.{codes}
use Rattle.std.specs.List.{list_all}
use Rattle.pp_language.specs.declared.command.CommandKind.{CommandKind}
use Rattle.pp_language.specs.declared.command.CommandKind.TheVariants.{Run, Alone, Make}
use Rattle.pp_language.specs.declared.command.Command.{Command}
use Rattle.pp_language.specs.Texts.{Text, is_digit}
use Rattle.pp_algebra.specs.Texts.{same_text}
use Rattle.pp_language.specs.Kinds.{value_of}
use Rattle.pp_language.specs.Commands.{Setting, worker_count, look_ahead, search_depth, turn_count, option_name, kind_name, is_number, Entry, sets, traces, counts, IsNumber, AreEntries, values, trace_count, numbers, numbers_of, is_allowed, settings_by, AreWordsOf, AreNoWords}

-- what is left of a text behind its beginning
abbrev pub left_behind : Text → Text → Option Text
left_behind [] cs = Some cs
left_behind (b ∷ bs) [] = None
left_behind (b ∷ bs) (c ∷ cs) = cond (nat_eq b c) (left_behind bs cs) None

abbrev pub setting_named : Text → Option Setting
setting_named w =
    cond (same_text w (codes "--workers")) (Some worker_count)
    (cond (same_text w (codes "--ahead")) (Some look_ahead)
    (cond (same_text w (codes "--depth")) (Some search_depth)
    (cond (same_text w (codes "--turns")) (Some turn_count) None)))

abbrev pub valued : Setting → Text → Option Entry
valued s d = cond (is_number d) (Some (sets s (value_of 0 d))) None

abbrev pub or_later : Setting → Option Text → Option Entry → Option Entry
or_later s None later = later
or_later s (Some d) later = valued s d

-- an option and its value in one word
abbrev pub assigned : Text → Option Entry
assigned w =
    or_later worker_count (left_behind (codes "--workers=") w)
    (or_later look_ahead (left_behind (codes "--ahead=") w)
    (or_later search_depth (left_behind (codes "--depth=") w)
    (or_later turn_count (left_behind (codes "--turns=") w) None)))

-- a word that is an entry by itself
abbrev pub single : Text → Option Entry
single w = cond (is_number w) (Some (counts (value_of 0 w))) (cond (same_text w (codes "--trace")) (Some traces) (assigned w))

abbrev pub with_entry : Option Entry → Option (List Entry) → Option (List Entry)
with_entry None later = None
with_entry (Some e) None = None
with_entry (Some e) (Some es) = Some (e ∷ es)

-- the entries that words are, where the word before was the name of an option, or none
abbrev pub entries_from : Option Setting → List Text → Option (List Entry)
entries_from None [] = Some []
entries_from (Some s) [] = None
entries_from None (w ∷ ws) = elim (setting_named w) [ None ↦ with_entry (single w) (entries_from None ws) | Some s ↦ entries_from (Some s) ws ]
entries_from (Some s) (w ∷ ws) = with_entry (valued s w) (entries_from None ws)

abbrev pub is_once : List Entry → Bool
is_once es =
    nat_le (length (values worker_count es)) 1 && nat_le (length (values look_ahead es)) 1
    && nat_le (length (values search_depth es)) 1 && nat_le (length (values turn_count es)) 1 && nat_le (trace_count es) 1

abbrev pub kind_by : Text → List ℕ → Option CommandKind
kind_by w [] = cond (same_text w (codes "run")) (Some Run) (cond (same_text w (codes "alone")) (Some Alone) None)
kind_by w (n ∷ []) = cond (same_text w (codes "make")) (Some (Make n)) None
kind_by w (n ∷ m ∷ ns) = None

abbrev pub command_by : CommandKind → List Entry → Command
command_by kind es = record { kind = kind; settings = settings_by es; trace = nat_le 1 (trace_count es) }

abbrev pub checked : List Entry → Option CommandKind → Option Command
checked es None = None
checked es (Some kind) = cond (list_all (is_allowed kind) es && is_once es) (Some (command_by kind es)) None

abbrev pub asked_with : Text → Option (List Entry) → Option Command
asked_with w None = None
asked_with w (Some es) = checked es (kind_by w (numbers es))

-- what words ask for
abbrev pub asked_by : List Text → Option Command
asked_by [] = None
asked_by (w ∷ ws) = asked_with w (entries_from None ws)

valued_number : (s : Setting) (d : Text) (n : ℕ) → IsNumber d n → valued s d ≡ Some (sets s n)
valued_number s d n h = let t : is_number d ≡ true = h.0 in rw t (ap (λ m. Some (sets s m)) h.1)

-- a word of digits is no option's name
no_name : (d : Text) → IsTrue (is_number d) → setting_named d ≡ None
no_name [] h = absurd (cc h)
no_name (b ∷ bs) h =
    let digit : is_digit b ≡ true = grind (arith, h) in
    let other : nat_eq b 45 ≡ false = grind (arith, digit) in
    rw other refl

two_words : (s : Setting) (d : Text) (ws : List Text) → entries_from None (option_name s ∷ d ∷ ws) ≡ with_entry (valued s d) (entries_from None ws)
two_words worker_count d ws = refl
two_words look_ahead d ws = refl
two_words search_depth d ws = refl
two_words turn_count d ws = refl

one_word : (s : Setting) (d : Text) (ws : List Text) → entries_from None ((option_name s ++ codes "=" ++ d) ∷ ws) ≡ with_entry (valued s d) (entries_from None ws)
one_word worker_count d ws = refl
one_word look_ahead d ws = refl
one_word search_depth d ws = refl
one_word turn_count d ws = refl

number_word : (d : Text) (n : ℕ) (ws : List Text) → IsNumber d n → entries_from None (d ∷ ws) ≡ with_entry (Some (counts n)) (entries_from None ws)
number_word d n ws h =
    let t : is_number d ≡ true = h.0 in
    let named = λ (o : Option Setting). elim o as (λ _. Option (List Entry)) [ None ↦ with_entry (single d) (entries_from None ws) | Some s ↦ entries_from (Some s) ws ] in
    ap named (no_name d h.0) ∙ rw (t, h.1) refl

-- the words of entries are read as these entries
pub entries_read : (ws : List Text) (es : List Entry) → AreEntries ws es → entries_from None ws ≡ Some es
entries_read ws [] e = rw e refl
entries_read ws (sets s n ∷ es) (first, rest, e, (digits, number, inl f), later) =
    rw (e, f) (two_words s digits rest ∙ rw (valued_number s digits n number, entries_read rest es later) refl)
entries_read ws (sets s n ∷ es) (first, rest, e, (digits, number, inr f), later) =
    rw (e, f) (one_word s digits rest ∙ rw (valued_number s digits n number, entries_read rest es later) refl)
entries_read ws (traces ∷ es) (first, rest, e, f, later) = rw (e, f, entries_read rest es later) refl
entries_read ws (counts n ∷ es) (first, rest, e, (digits, number, f), later) =
    rw (e, f) (number_word digits n rest number ∙ rw (entries_read rest es later) refl)

named_kind : (kind : CommandKind) → kind_by (kind_name kind) (numbers_of kind) ≡ Some kind
named_kind Run = refl
named_kind Alone = refl
named_kind (Make n) = refl

once_all : (es : List Entry) → ((s : Setting) → length (values s es) ≤ 1) → trace_count es ≤ 1 → is_once es ≡ true
once_all es h t = grind (arith, h worker_count, h look_ahead, h search_depth, h turn_count, t)

same_command : (es : List Entry) (c : Command) → c.settings ≡ settings_by es → c.trace ≡ nat_le 1 (trace_count es) → command_by c.kind es ≡ c
same_command es c e f = rw (← e, ← f) refl

-- what words ask for is what the function says
pub asked_read : (words : List Text) (c : Command) → AreWordsOf words c → asked_by words ≡ Some c
asked_read words c h =
    let allowed : list_all (is_allowed c.kind) h.entries ≡ true = h.allowed in
    let once : is_once h.entries ≡ true = once_all h.entries h.once h.traced_once in
    rw (h.begins, entries_read h.rest h.entries h.are_entries, h.numbers, named_kind c.kind, allowed, once) (ap Some (same_command h.entries c h.settings h.trace))

pub no_words : (words : List Text) → asked_by words ≡ None → AreNoWords words
no_words words e c h = cc (e, asked_read words c h)

pub one_command : (words : List Text) (c d : Command) → AreWordsOf words c → AreWordsOf words d → c ≡ d
one_command words c d h k = let e = asked_read words c h in let f = asked_read words d k in cc (e, f)
