-- How clap's walk goes over the words of the command line.
use Rattle.std.proofs.Common.{◌≡◌, ◌⊎◌, inl, inr, ◌∙◌, ap, refl, Bool, true, false, ◌&&◌, List, [], ◌∷◌, ◌++◌, Some, None}
use Rattle.std.specs.Prelude.{codes, fold}
use Rattle.std.specs.Str.{bytes_eq}
use Rattle.clap.specs.Lexer.{long_of, short_of}
use Rattle.clap.specs.Walk.{Held, Row, Rule, Text, Waiting, idle, option, positional, Walk, is_pending, reacted, settled, used, walked}
use Rattle.clap.specs.Simple.{Shape, built, filled, with_index}
use Rattle.clap.specs.Faults.{is_simple_and_free, settle_fault, turn_fault, walk_fault}
use Rattle.clap.specs.Kinds.{Kinds, or_else}
use Rattle.pp_language.specs.Commands.{Setting, worker_count, look_ahead, search_depth, turn_count}
use Rattle.pp_line.specs.Line.{line, option_rule, trace_rule, number_rule}

abbrev pub shape : Shape
shape = (built line).top

abbrev pub rules : List Rule
rules = shape.rules

abbrev pub option_read : Text → Rule
option_read name = filled (option_rule name)

abbrev pub trace_read : Rule
trace_read = filled trace_rule

abbrev pub number_read : Rule
number_read = with_index 1 (filled number_rule)

pub is_simple_line : is_simple_and_free line ≡ true
is_simple_line = refl

-- the walk between two words
abbrev pub between : Held → Waiting → Walk
between h waiting = record { held = h; waiting = waiting; position = 1; is_trailing = false; stopped = None }

abbrev pub id_of : Setting → Text
id_of worker_count = codes "workers"
id_of look_ahead = codes "ahead"
id_of search_depth = codes "depth"
id_of turn_count = codes "turns"

abbrev pub rule_for : Setting → Rule
rule_for s = option_read (id_of s)

abbrev pub dashes : Text → Text
dashes t = 45 ∷ 45 ∷ t

-- an option that waits for its value, one that has it, and a word by itself
abbrev pub asking : Setting → Held → Held
asking s h = record (settled rules h) { pending = Some (id_of s, []) }

abbrev pub given_to : Setting → Text → Held → Held
given_to s v h = record (settled rules h) { pending = Some (id_of s, v ∷ []) }

abbrev pub bare_held : Text → Held → Held
bare_held v h = record (settled rules h) { pending = Some (codes "number", v ∷ []) }

-- what is no flag
pub record IsPlain (w : Text) : Type 0 where
  pub dashed : bytes_eq w (45 ∷ 45 ∷ []) ≡ false
  pub long : long_of w ≡ None
  pub short : short_of w ≡ None

abbrev pub is_free : Waiting → Bool
is_free (option id) = false
is_free _ = true

pub name_walked : (s : Setting) (h : Held) (waiting : Waiting) → walked rules [] (between h waiting) (dashes (id_of s)) ≡ between (asking s h) (option (id_of s))
unfolding walked
name_walked worker_count h idle = refl
name_walked worker_count h (option id) = refl
name_walked worker_count h positional = refl
name_walked look_ahead h idle = refl
name_walked look_ahead h (option id) = refl
name_walked look_ahead h positional = refl
name_walked search_depth h idle = refl
name_walked search_depth h (option id) = refl
name_walked search_depth h positional = refl
name_walked turn_count h idle = refl
name_walked turn_count h (option id) = refl
name_walked turn_count h positional = refl

pub name_fault : (s : Setting) (h : Held) (waiting : Waiting) → turn_fault shape [] (between h waiting) (dashes (id_of s)) ≡ or_else (settle_fault rules false h) []
name_fault worker_count h idle = refl
name_fault worker_count h (option id) = refl
name_fault worker_count h positional = refl
name_fault look_ahead h idle = refl
name_fault look_ahead h (option id) = refl
name_fault look_ahead h positional = refl
name_fault search_depth h idle = refl
name_fault search_depth h (option id) = refl
name_fault search_depth h positional = refl
name_fault turn_count h idle = refl
name_fault turn_count h (option id) = refl
name_fault turn_count h positional = refl

pub assigned_walked : (s : Setting) (v : Text) (h : Held) (waiting : Waiting) → walked rules [] (between h waiting) (dashes (id_of s ++ 61 ∷ v)) ≡ between (reacted rules (rule_for s) (v ∷ []) h) idle
unfolding walked
assigned_walked worker_count v h idle = refl
assigned_walked worker_count v h (option id) = refl
assigned_walked worker_count v h positional = refl
assigned_walked look_ahead v h idle = refl
assigned_walked look_ahead v h (option id) = refl
assigned_walked look_ahead v h positional = refl
assigned_walked search_depth v h idle = refl
assigned_walked search_depth v h (option id) = refl
assigned_walked search_depth v h positional = refl
assigned_walked turn_count v h idle = refl
assigned_walked turn_count v h (option id) = refl
assigned_walked turn_count v h positional = refl

pub assigned_fault : (s : Setting) (v : Text) (h : Held) (waiting : Waiting) → turn_fault shape [] (between h waiting) (dashes (id_of s ++ 61 ∷ v)) ≡ or_else (or_else (settle_fault rules false h) []) []
assigned_fault worker_count v h idle = refl
assigned_fault worker_count v h (option id) = refl
assigned_fault worker_count v h positional = refl
assigned_fault look_ahead v h idle = refl
assigned_fault look_ahead v h (option id) = refl
assigned_fault look_ahead v h positional = refl
assigned_fault search_depth v h idle = refl
assigned_fault search_depth v h (option id) = refl
assigned_fault search_depth v h positional = refl
assigned_fault turn_count v h idle = refl
assigned_fault turn_count v h (option id) = refl
assigned_fault turn_count v h positional = refl

pub trace_walked : (h : Held) (waiting : Waiting) → walked rules [] (between h waiting) (dashes (codes "trace")) ≡ between (reacted rules trace_read [] h) idle
unfolding walked
trace_walked h idle = refl
trace_walked h (option id) = refl
trace_walked h positional = refl

pub trace_fault : (h : Held) (waiting : Waiting) → turn_fault shape [] (between h waiting) (dashes (codes "trace")) ≡ or_else (or_else (settle_fault rules false h) []) []
trace_fault h idle = refl
trace_fault h (option id) = refl
trace_fault h positional = refl

pub value_walked : (s : Setting) (v : Text) (h : Held) → IsPlain v → walked rules [] (between (asking s h) (option (id_of s))) v ≡ between (given_to s v h) idle
unfolding walked
value_walked worker_count v h p = rw (p.dashed, p.long, p.short) refl
value_walked look_ahead v h p = rw (p.dashed, p.long, p.short) refl
value_walked search_depth v h p = rw (p.dashed, p.long, p.short) refl
value_walked turn_count v h p = rw (p.dashed, p.long, p.short) refl

pub value_fault : (s : Setting) (v : Text) (h : Held) → IsPlain v → turn_fault shape [] (between (asking s h) (option (id_of s))) v ≡ []
value_fault worker_count v h p = rw (p.dashed, p.long, p.short) refl
value_fault look_ahead v h p = rw (p.dashed, p.long, p.short) refl
value_fault search_depth v h p = rw (p.dashed, p.long, p.short) refl
value_fault turn_count v h p = rw (p.dashed, p.long, p.short) refl

and_false : (b : Bool) → (b && false) ≡ false
and_false true = refl
and_false false = refl

pub bare_walked : (v : Text) (h : Held) (waiting : Waiting) → is_free waiting ≡ true → IsPlain v → walked rules [] (between h waiting) v ≡ between (bare_held v h) positional
unfolding walked
bare_walked v h idle f p = rw (p.dashed, p.long, p.short, and_false (is_pending number_read h.pending)) refl
bare_walked v h (option id) f p = absurd (cc f)
bare_walked v h positional f p = rw (p.dashed, p.long, p.short, and_false (is_pending number_read h.pending)) refl

pub bare_fault : (v : Text) (h : Held) (waiting : Waiting) → is_free waiting ≡ true → IsPlain v → turn_fault shape [] (between h waiting) v ≡ settle_fault rules false h
bare_fault v h idle f p = rw (p.dashed, p.long, p.short, and_false (is_pending number_read h.pending)) refl
bare_fault v h (option id) f p = absurd (cc f)
bare_fault v h positional f p = rw (p.dashed, p.long, p.short, and_false (is_pending number_read h.pending)) refl

-- nothing that is read so far fails, and the rows are these once what is pending is used
pub record Rests (h : Held) (rows : List Row) : Type 0 where
  pub kept : (settled rules h).rows ≡ rows
  pub fault : settle_fault rules false h ≡ []

pub rests_given : (s : Setting) (v : Text) (h : Held) (rows : List Row) → Rests h rows → Rests (given_to s v h) (used (rule_for s) (v ∷ []) rows)
rests_given worker_count v h rows r = record { kept = ap (used (rule_for worker_count) (v ∷ [])) r.kept; fault = refl }
rests_given look_ahead v h rows r = record { kept = ap (used (rule_for look_ahead) (v ∷ [])) r.kept; fault = refl }
rests_given search_depth v h rows r = record { kept = ap (used (rule_for search_depth) (v ∷ [])) r.kept; fault = refl }
rests_given turn_count v h rows r = record { kept = ap (used (rule_for turn_count) (v ∷ [])) r.kept; fault = refl }

pub rests_bare : (v : Text) (h : Held) (rows : List Row) → Rests h rows → Rests (bare_held v h) (used number_read (v ∷ []) rows)
rests_bare v h rows r = record { kept = ap (used number_read (v ∷ [])) r.kept; fault = refl }

pub rests_reacted : (a : Rule) (vs : List Text) (h : Held) (rows : List Row) → Rests h rows → Rests (reacted rules a vs h) (used a vs rows)
rests_reacted a vs h rows r = record { kept = ap (used a vs) r.kept; fault = refl }

-- the words' fault, and the rows behind them
abbrev pub run_fault : Walk → List Text → Kinds
run_fault w ws = or_else (walk_fault shape [] w ws) (settle_fault rules false (fold (walked rules []) w ws).held)

abbrev pub rows_behind : Walk → List Text → List Row
rows_behind w ws = (settled rules (fold (walked rules []) w ws).held).rows

or_else_or : (a b c : Kinds) → or_else (or_else a b) c ≡ or_else a (or_else b c)
or_else_or [] b c = refl
or_else_or (k ∷ ks) b c = refl

pub fault_on : (w : Walk) (x : Text) (ws : List Text) → run_fault w (x ∷ ws) ≡ or_else (turn_fault shape [] w x) (run_fault (walked rules [] w x) ws)
unfolding walk_fault
fault_on w x ws = or_else_or (turn_fault shape [] w x) (walk_fault shape [] (walked rules [] w x) ws) _

-- a word by which nothing fails
pub passed : (w v : Walk) (x : Text) (ws : List Text) → turn_fault shape [] w x ≡ [] → walked rules [] w x ≡ v → (run_fault w (x ∷ ws) ≡ run_fault v ws) × (rows_behind w (x ∷ ws) ≡ rows_behind v ws)
passed w v x ws f e = (fault_on w x ws ∙ ap (λ k. or_else k (run_fault (walked rules [] w x) ws)) f ∙ ap (λ u. run_fault u ws) e, ap (λ u. rows_behind u ws) e)

pub data Raw : Type 0 where
  valued : Setting → Text → Raw
  traced : Raw
  bare : Text → Raw

abbrev pub use_of : Raw → List Row → List Row
use_of (valued s t) rows = used (rule_for s) (t ∷ []) rows
use_of traced rows = used trace_read [] rows
use_of (bare t) rows = used number_read (t ∷ []) rows

abbrev pub collected : List Row → List Raw → List Row
collected rows [] = rows
collected rows (r ∷ rs) = collected (use_of r rows) rs

abbrev pub IsRaw : List Text → Raw → Type 0
IsRaw ws (valued s t) = ((ws ≡ dashes (id_of s) ∷ t ∷ []) × IsPlain t) ⊎ (ws ≡ dashes (id_of s ++ 61 ∷ t) ∷ [])
IsRaw ws traced = ws ≡ dashes (codes "trace") ∷ []
IsRaw ws (bare t) = (ws ≡ t ∷ []) × IsPlain t

abbrev pub AreRaws : List Text → List Raw → Type 0
AreRaws ws [] = ws ≡ []
AreRaws ws (r ∷ rs) = (first : List Text) × (rest : List Text) × (ws ≡ first ++ rest) × IsRaw first r × AreRaws rest rs

-- the words are taken, and their values are kept
abbrev Takes : Held → Waiting → List Row → List Text → List Raw → Type 0
Takes h waiting rows ws rs = (run_fault (between h waiting) ws ≡ []) × (rows_behind (between h waiting) ws ≡ collected rows rs)

taken_on : (w v : Walk) (x : Text) (ws : List Text) (rows : List Row) → turn_fault shape [] w x ≡ [] → walked rules [] w x ≡ v → (run_fault v ws ≡ []) × (rows_behind v ws ≡ rows) → (run_fault w (x ∷ ws) ≡ []) × (rows_behind w (x ∷ ws) ≡ rows)
taken_on w v x ws rows f e t = let p = passed w v x ws f e in (p.0 ∙ t.0, p.1 ∙ t.1)

pub none_settles : (h : Held) (rows : List Row) → Rests h rows → or_else (settle_fault rules false h) [] ≡ []
none_settles h rows r = ap (λ k. or_else k []) r.fault

pub takes_raws : (rs : List Raw) (ws : List Text) (h : Held) (waiting : Waiting) (rows : List Row) → Rests h rows → is_free waiting ≡ true → AreRaws ws rs → Takes h waiting rows ws rs
unfolding walk_fault
takes_raws [] ws h waiting rows r f e = rw e (r.fault, r.kept)
takes_raws (valued s t ∷ rs) ws h waiting rows r f (first, rest, e, inl (g, p), later) =
    let after = takes_raws rs rest (given_to s t h) idle (used (rule_for s) (t ∷ []) rows) (rests_given s t h rows r) refl later in
    rw (e, g) (taken_on (between h waiting) _ (dashes (id_of s)) (t ∷ rest) _ (name_fault s h waiting ∙ none_settles h rows r) (name_walked s h waiting)
    (taken_on _ _ t rest _ (value_fault s t h p) (value_walked s t h p) after))
takes_raws (valued s t ∷ rs) ws h waiting rows r f (first, rest, e, inr g, later) =
    let after = takes_raws rs rest (reacted rules (rule_for s) (t ∷ []) h) idle (used (rule_for s) (t ∷ []) rows) (rests_reacted (rule_for s) (t ∷ []) h rows r) refl later in
    rw (e, g) (taken_on (between h waiting) _ (dashes (id_of s ++ 61 ∷ t)) rest _ (assigned_fault s t h waiting ∙ ap (λ k. or_else k []) (none_settles h rows r)) (assigned_walked s t h waiting) after)
takes_raws (traced ∷ rs) ws h waiting rows r f (first, rest, e, g, later) =
    let after = takes_raws rs rest (reacted rules trace_read [] h) idle (used trace_read [] rows) (rests_reacted trace_read [] h rows r) refl later in
    rw (e, g) (taken_on (between h waiting) _ (dashes (codes "trace")) rest _ (trace_fault h waiting ∙ ap (λ k. or_else k []) (none_settles h rows r)) (trace_walked h waiting) after)
takes_raws (bare t ∷ rs) ws h waiting rows r f (first, rest, e, (g, p), later) =
    let after = takes_raws rs rest (bare_held t h) positional (used number_read (t ∷ []) rows) (rests_bare t h rows r) refl later in
    rw (e, g) (taken_on (between h waiting) _ t rest _ (bare_fault t h waiting f p ∙ r.fault) (bare_walked t h waiting f p) after)
