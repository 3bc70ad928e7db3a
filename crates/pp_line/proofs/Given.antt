-- Texts that give a command: what it says of them, and which texts do.
use Rattle.std.proofs.Common.{◌≡◌, ◌⊎◌, inl, inr, ◌∙◌, ap, sym, refl, subst, arith, ℕ, ◌≤◌, Bool, true, false, ◌&&◌, cond, nat_le, List, [], ◌∷◌, map, length, Option, Some, None}
use Rattle.std.specs.Prelude.{codes}
use Rattle.std.specs.List.{list_all}
use Rattle.std.proofs.lemmas.Bool.{and_parts}
use Rattle.pp_algebra.specs.Texts.{same_text}
use Rattle.pp_algebra.proofs.SameText.{same_text-is}
use Rattle.pp_language.specs.declared.command.CommandKind.{CommandKind}
use Rattle.pp_language.specs.declared.command.CommandKind.TheVariants.{Run, Alone, Make}
use Rattle.pp_language.specs.declared.command.Command.{Command}
use Rattle.pp_language.specs.declared.command.Settings.{Settings}
use Rattle.pp_language.specs.declared.limits.TheConstants.{MAKE_LIMIT}
use Rattle.pp_language.specs.Texts.{Text, is_between}
use Rattle.pp_language.specs.Kinds.{value_of}
use Rattle.pp_language.specs.Commands.{Setting, worker_count, look_ahead, search_depth, turn_count, same_setting, is_number, Entry, sets, traces, counts, values, numbers, trace_count, numbers_of, kind_name, is_allowed, has_trace}
use Rattle.pp_language.proofs.CommandsRead.{kind_by}
use Rattle.pp_line.specs.Kept.{is_value, value_read, trace_read, kind_read, all_settings, settings_read, whole_command, command_with, command_read}
use Rattle.pp_line.proofs.Steps.{id_of}

same_is : (s t : Setting) → same_setting s t ≡ true → t ≡ s
same_is worker_count worker_count e = refl
same_is look_ahead look_ahead e = refl
same_is search_depth search_depth e = refl
same_is turn_count turn_count e = refl
same_is worker_count look_ahead e = absurd (cc e)
same_is worker_count search_depth e = absurd (cc e)
same_is worker_count turn_count e = absurd (cc e)
same_is look_ahead worker_count e = absurd (cc e)
same_is look_ahead search_depth e = absurd (cc e)
same_is look_ahead turn_count e = absurd (cc e)
same_is search_depth worker_count e = absurd (cc e)
same_is search_depth look_ahead e = absurd (cc e)
same_is search_depth turn_count e = absurd (cc e)
same_is turn_count worker_count e = absurd (cc e)
same_is turn_count look_ahead e = absurd (cc e)
same_is turn_count search_depth e = absurd (cc e)

-- what entries that a command takes give is within the limits
pub values_allowed : (kind : CommandKind) (s : Setting) (es : List Entry) → list_all (is_allowed kind) es ≡ true → list_all (is_value kind s) (values s es) ≡ true
values_allowed kind s [] h = refl
values_allowed kind s (traces ∷ es) h = values_allowed kind s es (and_parts (is_allowed kind traces) (list_all (is_allowed kind) es) h).1
values_allowed kind s (counts n ∷ es) h = values_allowed kind s es (and_parts (is_allowed kind (counts n)) (list_all (is_allowed kind) es) h).1
values_allowed kind s (sets t n ∷ es) h =
    let p = and_parts (is_allowed kind (sets t n)) (list_all (is_allowed kind) es) h in
    elim (same_setting s t) as (λ v. same_setting s t ≡ v → list_all (is_value kind s) (cond v (n ∷ values s es) (values s es)) ≡ true) [
      | true ↦ λ e. let here : is_value kind s n ≡ true = subst (λ x. is_value kind x n ≡ true) (same_is s t e) p.0 in ap (λ v. v && list_all (is_value kind s) (values s es)) here ∙ values_allowed kind s es p.1
      | false ↦ λ e. values_allowed kind s es p.1
    ] refl

pub numbers_allowed : (kind : CommandKind) (es : List Entry) → list_all (is_allowed kind) es ≡ true → list_all (is_between 1 MAKE_LIMIT) (numbers es) ≡ true
numbers_allowed kind [] h = refl
numbers_allowed kind (sets t n ∷ es) h = numbers_allowed kind es (and_parts (is_allowed kind (sets t n)) (list_all (is_allowed kind) es) h).1
numbers_allowed kind (traces ∷ es) h = numbers_allowed kind es (and_parts (is_allowed kind traces) (list_all (is_allowed kind) es) h).1
numbers_allowed kind (counts n ∷ es) h =
    let p = and_parts (is_allowed kind (counts n)) (list_all (is_allowed kind) es) h in
    ap (λ v. v && list_all (is_between 1 MAKE_LIMIT) (numbers es)) p.0 ∙ numbers_allowed kind es p.1

pub traces_allowed : (kind : CommandKind) (es : List Entry) → list_all (is_allowed kind) es ≡ true → 1 ≤ trace_count es → has_trace kind ≡ true
traces_allowed kind [] h l = absurd (omega (arith, l))
traces_allowed kind (sets t n ∷ es) h l = traces_allowed kind es (and_parts (is_allowed kind (sets t n)) (list_all (is_allowed kind) es) h).1 l
traces_allowed kind (traces ∷ es) h l = (and_parts (is_allowed kind traces) (list_all (is_allowed kind) es) h).0
traces_allowed kind (counts n ∷ es) h l = traces_allowed kind es (and_parts (is_allowed kind (counts n)) (list_all (is_allowed kind) es) h).1 l

-- such texts give a command
pub trace_some : (kind : CommandKind) (ts : List Text) → length ts ≤ 1 → (1 ≤ length ts → has_trace kind ≡ true) → (b : Bool) × (trace_read kind ts ≡ Some b)
trace_some kind [] o h = (false, refl)
trace_some kind (t ∷ []) o h = let has : has_trace kind ≡ true = h (omega arith) in (true, rw has refl)
trace_some kind (t ∷ u ∷ ts) o h = absurd (omega (arith, o))

pub kind_some : (kind : CommandKind) (ts : List Text) → list_all is_number ts ≡ true → list_all (is_between 1 MAKE_LIMIT) (map (value_of 0) ts) ≡ true → map (value_of 0) ts ≡ numbers_of kind → kind_read (kind_name kind) ts ≡ Some kind
kind_some Run [] n m e = refl
kind_some Run (t ∷ ts) n m e = absurd (cc e)
kind_some Alone [] n m e = refl
kind_some Alone (t ∷ ts) n m e = absurd (cc e)
kind_some (Make k) [] n m e = absurd (cc e)
kind_some (Make k) (t ∷ []) n m e =
    let first = (and_parts (is_number t) true n).0 in
    let within = (and_parts (is_between 1 MAKE_LIMIT (value_of 0 t)) true m).0 in
    let same : value_of 0 t ≡ k = cc e in
    rw (first, within) (ap (λ x. Some (Make x)) same)
kind_some (Make k) (t ∷ u ∷ ts) n m e = absurd (cc e)

four : (d t w a : Option ℕ) (x y z v : ℕ) → d ≡ Some x → t ≡ Some y → w ≡ Some z → a ≡ Some v → all_settings d t w a ≡ Some (record { depth = x; turns = y; workers = z; ahead = v })
four d t w a x y z v e f g h = rw (e, f, g, h) refl

both : (kind : CommandKind) (s : Option Settings) (t : Option Bool) (x : Settings) (y : Bool) → s ≡ Some x → t ≡ Some y → whole_command kind s t ≡ Some (record { kind = kind; settings = x; trace = y })
both kind s t x y e f = rw (e, f) refl

pub command_some : (name : Text) (texts : Text → List Text) (kind : CommandKind) → kind_read name (texts (codes "number")) ≡ Some kind → ((s : Setting) → (n : ℕ) × (value_read kind s (texts (id_of s)) ≡ Some n))
    → (b : Bool) × (trace_read kind (texts (codes "trace")) ≡ Some b) → (c : Command) × (command_read name texts ≡ Some c)
command_some name texts kind k v t =
    let d = v search_depth in
    let u = v turn_count in
    let w = v worker_count in
    let a = v look_ahead in
    let s : Settings = record { depth = d.0; turns = u.0; workers = w.0; ahead = a.0 } in
    let all : settings_read kind texts ≡ Some s = four _ _ _ _ d.0 u.0 w.0 a.0 d.1 u.1 w.1 a.1 in
    (record { kind = kind; settings = s; trace = t.0 }, ap (command_with texts) k ∙ both kind (settings_read kind texts) (trace_read kind (texts (codes "trace"))) s t.0 all t.1)

-- and what a command says of the texts that give it
chosen : {A : Type 0} (b : Bool) (x y : A) (later : Option A) → cond b (Some x) later ≡ Some y → ((b ≡ true) × (x ≡ y)) ⊎ (later ≡ Some y)
chosen true x y later e = inl (refl, cc e)
chosen false x y later e = inr e

pub passed_on : {A : Type 0} (b : Bool) (o : Option A) (y : A) → cond b o None ≡ Some y → (b ≡ true) × (o ≡ Some y)
passed_on true o y e = (refl, e)
passed_on false o y e = absurd (cc e)

pub record IsKind (word : Text) (ts : List Text) (kind : CommandKind) : Type 0 where
  pub name : word ≡ kind_name kind
  pub numbers : list_all is_number ts ≡ true
  pub values : map (value_of 0) ts ≡ numbers_of kind
  pub within : list_all (is_between 1 MAKE_LIMIT) (map (value_of 0) ts) ≡ true

pub kind_is : (name : Text) (ts : List Text) (kind : CommandKind) → kind_read name ts ≡ Some kind → IsKind name ts kind
kind_is name [] kind h =
    elim (chosen (same_text name (codes "run")) Run kind _ h) [
      | inl p ↦ subst (λ k. IsKind name [] k) p.1 (record { name = same_text-is name (codes "run") p.0; numbers = refl; values = refl; within = refl })
      | inr q ↦ elim (chosen (same_text name (codes "alone")) Alone kind None q) [
        | inl p ↦ subst (λ k. IsKind name [] k) p.1 (record { name = same_text-is name (codes "alone") p.0; numbers = refl; values = refl; within = refl })
        | inr r ↦ absurd (cc r)
      ]
    ]
kind_is name (t ∷ []) kind h =
    let p = passed_on (is_number t && is_between 1 MAKE_LIMIT (value_of 0 t)) (kind_by name (value_of 0 t ∷ [])) kind h in
    let q = and_parts (is_number t) (is_between 1 MAKE_LIMIT (value_of 0 t)) p.0 in
    elim (chosen (same_text name (codes "make")) (Make (value_of 0 t)) kind None p.1) [
      | inl r ↦ subst (λ k. IsKind name (t ∷ []) k) r.1 (record { name = same_text-is name (codes "make") r.0; numbers = ap (λ b. b && true) q.0; values = refl; within = ap (λ b. b && true) q.1 })
      | inr r ↦ absurd (cc r)
    ]
kind_is name (t ∷ u ∷ ts) kind h = absurd (cc h)

none_below : (b : Bool) → nat_le 0 (cond b 0 0) ≡ true
none_below true = refl
none_below false = refl

pub record IsTrace (kind : CommandKind) (ts : List Text) (b : Bool) : Type 0 where
  pub once : length ts ≤ 1
  pub allowed : nat_le (length ts) (cond (has_trace kind) (length ts) 0) ≡ true
  pub value : b ≡ nat_le 1 (length ts)

pub trace_is : (kind : CommandKind) (ts : List Text) (b : Bool) → trace_read kind ts ≡ Some b → IsTrace kind ts b
trace_is kind [] b h = let same : false ≡ b = cc h in record { once = omega arith; allowed = none_below (has_trace kind); value = sym same }
trace_is kind (t ∷ []) b h =
    let p = passed_on (has_trace kind) (Some true) b h in
    let same : true ≡ b = cc (p.1) in
    record { once = omega arith; allowed = ap (λ v. nat_le 1 (cond v 1 0)) p.0; value = sym same }
trace_is kind (t ∷ u ∷ ts) b h = absurd (cc h)

pub record AreSettings (d t w a : Option ℕ) (s : Settings) : Type 0 where
  pub depth : d ≡ Some s.depth
  pub turns : t ≡ Some s.turns
  pub workers : w ≡ Some s.workers
  pub ahead : a ≡ Some s.ahead

settings_are : (d t w a : Option ℕ) (s : Settings) → all_settings d t w a ≡ Some s → AreSettings d t w a s
settings_are None t w a s h = absurd (cc h)
settings_are (Some x) None w a s h = absurd (cc h)
settings_are (Some x) (Some y) None a s h = absurd (cc h)
settings_are (Some x) (Some y) (Some z) None s h = absurd (cc h)
settings_are (Some x) (Some y) (Some z) (Some v) s h =
    let made : Settings = record { depth = x; turns = y; workers = z; ahead = v } in
    let same : made ≡ s = cc h in
    subst (λ s. AreSettings (Some x) (Some y) (Some z) (Some v) s) same (record { depth = refl; turns = refl; workers = refl; ahead = refl })

pub record IsCommand (name : Text) (texts : Text → List Text) (c : Command) : Type 0 where
  pub kind : kind_read name (texts (codes "number")) ≡ Some c.kind
  pub settings : settings_read c.kind texts ≡ Some c.settings
  pub trace : trace_read c.kind (texts (codes "trace")) ≡ Some c.trace

record AreBoth (k : CommandKind) (s : Option Settings) (t : Option Bool) (c : Command) : Type 0 where
  kind : k ≡ c.kind
  settings : s ≡ Some c.settings
  trace : t ≡ Some c.trace

both_are : (kind : CommandKind) (s : Option Settings) (t : Option Bool) (c : Command) → whole_command kind s t ≡ Some c → AreBoth kind s t c
both_are kind None t c h = absurd (cc h)
both_are kind (Some x) None c h = absurd (cc h)
both_are kind (Some x) (Some y) c h =
    let made : Command = record { kind = kind; settings = x; trace = y } in
    let same : made ≡ c = cc h in
    subst (λ c. AreBoth kind (Some x) (Some y) c) same (record { kind = refl; settings = refl; trace = refl })

command_of : (name : Text) (texts : Text → List Text) (c : Command) (o : Option CommandKind) → kind_read name (texts (codes "number")) ≡ o → command_with texts o ≡ Some c → IsCommand name texts c
command_of name texts c None e h = absurd (cc h)
command_of name texts c (Some kind) e h =
    let b = both_are kind (settings_read kind texts) (trace_read kind (texts (codes "trace"))) c h in
    record {
      kind = e ∙ ap Some b.kind;
      settings = subst (λ k. settings_read k texts ≡ Some c.settings) b.kind b.settings;
      trace = subst (λ k. trace_read k (texts (codes "trace")) ≡ Some c.trace) b.kind b.trace;
    }

pub command_is : (name : Text) (texts : Text → List Text) (c : Command) → command_read name texts ≡ Some c → IsCommand name texts c
command_is name texts c h = command_of name texts c _ refl h

pub settings_is : (kind : CommandKind) (texts : Text → List Text) (s : Settings) → settings_read kind texts ≡ Some s
    → AreSettings (value_read kind search_depth (texts (codes "depth"))) (value_read kind turn_count (texts (codes "turns"))) (value_read kind worker_count (texts (codes "workers"))) (value_read kind look_ahead (texts (codes "ahead"))) s
settings_is kind texts s h = settings_are _ _ _ _ s h
