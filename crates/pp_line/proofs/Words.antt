-- The command that words give is the one that they ask for, and words that give none ask for none.
use Rattle.std.proofs.Common.{◌≡◌, ◌∙◌, ap, sym, refl, subst, arith, ℕ, ◌≤◌, Bool, true, cond, List, [], ◌∷◌, map, length, Option, Some, None}
use Rattle.std.specs.Prelude.{codes}
use Rattle.std.specs.List.{list_all}
use Rattle.clap.specs.Kinds.{Kinds}
use Rattle.clap.specs.Simple.{matches_of}
use Rattle.pp_language.specs.declared.command.Command.{Command}
use Rattle.pp_language.specs.declared.limits.TheConstants.{MAKE_LIMIT}
use Rattle.pp_language.specs.Texts.{Text, is_between}
use Rattle.pp_language.specs.Kinds.{value_of}
use Rattle.pp_language.specs.Commands.{Setting, worker_count, look_ahead, search_depth, turn_count, values, numbers, trace_count, kind_name, AreEntries, AreWordsOf, AreNoWords}
use Rattle.pp_line.specs.Line.{line}
use Rattle.pp_line.specs.Kept.{is_open, is_value, line_faults, line_rows, listed, kept, value_read, kind_read, trace_read, command_read, unless_refused, words_read}
use Rattle.pp_line.proofs.Steps.{id_of, Raw, AreRaws, collected}
use Rattle.pp_line.proofs.Ends.{given, bares, traces, some_of, setting_kept, numbers_kept, trace_kept, line_reads, line_takes}
use Rattle.pp_line.proofs.Entries.{AreNumbers, entries_by, unmade, values_by, numbers_by, traces_by, given_numbers, bare_numbers}
use Rattle.pp_line.proofs.Asked.{gives_value, gives_some, asks}
use Rattle.pp_line.proofs.Given.{values_allowed, numbers_allowed, traces_allowed, trace_some, kind_some, command_some, passed_on, kind_is, trace_is, command_is, settings_is}
use Rattle.pp_line.proofs.Open.{all_open, raws_open}

-- the texts are those of these entries
record AreTexts (texts : Text → List Text) (rs : List Raw) : Type 0 where
  of_setting : (s : Setting) → texts (id_of s) ≡ given s rs
  of_numbers : texts (codes "number") ≡ bares rs
  of_trace : texts (codes "trace") ≡ traces rs

listed_some : (ts : List Text) → listed (some_of ts) ≡ ts
listed_some [] = refl
listed_some (t ∷ ts) = refl

are_texts : (ws : List Text) (rs : List Raw) → matches_of line ws ≡ collected [] rs → AreTexts (kept (line_rows ws)) rs
unfolding line_rows
are_texts ws rs e = record {
  of_setting = λ s. ap (λ rows. kept rows (id_of s)) e ∙ ap listed (setting_kept s rs) ∙ listed_some (given s rs);
  of_numbers = ap (λ rows. kept rows (codes "number")) e ∙ ap listed (numbers_kept rs) ∙ listed_some (bares rs);
  of_trace = ap (λ rows. kept rows (codes "trace")) e ∙ ap listed (trace_kept rs) ∙ listed_some (traces rs);
}

asked_by : (name : Text) (ws : List Text) (rs : List Raw) (texts : Text → List Text) (c : Command) → AreRaws ws rs → AreTexts texts rs → command_read name texts ≡ Some c → AreWordsOf (name ∷ ws) c
asked_by name ws rs texts c a t h =
    let i = command_is name texts c h in
    let k = kind_is name (bares rs) c.kind (subst (λ ts. kind_read name ts ≡ Some c.kind) t.of_numbers i.kind) in
    let g = trace_is c.kind (traces rs) c.trace (subst (λ ts. trace_read c.kind ts ≡ Some c.trace) t.of_trace i.trace) in
    let s = settings_is c.kind texts c.settings i.settings in
    let read = λ (x : Setting) (n : ℕ) (e : value_read c.kind x (texts (id_of x)) ≡ Some n). gives_value c.kind x (given x rs) n (subst (λ ts. value_read c.kind x ts ≡ Some n) (t.of_setting x) e) in
    subst (λ w. AreWordsOf (w ∷ ws) c) (sym k.name)
    (asks ws rs c a (read worker_count c.settings.workers s.workers) (read look_ahead c.settings.ahead s.ahead) (read search_depth c.settings.depth s.depth) (read turn_count c.settings.turns s.turns)
    k.numbers k.values k.within g.once g.allowed g.value)

not_refused : (ks : Kinds) (o : Option Command) (c : Command) → unless_refused ks o ≡ Some c → (ks ≡ []) × (o ≡ Some c)
not_refused [] o c h = (refl, h)
not_refused (k ∷ ks) o c h = absurd (cc h)

-- words that give a command ask for it
pub words_asked : (ws : List Text) (c : Command) → words_read ws ≡ Some c → AreWordsOf ws c
unfolding line_faults
words_asked [] c h = absurd (cc h)
words_asked (name ∷ ws) c h =
    let p = passed_on (list_all is_open ws) (unless_refused (line_faults (name ∷ ws)) (command_read name (kept (line_rows (name ∷ ws))))) c h in
    let q = not_refused (line_faults (name ∷ ws)) (command_read name (kept (line_rows (name ∷ ws)))) c p.1 in
    let r = line_reads name ws (all_open ws p.0) q.0 in
    asked_by name ws r.0 (kept (line_rows (name ∷ ws))) c r.1 (are_texts (name ∷ ws) r.0 r.2) q.1

map_length : (ts : List Text) → length (map (value_of 0) ts) ≡ length ts
map_length [] = refl
map_length (t ∷ ts) = omega (arith, map_length ts)

module _ (name : Text) (ws : List Text) (texts : Text → List Text) (c : Command) (h : AreWordsOf (name ∷ ws) c) (rs : List Raw) (e : entries_by rs ≡ h.entries) (n : AreNumbers rs) (t : AreTexts texts rs) where
  value_there : (s : Setting) → (x : ℕ) × (value_read c.kind s (texts (id_of s)) ≡ Some x)
  value_there s =
      let same : values s h.entries ≡ map (value_of 0) (given s rs) = ap (values s) (sym e) ∙ values_by s rs in
      let once : length (given s rs) ≤ 1 = omega (arith, h.once s, ap length same, map_length (given s rs)) in
      let v = gives_some c.kind s (given s rs) (given_numbers s rs n) once (ap (list_all (is_value c.kind s)) (sym same) ∙ values_allowed c.kind s h.entries h.allowed) in
      (v.0, ap (value_read c.kind s) (t.of_setting s) ∙ v.1)

  kind_there : kind_read name (texts (codes "number")) ≡ Some c.kind
  kind_there =
      let same : numbers h.entries ≡ map (value_of 0) (bares rs) = ap numbers (sym e) ∙ numbers_by rs in
      let begins : name ≡ kind_name c.kind = cc (h.begins) in
      let k = kind_some c.kind (bares rs) (bare_numbers rs n) (ap (list_all (is_between 1 MAKE_LIMIT)) (sym same) ∙ numbers_allowed c.kind h.entries h.allowed) (sym same ∙ h.numbers) in
      ap (λ w. kind_read w (texts (codes "number"))) begins ∙ ap (kind_read (kind_name c.kind)) t.of_numbers ∙ k

  trace_there : (b : Bool) × (trace_read c.kind (texts (codes "trace")) ≡ Some b)
  trace_there =
      let same : trace_count h.entries ≡ length (traces rs) = ap trace_count (sym e) ∙ traces_by rs in
      let v = trace_some c.kind (traces rs) (omega (arith, h.traced_once, same)) (λ l. traces_allowed c.kind h.entries h.allowed (omega (arith, l, same))) in
      (v.0, ap (trace_read c.kind) t.of_trace ∙ v.1)

  command_there : (d : Command) × (command_read name texts ≡ Some d)
  command_there = command_some name texts c.kind kind_there value_there trace_there

not_none : (name : Text) (ws : List Text) (d : Command) → list_all is_open ws ≡ true → line_faults (name ∷ ws) ≡ [] → command_read name (kept (line_rows (name ∷ ws))) ≡ Some d → words_read (name ∷ ws) ≡ Some d
not_none name ws d o f h =
    ap (λ v. cond v (unless_refused (line_faults (name ∷ ws)) (command_read name (kept (line_rows (name ∷ ws))))) None) o
    ∙ ap (λ ks. unless_refused ks (command_read name (kept (line_rows (name ∷ ws))))) f ∙ h

-- and words that give none ask for none
pub no_words_asked : (ws : List Text) → words_read ws ≡ None → AreNoWords ws
unfolding line_faults
no_words_asked [] h c a = cc (a.begins)
no_words_asked (name ∷ ws) h c a =
    let rest : ws ≡ a.rest = cc (a.begins) in
    let u = unmade ws a.entries (subst (λ x. AreEntries x a.entries) (sym rest) a.are_entries) in
    let k = line_takes name ws u.0 u.1 in
    let d = command_there name ws (kept (line_rows (name ∷ ws))) c a u.0 u.3 u.2 (are_texts (name ∷ ws) u.0 k.1) in
    cc (h, not_none name ws d.0 (raws_open ws u.0 u.1) k.0 d.1)
