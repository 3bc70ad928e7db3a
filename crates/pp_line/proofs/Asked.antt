-- Kept texts that give a command, and the words that ask for it.
use Rattle.std.proofs.Common.{◌≡◌, ◌∙◌, ap, sym, refl, arith, ℕ, ◌≤◌, Bool, true, false, ◌&&◌, cond, nat_le, List, [], ◌∷◌, map, length, Some, None}
use Rattle.std.specs.List.{list_all, slice_index_or}
use Rattle.std.proofs.lemmas.Bool.{and_parts}
use Rattle.pp_language.specs.declared.command.CommandKind.{CommandKind}
use Rattle.pp_language.specs.declared.command.Command.{Command}
use Rattle.pp_language.specs.declared.command.Settings.{Settings}
use Rattle.pp_language.specs.declared.limits.TheConstants.{MAKE_LIMIT}
use Rattle.pp_language.specs.Texts.{Text, is_between}
use Rattle.pp_language.specs.Kinds.{value_of}
use Rattle.pp_language.specs.Commands.{Setting, worker_count, look_ahead, search_depth, turn_count, is_number, has_trace, default_value, given as given_in, numbers_of, settings_by, kind_name, AreWordsOf}
use Rattle.pp_line.specs.Kept.{is_value, value_read}
use Rattle.pp_line.proofs.Steps.{Raw, AreRaws}
use Rattle.pp_line.proofs.Ends.{given, bares, traces}
use Rattle.pp_line.proofs.Entries.{entries_by, made, values_by, numbers_by, traces_by, all_numbers, all_allowed}

-- what it says of texts that they give a value
pub record GiveValue (kind : CommandKind) (s : Setting) (ts : List Text) (n : ℕ) : Type 0 where
  pub numbers : list_all is_number ts ≡ true
  pub once : length ts ≤ 1
  pub allowed : list_all (is_value kind s) (map (value_of 0) ts) ≡ true
  pub value : n ≡ slice_index_or (map (value_of 0) ts) 0 (default_value s)

one_value : (kind : CommandKind) (s : Setting) (t : Text) (n : ℕ) (b : Bool) → (is_number t && is_value kind s (value_of 0 t)) ≡ b → cond b (Some (value_of 0 t)) None ≡ Some n → GiveValue kind s (t ∷ []) n
one_value kind s t n false e h = absurd (cc h)
one_value kind s t n true e h =
    let p = and_parts (is_number t) (is_value kind s (value_of 0 t)) e in
    let same : value_of 0 t ≡ n = cc h in
    record { numbers = rw p.0 refl; once = omega arith; allowed = ap (λ b. b && true) p.1; value = sym same }

pub gives_value : (kind : CommandKind) (s : Setting) (ts : List Text) (n : ℕ) → value_read kind s ts ≡ Some n → GiveValue kind s ts n
gives_value kind s [] n h = let same : default_value s ≡ n = cc h in record { numbers = refl; once = omega arith; allowed = refl; value = sym same }
gives_value kind s (t ∷ []) n h = one_value kind s t n (is_number t && is_value kind s (value_of 0 t)) refl h
gives_value kind s (t ∷ u ∷ ts) n h = absurd (cc h)

-- and texts that could give one do
pub gives_some : (kind : CommandKind) (s : Setting) (ts : List Text) → list_all is_number ts ≡ true → length ts ≤ 1 → list_all (is_value kind s) (map (value_of 0) ts) ≡ true → (n : ℕ) × (value_read kind s ts ≡ Some n)
gives_some kind s [] n o a = (default_value s, refl)
gives_some kind s (t ∷ []) n o a =
    let first = (and_parts (is_number t) true n).0 in
    let here = (and_parts (is_value kind s (value_of 0 t)) true a).0 in
    (value_of 0 t, rw (first, here) refl)
gives_some kind s (t ∷ u ∷ ts) n o a = absurd (omega (arith, o))

-- words of entries ask for the command that the kept texts give
pub asks : (ws : List Text) (rs : List Raw) (c : Command) → AreRaws ws rs
    → GiveValue c.kind worker_count (given worker_count rs) c.settings.workers → GiveValue c.kind look_ahead (given look_ahead rs) c.settings.ahead
    → GiveValue c.kind search_depth (given search_depth rs) c.settings.depth → GiveValue c.kind turn_count (given turn_count rs) c.settings.turns
    → list_all is_number (bares rs) ≡ true → map (value_of 0) (bares rs) ≡ numbers_of c.kind → list_all (is_between 1 MAKE_LIMIT) (map (value_of 0) (bares rs)) ≡ true
    → length (traces rs) ≤ 1 → nat_le (length (traces rs)) (cond (has_trace c.kind) (length (traces rs)) 0) ≡ true → c.trace ≡ nat_le 1 (length (traces rs))
    → AreWordsOf (kind_name c.kind ∷ ws) c
asks ws rs c e w a d t n k m o l g =
    let es = entries_by rs in
    let read : (s : Setting) → (x : ℕ) × GiveValue c.kind s (given s rs) x = λ s. elim s as (λ z. (x : ℕ) × GiveValue c.kind z (given z rs) x) [ worker_count ↦ (c.settings.workers, w) | look_ahead ↦ (c.settings.ahead, a) | search_depth ↦ (c.settings.depth, d) | turn_count ↦ (c.settings.turns, t) ] in
    let value_is : (s : Setting) → (read s).0 ≡ given_in s es = λ s. (read s).1.value ∙ ap (λ vs. slice_index_or vs 0 (default_value s)) (sym (values_by s rs)) in
    record {
      entries = es;
      rest = ws;
      begins = refl;
      are_entries = made ws rs e (all_numbers rs (λ s. (read s).1.numbers) n);
      allowed = all_allowed c.kind es (λ s. ap (list_all (is_value c.kind s)) (values_by s rs) ∙ (read s).1.allowed) (rw (traces_by rs) l) (ap (list_all (is_between 1 MAKE_LIMIT)) (numbers_by rs) ∙ m);
      once = λ s. rw (values_by s rs) (kept_once (given s rs) (read s).1.once);
      traced_once = rw (traces_by rs) o;
      numbers = numbers_by rs ∙ k;
      settings = settings_are c.settings (value_is search_depth) (value_is turn_count) (value_is worker_count) (value_is look_ahead);
      trace = g ∙ ap (nat_le 1) (sym (traces_by rs));
    }
  where
    kept_once : (ts : List Text) → length ts ≤ 1 → length (map (value_of 0) ts) ≤ 1
    kept_once [] h = h
    kept_once (t ∷ []) h = omega arith
    kept_once (t ∷ u ∷ ts) h = absurd (omega (arith, h))

    settings_are : (s : Settings) → s.depth ≡ given_in search_depth (entries_by rs) → s.turns ≡ given_in turn_count (entries_by rs) → s.workers ≡ given_in worker_count (entries_by rs) → s.ahead ≡ given_in look_ahead (entries_by rs) → s ≡ settings_by (entries_by rs)
    settings_are s d t w a = rw (← d, ← t, ← w, ← a) refl
