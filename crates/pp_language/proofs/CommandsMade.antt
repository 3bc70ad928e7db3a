-- What the function of words says is asked for: such words do ask for that command.
use Rattle.std.proofs.Common.{◌≡◌, ℕ, ◌≤◌, inl, inr, true, false, IsTrue, ◌&&◌, cond, nat_eq, List, [], ◌∷◌, ◌++◌, length, Option, Some, None, refl, ◌∙◌, ap, arith}
use Rattle.std.specs.Prelude.{codes}
use Rattle.std.specs.List.{list_all}
use Rattle.std.proofs.lemmas.Bool.{eqb-true}
use Rattle.pp_language.specs.declared.command.CommandKind.{CommandKind}
use Rattle.pp_language.specs.declared.command.CommandKind.TheVariants.{Run, Alone, Make}
use Rattle.pp_language.specs.declared.command.Command.{Command}
use Rattle.pp_language.specs.Texts.{Text}
use Rattle.pp_algebra.specs.Texts.{same_text}
use Rattle.pp_language.specs.Kinds.{value_of}
use Rattle.pp_language.specs.Commands.{Setting, worker_count, look_ahead, search_depth, turn_count, option_name, kind_name, is_number, Entry, sets, traces, counts, IsEntry, AreEntries, values, trace_count, numbers, numbers_of, is_allowed, AreWordsOf}
use Rattle.pp_language.proofs.CommandsRead.{left_behind, setting_named, valued, or_later, assigned, single, with_entry, entries_from, is_once, kind_by, command_by, checked, asked_with, asked_by}
use Rattle.pp_algebra.proofs.SameText.{same_text-is}

pub left_whole : (bs cs ds : Text) → left_behind bs cs ≡ Some ds → cs ≡ bs ++ ds
left_whole [] cs ds e = cc (e)
left_whole (b ∷ bs) [] ds e = absurd (cc e)
left_whole (b ∷ bs) (c ∷ cs) ds e =
    elim (nat_eq b c) as (λ v. nat_eq b c ≡ v → cond v (left_behind bs cs) None ≡ Some ds → c ∷ cs ≡ b ∷ bs ++ ds) [
      | true ↦ λ same f. rw (eqb-true b c same, left_whole bs cs ds f) refl
      | false ↦ λ same f. absurd (cc f)
    ] refl e

-- a value that was read is a number
valued_is : (s : Setting) (d : Text) (e : Entry) → valued s d ≡ Some e → IsTrue (is_number d) × (e ≡ sets s (value_of 0 d))
valued_is s d e h =
    elim (is_number d) as (λ v. is_number d ≡ v → cond v (Some (sets s (value_of 0 d))) None ≡ Some e → IsTrue (is_number d) × (e ≡ sets s (value_of 0 d))) [
      | true ↦ λ t f. (t, cc f)
      | false ↦ λ t f. absurd (cc f)
    ] refl h

assigned_entry : (s : Setting) (w : Text) (e : Entry) (o : Option Text) (later : Option Entry) → left_behind (option_name s ++ codes "=") w ≡ o → or_later s o later ≡ Some e → (later ≡ Some e → IsEntry (w ∷ []) e) → IsEntry (w ∷ []) e
assigned_entry s w e None later f g h = h g
assigned_entry s w e (Some d) later f g h =
    let v = valued_is s d e g in
    rw v.1 (d, (v.0, refl), inr (ap (λ x. x ∷ []) (left_whole (option_name s ++ codes "=") w d f)))

assigned_is : (w : Text) (e : Entry) → assigned w ≡ Some e → IsEntry (w ∷ []) e
assigned_is w e h =
    assigned_entry worker_count w e (left_behind (codes "--workers=") w) _ refl h λ h.
    assigned_entry look_ahead w e (left_behind (codes "--ahead=") w) _ refl h λ h.
    assigned_entry search_depth w e (left_behind (codes "--depth=") w) _ refl h λ h.
    assigned_entry turn_count w e (left_behind (codes "--turns=") w) None refl h λ h. absurd (cc h)

-- a word that was read by itself is an entry
single_is : (w : Text) (e : Entry) → single w ≡ Some e → IsEntry (w ∷ []) e
single_is w e h =
    elim (is_number w) as (λ v. is_number w ≡ v → cond v (Some (counts (value_of 0 w))) (cond (same_text w (codes "--trace")) (Some traces) (assigned w)) ≡ Some e → IsEntry (w ∷ []) e) [
      | true ↦ λ t f. let same : e ≡ counts (value_of 0 w) = cc f in rw same (w, (t, refl), refl)
      | false ↦ λ t f. elim (same_text w (codes "--trace")) as (λ v. same_text w (codes "--trace") ≡ v → cond v (Some traces) (assigned w) ≡ Some e → IsEntry (w ∷ []) e) [
        | true ↦ λ t f. let same : e ≡ traces = cc f in rw same (ap (λ x. x ∷ []) (same_text-is w (codes "--trace") t))
        | false ↦ λ t f. assigned_is w e f
      ] refl f
    ] refl h

tested : (w x : Text) (t s : Setting) (later : Option Setting) → cond (same_text w x) (Some t) later ≡ Some s → x ≡ option_name t → (later ≡ Some s → w ≡ option_name s) → w ≡ option_name s
tested w x t s later h name next =
    elim (same_text w x) as (λ v. same_text w x ≡ v → cond v (Some t) later ≡ Some s → w ≡ option_name s) [
      | true ↦ λ e f. let same : t ≡ s = cc f in same_text-is w x e ∙ name ∙ ap option_name same
      | false ↦ λ e f. next f
    ] refl h

named_is : (w : Text) (s : Setting) → setting_named w ≡ Some s → w ≡ option_name s
named_is w s h =
    tested w (codes "--workers") worker_count s _ h refl λ h.
    tested w (codes "--ahead") look_ahead s _ h refl λ h.
    tested w (codes "--depth") search_depth s _ h refl λ h.
    tested w (codes "--turns") turn_count s None h refl λ h. absurd (cc h)

-- an entry and the entries behind it
record Taken (a : Option Entry) (b : Option (List Entry)) (es : List Entry) : Type 0 where
  entry : Entry
  rest : List Entry
  first : a ≡ Some entry
  later : b ≡ Some rest
  whole : es ≡ entry ∷ rest

taken : (a : Option Entry) (b : Option (List Entry)) (es : List Entry) → with_entry a b ≡ Some es → Taken a b es
taken None b es h = absurd (cc h)
taken (Some e) None es h = absurd (cc h)
taken (Some e) (Some rest) es h = record { entry = e; rest = rest; first = refl; later = refl; whole = cc h }

-- the words, with the name of the option before them where there is one
behind : Option Setting → List Text → List Text
behind None ws = ws
behind (Some s) ws = option_name s ∷ ws

entries_made : (o : Option Setting) (ws : List Text) (es : List Entry) → entries_from o ws ≡ Some es → AreEntries (behind o ws) es
unfolding behind
entries_made None [] es h = let e : es ≡ [] = cc h in rw e refl
entries_made (Some s) [] es h = absurd (cc h)
entries_made (Some s) (w ∷ ws) es h =
    let t = taken (valued s w) (entries_from None ws) es h in
    let v = valued_is s w t.entry t.first in
    rw (t.whole, v.1) (option_name s ∷ w ∷ [], ws, refl, (w, (v.0, refl), inl refl), entries_made None ws t.rest t.later)
entries_made None (w ∷ ws) es h =
    elim (setting_named w) as (λ o. setting_named w ≡ o → elim o as (λ _. Option (List Entry)) [ None ↦ with_entry (single w) (entries_from None ws) | Some s ↦ entries_from (Some s) ws ] ≡ Some es → AreEntries (w ∷ ws) es) [
      | None ↦ λ e f. let t = taken (single w) (entries_from None ws) es f in rw t.whole (w ∷ [], ws, refl, single_is w t.entry t.first, entries_made None ws t.rest t.later)
      | Some s ↦ λ e f. rw (named_is w s e) (entries_made (Some s) ws es f)
    ] refl h

-- a command by the words that name its kind and the numbers among them
record IsNamed (w : Text) (ns : List ℕ) (kind : CommandKind) : Type 0 where
  name : w ≡ kind_name kind
  numbers : ns ≡ numbers_of kind

named_kind : (w : Text) (ns : List ℕ) (kind : CommandKind) → kind_by w ns ≡ Some kind → IsNamed w ns kind
named_kind w [] kind h =
    elim (same_text w (codes "run")) as (λ v. same_text w (codes "run") ≡ v → cond v (Some Run) (cond (same_text w (codes "alone")) (Some Alone) None) ≡ Some kind → IsNamed w [] kind) [
      | true ↦ λ t f. let same : kind ≡ Run = cc f in rw same (record { name = same_text-is w (codes "run") t; numbers = refl })
      | false ↦ λ t f. elim (same_text w (codes "alone")) as (λ v. same_text w (codes "alone") ≡ v → cond v (Some Alone) None ≡ Some kind → IsNamed w [] kind) [
        | true ↦ λ t f. let same : kind ≡ Alone = cc f in rw same (record { name = same_text-is w (codes "alone") t; numbers = refl })
        | false ↦ λ t f. absurd (cc f)
      ] refl f
    ] refl h
named_kind w (n ∷ []) kind h =
    elim (same_text w (codes "make")) as (λ v. same_text w (codes "make") ≡ v → cond v (Some (Make n)) None ≡ Some kind → IsNamed w (n ∷ []) kind) [
      | true ↦ λ t f. let same : kind ≡ Make n = cc f in rw same (record { name = same_text-is w (codes "make") t; numbers = refl })
      | false ↦ λ t f. absurd (cc f)
    ] refl h
named_kind w (n ∷ m ∷ ns) kind h = absurd (cc h)

each_once : (es : List Entry) → is_once es ≡ true → (s : Setting) → length (values s es) ≤ 1
each_once es h worker_count = grind (arith, h)
each_once es h look_ahead = grind (arith, h)
each_once es h search_depth = grind (arith, h)
each_once es h turn_count = grind (arith, h)

trace_once : (es : List Entry) → is_once es ≡ true → trace_count es ≤ 1
trace_once es h = grind (arith, h)

made : (w : Text) (ws : List Text) (es : List Entry) (c : Command) (o : Option CommandKind) → AreEntries ws es → kind_by w (numbers es) ≡ o → checked es o ≡ Some c → AreWordsOf (w ∷ ws) c
made w ws es c None a e h = absurd (cc h)
made w ws es c (Some kind) a e h =
    let n = named_kind w (numbers es) kind e in
    elim (list_all (is_allowed kind) es) as (λ v. list_all (is_allowed kind) es ≡ v → cond (v && is_once es) (Some (command_by kind es)) None ≡ Some c → AreWordsOf (w ∷ ws) c) [
      | false ↦ λ t f. absurd (cc f)
      | true ↦ λ t f. elim (is_once es) as (λ v. is_once es ≡ v → cond v (Some (command_by kind es)) None ≡ Some c → AreWordsOf (w ∷ ws) c) [
        | false ↦ λ u f. absurd (cc f)
        | true ↦ λ u f. let same : c ≡ command_by kind es = cc f in
            rw same (record {
              entries = es;
              rest = ws;
              begins = ap (λ x. x ∷ ws) n.name;
              are_entries = a;
              allowed = t;
              once = each_once es u;
              traced_once = trace_once es u;
              numbers = n.numbers;
              settings = refl;
              trace = refl;
            })
      ] refl f
    ] refl h

-- words that are read as a command ask for it
pub asked_made : (words : List Text) (c : Command) → asked_by words ≡ Some c → AreWordsOf words c
asked_made [] c h = absurd (cc h)
asked_made (w ∷ ws) c h =
    elim (entries_from None ws) as (λ o. entries_from None ws ≡ o → asked_with w o ≡ Some c → AreWordsOf (w ∷ ws) c) [
      | None ↦ λ e f. absurd (cc f)
      | Some es ↦ λ e f. made w ws es c (kind_by w (numbers es)) (unfold behind in entries_made None ws es e) refl f
    ] refl h
