-- A command that words ask for is within its limits.
use Rattle.std.proofs.Common.{◌≡◌, ℕ, ◌≤◌, true, false, List, [], ◌∷◌, refl, ap, sym, ◌∙◌, subst, arith}
use Rattle.std.specs.List.{list_all}
use Rattle.std.proofs.lemmas.Bool.{and_parts}
use Rattle.pp_language.specs.declared.limits.TheConstants.{WORKER_LIMIT, MAKE_LIMIT}
use Rattle.pp_language.specs.declared.command.CommandKind.{CommandKind}
use Rattle.pp_language.specs.declared.command.CommandKind.TheVariants.{Make}
use Rattle.pp_language.specs.declared.command.Command.{Command}
use Rattle.pp_language.specs.Texts.{Text, is_between}
use Rattle.pp_language.specs.Commands.{Setting, worker_count, look_ahead, search_depth, turn_count, same_setting, greatest_value, default_value, has_setting, Entry, sets, traces, counts, numbers, numbers_of, is_allowed, given, AreWordsOf}
use Rattle.pp_language.proofs.Bytes.{within}

default_within : (s : Setting) → (1 ≤ default_value s) × (default_value s ≤ greatest_value s)
default_within worker_count = (omega arith, omega arith)
default_within look_ahead = (omega arith, omega arith)
default_within search_depth = (omega arith, omega arith)
default_within turn_count = (omega arith, omega arith)

same_greatest : (s t : Setting) → same_setting s t ≡ true → greatest_value t ≡ greatest_value s
same_greatest worker_count worker_count e = refl
same_greatest look_ahead look_ahead e = refl
same_greatest search_depth search_depth e = refl
same_greatest turn_count turn_count e = refl
same_greatest worker_count look_ahead e = absurd (cc e)
same_greatest worker_count search_depth e = absurd (cc e)
same_greatest worker_count turn_count e = absurd (cc e)
same_greatest look_ahead worker_count e = absurd (cc e)
same_greatest look_ahead search_depth e = absurd (cc e)
same_greatest look_ahead turn_count e = absurd (cc e)
same_greatest search_depth worker_count e = absurd (cc e)
same_greatest search_depth look_ahead e = absurd (cc e)
same_greatest search_depth turn_count e = absurd (cc e)
same_greatest turn_count worker_count e = absurd (cc e)
same_greatest turn_count look_ahead e = absurd (cc e)
same_greatest turn_count search_depth e = absurd (cc e)

-- the value that a setting is given is within its limit
given_within : (kind : CommandKind) (s : Setting) (es : List Entry) → list_all (is_allowed kind) es ≡ true → (1 ≤ given s es) × (given s es ≤ greatest_value s)
given_within kind s [] h = default_within s
given_within kind s (traces ∷ es) h = given_within kind s es (and_parts (is_allowed kind traces) (list_all (is_allowed kind) es) h).1
given_within kind s (counts n ∷ es) h = given_within kind s es (and_parts (is_allowed kind (counts n)) (list_all (is_allowed kind) es) h).1
given_within kind s (sets t n ∷ es) h =
    let p = and_parts (is_allowed kind (sets t n)) (list_all (is_allowed kind) es) h in
    let b = within 1 (greatest_value t) n (and_parts (has_setting kind t) (is_between 1 (greatest_value t) n) p.0).1 in
    elim (same_setting s t) as (λ v. same_setting s t ≡ v → (1 ≤ given s (sets t n ∷ es)) × (given s (sets t n ∷ es) ≤ greatest_value s)) [
      | true ↦ λ e. rw e (b.0, subst (λ g. n ≤ g) (same_greatest s t e) b.1)
      | false ↦ λ e. rw e (given_within kind s es p.1)
    ] refl

-- so is a number that stands by itself
number_within : (kind : CommandKind) (n : ℕ) (es : List Entry) → list_all (is_allowed kind) es ≡ true → numbers es ≡ n ∷ [] → (1 ≤ n) × (n ≤ MAKE_LIMIT)
number_within kind n [] h e = absurd (cc e)
number_within kind n (sets t m ∷ es) h e = number_within kind n es (and_parts (is_allowed kind (sets t m)) (list_all (is_allowed kind) es) h).1 e
number_within kind n (traces ∷ es) h e = number_within kind n es (and_parts (is_allowed kind traces) (list_all (is_allowed kind) es) h).1 e
number_within kind n (counts m ∷ es) h e =
    let b = within 1 MAKE_LIMIT m (and_parts (is_allowed kind (counts m)) (list_all (is_allowed kind) es) h).0 in
    let same : m ≡ n = cc e in
    subst (λ k. (1 ≤ k) × (k ≤ MAKE_LIMIT)) same b

module _ (words : List Text) (c : Command) (h : AreWordsOf words c) where
  pub workers_allowed : (1 ≤ c.settings.workers) × (c.settings.workers ≤ WORKER_LIMIT)
  workers_allowed =
      let b = given_within c.kind worker_count h.entries h.allowed in
      subst (λ n. (1 ≤ n) × (n ≤ WORKER_LIMIT)) (sym (ap (λ s. s.workers) h.settings)) b

  pub number_allowed : (n : ℕ) → c.kind ≡ Make n → (1 ≤ n) × (n ≤ MAKE_LIMIT)
  number_allowed n e = number_within c.kind n h.entries h.allowed (h.numbers ∙ ap numbers_of e)
