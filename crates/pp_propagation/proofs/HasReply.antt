-- There is a reply where it is known what the words ask for and what the text means that is run.
use Rattle.std.proofs.Common.{ℕ, suc, ◌<◌, ◌⊎◌, inl, inr, Bool, List, ◌++◌, length, refl, arith}
use Rattle.std.proofs.lemmas.Bool.{cases_lt}
use Rattle.pp_sld.specs.Goals.{program_of}
use Rattle.pp_language.specs.declared.command.CommandKind.{CommandKind}
use Rattle.pp_language.specs.declared.command.CommandKind.TheVariants.{Run as Workers, Alone, Make}
use Rattle.pp_language.specs.declared.command.Settings.{Settings}
use Rattle.pp_language.specs.declared.command.Command.{Command}
use Rattle.pp_language.specs.declared.limits.TheConstants.{TEXT_LIMIT}
use Rattle.pp_language.specs.declared.status.Status.{Status}
use Rattle.pp_language.specs.declared.status.Status.TheVariants.{Usage, Syntax, Limit}
use Rattle.pp_language.specs.Texts.{Text}
use Rattle.pp_language.specs.Programs.{Written}
use Rattle.pp_language.specs.Limits.{IsTooLong, Writes}
use Rattle.pp_language.specs.Answers.{usage_text, syntax_text, which_name, limit_text, length_text}
use Rattle.pp_propagation.specs.Histories.{changes}
use Rattle.pp_propagation.specs.Watchers.{Watcher, after}
use Rattle.pp_propagation.specs.Replies.{status_of, answer_of, summary_of, told_if, IsReplyWithin, faulty, limited, answered, IsReplyToText, too_long, within, IsReplyBy, usage, served}
use Rattle.pp_propagation.specs.Laws.{HasMeaning, IsMeant, HasReply}
use Rattle.pp_propagation.proofs.Exists.{has_run}

less_or_not : (n m : ℕ) → (n < m) ⊎ (n < m → ⊥)
less_or_not n m = elim (cases_lt m (suc n)) [
  | inl h ↦ inr (λ l. omega (arith, h, l))
  | inr h ↦ inl (omega (arith, h))
]

-- ===== texts

module _ (settings : Settings) (trace : Bool) (text : Text) (old : List Watcher) where
  abbrev HasReplyWithin : Type 0
  HasReplyWithin = (new : List Watcher) × (s : Status) × (b : Text) × IsReplyWithin settings trace text old new s b

  abbrev HasReplyTo : Type 0
  HasReplyTo = (new : List Watcher) × (s : Status) × (b : Text) × IsReplyToText settings trace text old new s b

  written_reply : (w : Written) → Writes text w → HasReplyWithin
  written_reply w h =
      let r = has_run (program_of w.clauses) w.query settings.depth settings.turns in
      let new = after old (changes r.0.history) in
      (new, status_of r.0.end, told_if trace w.names new ++ answer_of w r.0, answered w r.0 (record { writes = h; is_run = r.1 }) refl refl refl)

  within_reply : HasMeaning text → HasReplyWithin
  within_reply (inl f) = (old, Syntax, syntax_text f.0, faulty f.0 f.1 refl refl refl)
  within_reply (inr (inl p)) = (old, Limit, limit_text (which_name p.0), limited p.0 p.1 refl refl refl)
  within_reply (inr (inr w)) = written_reply w.0 w.1

  text_reply : HasMeaning text → (IsTooLong text ⊎ (IsTooLong text → ⊥)) → HasReplyTo
  text_reply h (inl l) = (old, Limit, length_text, too_long l refl refl refl)
  text_reply h (inr s) = let r = within_reply h in (r.0, r.1, r.2, within s r.3)

-- ===== calls

command_reply : (kind : CommandKind) (c : Command) (text : Text) (old : List Watcher) → IsMeant kind text
    → (new : List Watcher) × (s : Status) × (b : Text) × IsReplyBy kind c text old new s b
command_reply (Make n) c text old h =
    let r = has_run (program_of h.0.clauses) h.0.query c.settings.depth c.settings.turns in
    (after old (changes r.0.history), status_of r.0.end, summary_of r.0, record { written = h.0; run = r.0; runs = record { writes = h.1; is_run = r.1 }; watched = refl; ends = refl; says = refl })
command_reply Workers c text old h = text_reply c.settings c.trace text old h (less_or_not TEXT_LIMIT (length text))
command_reply Alone c text old h = text_reply c.settings c.trace text old h (less_or_not TEXT_LIMIT (length text))

pub has_reply : (serves : List Text → Command → Type 0) → HasReply serves
has_reply serves words text old (inr n) h = (old, Usage, usage_text, usage n refl (refl, refl))
has_reply serves words text old (inl c) h = let r = command_reply c.0.kind c.0 text old (h c.0 c.1) in (r.0, r.1, r.2, served c.0 c.1 r.3)
