-- From what was written to how the call ended.
use Rattle.std.proofs.Common.{◌≡◌, ℕ, Bool, List, refl, subst, sym, inl, inr, Option, Some, None, IfSome}
use Rattle.pp_language.specs.declared.command.Command.{Command}
use Rattle.pp_language.specs.declared.command.Settings.{Settings}
use Rattle.pp_language.specs.declared.status.Status.{Status}
use Rattle.pp_language.specs.declared.status.Status.TheVariants.{Yes, No, Usage, Syntax, Stopped, Limit, ReadFault, WriteFault, Memory}
use Rattle.pp_language.specs.Texts.{Text}
use Rattle.pp_language.specs.Answers.{usage_text}
use Rattle.pp_propagation.specs.Watchers.{Watcher}
use Rattle.pp_propagation.specs.Runs.{End, yes, no, stopped}
use Rattle.pp_propagation.specs.Replies.{status_of, IsUnserved, IsReplyToText, IsSummary, IsReply, usage}
use Rattle.pp_io.specs.Ends.{Took}
use Rattle.pp_run.proofs.Replying.{of_reply}
use Rattle.pp_run.specs.Endings.{Replied, Wrote}

pub each_told : {A : Type 0} (P : A → Type 0) (o : Option A) → ((x : A) → P x) → IfSome o P
each_told P None each = tt
each_told P (Some x) each = each x

-- a status that a reply may have
abbrev pub IsAnswer : Status → Type 0
IsAnswer Yes = Unit {0}
IsAnswer No = Unit {0}
IsAnswer Usage = Unit {0}
IsAnswer Syntax = Unit {0}
IsAnswer Stopped = Unit {0}
IsAnswer Limit = Unit {0}
IsAnswer ReadFault = ⊥
IsAnswer WriteFault = ⊥
IsAnswer Memory = ⊥

whole : (reply : Status → Text → Type 0) (s : Status) (b : Text) (before after : Option Text) → IsAnswer s → reply s b → Took before after b → Replied reply before after s
whole reply Yes b before after i r t = (b, r, t)
whole reply No b before after i r t = (b, r, t)
whole reply Usage b before after i r t = (b, r, t)
whole reply Syntax b before after i r t = (b, r, t)
whole reply Stopped b before after i r t = (b, r, t)
whole reply Limit b before after i r t = (b, r, t)
whole reply ReadFault b before after i r t = absurd i
whole reply WriteFault b before after i r t = absurd i
whole reply Memory b before after i r t = absurd i

pub replied : (reply : Status → Text → Type 0) (s : Status) (b : Text) (before after : Option Text) (result : Status) → IsAnswer s → reply s b → Wrote s b before after result → Replied reply before after result
replied reply s b before after result i r (inl w) = subst (Replied reply before after) (sym w.0) (whole reply s b before after i r w.1)
replied reply s b before after result i r (inr w) = subst (Replied reply before after) (sym w.0) (s, b, r, w.1, w.2, w.3, w.4)

-- ===== the usage line

pub after_bad_words : (serves : List Text → Command → Type 0) (words : List Text) (old new : List Watcher) (before after : Option Text) (result : Status) (left : Option Text) → IsUnserved serves words → new ≡ old → Wrote Usage usage_text before after result
    → IfSome left (λ text. Replied (IsReply serves words text old new) before after result)
after_bad_words serves words old new before after result left bad e w =
    each_told (λ text. Replied (IsReply serves words text old new) before after result) left (λ text. replied (IsReply serves words text old new) Usage usage_text before after result tt (usage bad e (refl, refl)) w)

-- ===== the reply to a text

end_answers : (e : End) → IsAnswer (status_of e)
end_answers yes = tt
end_answers no = tt
end_answers stopped = tt

module _ (settings : Settings) (trace : Bool) (old new : List Watcher) (before after : Option Text) (result : Status) where
  abbrev ToText : Text → Type 0
  ToText text = Replied (IsReplyToText settings trace text old new) before after result

  pub reply_written : (text : Text) (s : Status) (b : Text) → IsReplyToText settings trace text old new s b → Wrote s b before after result → ToText text
  reply_written text s b r w = replied (IsReplyToText settings trace text old new) s b before after result (of_reply settings trace IsAnswer text old new s b r tt tt end_answers) r w

-- ===== the summary of a generated text

pub summary_written : (settings : Settings) (n : ℕ) (old new : List Watcher) (before after : Option Text) (result s : Status) (b : Text) → IsSummary settings n old new s b → Wrote s b before after result → Replied (IsSummary settings n old new) before after result
summary_written settings n old new before after result s b r w =
    replied (IsSummary settings n old new) s b before after result (subst IsAnswer (sym r.ends) (end_answers r.run.end)) r w
