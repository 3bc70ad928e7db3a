-- From the reply to a text to why it is refused.
use Rattle.std.proofs.Common.{◌≡◌, Bool, List, subst, sym, inl, inr, Option, Some, None, IfSome}
use Rattle.pp_language.specs.declared.command.CommandKind.{CommandKind}
use Rattle.pp_language.specs.declared.command.CommandKind.TheVariants.{Run, Alone, Make}
use Rattle.pp_language.specs.declared.command.Command.{Command}
use Rattle.pp_language.specs.declared.command.Settings.{Settings}
use Rattle.pp_language.specs.declared.status.Status.{Status}
use Rattle.pp_language.specs.declared.status.Status.TheVariants.{Yes, No, Usage, Syntax, Stopped, Limit, ReadFault, WriteFault, Memory}
use Rattle.pp_language.specs.Texts.{Text}
use Rattle.pp_propagation.specs.Watchers.{Watcher}
use Rattle.pp_propagation.specs.Runs.{End, yes, no, stopped}
use Rattle.pp_propagation.specs.Replies.{status_of, IsReplyWithin, faulty, limited, answered, IsReplyToText, too_long, within, IsReplyBy, IsReply, usage, served}
use Rattle.pp_run.specs.Endings.{Replied}
use Rattle.pp_run.specs.Refusals.{HasSyntaxFault, PassesLimit}

-- why a text is refused with this status
abbrev Cause : Status → Text → Type 0
Cause Syntax text = HasSyntaxFault text
Cause Limit text = PassesLimit text
Cause Yes text = Unit {0}
Cause No text = Unit {0}
Cause Stopped text = Unit {0}
Cause Usage text = Unit {0}
Cause ReadFault text = Unit {0}
Cause WriteFault text = Unit {0}
Cause Memory text = Unit {0}

of_end : (text : Text) (e : End) → Cause (status_of e) text
of_end text yes = tt
of_end text no = tt
of_end text stopped = tt

module _ (text : Text) (old new : List Watcher) (s : Status) (b : Text) where
  within_cause : (settings : Settings) (trace : Bool) → IsReplyWithin settings trace text old new s b → Cause s text
  within_cause settings trace (faulty k f o e x) = subst (λ t. Cause t text) (sym e) (k, f)
  within_cause settings trace (limited which p o e x) = subst (λ t. Cause t text) (sym e) (inr (which, p))
  within_cause settings trace (answered w r h o e x) = subst (λ t. Cause t text) (sym e) (of_end text r.end)

  text_cause : (settings : Settings) (trace : Bool) → IsReplyToText settings trace text old new s b → Cause s text
  text_cause settings trace (too_long l o e x) = subst (λ t. Cause t text) (sym e) (inl l)
  text_cause settings trace (within l x) = within_cause settings trace x

  command_cause : (kind : CommandKind) (c : Command) → IsReplyBy kind c text old new s b → Cause s text
  command_cause Run c r = text_cause c.settings c.trace r
  command_cause Alone c r = text_cause c.settings c.trace r
  command_cause (Make n) c r = subst (λ t. Cause t text) (sym r.ends) (of_end text r.run.end)

  reply_cause : (serves : List Text → Command → Type 0) (words : List Text) → IsReply serves words text old new s b → Cause s text
  reply_cause serves words (usage n o u) = subst (λ t. Cause t text) (sym u.0) tt
  reply_cause serves words (served c h r) = command_cause c.kind c r

module _ (serves : List Text → Command → Type 0) (words : List Text) (old new : List Watcher) (before after : Option Text) where
  cause : (text : Text) (s : Status) → Replied (IsReply serves words text old new) before after s → Cause s text
  cause text Syntax h = reply_cause text old new Syntax h.0 serves words h.1
  cause text Limit h = reply_cause text old new Limit h.0 serves words h.1
  cause text Yes h = tt
  cause text No h = tt
  cause text Stopped h = tt
  cause text Usage h = tt
  cause text ReadFault h = tt
  cause text WriteFault h = tt
  cause text Memory h = tt

  -- what was written is the reply to the text that was left, if that is told
  module _ (s : Status) where
    abbrev IsReplied : Option Text → Type 0
    IsReplied left = IfSome left (λ text. Replied (IsReply serves words text old new) before after s)

    told_cause : (left : Option Text) → IsReplied left → IfSome left (Cause s)
    told_cause None h = tt
    told_cause (Some text) h = cause text s h

    pub syntax_by : (left : Option Text) → IsReplied left → s ≡ Syntax → IfSome left HasSyntaxFault
    syntax_by left h e = subst (λ t. IfSome left (Cause t)) e (told_cause left h)

    pub limit_by : (left : Option Text) → IsReplied left → s ≡ Limit → IfSome left PassesLimit
    limit_by left h e = subst (λ t. IfSome left (Cause t)) e (told_cause left h)
