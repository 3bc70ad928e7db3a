-- From a command that words ask for, and its reply, to the reply to the words.
use Rattle.std.proofs.Common.{◌≡◌, ℕ, List, Option, Some, None, MatchOption, refl, sym, ap, ◌∙◌, subst, inl, inr}
use Rattle.std.specs.Prelude.{IfSome}
use Rattle.pp_language.specs.declared.command.CommandKind.{CommandKind}
use Rattle.pp_language.specs.declared.command.CommandKind.TheVariants.{Run, Alone, Make}
use Rattle.pp_language.specs.declared.command.Command.{Command}
use Rattle.pp_language.specs.declared.status.Status.{Status}
use Rattle.pp_language.specs.declared.status.Status.TheVariants.{Yes, No, Usage, Syntax, Stopped, Limit, ReadFault, WriteFault, Memory}
use Rattle.pp_language.specs.Texts.{Text}
use Rattle.pp_language.specs.Commands.{AreWordsOf, AreWordsOfAlone}
use Rattle.pp_language.specs.Generator.{make_text}
use Rattle.pp_language.proofs.CommandsRead.{one_command}
use Rattle.pp_propagation.specs.Watchers.{Watcher}
use Rattle.pp_propagation.specs.Replies.{IsUnserved, IsReplyToText, IsSummary, IsReplyBy, IsReply, served, text_of, IsOutOfMemory, before_a_run, in_a_run}
use Rattle.pp_run.specs.Endings.{Replied, HasRead, HasReadText}
use Rattle.pp_run.specs.Made.{HasNoted}

-- ===== what words are found to ask for

module _ (serves : List Text → Command → Type 0) (words : List Text) (o : Option Command) (h : MatchOption o (IsUnserved serves words) (serves words)) where
  pub none_asked : o ≡ None → IsUnserved serves words
  none_asked e = subst (λ (x : Option Command). MatchOption x (IsUnserved serves words) (serves words)) e h

  pub one_asked : (c : Command) → o ≡ Some c → serves words c
  one_asked c e = subst (λ (x : Option Command). MatchOption x (IsUnserved serves words) (serves words)) e h

-- words that ask for another command don't ask for `alone`
pub other_command : (words : List Text) (c : Command) → AreWordsOf words c → (c.kind ≡ Alone → ⊥) → IsUnserved AreWordsOfAlone words
other_command words c h other d k = other (subst (λ (x : Command). x.kind ≡ Alone) (one_command words d c k.0 h) k.1)

-- ===== replies

-- what holds of each reply holds of what was written
pub lifted : (P Q : Status → Text → Type 0) (before after : Option Text) (s : Status) → ((t : Status) (b : Text) → P t b → Q t b) → Replied P before after s → Replied Q before after s
lifted P Q before after Yes f h = (h.0, f Yes h.0 h.1, h.2)
lifted P Q before after No f h = (h.0, f No h.0 h.1, h.2)
lifted P Q before after Usage f h = (h.0, f Usage h.0 h.1, h.2)
lifted P Q before after Syntax f h = (h.0, f Syntax h.0 h.1, h.2)
lifted P Q before after Stopped f h = (h.0, f Stopped h.0 h.1, h.2)
lifted P Q before after Limit f h = (h.0, f Limit h.0 h.1, h.2)
lifted P Q before after ReadFault f h = h
lifted P Q before after WriteFault f h = (h.0, h.1, f h.0 h.1 h.2, h.3, h.4, h.5, h.6)
lifted P Q before after Memory f h = h

-- a command that runs the text of its source
abbrev pub RunsText : CommandKind → Type 0
RunsText (Make n) = ⊥
RunsText kind = Unit {0}

pub runs_other : (kind : CommandKind) → ((n : ℕ) → kind ≡ Make n → ⊥) → RunsText kind
runs_other Run h = tt
runs_other Alone h = tt
runs_other (Make n) h = absurd (h n refl)

pub read_text : (kind : CommandKind) (s : Status) → HasRead kind s → HasReadText s
read_text Run s h = h
read_text Alone s h = h
read_text (Make n) s h = absurd h

-- words that ask for a text's run ask for no `make`
pub no_make : (words : List Text) (c d : Command) → AreWordsOf words c → AreWordsOf words d → RunsText c.kind → (n : ℕ) → d.kind ≡ Make n → ⊥
no_make words c d h k r n e =
    let same : c.kind ≡ Make n = subst (λ (x : Command). x.kind ≡ Make n) (one_command words d c k h) e in
    subst RunsText same r

pub same_make : (words : List Text) (c d : Command) → AreWordsOf words c → AreWordsOf words d → (m n : ℕ) → c.kind ≡ Make m → d.kind ≡ Make n → (old new : List Watcher) (before after : Option Text) (s : Status)
    → Replied (IsSummary c.settings m old new) before after s → Replied (IsSummary d.settings n old new) before after s
same_make words c d h k m n e f old new before after s r =
    let same = one_command words c d h k in
    let kinds : Make m ≡ Make n = sym e ∙ ap (λ (x : Command). x.kind) same ∙ f in
    let number : m ≡ n = cc kinds in
    subst (λ i. Replied (IsSummary d.settings i old new) before after s) number (subst (λ (x : Command). Replied (IsSummary x.settings m old new) before after s) same r)

pub runs_text : (kind : CommandKind) → kind ≡ Alone → RunsText kind
runs_text Run e = tt
runs_text Alone e = tt
runs_text (Make n) e = absurd (cc e)

module _ (serves : List Text → Command → Type 0) (words : List Text) (c : Command) (good : serves words c) (old new : List Watcher) where
  by_text : (kind : CommandKind) → RunsText kind → (text : Text) (s : Status) (b : Text) → IsReplyToText c.settings c.trace text old new s b → IsReplyBy kind c text old new s b
  by_text Run h text s b r = r
  by_text Alone h text s b r = r
  by_text (Make n) h text s b r = absurd h

  by_number : (kind : CommandKind) (n : ℕ) → kind ≡ Make n → (text : Text) (s : Status) (b : Text) → IsSummary c.settings n old new s b → IsReplyBy kind c text old new s b
  by_number kind n e text s b r = subst (λ (k : CommandKind). IsReplyBy k c text old new s b) (sym e) r

  module _ (before after : Option Text) (result : Status) where
    abbrev IsRepliedTo : Text → Type 0
    IsRepliedTo text = Replied (IsReply serves words text old new) before after result

    pub text_replied : RunsText c.kind → (left : Option Text) → IfSome left (λ text. Replied (IsReplyToText c.settings c.trace text old new) before after result) → IfSome left IsRepliedTo
    text_replied k None h = tt
    text_replied k (Some text) h = lifted (IsReplyToText c.settings c.trace text old new) (IsReply serves words text old new) before after result (λ s b r. served c good (by_text c.kind k text s b r)) h

    pub make_replied : (n : ℕ) → c.kind ≡ Make n → Replied (IsSummary c.settings n old new) before after result → (left : Option Text) → IfSome left IsRepliedTo
    make_replied n e h None = tt
    make_replied n e h (Some text) = lifted (IsSummary c.settings n old new) (IsReply serves words text old new) before after result (λ s b r. served c good (by_number c.kind n e text s b r)) h

  -- ===== want of memory

  noted : (text : Text) → HasNoted c.settings (text_of c.kind text) old new → IsOutOfMemory serves words text old new
  noted text (inl e) = before_a_run e
  noted text (inr h) = in_a_run c good h

  own_text : (kind : CommandKind) → RunsText kind → (text : Text) → text ≡ text_of kind text
  own_text Run k text = refl
  own_text Alone k text = refl
  own_text (Make n) k text = absurd k

  pub text_noted : RunsText c.kind → (left : Option Text) → IfSome left (λ text. HasNoted c.settings text old new) → IfSome left (λ text. IsOutOfMemory serves words text old new)
  text_noted k None h = tt
  text_noted k (Some text) h = noted text (subst (λ (t : Text). HasNoted c.settings t old new) (own_text c.kind k text) h)

  pub make_noted : (n : ℕ) → c.kind ≡ Make n → HasNoted c.settings (make_text n) old new → (left : Option Text) → IfSome left (λ text. IsOutOfMemory serves words text old new)
  make_noted n e h None = tt
  make_noted n e h (Some text) = noted text (subst (λ (k : CommandKind). HasNoted c.settings (text_of k text) old new) (sym e) h)

-- nothing was noted before there was a run
pub none_noted : (serves : List Text → Command → Type 0) (words : List Text) (old new : List Watcher) → new ≡ old → (left : Option Text) → IfSome left (λ text. IsOutOfMemory serves words text old new)
none_noted serves words old new e None = tt
none_noted serves words old new e (Some text) = before_a_run e
