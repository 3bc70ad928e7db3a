-- Words, a text and the watchers before call for at most one reply.
use Rattle.std.proofs.Common.{◌≡◌, ℕ, Bool, List, ◌++◌, ap, sym, ◌∙◌, subst}
use Rattle.pp_sld.specs.Goals.{program_of}
use Rattle.pp_language.specs.declared.command.CommandKind.{CommandKind}
use Rattle.pp_language.specs.declared.command.CommandKind.TheVariants.{Run as Workers, Alone, Make}
use Rattle.pp_language.specs.declared.command.Settings.{Settings}
use Rattle.pp_language.specs.declared.command.Command.{Command}
use Rattle.pp_language.specs.declared.status.Status.{Status}
use Rattle.pp_language.specs.Texts.{Text}
use Rattle.pp_language.specs.Programs.{Written}
use Rattle.pp_language.specs.Faults.{IsSyntaxFault}
use Rattle.pp_language.specs.Limits.{Writes, Passes}
use Rattle.pp_language.specs.Answers.{limit_text, which_name, syntax_text}
use Rattle.pp_language.specs.Generator.{make_text}
use Rattle.pp_language.specs.declared.which.Which.{Which}
use Rattle.pp_language.proofs.OneFault.{grammar_has_no_fault, one_fault, one_program, one_limit, not_both}
use Rattle.pp_language.proofs.StatementParts.{says_once}
use Rattle.pp_propagation.specs.Histories.{changes}
use Rattle.pp_propagation.specs.Watchers.{Watcher, after}
use Rattle.pp_propagation.specs.Runs.{Run, IsRun}
use Rattle.pp_propagation.specs.Replies.{status_of, answer_of, summary_of, told_if, RunsAs, IsReplyWithin, faulty, limited, answered, IsReplyToText, too_long, within, IsSummary, IsReplyBy, IsReply, usage, served}
use Rattle.pp_propagation.proofs.Exists.{run_once}

abbrev Same : List Watcher → Status → Text → List Watcher → Status → Text → Type 0
Same new s b later t c = (new ≡ later) × (s ≡ t) × (b ≡ c)

-- ===== a text means one thing

no_fault : (text : Text) (w : Written) (k : ℕ) → Writes text w → IsSyntaxFault text k → ⊥
no_fault text w k x f = grammar_has_no_fault says_once text x.statements k x.in_grammar f

no_limit_fault : (text : Text) (which : Which) (k : ℕ) → Passes text which → IsSyntaxFault text k → ⊥
no_limit_fault text which k x f = grammar_has_no_fault says_once text x.statements k x.in_grammar f

no_limit : (text : Text) (w : Written) (which : Which) → Writes text w → Passes text which → ⊥
no_limit = not_both says_once

one_written : (text : Text) (w v : Written) → Writes text w → Writes text v → w ≡ v
one_written = one_program says_once

both_run : (settings : Settings) (text : Text) (w v : Written) (r q : Run) → RunsAs settings text w r → RunsAs settings text v q → (w ≡ v) × (r ≡ q)
both_run settings text w v r q h k =
    let e = one_written text w v h.writes k.writes in
    let is : IsRun (program_of w.clauses) w.query settings.depth settings.turns q = subst (λ (x : Written). IsRun (program_of x.clauses) x.query settings.depth settings.turns q) (sym e) k.is_run in
    (e, run_once (program_of w.clauses) w.query settings.depth settings.turns r q h.is_run is)

-- ===== a reply to a text

module _ (settings : Settings) (trace : Bool) (text : Text) (old new later : List Watcher) (s t : Status) (b c : Text) where
  both_answered : (w v : Written) (r q : Run) → RunsAs settings text w r → RunsAs settings text v q → new ≡ after old (changes r.history) → later ≡ after old (changes q.history)
      → s ≡ status_of r.end → t ≡ status_of q.end → b ≡ told_if trace w.names new ++ answer_of w r → c ≡ told_if trace v.names later ++ answer_of v q → Same new s b later t c
  both_answered w v r q h k n m e f x y =
      let one = both_run settings text w v r q h k in
      let watched : new ≡ later = n ∙ ap (λ (o : Run). after old (changes o.history)) one.1 ∙ sym m in (
        watched,
        e ∙ ap (λ (o : Run). status_of o.end) one.1 ∙ sym f,
        x ∙ ap (λ ws. told_if trace w.names ws ++ answer_of w r) watched
            ∙ ap (λ (o : Run). told_if trace w.names later ++ answer_of w o) one.1
            ∙ ap (λ (z : Written). told_if trace z.names later ++ answer_of z q) one.0
            ∙ sym y,
      )

  within_once : IsReplyWithin settings trace text old new s b → IsReplyWithin settings trace text old later t c → Same new s b later t c
  within_once (faulty j f n e x) (faulty k g m d y) = (n ∙ sym m, e ∙ sym d, x ∙ ap (λ k. syntax_text k) (one_fault text j k f g) ∙ sym y)
  within_once (faulty j f n e x) (limited v g m d y) = absurd (no_limit_fault text v j g f)
  within_once (faulty j f n e x) (answered v q g m d y) = absurd (no_fault text v j g.writes f)
  within_once (limited w f n e x) (faulty k g m d y) = absurd (no_limit_fault text w k f g)
  within_once (limited w f n e x) (limited v g m d y) =
      (n ∙ sym m, e ∙ sym d, x ∙ ap (λ z. limit_text (which_name z)) (one_limit says_once text w v f g) ∙ sym y)
  within_once (limited w f n e x) (answered v q g m d y) = absurd (no_limit text v w g.writes f)
  within_once (answered w r f n e x) (faulty k g m d y) = absurd (no_fault text w k f.writes g)
  within_once (answered w r f n e x) (limited v g m d y) = absurd (no_limit text w v f.writes g)
  within_once (answered w r f n e x) (answered v q g m d y) = both_answered w v r q f g n m e d x y

  text_once : IsReplyToText settings trace text old new s b → IsReplyToText settings trace text old later t c → Same new s b later t c
  text_once (too_long l n e x) (too_long k m d y) = (n ∙ sym m, e ∙ sym d, x ∙ sym y)
  text_once (too_long l n e x) (within m y) = absurd (m l)
  text_once (within l x) (too_long m n d y) = absurd (l m)
  text_once (within l x) (within m y) = within_once x y

-- ===== a reply of a call

summary_once : (settings : Settings) (n : ℕ) (old new later : List Watcher) (s t : Status) (b c : Text)
    → IsSummary settings n old new s b → IsSummary settings n old later t c → Same new s b later t c
summary_once settings n old new later s t b c h k =
    let one = both_run settings (make_text n) h.written k.written h.run k.run h.runs k.runs in (
      h.watched ∙ ap (λ (o : Run). after old (changes o.history)) one.1 ∙ sym k.watched,
      h.ends ∙ ap (λ (o : Run). status_of o.end) one.1 ∙ sym k.ends,
      h.says ∙ ap (λ (o : Run). summary_of o) one.1 ∙ sym k.says,
    )

command_once : (kind : CommandKind) (command : Command) (text : Text) (old new later : List Watcher) (s t : Status) (b c : Text)
    → IsReplyBy kind command text old new s b → IsReplyBy kind command text old later t c → Same new s b later t c
command_once (Make n) command text old new later s t b c h k = summary_once command.settings n old new later s t b c h k
command_once Workers command text old new later s t b c h k = text_once command.settings command.trace text old new later s t b c h k
command_once Alone command text old new later s t b c h k = text_once command.settings command.trace text old new later s t b c h k

pub reply_once : (serves : List Text → Command → Type 0) → ((words : List Text) (c d : Command) → serves words c → serves words d → c ≡ d)
    → (words : List Text) (text : Text) (old new later : List Watcher) (s t : Status) (b c : Text)
    → IsReply serves words text old new s b → IsReply serves words text old later t c → (new ≡ later) × (s ≡ t) × (b ≡ c)
reply_once serves one words text old new later s t b c (usage n x e) (usage m y d) = (x ∙ sym y, e.0 ∙ sym d.0, e.1 ∙ sym d.1)
reply_once serves one words text old new later s t b c (usage n x e) (served y k g) = absurd (n y k)
reply_once serves one words text old new later s t b c (served x h f) (usage m y d) = absurd (m x h)
reply_once serves one words text old new later s t b c (served x h f) (served y k g) =
    command_once x.kind x text old new later s t b c f (subst (λ (z : Command). IsReplyBy z.kind z text old later t c) (one words y x k h) g)
