-- From what was read and the run of it to what was written.
use Rattle.std.proofs.Common.{◌≡◌, ◌<◌, ◌≤◌, ℕ, Bool, List, ◌++◌, length, map, Result, Ok, Err, refl, sym, ◌∙◌, subst, Option, Some, None, All}
use Rattle.std.specs.Prelude.{IfSome, IfOk, OnErr}
use Rattle.pp_language.specs.declared.command.Settings.{Settings}
use Rattle.pp_language.specs.declared.status.Status.{Status}
use Rattle.pp_language.specs.declared.status.Status.TheVariants.{Yes, No, Usage, Syntax, Stopped, Limit, ReadFault, WriteFault, Memory}
use Rattle.pp_language.specs.declared.limits.TheConstants.{TEXT_LIMIT}
use Rattle.pp_language.specs.Texts.{Text}
use Rattle.pp_language.specs.Limits.{Writes}
use Rattle.pp_language.specs.Printing.{name_at}
use Rattle.pp_language.specs.Generator.{make_text}
use Rattle.pp_language.specs.Answers.{length_text}
use Rattle.pp_propagation.specs.Watchers.{Watcher, HasRoom}
use Rattle.pp_propagation.specs.Replies.{status_of, answer_text, summary_by, told_if, IsReplyToText, IsSummary}
use Rattle.pp_io.specs.Ends.{GaveAll}
use Rattle.pp_term.specs.declared.query.Query.{Query as Asks}
use Rattle.pp_term.specs.Meanings.{program}
use Rattle.pp_read.specs.declared.program.Program.{Program}
use Rattle.pp_read.specs.Programs.{written_of}
use Rattle.pp_store.specs.Queries.{query_by}
use Rattle.pp_fix.specs.Fixing.{end_by}
use Rattle.pp_run.specs.declared.run.Ran.{Ran}
use Rattle.pp_run.specs.Endings.{Replied, Wrote, IsOrdinary, IsRefusal}
use Rattle.pp_run.specs.Made.{IsRanOf, IsGiven, HasNotedOf, HasNoted}
use Rattle.pp_run.proofs.Commands.{lifted}
use Rattle.pp_run.proofs.EndingLemmas.{IsAnswer, replied, reply_written, summary_written}
use Rattle.pp_run.proofs.Replying.{long_reply, short_reply, run_reply, run_summary}
use Rattle.pp_run.proofs.Running.{ran_noted, noted_read}

-- ===== a text that is refused

is_answer : (s : Status) → IsOrdinary s → IsAnswer s
is_answer Yes h = tt
is_answer No h = tt
is_answer Usage h = tt
is_answer Syntax h = tt
is_answer Stopped h = tt
is_answer Limit h = tt
is_answer ReadFault h = absurd (h.reading refl)
is_answer WriteFault h = absurd (h.writing refl)
is_answer Memory h = absurd (h.memory refl)

pub refused_long : (before after : Option Text) (result : Status) (left : Option Text) → IfSome left (λ text. TEXT_LIMIT < length text) → Wrote Limit length_text before after result → IfSome left (λ text. Replied (IsRefusal text) before after result)
refused_long before after result None long w = tt
refused_long before after result (Some text) long w = replied (IsRefusal text) Limit length_text before after result tt (λ settings trace ws. long_reply settings trace text ws ws Limit length_text long refl refl refl) w

pub refused_text : (before after : Option Text) (result : Status) (left rest : Option Text) (given read : Text) (s : Status) (a b : Text) → GaveAll left rest given → read ≡ given → a ≡ b → IsOrdinary s → IsRefusal read s b → Wrote s a before after result
    → IfSome left (λ text. Replied (IsRefusal text) before after result)
refused_text before after result None rest given read s a b all e f h r w = tt
refused_text before after result (Some told) rest given read s a b all e f h r w =
    let refusal = subst (λ (t : Text). IsRefusal t s b) (e ∙ all.0) r in
    replied (IsRefusal told) s b before after result (is_answer s h) refusal (subst (λ (t : Text). Wrote s t before after result) f w)

pub refused_replied : (settings : Settings) (trace : Bool) (ws : List Watcher) (before after : Option Text) (s : Status) (left : Option Text) → IfSome left (λ text. Replied (IsRefusal text) before after s) → IfSome left (λ text. Replied (IsReplyToText settings trace text ws ws) before after s)
refused_replied settings trace ws before after s None h = tt
refused_replied settings trace ws before after s (Some text) h = lifted (IsRefusal text) (IsReplyToText settings trace text ws ws) before after s (λ t b r. r settings trace ws) h

-- ===== a run that was made

pub of_ok : {T E : Type 0} (P : T → Type 0) (r : Result T E) (x : T) → r ≡ Ok x → IfOk r P → P x
of_ok P r x e h = subst (λ y. IfOk y P) e h

module _ (settings : Settings) (p : Program) (old new : List Watcher) (r : Ran) (k : IsRanOf p settings old new r) (before after : Option Text) (result s : Status) (a b : Text) (same : a ≡ b) (t : s ≡ status_of (end_by r.fixed.end)) (w : Wrote s a before after result) where
  pub answered_text : (trace : Bool) (text : Text) (names : List Text) (query : Asks) → names ≡ p.names → query ≡ p.query → Writes text (written_of p) → length text ≤ TEXT_LIMIT
      → b ≡ told_if trace names new ++ answer_text names (map (name_at names) query.named) r.row r.fixed.unfinished (end_by r.fixed.end)
      → Replied (IsReplyToText settings trace text old new) before after result
  answered_text trace text names query e f writes small u =
      let v = subst (λ (q : Asks). b ≡ told_if trace names new ++ answer_text names (map (name_at names) q.named) r.row r.fixed.unfinished (end_by r.fixed.end)) f u in
      let x = subst (λ (ns : List Text). b ≡ told_if trace ns new ++ answer_text ns (map (name_at ns) p.query.named) r.row r.fixed.unfinished (end_by r.fixed.end)) e v in
      reply_written settings trace old new before after result text s a (short_reply settings trace text old new s a small (run_reply settings p text writes old new r k s a trace t (same ∙ x))) w

  pub summed : (n : ℕ) → Writes (make_text n) (written_of p) → b ≡ summary_by r.fixed.turns r.row (end_by r.fixed.end) → Replied (IsSummary settings n old new) before after result
  summed n writes u = summary_written settings n old new before after result s a (run_summary settings p n writes old new r k s a t (same ∙ u)) w

-- ===== a text that was read whole

pub given_told : (Q : Text → Type 0) (left rest : Option Text) (p : Program) → IsGiven left rest p → ((text : Text) → Writes text (written_of p) → length text ≤ TEXT_LIMIT → Q text) → IfSome left Q
given_told Q None rest p h f = tt
given_told Q (Some told) rest p h f = subst Q h.1.0 (f h.0 h.3 h.2)

pub given_answered : {E : Type 0} (settings : Settings) (trace : Bool) (p : Program) (old others new : List Watcher) → others ≡ new → (left rest start before after : Option Text) → start ≡ before → (result : Status) (ran : Result Ran E) → IsGiven left rest p → IfOk ran (IsRanOf p settings old new)
    → ((text : Text) → Writes text (written_of p) → length text ≤ TEXT_LIMIT → IfOk ran (IsRanOf p settings old others) → Replied (IsReplyToText settings trace text old others) start after result)
    → IfSome left (λ text. Replied (IsReplyToText settings trace text old new) before after result)
given_answered settings trace p old others new e left rest start before after b result ran given h f =
    given_told (λ text. Replied (IsReplyToText settings trace text old new) before after result) left rest p given
    (λ text writes small. subst (λ x. Replied (IsReplyToText settings trace text old new) x after result) b (subst (λ ws. Replied (IsReplyToText settings trace text old ws) start after result) e (f text writes small (subst (λ ws. IfOk ran (IsRanOf p settings old ws)) (sym e) h))))

either_noted : {E : Type 0} (settings : Settings) (p : Program) (old new : List Watcher) (ran : Result Ran E) → All HasRoom old → IfOk ran (IsRanOf p settings old new) → OnErr ran (HasNotedOf (program p.clauses) (query_by p.query) settings old new) → HasNotedOf (program p.clauses) (query_by p.query) settings old new
either_noted settings p old new (Ok r) room h k = ran_noted (program p.clauses) settings old new (query_by p.query) r room h
either_noted settings p old new (Err e) room h k = k

module _ {E : Type 0} (settings : Settings) (p : Program) (old new : List Watcher) (ran : Result Ran E) (room : All HasRoom old) (h : IfOk ran (IsRanOf p settings old new)) (k : OnErr ran (HasNotedOf (program p.clauses) (query_by p.query) settings old new)) where
  pub given_noted : (left rest : Option Text) → IsGiven left rest p → IfSome left (λ text. HasNoted settings text old new)
  given_noted left rest given = given_told (λ text. HasNoted settings text old new) left rest p given (λ text writes small. noted_read settings p text writes old new (either_noted settings p old new ran room h k))

  pub made_noted : (n : ℕ) → Writes (make_text n) (written_of p) → HasNoted settings (make_text n) old new
  made_noted n writes = noted_read settings p (make_text n) writes old new (either_noted settings p old new ran room h k)
