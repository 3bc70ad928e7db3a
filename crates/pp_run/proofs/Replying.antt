-- From what a text writes, and what is answered for it, to the reply to the text.
use Rattle.std.proofs.Common.{◌≡◌, ◌<◌, ◌≤◌, ℕ, Bool, List, ◌++◌, length, map, Result, Ok, Err, IfOk, ap, sym, ◌∙◌, subst, arith}
use Rattle.pp_language.specs.declared.command.Settings.{Settings}
use Rattle.pp_language.specs.declared.status.Status.{Status}
use Rattle.pp_language.specs.declared.status.Status.TheVariants as status
use Rattle.pp_language.specs.declared.which.Which.{Which}
use Rattle.pp_language.specs.Texts.{Text}
use Rattle.pp_language.specs.Printing.{name_at}
use Rattle.pp_language.specs.Faults.{IsSyntaxFault}
use Rattle.pp_language.specs.declared.limits.TheConstants.{TEXT_LIMIT}
use Rattle.pp_language.specs.Limits.{Writes, Passes}
use Rattle.pp_language.specs.Generator.{make_text}
use Rattle.pp_language.specs.Answers.{syntax_text, which_name, limit_text, length_text}
use Rattle.pp_propagation.specs.Histories.{unfinished_goals}
use Rattle.pp_propagation.specs.Watchers.{Watcher}
use Rattle.pp_propagation.specs.Runs.{End as Finished, yes, no, stopped}
use Rattle.pp_propagation.specs.Replies.{status_of, answer_text, summary_by, told_if, IsReplyWithin, faulty, limited, answered, IsReplyToText, too_long, within, IsSummary}
use Rattle.pp_term.specs.Meanings.{program}
use Rattle.pp_read.specs.declared.program.Program.{Program}
use Rattle.pp_read.specs.Programs.{written_of}
use Rattle.pp_store.specs.Queries.{query_by, goals_in}
use Rattle.pp_fix.specs.Fixing.{end_by}
use Rattle.pp_run.specs.declared.run.Ran.{Ran}
use Rattle.pp_run.specs.Endings.{IsOrdinary}
use Rattle.pp_run.specs.Made.{IsRan}
use Rattle.pp_run.proofs.Running.{run_read}

pub both_ok : {T E : Type 0} (P Q R : T → Type 0) (r : Result T E) → ((x : T) → P x → Q x → R x) → IfOk r P → IfOk r Q → IfOk r R
both_ok P Q R (Ok x) f h k = f x h k
both_ok P Q R (Err e) f h k = tt

-- ===== a text that is refused

module _ (settings : Settings) (trace : Bool) (text : Text) (old new : List Watcher) (s : Status) (b : Text) where
  pub long_reply : TEXT_LIMIT < length text → new ≡ old → s ≡ status.Limit → b ≡ length_text → IsReplyToText settings trace text old new s b
  long_reply h e t u = too_long h e t u

  pub short_reply : length text ≤ TEXT_LIMIT → IsReplyWithin settings trace text old new s b → IsReplyToText settings trace text old new s b
  short_reply small r = within (λ h. let long : TEXT_LIMIT < length text = h in absurd (omega (arith, small, long))) r

  pub faulty_reply : (k : ℕ) → IsSyntaxFault text k → new ≡ old → s ≡ status.Syntax → b ≡ syntax_text k → IsReplyWithin settings trace text old new s b
  faulty_reply k h e t u = faulty k h e t u

  pub limited_reply : (w : Which) → Passes text w → new ≡ old → s ≡ status.Limit → b ≡ limit_text (which_name w) → IsReplyWithin settings trace text old new s b
  limited_reply w h e t u = limited w h e t u

-- ===== a text that is run

module _ (settings : Settings) (p : Program) (text : Text) (writes : Writes text (written_of p)) (old new : List Watcher) (r : Ran) (k : IsRan (program p.clauses) (query_by p.query) settings old new r) (s : Status) (b : Text) where
  pub run_reply : (trace : Bool) → s ≡ status_of (end_by r.fixed.end)
      → b ≡ told_if trace p.names new ++ answer_text p.names (map (name_at p.names) p.query.named) r.row r.fixed.unfinished (end_by r.fixed.end)
      → IsReplyWithin settings trace text old new s b
  run_reply trace t u =
      let named = map (name_at p.names) p.query.named in
      answered (written_of p) k.run (record { writes = writes; is_run = run_read settings p k.run k.is_run }) k.watched (t ∙ ap status_of (sym k.ends)) (
      u ∙ ap (λ bs. told_if trace p.names new ++ bs) (
      ap (λ x. answer_text p.names named x r.fixed.unfinished (end_by r.fixed.end)) (sym k.has_store)
      ∙ ap (λ ks. answer_text p.names named k.run.store ks (end_by r.fixed.end)) k.unfinished
      ∙ ap (answer_text p.names named k.run.store (unfinished_goals (length (goals_in p.query)) k.run.history)) (sym k.ends)
      ))

module _ (settings : Settings) (p : Program) (n : ℕ) (writes : Writes (make_text n) (written_of p)) (old new : List Watcher) (r : Ran) (k : IsRan (program p.clauses) (query_by p.query) settings old new r) (s : Status) (b : Text) where
  pub run_summary : s ≡ status_of (end_by r.fixed.end) → b ≡ summary_by r.fixed.turns r.row (end_by r.fixed.end) → IsSummary settings n old new s b
  run_summary t u = record {
    written = written_of p;
    run = k.run;
    runs = record { writes = writes; is_run = run_read settings p k.run k.is_run };
    watched = k.watched;
    ends = t ∙ ap status_of (sym k.ends);
    says =
        u
        ∙ ap (λ m. summary_by m r.row (end_by r.fixed.end)) (sym k.made)
        ∙ ap (λ x. summary_by (length k.run.history) x (end_by r.fixed.end)) (sym k.has_store)
        ∙ ap (summary_by (length k.run.history) k.run.store) (sym k.ends);
  }

-- ===== the statuses of replies

pub ordinary_end : (e : Finished) → IsOrdinary (status_of e)
ordinary_end yes = record { words = λ e. absurd (cc e); reading = λ e. absurd (cc e); writing = λ e. absurd (cc e); memory = λ e. absurd (cc e) }
ordinary_end no = record { words = λ e. absurd (cc e); reading = λ e. absurd (cc e); writing = λ e. absurd (cc e); memory = λ e. absurd (cc e) }
ordinary_end stopped = record { words = λ e. absurd (cc e); reading = λ e. absurd (cc e); writing = λ e. absurd (cc e); memory = λ e. absurd (cc e) }

module _ (settings : Settings) (trace : Bool) (P : Status → Type 0) (text : Text) (old new : List Watcher) (s : Status) (b : Text) where
  of_within : IsReplyWithin settings trace text old new s b → P status.Syntax → P status.Limit → ((e : Finished) → P (status_of e)) → P s
  of_within (faulty k f o e x) on_syntax on_limit on_end = subst P (sym e) on_syntax
  of_within (limited w p o e x) on_syntax on_limit on_end = subst P (sym e) on_limit
  of_within (answered w r h o e x) on_syntax on_limit on_end = subst P (sym e) (on_end r.end)

  pub of_reply : IsReplyToText settings trace text old new s b → P status.Syntax → P status.Limit → ((e : Finished) → P (status_of e)) → P s
  of_reply (too_long l o e x) on_syntax on_limit on_end = subst P (sym e) on_limit
  of_reply (within l x) on_syntax on_limit on_end = of_within x on_syntax on_limit on_end

-- a reply to a text is neither the usage line nor a fault
pub ordinary : (settings : Settings) (trace : Bool) (text : Text) (old new : List Watcher) (s : Status) (b : Text) → IsReplyToText settings trace text old new s b → IsOrdinary s
ordinary settings trace text old new s b r = of_reply settings trace IsOrdinary text old new s b r
    (record { words = λ e. absurd (cc e); reading = λ e. absurd (cc e); writing = λ e. absurd (cc e); memory = λ e. absurd (cc e) })
    (record { words = λ e. absurd (cc e); reading = λ e. absurd (cc e); writing = λ e. absurd (cc e); memory = λ e. absurd (cc e) })
    ordinary_end
