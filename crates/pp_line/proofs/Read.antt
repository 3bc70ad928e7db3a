-- What clap answers for the words of the command line.
use Rattle.std.proofs.Common.{◌≡◌, ◌≢◌, ◌∙◌, ap, sym, refl, subst, inl, inr, true, List, [], map, Option, Result, Ok, Err, IfOk}
use Rattle.std.specs.Prelude.{IfErr, option_map}
use Rattle.std.specs.Borrow.{Bor}
use Rattle.clap.specs.Words.{App, HasMatchesOf, is_simple, matches_of, matched_of, raw_values, rows_of, found_of, kind_of}
use Rattle.clap.specs.declared.parser.matches.Found.{Found}
use Rattle.clap.proofs.WalkLemmas.{raw_values-rows}
use Rattle.clap.specs.Faults.{fault_of, is_simple_and_free}
use Rattle.clap.specs.Kinds.{FailsBy, IsAmong}
use Rattle.clap.specs.declared.error.Error.{Error}
use Rattle.clap.specs.declared.error.kind.ErrorKind.TheVariants.{OutOfMemory}
use Rattle.clap.specs.declared.parser.matches.ArgMatches.{ArgMatches}
use Rattle.pp_language.specs.Texts.{Text}
use Rattle.pp_line.specs.Line.{line}
use Rattle.pp_line.specs.Kept.{line_faults, line_rows, listed, kept, texts_of, IsRead}
use Rattle.pp_line.proofs.Steps.{is_simple_line}

simple_line : is_simple line ≡ true
simple_line = refl

pub read_taken : (a : App) (ws : List Text) (r : Result ArgMatches Error) → a ≡ line → IfOk r (HasMatchesOf a ws) → (is_simple_and_free a ≡ true → FailsBy (fault_of a ws) r) → IfOk r (λ m. IsRead ws (rows_of (found_of m)))
unfolding line_faults line_rows
read_taken a ws (Ok m) e h k =
    (ap (λ x. fault_of x ws) (sym e) ∙ k (ap is_simple_and_free e ∙ is_simple_line), (h (ap is_simple e ∙ simple_line)).0 ∙ ap (λ x. matches_of x ws) e)
read_taken a ws (Err x) e h k = tt

pub read_refused : (a : App) (ws : List Text) (r : Result ArgMatches Error) → a ≡ line → (is_simple_and_free a ≡ true → FailsBy (fault_of a ws) r) → IfErr r (λ x. (kind_of x ≢ OutOfMemory) → line_faults ws ≢ [])
unfolding line_faults
read_refused a ws (Ok m) e k = tt
read_refused a ws (Err x) e k = λ n f.
    elim (k (ap is_simple_and_free e ∙ is_simple_line)) [
      | inl m ↦ n m
      | inr i ↦ subst (IsAmong (kind_of x)) (ap (λ b. fault_of b ws) e ∙ f) i
    ]

pub kept_is : (f : Found) (id : Text) (g : Option (Bor (List (Bor Text)))) → option_map (λ s. map (λ v. v.now) s.now) g ≡ option_map raw_values (matched_of f id) → texts_of g ≡ kept (rows_of f) id
kept_is f id g e = ap listed (e ∙ raw_values-rows f id)
