-- What is asked for, and by which words.
use Rattle.std.proofs.Common.{◌≡◌, ◌≢◌, ◌∙◌, ap, sym, refl, arith, ◌-◌, ◌≤◌, true, false, cond, take, take_all, drop, length-drop, get_or, List, [], ◌∷◌, map, length, Option, None, Ok, Err, Result, IfOk}
use Rattle.std.proofs.Math.Seq.{drop-cons}
use Rattle.std.specs.List.{list_all}
use Rattle.std.specs.Result.{IsErrOf}
use Rattle.clap.specs.Walk.{Row}
use Rattle.clap.specs.Kinds.{Kinds}
use Rattle.pp_language.specs.declared.command.Command.{Command}
use Rattle.pp_language.specs.Texts.{Text}
use Rattle.pp_language.specs.Commands.{AreWordsOf, AreNoWords}
use Rattle.pp_line.specs.Kept.{is_open, line_faults, line_rows, kept, IsRead, command_read, unless_refused, words_read}
use Rattle.pp_line.proofs.Words.{words_asked, no_words_asked}
use Rattle.pp_words.specs.declared.words.WordsError.{WordsError}
use Rattle.pp_words.specs.declared.words.WordsError.TheVariants.{Usage, Memory}
use Rattle.pp_words.specs.Settings.{Gives}

pub command_asked : (ws : List Text) (r : Result Command WordsError) → Gives (λ c. c) r (words_read ws) → IfOk r (λ c. AreWordsOf ws c)
command_asked ws (Ok c) h = words_asked ws c h
command_asked ws (Err e) h = tt

pub usage_asked : (ws : List Text) (r : Result Command WordsError) → Gives (λ c. c) r (words_read ws) → IsErrOf r Usage → AreNoWords ws
usage_asked ws (Ok c) h e = absurd (cc e)
usage_asked ws (Err Usage) h e = no_words_asked ws h
usage_asked ws (Err Memory) h e = absurd (cc e)

pub rest_of : {A B : Type 0} (f : A → B) (xs : List A) (x : A) (y : B) → 1 ≤ length xs → x ≡ get_or xs 0 x → y ≡ f x → map f xs ≡ y ∷ map f (take (length xs - 1) (drop 1 xs))
rest_of f xs x y l e v =
    let whole : take (length xs - 1) (drop 1 xs) ≡ drop 1 xs = take_all (length xs - 1) (drop 1 xs) (simp length-drop (omega arith)) in
    ap (map f) (drop-cons xs 0 x (omega arith)) ∙ ap (λ z. z ∷ map f (drop 1 xs)) (ap f (sym e) ∙ sym v) ∙ ap (λ ys. y ∷ map f ys) (sym whole)

-- words that are not left to clap give no command
pub not_open : (ws rest : List Text) (name : Text) → ws ≡ name ∷ rest → list_all is_open rest ≡ false → words_read ws ≡ None
not_open ws rest name e h = ap words_read e ∙ ap (λ v. cond v (unless_refused (line_faults (name ∷ rest)) (command_read name (kept (line_rows (name ∷ rest))))) None) h

refused_none : (ks : Kinds) (o : Option Command) → ks ≢ [] → unless_refused ks o ≡ None
refused_none [] o h = absurd (h refl)
refused_none (k ∷ ks) o h = refl

-- nor do those that clap refuses
pub was_refused : (ws : List Text) → line_faults ws ≢ [] → words_read ws ≡ None
was_refused [] h = refl
was_refused (name ∷ rest) h =
    let o = unless_refused (line_faults (name ∷ rest)) (command_read name (kept (line_rows (name ∷ rest)))) in
    elim (list_all is_open rest) as (λ v. cond v o None ≡ None) [
      | true ↦ refused_none (line_faults (name ∷ rest)) (command_read name (kept (line_rows (name ∷ rest)))) h
      | false ↦ refl
    ]

pub refused_gives : (ws : List Text) (r : Result Command WordsError) → (IsErrOf r Usage → line_faults ws ≢ []) → ((c : Command) → r ≡ Ok c → ⊥) → Gives (λ c. c) r (words_read ws)
refused_gives ws (Ok c) h n = absurd (n c refl)
refused_gives ws (Err Usage) h n = was_refused ws (h refl)
refused_gives ws (Err Memory) h n = tt

-- and of the others the kept texts decide
pub was_read : (ws rest : List Text) (name : Text) (rows : List Row) (o : Option Command) → ws ≡ name ∷ rest → list_all is_open rest ≡ true → IsRead ws rows → o ≡ command_read name (kept rows) → words_read ws ≡ o
was_read ws rest name rows o e h r c =
    let faults : line_faults (name ∷ rest) ≡ [] = ap line_faults (sym e) ∙ r.0 in
    let rows_are : line_rows (name ∷ rest) ≡ rows = ap line_rows (sym e) ∙ sym r.1 in
    ap words_read e ∙ ap (λ v. cond v (unless_refused (line_faults (name ∷ rest)) (command_read name (kept (line_rows (name ∷ rest))))) None) h
    ∙ ap (λ ks. unless_refused ks (command_read name (kept (line_rows (name ∷ rest))))) faults ∙ ap (λ x. command_read name (kept x)) rows_are ∙ sym c
