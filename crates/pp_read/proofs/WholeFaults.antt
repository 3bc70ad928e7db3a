-- The fault of a whole text.
use Rattle.std.proofs.Common.{◌≡◌, ℕ, suc, ◌+◌, ◌<◌, ◌≤◌, ◌^◌, true, false, List, length, refl, sym, ◌∙◌, subst, arith, inl, inr, ⊎_elim}
use denote.Enum.Bare.{sameb}
use Rattle.std.specs.Prelude.{All, ◌⊎◌, Bool, not}
use Rattle.std.specs.List.{list_any}
use Rattle.std.proofs.lemmas.List.Elements.{All-weaker}
use Rattle.pp_language.specs.Texts.{Text}
use Rattle.pp_language.specs.Sentences.{Ending, clean, AreSentences}
use Rattle.pp_language.specs.Statements.{is_query}
use Rattle.pp_language.specs.Faults.{AllSay, IsFault, IsSyntaxFault}
use Rattle.pp_lex.specs.declared.lists.Sentence.{Sentence}
use Rattle.pp_lex.specs.contracts.lists.Tail.{the_type}
use Rattle.pp_lex.specs.declared.lists.Tail.{Tail}
use Rattle.pp_lex.specs.declared.lists.Tail.TheVariants.{Clean, Cut, Bad}
use Rattle.pp_lex.specs.Readings.{tokens_of, ending_of}
use Rattle.pp_read.specs.declared.progress.Progress.{Progress}
use Rattle.pp_read.specs.declared.fault.ReadFault.{ReadFault}
use Rattle.pp_read.specs.declared.fault.ReadFault.TheVariants.{Syntax, Limit, Memory}
use Rattle.pp_read.specs.Programs.{list_words, AreAllRead, IsEarlyFault, IsFaultOf}
use Rattle.pp_read.proofs.FirstFaults.{end_fault}
use Rattle.pp_read.proofs.WholeTexts.{same_words, list_length, take_all, short}

-- the sentences are few, and each is short
pub sentences_short : (text : Text) (list : List Sentence) (e : Ending) → length text ≤ 4194304 → AreSentences text (tokens_of list) e → All (λ s. length s.tokens < 2 ^ 32) list
sentences_short text list e l h = All-weaker (λ s. length s.tokens ≤ length text) (λ s. length s.tokens < 2 ^ 32) (λ s k. omega arith) list (short text list e h).few

pub sentences_few : (text : Text) (list : List Sentence) (e : Ending) → length text ≤ 4194304 → AreSentences text (tokens_of list) e → length list ≤ 4194304
sentences_few text list e l h = let s = (short text list e h).count in omega arith

pub syntax_fault : (text : Text) (list : List Sentence) (e : Ending) (k : ℕ) → AreSentences text (tokens_of list) e → IsFault (list_words text list) e k → IsSyntaxFault text k
syntax_fault text list e k h f = record { sentences = tokens_of list; ending = e; are_sentences = h; is_fault = subst (λ wss. IsFault wss e k) (same_words text list) f }

pub early_fault : (text : Text) (list : List Sentence) (e : Ending) (f : ReadFault) → AreSentences text (tokens_of list) e → IsEarlyFault (list_words text list) f → IsFaultOf text f
early_fault text list e (Syntax k) h f = syntax_fault text list e k h (f e)
early_fault text list e (Limit w) h f = absurd f
early_fault text list e Memory h f = tt

-- the text does not end behind a query
pub late_fault : (text : Text) (list : List Sentence) (e : Ending) (names : List Text) (p : Progress) → AreSentences text (tokens_of list) e → AreAllRead names (list_words text list) p → (e ≡ clean → ⊥) ⊎ (p.asked ≡ false) → IsSyntaxFault text (length list + 1)
late_fault text list e names p h r n =
    let wss = list_words text list in
    let say = subst (λ vs. AllSay vs r.statements) (sym (take_all wss)) r.say in
    let k : suc (length wss) ≡ length list + 1 = let l = list_length text list in omega arith in
    let none : (e ≡ clean → ⊥) ⊎ (list_any is_query r.statements ≡ false) = ⊎_elim (λ a. inl a) (λ b. inr (sym r.progress.asked ∙ b)) n in
    subst (IsSyntaxFault text) k (syntax_fault text list e (suc (length wss)) h (end_fault wss (length wss) r.statements say r.asks_last refl e none))

-- what the test of the tail says
pub tail_differs : (t : Tail) (b : Bool) → b ≡ not (sameb the_type t Clean) → b ≡ true → ending_of t ≡ clean → ⊥
tail_differs Clean b e h = let f : true ≡ false = sym h ∙ e in absurd (cc)
tail_differs Cut b e h = λ g. cc
tail_differs Bad b e h = λ g. cc

pub tail_is_clean : (t : Tail) (b : Bool) → b ≡ not (sameb the_type t Clean) → b ≡ false → ending_of t ≡ clean
tail_is_clean Clean b e h = refl
tail_is_clean Cut b e h = let f : false ≡ true = sym h ∙ e in absurd (cc)
tail_is_clean Bad b e h = let f : false ≡ true = sym h ∙ e in absurd (cc)
