-- Reading the sentences of a text one after another.
use Rattle.std.proofs.Common.{◌≡◌, ℕ, zero, suc, ◌+◌, ◌<◌, true, false, List, [], ◌∷◌, ◌++◌, length, take, get_or, Some, refl, ap, sym, ◌∙◌, subst, arith}
use Rattle.std.specs.Prelude.{slice_get, All}
use Rattle.std.proofs.lemmas.List.Elements.{All-head, All-tail}
use Rattle.std.specs.List.{list_any}
use Rattle.pp_language.specs.declared.token.Token.{Token}
use Rattle.pp_language.specs.Texts.{Text}
use Rattle.pp_language.specs.Sentences.{Ending}
use Rattle.pp_language.specs.Words.{Word}
use Rattle.pp_language.specs.Statements.{Statement, is_query, Says}
use Rattle.pp_language.specs.Faults.{AllSay, IsFault}
use Rattle.pp_lex.specs.declared.lists.Sentence.{Sentence}
use Rattle.pp_read.specs.declared.progress.Progress.{Progress}
use Rattle.pp_parse.specs.Words.{words_of, texts_in}
use Rattle.pp_read.specs.Sentences.{IsMade, IsSaid}
use Rattle.pp_read.specs.declared.sentence.Said.{Said}
use Rattle.pp_read.specs.Progress.{IsProgress}
use Rattle.pp_read.specs.Programs.{list_words, AsksLast, AreAllRead}
use Rattle.pp_parse.proofs.KnownTexts.{Known}
use Rattle.pp_read.proofs.FirstFaults.{say_push, asks_push, wrong_fault, behind_fault}
use Rattle.pp_read.proofs.WholeTexts.{take_all}

-- the first i sentences are read
pub record AreReadTo (names : List Text) (wss : List (List Word)) (i : ℕ) (p : Progress) : Type 0 where
  pub statements : List Statement
  pub say : AllSay (take i wss) statements
  pub asks_last : AsksLast statements
  pub progress : IsProgress names statements p

pub none_read : (names : List Text) (wss : List (List Word)) (p : Progress) → IsProgress names [] p → AreReadTo names wss 0 p
none_read names wss p h = record { statements = []; say = tt; asks_last = tt; progress = h }

pub sentence_at : (text : Text) (list : List Sentence) (i : ℕ) (d : Sentence) → i < length list → slice_get (list_words text list) i ≡ Some (words_of text (get_or list i d).tokens)
sentence_at text [] i d l = absurd (omega arith)
sentence_at text (s ∷ list) zero d l = refl
sentence_at text (s ∷ list) (suc i) d l = sentence_at text list i d (omega arith)

pub sentence_is : (text : Text) (list : List Sentence) (i : ℕ) (s : Sentence) (ts : List Token) → i < length list → s ≡ get_or list i s → ts ≡ s.tokens → slice_get (list_words text list) i ≡ Some (words_of text ts)
sentence_is text list i s ts l e f = sentence_at text list i s l ∙ ap (λ u. Some (words_of text u.tokens)) (sym e) ∙ ap (λ us. Some (words_of text us)) (sym f)

all_at : {A : Type 0} (P : A → Type 0) (xs : List A) (i : ℕ) (x : A) → slice_get xs i ≡ Some x → All P xs → P x
all_at P [] i x e h = absurd (cc)
all_at P (y ∷ xs) zero x e h = let f : y ≡ x = cc in subst P f (All-head P y xs h)
all_at P (y ∷ xs) (suc i) x e h = all_at P xs i x e (All-tail P y xs h)

pub names_at : (names : List Text) (text : Text) (list : List Sentence) (i : ℕ) (s : Sentence) (ts : List Token) → i < length list → s ≡ get_or list i s → ts ≡ s.tokens
    → All (λ ws. All (Known names) (texts_in ws)) (list_words text list) → All (Known names) (texts_in (words_of text ts))
names_at names text list i s ts l e f h = all_at (λ ws. All (Known names) (texts_in ws)) (list_words text list) i (words_of text ts) (sentence_is text list i s ts l e f) h

pub next_fault : (wss : List (List Word)) (i : ℕ) → ((e : Ending) → IsFault wss e (suc i)) → (e : Ending) → IsFault wss e (i + 1)
next_fault wss i f e = let n : suc i ≡ i + 1 = omega arith in subst (IsFault wss e) n (f e)

pub read_to : (names : List Text) (wss : List (List Word)) (i : ℕ) (p : Progress) → AreReadTo names wss (suc i) p → AreReadTo names wss (i + 1) p
read_to names wss i p r = let n : suc i ≡ i + 1 = omega arith in subst (λ k. AreReadTo names wss k p) n r

module _ (names : List Text) (wss : List (List Word)) (i : ℕ) (p : Progress) (r : AreReadTo names wss i p) where
  pub no_query : p.asked ≡ false → list_any is_query r.statements ≡ false
  no_query a = sym r.progress.asked ∙ a

  pub reads_on : (ws : List Word) (said : Said) (q : Progress) → slice_get wss i ≡ Some ws → IsSaid names (length p.clauses.items) ws said → p.asked ≡ false
      → ((ss : List Statement) (s : Statement) → IsProgress names ss p → IsMade names (length p.clauses.items) s said → list_any is_query ss ≡ false → IsProgress names (ss ++ s ∷ []) q) → AreReadTo names wss (suc i) q
  reads_on ws said q e h a f = record {
    statements = r.statements ++ h.statement ∷ [];
    say = say_push wss i ws r.statements h.statement e r.say h.says;
    asks_last = asks_push r.statements h.statement (no_query a);
    progress = f r.statements h.statement r.progress h.made (no_query a);
  }

  pub no_sentence : (ws : List Word) → slice_get wss i ≡ Some ws → ((s : Statement) → Says ws s → ⊥) → (e : Ending) → IsFault wss e (suc i)
  no_sentence ws e n = wrong_fault wss i r.statements r.say r.asks_last ws e n

  pub behind_query : p.asked ≡ true → i < length wss → (e : Ending) → IsFault wss e (suc i)
  behind_query a l = behind_fault wss i r.statements r.say r.asks_last (sym r.progress.asked ∙ a) l

  pub all_read : i ≡ length wss → AreAllRead names wss p
  all_read e = record {
    statements = r.statements;
    say = subst (λ vs. AllSay vs r.statements) (ap (λ k. take k wss) e ∙ take_all wss) r.say;
    asks_last = r.asks_last;
    progress = r.progress;
  }
