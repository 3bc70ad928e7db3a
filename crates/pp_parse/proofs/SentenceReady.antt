-- What the reader finds of a sentence is what its statement wants.
use Rattle.std.proofs.Common.{◌≡◌, ℕ, ◌+◌, ◌<◌, true, false, List, [], ◌∷◌, ◌++◌, length, arith, Option, Some, None, ap, sym, ◌∙◌, subst}
use Rattle.std.specs.Prelude.{All, IsTrue, MatchOption, cond}
use Rattle.std.proofs.lemmas.List.Elements.{All-nil, All-cons, All-head, All-tail, All-append, All-push}
use Rattle.pp_algebra.specs.Canon.{has, firsts}
use Rattle.pp_language.specs.declared.token.Kind.{Kind}
use Rattle.pp_language.specs.declared.token.Kind.TheVariants.{Variable}
use Rattle.pp_language.specs.declared.token.Token.{Token}
use Rattle.pp_language.specs.Texts.{Text}
use Rattle.pp_algebra.specs.Texts.{same_text}
use Rattle.pp_language.specs.Kinds.{spells}
use Rattle.pp_language.specs.Tokens.{IsTokenOf}
use Rattle.pp_language.specs.Words.{Word, word_of}
use Rattle.pp_language.specs.Phrases as phrases
use Rattle.pp_language.specs.PartsOf.{parts_of}
use Rattle.pp_language.specs.Statements.{Statement, statement_parts, Says}
use Rattle.pp_language.specs.Meanings.{texts_by}
use Rattle.pp_language.proofs.PartsRead.{parts_of-parts_words}
use Rattle.pp_language.proofs.StatementParts.{statement_are}
use Rattle.pp_parse.specs.declared.parts.Part.{Part}
use Rattle.pp_parse.specs.declared.statement.Layout.{Layout}
use Rattle.pp_parse.specs.Words.{words_of, texts_in, named_by, named_in, blanks_in}
use Rattle.pp_parse.specs.Parts.{AreParts, AreRead}
use Rattle.pp_parse.specs.Layouts.{IsLayout}
use Rattle.pp_parse.specs.Parsed.{IsReady}
use Rattle.pp_parse.proofs.KnownTexts.{Known, all_first, all_second, all_few}
use Rattle.pp_parse.proofs.SentenceRead.{words_length}

-- the tokens of a text are spelled
spelled_tokens : (text : Text) (ts : List Token) → All (IsTokenOf text) ts → All (λ w. IsTrue (spells w.kind w.text)) (words_of text ts)
spelled_tokens text [] h = All-nil (λ w. IsTrue (spells w.kind w.text))
spelled_tokens text (t ∷ ts) h = All-cons (λ w. IsTrue (spells w.kind w.text)) (word_of text t) (words_of text ts) (All-head (IsTokenOf text) t ts h).spelled (spelled_tokens text ts (All-tail (IsTokenOf text) t ts h))

-- the parts of a sentence that is a statement
pub says_parts : (text : Text) (ts : List Token) (s : Statement) → Says (words_of text ts) s → parts_of (words_of text ts) ≡ Some (statement_parts s)
says_parts text ts s h = ap parts_of h.words ∙ parts_of-parts_words (statement_parts s) (statement_are s h.is_statement)

pub no_statement : (text : Text) (ts : List Token) → parts_of (words_of text ts) ≡ None → (s : Statement) → Says (words_of text ts) s → ⊥
no_statement text ts e s h = let f = says_parts text ts s h in cc

some_is : (ps qs : List phrases.Part) → Some ps ≡ Some qs → ps ≡ qs
some_is ps qs e = cc

-- these words are the statement
pub record IsTold (names named : List Text) (count : ℕ) (ps : List Part) (l : Layout) (ws : List Word) : Type 0 where
  pub ready : IsReady names named count ps l
  pub says : Says ws ready.statement

pub ready : (text : Text) (ts : List Token) (names named : List Text) (count : ℕ) (ps : List Part) (l : Layout) → All (IsTokenOf text) ts → All (λ x. IsTrue (has same_text names x)) (texts_in (words_of text ts))
    → named ≡ firsts same_text [] (named_in (words_of text ts)) → count ≡ blanks_in (words_of text ts) → AreRead names named (words_of text ts) ps → (s : Statement) → Says (words_of text ts) s → IsLayout s l → IsTold names named count ps l (words_of text ts)
ready text ts names named count ps l tokens known n c r s h e =
    let same : r.parts ≡ statement_parts s = some_is r.parts (statement_parts s) (sym r.read ∙ says_parts text ts s h) in
    record {
      says = h;
      ready = record {
        statement = s;
        is_statement = h.is_statement;
        known = record {
          named_is = n ∙ ap (λ ws. firsts same_text [] (named_in ws)) h.words;
          count_is = c ∙ ap blanks_in h.words;
          known = subst (λ ws. All (λ x. IsTrue (has same_text names x)) (texts_in ws)) h.words known;
          spelled = subst (All (λ w. IsTrue (spells w.kind w.text))) h.words (spelled_tokens text ts tokens);
          formed = statement_are s h.is_statement;
          are = subst (λ qs. AreParts names named (length named) 0 qs ps) same r.are;
        };
        layout = e;
      };
    }

-- ===== what the calls found

pub found_none : {A : Type 0} (o : Option A) (P : Type 0) (Q : A → Type 0) → o ≡ None → MatchOption o P Q → P
found_none None P Q e h = h
found_none (Some x) P Q e h = absurd (cc)

pub found_some : {A : Type 0} (o : Option A) (P : Type 0) (Q : A → Type 0) (x : A) → o ≡ Some x → MatchOption o P Q → Q x
found_some o P Q x e h = subst (λ r. MatchOption r P Q) e h

-- ===== names

named_texts : (names : List Text) (k : Kind) (bs : Text) → All (Known names) (texts_by k bs) → All (Known names) (named_by k bs)
named_texts names Variable bs h = h
named_texts names _ bs h = All-nil (Known names)

pub named_all_known : (names : List Text) (ws : List Word) → All (Known names) (texts_in ws) → All (Known names) (named_in ws)
named_all_known names [] h = All-nil (Known names)
named_all_known names (w ∷ ws) h =
    All-append (Known names) (named_by w.kind w.text) (named_in ws)
    (named_texts names w.kind w.text (all_first (Known names) (texts_by w.kind w.text) (texts_in ws) h))
    (named_all_known names ws (all_second (Known names) (texts_by w.kind w.text) (texts_in ws) h))

all_firsts : (P : Text → Type 0) (seen xs : List Text) → All P seen → All P xs → All P (firsts same_text seen xs)
all_firsts P seen [] s h = s
all_firsts P seen (x ∷ xs) s h = elim (has same_text seen x) as (λ b. All P (cond b (firsts same_text seen xs) (firsts same_text (seen ++ x ∷ []) xs))) [
  | true ↦ all_firsts P seen xs s (All-tail P x xs h)
  | false ↦ all_firsts P (seen ++ x ∷ []) xs (All-push P seen x s (All-head P x xs h)) (All-tail P x xs h)
]

pub variables_known : (names named : List Text) (ws : List Word) → All (Known names) (texts_in ws) → named ≡ firsts same_text [] (named_in ws) → All (Known names) named
variables_known names named ws h e = subst (All (Known names)) (sym e) (all_firsts (Known names) [] (named_in ws) (All-nil (Known names)) (named_all_known names ws h))

pub variables_small : (text : Text) (ts : List Token) (named : List Text) (count n : ℕ) → named ≡ firsts same_text [] (named_in (words_of text ts)) → count ≡ blanks_in (words_of text ts) → length ts < n → length named + count < n
variables_small text ts named count n e f l = let a = all_few (words_of text ts) in let w = words_length text ts in let g = ap length e in omega arith
