-- A whole text: its sentences are few, its names are known, and what is read of it is what it writes.
use Rattle.std.proofs.Common.{◌≡◌, ℕ, zero, suc, ◌+◌, ◌<◌, ◌≤◌, true, false, List, [], ◌∷◌, ◌++◌, length, map, take, get_or, Bool, Option, Some, None, ◌||◌, refl, ap, sym, ◌∙◌, subst, arith, length-append}
use Rattle.std.specs.Prelude.{All, not, nat_le}
use Rattle.std.specs.List.{flat_map, list_any}
use Rattle.std.proofs.Math.ListN.{length-map}
use Rattle.std.proofs.lemmas.Bool.{leb-true}
use Rattle.std.proofs.lemmas.Grind.{flat_map-append}
use Rattle.std.proofs.lemmas.List.Elements.{All-nil, All-cons, All-head, All-tail, All-weaker}
use Rattle.pp_algebra.specs.Canon.{firsts}
use Rattle.pp_sld.specs.Goals.{Predicate, Clause}
use Rattle.pp_language.specs.declared.token.Token.{Token}
use Rattle.pp_language.specs.declared.which.Which.{Which}
use Rattle.pp_language.specs.Texts.{Text}
use Rattle.pp_algebra.specs.Texts.{same_text}
use Rattle.pp_language.specs.Tokens.{AreTokensOf}
use Rattle.pp_language.specs.Sentences.{Ending, clean, FallInto, AreSentences}
use Rattle.pp_language.specs.Programs.{Query as Asked, Written}
use Rattle.pp_language.specs.declared.which.Which.TheVariants.{Clauses, Arity, Variables}
use Rattle.pp_language.specs.Phrases.{Phrase}
use Rattle.pp_language.specs.Statements.{Item, Statement, directive, clause, query, statement_words, is_query}
use Rattle.pp_language.specs.Faults.{AllSay, IsInGrammar, sentence_words}
use Rattle.pp_language.specs.Meanings.{said_arguments, item_phrases, texts_by, text_names, clauses_by, query_by, asked_by}
use Rattle.pp_language.specs.Limits.{Writes, Passes, is_above, is_too_wide, item_too_wide, variable_count, when, passed, or_later, first_passed}
use Rattle.pp_term.specs.Meanings.{clause_of}
use Rattle.pp_build.specs.Meanings.{query_of}
use Rattle.pp_term.specs.declared.query.Query.{Query}
use Rattle.pp_lex.specs.declared.lists.Sentence.{Sentence}
use Rattle.pp_lex.specs.Readings.{tokens_of}
use Rattle.pp_read.specs.declared.progress.Progress.{Progress}
use Rattle.pp_read.specs.declared.program.Program.{Program}
use Rattle.pp_parse.specs.Words.{words_of, texts_in}
use Rattle.pp_read.specs.Sizes.{IsReadQuery}
use Rattle.pp_read.specs.Progress.{IsAsked}
use Rattle.pp_read.specs.Programs.{written_of, list_words, AreAllRead}
use Rattle.pp_parse.proofs.KnownTexts.{Known, all_first, all_second, firsts_known}
use Rattle.pp_parse.proofs.TokenWords.{all_words}
use Rattle.pp_read.proofs.Progressing.{behind, clauses-counted}
use Rattle.pp_read.proofs.FirstFaults.{ends_in_query}

-- ===== sizes

tokens_few : (text : Text) (i : ℕ) (ts : List Token) (j : ℕ) → AreTokensOf text i ts j → i + length ts ≤ j
tokens_few text i [] j h = omega arith
tokens_few text i (t ∷ ts) j h = let s = h.2 in omega (arith, tokens_few text t.last ts j h.3, s.some, h.0)

record AreFew (n : ℕ) (ss : List (List Token)) : Type 0 where
  many : length ss ≤ n
  each : All (λ s. length s ≤ n) ss

fall_few : (ts : List Token) (ss : List (List Token)) (left : List Token) → FallInto ts ss left → AreFew (length ts) ss
fall_few ts [] left h = record { many = omega arith; each = All-nil (λ s. length s ≤ length ts) }
fall_few ts (s ∷ ss) left h =
    let rest = h.2 in
    let r = fall_few rest ss left h.5 in
    let e : length ts ≡ length s + suc (length rest) = ap length h.3 ∙ length-append s (h.0 ∷ rest) in
    record {
      many = let m = r.many in omega arith;
      each = All-cons (λ u. length u ≤ length ts) s ss (omega arith) (All-weaker (λ u. length u ≤ length rest) (λ u. length u ≤ length ts) (λ u l. omega arith) ss r.each);
    }

sentence_tokens : (n : ℕ) (list : List Sentence) → All (λ s. length s ≤ n) (tokens_of list) → All (λ s. length s.tokens ≤ n) list
sentence_tokens n list h = λ k d l. at list k d l h
  where
    at : (us : List Sentence) (k : ℕ) (d : Sentence) → k < length us → All (λ s. length s ≤ n) (tokens_of us) → length (get_or us k d).tokens ≤ n
    at [] k d l g = absurd (omega arith)
    at (u ∷ us) zero d l g = All-head (λ s. length s ≤ n) u.tokens (tokens_of us) g
    at (u ∷ us) (suc k) d l g = at us k d (omega arith) (All-tail (λ s. length s ≤ n) u.tokens (tokens_of us) g)

pub record AreShort (n : ℕ) (list : List Sentence) : Type 0 where
  pub count : length list ≤ n
  pub few : All (λ s. length s.tokens ≤ n) list

pub short : (text : Text) (list : List Sentence) (e : Ending) → AreSentences text (tokens_of list) e → AreShort (length text) list
short text list e h =
    let t = tokens_few text 0 h.tokens h.last h.are_tokens in
    let f = fall_few h.tokens (tokens_of list) h.left h.fall_into in
    let w = h.within in
    record {
      count = let m = f.many in let l = length-map list (λ s. s.tokens) in omega arith;
      few = sentence_tokens (length text) list (All-weaker (λ s. length s ≤ length h.tokens) (λ s. length s ≤ length text) (λ s l. omega arith) (tokens_of list) f.each);
    }

-- ===== names

known_sentences : (names : List Text) (text : Text) (list : List Sentence) → All (Known names) (texts_in (all_words text list)) → All (λ ws. All (Known names) (texts_in ws)) (list_words text list)
known_sentences names text [] h = All-nil (λ ws. All (Known names) (texts_in ws))
known_sentences names text (s ∷ list) h =
    let ws = words_of text s.tokens in
    let rest = all_words text list in
    let k : All (Known names) (texts_in ws ++ texts_in rest) = subst (All (Known names)) (flat_map-append (λ w. texts_by w.kind w.text) ws rest) h in
    All-cons (λ vs. All (Known names) (texts_in vs)) ws (list_words text list) (all_first (Known names) (texts_in ws) (texts_in rest) k) (known_sentences names text list (all_second (Known names) (texts_in ws) (texts_in rest) k))

pub names_known : (names : List Text) (text : Text) (list : List Sentence) → names ≡ firsts same_text [] (texts_in (all_words text list)) → All (λ ws. All (Known names) (texts_in ws)) (list_words text list)
names_known names text list e = known_sentences names text list (subst (λ xs. All (Known xs) (texts_in (all_words text list))) (sym e) (firsts_known (texts_in (all_words text list))))

statements_words : (text : Text) (list : List Sentence) (ss : List Statement) → AllSay (list_words text list) ss → all_words text list ≡ flat_map statement_words ss
statements_words text [] [] a = refl
statements_words text [] (s ∷ ss) a = absurd a
statements_words text (u ∷ list) [] a = absurd a
statements_words text (u ∷ list) (s ∷ ss) a = ap (λ ws. ws ++ all_words text list) a.0.words ∙ ap (λ ws. statement_words s ++ ws) (statements_words text list ss a.1)

-- ===== sentences

pub same_words : (text : Text) (list : List Sentence) → list_words text list ≡ sentence_words text (tokens_of list)
same_words text [] = refl
same_words text (s ∷ list) = ap (λ wss. words_of text s.tokens ∷ wss) (same_words text list)

pub take_all : {A : Type 0} (xs : List A) → take (length xs) xs ≡ xs
take_all [] = refl
take_all (x ∷ xs) = ap (λ ys. x ∷ ys) (take_all xs)

pub list_length : (text : Text) (list : List Sentence) → length (list_words text list) ≡ length list
list_length text list = length-map list (λ s. words_of text s.tokens)

abbrev make : List Text → List (Predicate × Clause) → Asked → Written
make xs cs q = record { names = xs; clauses = cs; query = q }

-- ===== the number of clauses

within_clauses : (n : ℕ) (p : Phrase) (is : List Item) (later : Option Which) → or_later (passed n (clause p is)) later ≡ None → suc n ≤ 65535
within_clauses n p is later h = go (nat_le (suc n) 65535) (is_too_wide p || list_any item_too_wide is) (is_above 255 (variable_count (said_arguments p ∷ map item_phrases is))) h (leb-true (suc n) 65535)
  where
    go : (a b c : Bool) → or_later (when (not a) Clauses (when b Arity (when c Variables None))) later ≡ None → (a ≡ true → suc n ≤ 65535) → suc n ≤ 65535
    go true b c e f = f refl
    go false b c e f = absurd (cc)

later_passed : (a b : Option Which) → or_later a b ≡ None → b ≡ None
later_passed None b h = h
later_passed (Some w) b h = absurd (cc)

behind_few : (n : ℕ) (ss : List Statement) → n ≤ 65535 → first_passed n ss ≡ None → behind n ss ≤ 65535
behind_few n [] l h = l
behind_few n (directive w ∷ ss) l h = behind_few n ss l h
behind_few n (clause p is ∷ ss) l h =
    let later = first_passed (suc n) ss in
    behind_few (suc n) ss (within_clauses n p is later h) (later_passed (passed n (clause p is)) later h)
behind_few n (query is ∷ ss) l h = behind_few n ss l (later_passed (passed n (query is)) (first_passed n ss) h)

-- ===== the text

module _ (text : Text) (list : List Sentence) (names : List Text) (p : Progress) (n : names ≡ firsts same_text [] (texts_in (all_words text list))) (r : AreAllRead names (list_words text list) p) where
  in_grammar : AreSentences text (tokens_of list) clean → p.asked ≡ true → IsInGrammar text r.statements
  in_grammar s a = record {
    sentences = tokens_of list;
    are_sentences = s;
    say = subst (λ wss. AllSay wss r.statements) (same_words text list) r.say;
    ends = ends_in_query r.statements r.asks_last (sym r.progress.asked ∙ a);
  }

  names_are : names ≡ text_names r.statements
  names_are = n ∙ ap (λ ws. firsts same_text [] (texts_in ws)) (statements_words text list r.statements r.say)

  pub passes : AreSentences text (tokens_of list) clean → p.asked ≡ true → (w : Which) → p.passed ≡ Some w → Passes text w
  passes s a w e = record { statements = r.statements; in_grammar = in_grammar s a; passes = sym r.progress.passed ∙ e }

  -- the query is there where one was asked and no limit was passed
  pub has_query : p.asked ≡ true → p.passed ≡ None → p.query ≡ None → ⊥
  has_query a e o =
      let f : list_any is_query r.statements ≡ false = subst (IsAsked names r.statements) o (r.progress.query e) in
      let g : list_any is_query r.statements ≡ true = sym r.progress.asked ∙ a in
      cc (f, g)

  -- of a text that passes no limit
  pub few_clauses : p.passed ≡ None → length p.clauses.items ≤ 65535
  few_clauses e =
      let l = behind_few 0 r.statements (omega arith) (sym r.progress.passed ∙ e) in
      let c = clauses-counted names 0 r.statements in
      let n : length p.clauses.items ≡ length (clauses_by names r.statements) = sym (length-map p.clauses.items clause_of) ∙ ap length (r.progress.clauses e) in
      omega arith

  pub read_query : p.passed ≡ None → (q : Query) → p.query ≡ Some q → IsReadQuery q
  read_query e q o =
      let asked : IsAsked names r.statements (Some q) = subst (IsAsked names r.statements) o (r.progress.query e) in
      asked.1

  pub writes : AreSentences text (tokens_of list) clean → p.asked ≡ true → p.passed ≡ None → (q : Query) → p.query ≡ Some q → (g : Program) → g.names ≡ names → g.clauses ≡ p.clauses.items → g.query ≡ q → Writes text (written_of g)
  writes s a e q o g b d f =
      let asked : IsAsked names r.statements (Some q) = subst (IsAsked names r.statements) o (r.progress.query e) in
      record {
        statements = r.statements;
        in_grammar = in_grammar s a;
        within = sym r.progress.passed ∙ e;
        writes =
            ap (λ xs. make xs (map clause_of g.clauses) (query_of xs g.query)) b
            ∙ ap (λ cs. make names (map clause_of cs) (query_of names g.query)) d
            ∙ ap (λ x. make names (map clause_of p.clauses.items) (query_of names x)) f
            ∙ ap (λ cs. make names cs (query_of names q)) (r.progress.clauses e)
            ∙ ap (λ x. make names (clauses_by names r.statements) x) asked.0
            ∙ ap (λ xs. make xs (clauses_by xs r.statements) (query_by xs (asked_by r.statements))) names_are;
      }
