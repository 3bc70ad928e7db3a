-- A text of the grammar has no fault, another one at most one first fault, and what it writes is one program.
use Rattle.std.proofs.Common.{◌≡◌, ℕ, zero, suc, ◌<◌, true, false, List, [], ◌∷◌, length, Some, None, refl, ap, sym, ◌∙◌, subst, ⊎_elim, arith}
use Rattle.std.specs.Prelude.{◌⊎◌, slice_get}
use Rattle.std.proofs.lemmas.Bool.{cases_order}
use Rattle.pp_language.specs.declared.token.Token.{Token}
use Rattle.pp_language.specs.declared.which.Which.{Which}
use Rattle.pp_language.specs.Texts.{Text}
use Rattle.pp_language.specs.Sentences.{Ending, clean}
use Rattle.pp_language.specs.Programs.{Written}
use Rattle.pp_language.specs.Words.{Word}
use Rattle.pp_language.specs.Statements.{Statement, is_query, Says}
use Rattle.pp_language.specs.Faults.{AllSay, EndInQuery, IsWrongAt, IsBehindQuery, NoQuery, IsFaultAt, IsFault, sentence_words, IsInGrammar, IsSyntaxFault}
use Rattle.pp_language.specs.Meanings.{written_by}
use Rattle.pp_language.specs.Limits.{first_passed, Writes, Passes}
use Rattle.pp_language.proofs.OneReading.{one_reading}

all_length : (wss : List (List Word)) (ss : List Statement) → AllSay wss ss → length wss ≡ length ss
all_length [] [] a = refl
all_length [] (s ∷ ss) a = absurd a
all_length (ws ∷ wss) [] a = absurd a
all_length (ws ∷ wss) (s ∷ ss) a = ap suc (all_length wss ss a.1)

-- the statement of a sentence
said_at : (wss : List (List Word)) (ss : List Statement) (i : ℕ) (ws : List Word) → AllSay wss ss → slice_get wss i ≡ Some ws → (s : Statement) × (slice_get ss i ≡ Some s) × Says ws s
said_at [] ss i ws a e = absurd (cc (e))
said_at (vs ∷ wss) [] i ws a e = absurd a
said_at (vs ∷ wss) (s ∷ ss) zero ws a e = let f : vs ≡ ws = cc (e) in (s, refl, subst (λ x. Says x s) f a.0)
said_at (vs ∷ wss) (s ∷ ss) (suc i) ws a e = said_at wss ss i ws a.1 e

-- only the last statement asks
query_last : (ss : List Statement) (i : ℕ) (s : Statement) → EndInQuery ss → slice_get ss i ≡ Some s → is_query s ≡ true → suc i ≡ length ss
query_last [] i s q e h = absurd q
query_last (t ∷ []) zero s q e h = refl
query_last (t ∷ []) (suc i) s q e h = absurd (cc (e))
query_last (t ∷ u ∷ ss) zero s q e h = let f : t ≡ s = cc (e) in let g : is_query s ≡ false = subst (λ x. is_query x ≡ false) f q.0 in absurd (cc (h, g))
query_last (t ∷ u ∷ ss) (suc i) s q e h = ap suc (query_last (u ∷ ss) i s q.1 e h)

some_query : (wss : List (List Word)) (ss : List Statement) → AllSay wss ss → EndInQuery ss → NoQuery wss → ⊥
some_query wss [] a q n = q
some_query [] (s ∷ ss) a q n = a
some_query (ws ∷ wss) (s ∷ []) a q n = n 0 ws refl (s, a.0, q)
some_query (ws ∷ wss) (s ∷ t ∷ ss) a q n = some_query wss (t ∷ ss) a.1 q.1 (λ i vs e h. n (suc i) vs e h)

module _ (once : (ws : List Word) (s t : Statement) → Says ws s → Says ws t → s ≡ t) where
  all_once : (wss : List (List Word)) (ss ts : List Statement) → AllSay wss ss → AllSay wss ts → ss ≡ ts
  all_once [] [] [] a b = refl
  all_once [] [] (t ∷ ts) a b = absurd b
  all_once [] (s ∷ ss) ts a b = absurd a
  all_once (ws ∷ wss) [] ts a b = absurd a
  all_once (ws ∷ wss) (s ∷ ss) [] a b = absurd b
  all_once (ws ∷ wss) (s ∷ ss) (t ∷ ts) a b = ap (λ x. x ∷ ss) (once ws s t a.0 b.0) ∙ ap (λ xs. t ∷ xs) (all_once wss ss ts a.1 b.1)

  not_wrong : (wss : List (List Word)) (ss : List Statement) (i : ℕ) → AllSay wss ss → IsWrongAt wss i → ⊥
  not_wrong wss ss i a w = let s = said_at wss ss i w.sentence a w.stands in w.wrong s.0 s.2

  not_behind : (wss : List (List Word)) (ss : List Statement) (i : ℕ) → AllSay wss ss → EndInQuery ss → IsBehindQuery wss i → ⊥
  not_behind wss ss i a q b =
      let s = said_at wss ss b.earlier b.sentence a b.stands in
      let f : b.asks.0 ≡ s.0 = once b.sentence b.asks.0 s.0 b.asks.1 s.2 in
      let g : is_query s.0 ≡ true = subst (λ x. is_query x ≡ true) f b.asks.2 in
      let l = query_last ss b.earlier s.0 q s.1 g in
      absurd (omega (arith, l, all_length wss ss a, b.before, b.within))

  no_fault_at : (wss : List (List Word)) (ss : List Statement) (k : ℕ) → AllSay wss ss → EndInQuery ss → IsFaultAt wss clean k → ⊥
  no_fault_at wss ss k a q f = ⊎_elim
      (λ (x : (i : ℕ) × (k ≡ suc i) × (IsWrongAt wss i ⊎ IsBehindQuery wss i)). ⊎_elim (λ w. not_wrong wss ss x.0 a w) (λ b. not_behind wss ss x.0 a q b) x.2)
      (λ (x : (k ≡ suc (length wss)) × ((clean ≡ clean → ⊥) ⊎ NoQuery wss)). ⊎_elim (λ c. c refl) (λ n. some_query wss ss a q n) x.1)
      f

  pub grammar_has_no_fault : (text : Text) (ss : List Statement) (k : ℕ) → IsInGrammar text ss → IsSyntaxFault text k → ⊥
  grammar_has_no_fault text ss k g f =
      let r = one_reading text g.sentences f.sentences clean f.ending g.are_sentences f.are_sentences in
      let at : IsFaultAt (sentence_words text g.sentences) f.ending k = subst (λ x. IsFaultAt (sentence_words text x) f.ending k) (sym r.0) f.is_fault.fault in
      no_fault_at (sentence_words text g.sentences) ss k g.say g.ends (subst (λ e. IsFaultAt (sentence_words text g.sentences) e k) (sym r.1) at)

  same_statements : (text : Text) (ss ts : List Statement) → IsInGrammar text ss → IsInGrammar text ts → ss ≡ ts
  same_statements text ss ts g h =
      let r = one_reading text g.sentences h.sentences clean clean g.are_sentences h.are_sentences in
      all_once (sentence_words text g.sentences) ss ts g.say (subst (λ x. AllSay (sentence_words text x) ts) (sym r.0) h.say)

  pub one_program : (text : Text) (w v : Written) → Writes text w → Writes text v → w ≡ v
  one_program text w v a b = a.writes ∙ ap (λ ss. written_by ss) (same_statements text a.statements b.statements a.in_grammar b.in_grammar) ∙ sym b.writes

  pub one_limit : (text : Text) (w v : Which) → Passes text w → Passes text v → w ≡ v
  one_limit text w v a b =
      let e : Some w ≡ Some v = sym a.passes ∙ ap (λ ss. first_passed 0 ss) (same_statements text a.statements b.statements a.in_grammar b.in_grammar) ∙ b.passes in
      cc (e)

  pub not_both : (text : Text) (w : Written) (v : Which) → Writes text w → Passes text v → ⊥
  not_both text w v a b =
      let e : None ≡ Some v = sym a.within ∙ ap (λ ss. first_passed 0 ss) (same_statements text a.statements b.statements a.in_grammar b.in_grammar) ∙ b.passes in
      absurd (cc (e))

pub one_fault : (text : Text) (j k : ℕ) → IsSyntaxFault text j → IsSyntaxFault text k → j ≡ k
one_fault text j k f g =
    let r = one_reading text f.sentences g.sentences f.ending g.ending f.are_sentences g.are_sentences in
    let P : List (List Token) → Ending → Type 0 = λ ss e. IsFault (sentence_words text ss) e k in
    let h : IsFault (sentence_words text f.sentences) f.ending k = subst (λ e. IsFault (sentence_words text f.sentences) e k) (sym r.1) (subst (λ x. IsFault (sentence_words text x) g.ending k) (sym r.0) g.is_fault) in
    ⊎_elim
    (λ (e : j ≡ k). e)
    (λ s. ⊎_elim (λ (l : j < k). absurd (h.first j l f.is_fault.fault)) (λ (l : k < j). absurd (f.is_fault.first k l h.fault)) s)
    (cases_order j k)
