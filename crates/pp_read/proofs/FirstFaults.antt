-- Where the first fault of a text lies, from what is read of its sentences.
use Rattle.std.proofs.Common.{◌≡◌, ℕ, zero, suc, ◌<◌, ◌≤◌, Bool, true, false, ◌||◌, List, [], ◌∷◌, ◌++◌, length, take, Some, refl, ap, sym, ◌∙◌, subst, arith, inl, inr, ⊎_elim}
use Rattle.std.specs.Prelude.{◌⊎◌, slice_get}
use Rattle.std.specs.List.{list_any}
use Rattle.std.proofs.lemmas.Bool.{or_parts}
use Rattle.pp_language.specs.Sentences.{Ending, clean}
use Rattle.pp_language.specs.Words.{Word}
use Rattle.pp_language.specs.Statements.{Statement, is_query, Says}
use Rattle.pp_language.specs.Faults.{AllSay, EndInQuery, IsWrongAt, IsBehindQuery, NoQuery, IsFaultAt, IsFault}
use Rattle.pp_language.proofs.StatementParts.{says_once}
use Rattle.pp_read.specs.Programs.{AsksLast}

-- ===== one more sentence

pub say_push : (wss : List (List Word)) (i : ℕ) (ws : List Word) (ss : List Statement) (s : Statement) → slice_get wss i ≡ Some ws → AllSay (take i wss) ss → Says ws s → AllSay (take (suc i) wss) (ss ++ s ∷ [])
say_push [] i ws ss s e a h = absurd (cc)
say_push (vs ∷ wss) zero ws [] s e a h = let f : ws ≡ vs = cc in (subst (λ x. Says x s) f h, tt)
say_push (vs ∷ wss) zero ws (t ∷ ss) s e a h = absurd a
say_push (vs ∷ wss) (suc i) ws [] s e a h = absurd a
say_push (vs ∷ wss) (suc i) ws (t ∷ ss) s e a h = (a.0, say_push wss i ws ss s e a.1 h)

pub asks_push : (ss : List Statement) (s : Statement) → list_any is_query ss ≡ false → AsksLast (ss ++ s ∷ [])
asks_push [] s h = tt
asks_push (t ∷ []) s h = ((or_parts (is_query t) false h).0, tt)
asks_push (t ∷ u ∷ ss) s h = let o = or_parts (is_query t) (list_any is_query (u ∷ ss)) h in (o.0, asks_push (u ∷ ss) s o.1)

pub ends_in_query : (ss : List Statement) → AsksLast ss → list_any is_query ss ≡ true → EndInQuery ss
ends_in_query [] a h = absurd (cc)
ends_in_query (s ∷ []) a h = alone (is_query s) h
  where
    alone : (b : Bool) → (b || false) ≡ true → b ≡ true
    alone true k = refl
    alone false k = k
ends_in_query (s ∷ t ∷ ss) a h = (a.0, ends_in_query (t ∷ ss) a.1 (sym (ap (λ b. b || list_any is_query (t ∷ ss)) a.0) ∙ h))

-- ===== places

record HasQuery (ss : List Statement) : Type 0 where
  place : ℕ
  asker : Statement
  stands : slice_get ss place ≡ Some asker
  asks : is_query asker ≡ true

has_query : (ss : List Statement) → list_any is_query ss ≡ true → HasQuery ss
has_query [] h = absurd (cc)
has_query (s ∷ ss) h = pick (is_query s) refl (λ e. has_query ss (sym (ap (λ b. b || list_any is_query ss) e) ∙ h))
  where
    pick : (b : Bool) → is_query s ≡ b → (is_query s ≡ false → HasQuery ss) → HasQuery (s ∷ ss)
    pick true e f = record { place = 0; asker = s; stands = refl; asks = e }
    pick false e f = let r = f e in record { place = suc r.place; asker = r.asker; stands = r.stands; asks = r.asks }

record IsSaidAt (wss : List (List Word)) (i j : ℕ) (s : Statement) : Type 0 where
  sentence : List Word
  stands : slice_get wss j ≡ Some sentence
  says : Says sentence s
  before : j < i

said_at : (wss : List (List Word)) (i j : ℕ) (ss : List Statement) (s : Statement) → AllSay (take i wss) ss → slice_get ss j ≡ Some s → IsSaidAt wss i j s
said_at wss i j [] s a e = absurd (cc)
said_at wss zero j (t ∷ ss) s a e = absurd a
said_at [] (suc i) j (t ∷ ss) s a e = absurd a
said_at (ws ∷ wss) (suc i) zero (t ∷ ss) s a e = let f : t ≡ s = cc in record { sentence = ws; stands = refl; says = subst (Says ws) f a.0; before = omega arith }
said_at (ws ∷ wss) (suc i) (suc j) (t ∷ ss) s a e = let r = said_at wss i j ss s a.1 e in record { sentence = r.sentence; stands = r.stands; says = r.says; before = let b = r.before in omega arith }

record IsSaidBy (ss : List Statement) (j : ℕ) (ws : List Word) : Type 0 where
  statement : Statement
  stands : slice_get ss j ≡ Some statement
  says : Says ws statement

said_by : (wss : List (List Word)) (i j : ℕ) (ss : List Statement) (ws : List Word) → AllSay (take i wss) ss → j < i → slice_get wss j ≡ Some ws → IsSaidBy ss j ws
said_by wss zero j ss ws a l e = absurd (omega arith)
said_by [] (suc i) j ss ws a l e = absurd (cc)
said_by (vs ∷ wss) (suc i) j [] ws a l e = absurd a
said_by (vs ∷ wss) (suc i) zero (t ∷ ss) ws a l e = let f : vs ≡ ws = cc in record { statement = t; stands = refl; says = subst (λ x. Says x t) f a.0 }
said_by (vs ∷ wss) (suc i) (suc j) (t ∷ ss) ws a l e = let r = said_by wss i j ss ws a.1 (omega arith) e in record { statement = r.statement; stands = r.stands; says = r.says }

query_last : (ss : List Statement) (i : ℕ) (s : Statement) → AsksLast ss → slice_get ss i ≡ Some s → is_query s ≡ true → suc i ≡ length ss
query_last [] i s q e h = absurd (cc)
query_last (t ∷ []) zero s q e h = refl
query_last (t ∷ []) (suc i) s q e h = absurd (cc)
query_last (t ∷ u ∷ ss) zero s q e h = let f : t ≡ s = cc in let g : is_query s ≡ false = subst (λ x. is_query x ≡ false) f q.0 in absurd (cc (h, g))
query_last (t ∷ u ∷ ss) (suc i) s q e h = ap suc (query_last (u ∷ ss) i s q.1 e h)

say_more : (wss : List (List Word)) (i j : ℕ) (ss : List Statement) → AllSay (take i wss) ss → j < i → j < length wss → j < length ss
say_more wss zero j ss a l m = absurd (omega arith)
say_more [] (suc i) j ss a l m = absurd (omega arith)
say_more (ws ∷ wss) (suc i) j [] a l m = absurd a
say_more (ws ∷ wss) (suc i) zero (s ∷ ss) a l m = omega arith
say_more (ws ∷ wss) (suc i) (suc j) (s ∷ ss) a l m = let r = say_more wss i j ss a.1 (omega arith) (omega arith) in omega arith

no_query_in : (ss : List Statement) (i : ℕ) (s : Statement) → list_any is_query ss ≡ false → slice_get ss i ≡ Some s → is_query s ≡ false
no_query_in [] i s h e = absurd (cc)
no_query_in (t ∷ ss) zero s h e = let f : t ≡ s = cc in subst (λ x. is_query x ≡ false) f (or_parts (is_query t) (list_any is_query ss) h).0
no_query_in (t ∷ ss) (suc i) s h e = no_query_in ss i s (or_parts (is_query t) (list_any is_query ss) h).1 e

some_within : (wss : List (List Word)) (i : ℕ) (ws : List Word) → slice_get wss i ≡ Some ws → i < length wss
some_within [] i ws e = absurd (cc)
some_within (v ∷ wss) zero ws e = omega arith
some_within (v ∷ wss) (suc i) ws e = let l = some_within wss i ws e in omega arith

-- ===== faults

module _ (wss : List (List Word)) (i : ℕ) (ss : List Statement) (a : AllSay (take i wss) ss) (q : AsksLast ss) where
  -- the first i sentences are statements, and none but the last of them asks
  not_wrong : (j : ℕ) → j < i → IsWrongAt wss j → ⊥
  not_wrong j l w = let r = said_by wss i j ss w.sentence a l w.stands in w.wrong r.statement r.says

  not_behind : (j : ℕ) → j < i → IsBehindQuery wss j → ⊥
  not_behind j l b =
      let r = said_by wss i b.earlier ss b.sentence a (let m = b.before in omega arith) b.stands in
      let s : b.asks.0 ≡ r.statement = says_once b.sentence b.asks.0 r.statement b.asks.1 r.says in
      let e = query_last ss b.earlier r.statement q r.stands (subst (λ x. is_query x ≡ true) s b.asks.2) in
      let m = b.before in
      let n = say_more wss i j ss a l b.within in
      absurd (omega arith)

  pub none_earlier : (e : Ending) → i ≤ length wss → (j : ℕ) → j < suc i → IsFaultAt wss e j → ⊥
  none_earlier e l j m f = ⊎_elim (λ g. early g) (λ g. let h = g.0 in omega arith) f
    where
      early : (k : ℕ) × (j ≡ suc k) × (IsWrongAt wss k ⊎ IsBehindQuery wss k) → ⊥
      early g = let h = g.1 in ⊎_elim (λ w. not_wrong g.0 (omega arith) w) (λ b. not_behind g.0 (omega arith) b) g.2

  -- a sentence that is no statement
  pub wrong_fault : (ws : List Word) → slice_get wss i ≡ Some ws → ((s : Statement) → Says ws s → ⊥) → (e : Ending) → IsFault wss e (suc i)
  wrong_fault ws h n e = record {
    fault = inl (i, refl, inl (record { sentence = ws; stands = h; wrong = n }));
    first = none_earlier e (let l = some_within wss i ws h in omega arith);
  }

  -- a sentence behind the query
  pub behind_fault : list_any is_query ss ≡ true → i < length wss → (e : Ending) → IsFault wss e (suc i)
  behind_fault h l e =
      let r = has_query ss h in
      let s = said_at wss i r.place ss r.asker a r.stands in
      record {
        fault = inl (i, refl, inr (record { earlier = r.place; before = s.before; within = l; sentence = s.sentence; stands = s.stands; asks = (r.asker, s.says, r.asks) }));
        first = none_earlier e (omega arith);
      }

  -- the end of the text
  pub end_fault : i ≡ length wss → (e : Ending) → (e ≡ clean → ⊥) ⊎ (list_any is_query ss ≡ false) → IsFault wss e (suc (length wss))
  end_fault l e h = record {
    fault = inr (refl, ⊎_elim (λ n. inl n) (λ n. inr (no_query n)) h);
    first = λ j m f. none_earlier e (omega arith) j (omega arith) f;
  }
    where
      no_query : list_any is_query ss ≡ false → NoQuery wss
      no_query n k ws t s =
          let r = said_by wss i k ss ws a (let w = some_within wss k ws t in omega arith) t in
          let u : s.0 ≡ r.statement = says_once ws s.0 r.statement s.1 r.says in
          let x = no_query_in ss k r.statement n r.stands in
          let y : is_query r.statement ≡ true = subst (λ v. is_query v ≡ true) u s.2 in
          absurd (cc (x, y))
