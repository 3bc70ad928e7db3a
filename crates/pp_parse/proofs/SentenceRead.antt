-- Reading the parts of a sentence, word by word from the right.
use Rattle.std.proofs.Common.{◌≡◌, ℕ, zero, suc, ◌+◌, ◌<◌, Bool, true, false, List, [], ◌∷◌, length, take, drop, get_or, Option, Some, None, refl, ap, sym, ◌∙◌, subst, arith}
use Rattle.std.specs.Prelude.{option_and_then, MatchOption}
use Rattle.std.specs.declared.vec.Vec.{Vec}
use Rattle.std.specs.declared.alloc.Global.{Global}
use Rattle.std.proofs.lemmas.List.{drop_all, drop-map}
use Rattle.std.proofs.Math.Seq.{drop-cons}
use Rattle.pp_language.specs.declared.token.Token.{Token}
use Rattle.pp_language.specs.Texts.{Text, part}
use Rattle.pp_language.specs.Words.{Word, word, word_of}
use Rattle.pp_language.specs.Phrases as phrases
use Rattle.pp_language.specs.PartsOf.{State, state, step, whole, state_of, parts_of}
use Rattle.pp_language.specs.Phrases.{no_phrases}
use Rattle.pp_parse.specs.declared.parts.Part.{Part}
use Rattle.pp_parse.specs.declared.reading.Reading.{Reading}
use Rattle.pp_parse.specs.Words.{words_of, blanks_by, blanks_in}
use Rattle.pp_parse.specs.Parts.{AreParts, AreRead}
use Rattle.pp_parse.specs.Reading.{IsReading, Follows}
use Rattle.pp_parse.proofs.KnownTexts.{blanks_at}

pub words_length : (text : Text) (ts : List Token) → length (words_of text ts) ≡ length ts
words_length text [] = refl
words_length text (t ∷ ts) = ap suc (words_length text ts)

pub word_here : (text : Text) (ts : List Token) (j : ℕ) (d : Token) (written : Text) → j < length ts → written ≡ part text (get_or ts j d).first (get_or ts j d).last
    → drop j (words_of text ts) ≡ word (get_or ts j d).kind written ∷ drop (suc j) (words_of text ts)
word_here text ts j d written l e =
    drop-map (word_of text) j ts ∙ ap (words_of text) (drop-cons ts j d l)
    ∙ ap (λ bs. word (get_or ts j d).kind bs ∷ words_of text (drop (suc j) ts)) (sym e)
    ∙ ap (λ ws. word (get_or ts j d).kind written ∷ ws) (sym (drop-map (word_of text) (suc j) ts))

-- once the words behind are no state, no more words make one
none_before : (ws : List Word) (j : ℕ) → state_of (drop j ws) ≡ None → state_of ws ≡ None
none_before ws zero e = e
none_before [] (suc j) e = e
none_before (w ∷ ws) (suc j) e = ap (option_and_then (step w)) (none_before ws j e)

pub moved : (names named : List Text) (n m i j : ℕ) (s : State) (r : Reading) → n ≡ m → i ≡ j → IsReading names named n i s r → IsReading names named m j s r
moved names named n m i j s r e f h = subst (λ k. IsReading names named k j s r) e (subst (λ k. IsReading names named n k s r) f h)

pub answered : (names named : List Text) (n i : ℕ) (o : Option State) (a b : Bool) (r : Reading) → a ≡ b → Follows names named n i o a r → Follows names named n i o b r
answered names named n i o a b r e h = subst (λ k. Follows names named n i o k r) e h

-- the words from place i on are read
pub record ReadFrom (names named : List Text) (ws : List Word) (i next : ℕ) (r : Reading) : Type 0 where
  pub so_far : State
  pub read : state_of (drop i ws) ≡ Some so_far
  pub holds : IsReading names named next i so_far r
  pub counts : next ≡ length named + blanks_in (take i ws)

take_whole : (ws : List Word) → take (length ws) ws ≡ ws
take_whole [] = refl
take_whole (w ∷ ws) = ap (λ vs. w ∷ vs) (take_whole ws)

pub at_end : (names named : List Text) (ws : List Word) (i next : ℕ) (r : Reading) → i ≡ length ws → next ≡ length named + blanks_in ws → IsReading names named next i (state no_phrases [] []) r → ReadFrom names named ws i next r
at_end names named ws i next r e n h = record {
  so_far = state no_phrases [] [];
  read = ap state_of (drop_all i ws (omega arith));
  holds = h;
  counts = n ∙ ap (λ vs. length named + blanks_in vs) (sym (ap (λ k. take k ws) e ∙ take_whole ws));
}

module _ (names named : List Text) (ws : List Word) (j i : ℕ) (w : Word) (up : i ≡ suc j) (here : drop j ws ≡ w ∷ drop (suc j) ws) where
  stepped : (s : State) → state_of (drop i ws) ≡ Some s → state_of (drop j ws) ≡ step w s
  stepped s e = ap state_of here ∙ ap (λ k. option_and_then (step w) (state_of (drop k ws))) (sym up) ∙ ap (option_and_then (step w)) e

  pub goes_on : (next new : ℕ) (old r : Reading) (read : ReadFrom names named ws i next old) → new + blanks_by w.kind w.text ≡ next → Follows names named new j (step w read.so_far) true r → ReadFrom names named ws j new r
  goes_on next new old r read n f = pick (step w read.so_far) refl f
    where
      pick : (o : Option State) → step w read.so_far ≡ o → Follows names named new j o true r → ReadFrom names named ws j new r
      pick None e g = absurd (cc)
      pick (Some t) e g = record {
        so_far = t;
        read = stepped read.so_far read.read ∙ e;
        holds = g.1;
        counts = let b = blanks_at ws (drop (suc j) ws) w j here in let c = read.counts ∙ ap (λ k. length named + blanks_in (take k ws)) up in omega arith;
      }

  pub stops : (new next : ℕ) (old r : Reading) (read : ReadFrom names named ws i next old) → Follows names named new j (step w read.so_far) false r → parts_of ws ≡ None
  stops new next old r read f = pick (step w read.so_far) refl f
    where
      pick : (o : Option State) → step w read.so_far ≡ o → Follows names named new j o false r → parts_of ws ≡ None
      pick None e g = ap (option_and_then (λ s. whole s.arguments s.groups s.parts)) (none_before ws j (stepped read.so_far read.read ∙ e))
      pick (Some t) e g = absurd (let h = g.0 in cc)

module _ (names named : List Text) (ws : List Word) (next : ℕ) (r : Reading) (read : ReadFrom names named ws 0 next r) where
  all_read : (qs : List phrases.Part) (ps : List Part) → whole read.so_far.arguments read.so_far.groups read.so_far.parts ≡ Some qs → AreParts names named next 0 qs ps → AreRead names named ws ps
  all_read qs ps e a = record {
    parts = qs;
    read = ap (option_and_then (λ s. whole s.arguments s.groups s.parts)) read.read ∙ e;
    are = subst (λ n. AreParts names named n 0 qs ps) (read.counts ∙ omega arith) a;
  }

  none_read : whole read.so_far.arguments read.so_far.groups read.so_far.parts ≡ None → parts_of ws ≡ None
  none_read e = ap (option_and_then (λ s. whole s.arguments s.groups s.parts)) read.read ∙ e

  pub finished : (found : Option (Vec Part Global)) → MatchOption found (whole read.so_far.arguments read.so_far.groups read.so_far.parts ≡ None)
      (λ ps. (qs : List phrases.Part) × (whole read.so_far.arguments read.so_far.groups read.so_far.parts ≡ Some qs) × AreParts names named next 0 qs ps.items)
      → MatchOption found (parts_of ws ≡ None) (λ ps. AreRead names named ws ps.items)
  finished None h = none_read h
  finished (Some ps) h = all_read h.0 ps.items h.1 h.2

pub start_read : (names named : List Text) (ws : List Word) (i next : ℕ) (r : Reading) → i ≡ 0 → ReadFrom names named ws i next r → ReadFrom names named ws 0 next r
start_read names named ws i next r e h = subst (λ k. ReadFrom names named ws k next r) e h
