-- The tokens of words that stand one directly behind another in a text.
use Rattle.std.proofs.Common.{◌≡◌, ℕ, zero, suc, ◌+◌, ◌-◌, ◌<◌, ◌≤◌, true, false, List, [], ◌∷◌, ◌++◌, map, length, take, drop, refl, ap, sym, ◌∙◌, subst, arith, append_assoc, length-append, length-drop}
use Rattle.std.proofs.Math.Seq.{take-append_seam, take-append-add, drop-append_seam}
use Rattle.std.proofs.lemmas.List.{drop-drop}
use Rattle.pp_language.specs.declared.token.Kind.{Kind}
use Rattle.pp_language.specs.declared.token.Token.{Token}
use Rattle.pp_language.specs.Texts.{Text, part}
use Rattle.pp_language.specs.Kinds.{spells}
use Rattle.pp_language.specs.Tokens.{clear, gap_from, IsTokenOf, AreTokensOf}
use Rattle.pp_language.specs.Words.{Word, word, word_of}
use Rattle.pp_language.proofs.Forms.{any_form, has_form-none, spells-any}
use Rattle.pp_roundtrip.specs.Laws.{ends_tokens}
use Rattle.pp_roundtrip.proofs.Spelled.{Ends, ends-first}

abbrev pub text_of : List Word → Text
text_of [] = []
text_of (w ∷ ws) = w.text ++ text_of ws

-- in front of this text the word is a token
pub record IsFirst (w : Word) (rest : Text) : Type 0 where
  pub spelled : spells w.kind w.text ≡ true
  pub longest : (m : ℕ) → 0 < m → m ≤ length rest → any_form (w.text ++ take m rest) ≡ false

-- and each of these words is, in front of those behind it
abbrev pub AreFirst : List Word → Text → Type 0
AreFirst [] rest = Unit {0}
AreFirst (w ∷ ws) rest = IsFirst w (text_of ws ++ rest) × AreFirst ws rest

pub ended : (w : Word) (rest : Text) → spells w.kind w.text ≡ true → Ends w.text → ends_tokens rest ≡ true → IsFirst w rest
ended w rest h e s = record { spelled = h; longest = go rest w.text e s }
  where
    go : (rest x : Text) → Ends x → ends_tokens rest ≡ true → (m : ℕ) → 0 < m → m ≤ length rest → any_form (x ++ take m rest) ≡ false
    go [] x e s m low high = absurd (omega arith)
    go (b ∷ bs) x e s zero low high = absurd (omega arith)
    go (b ∷ bs) x e s (suc m) low high = e b (take m bs) (ends-first b bs s)

-- a word that no longer token begins with
pub alone : (w : Word) (rest : Text) → spells w.kind w.text ≡ true → ((b : ℕ) (bs : Text) → any_form (w.text ++ b ∷ bs) ≡ false) → IsFirst w rest
alone w rest h e = record { spelled = h; longest = go rest w.text e }
  where
    go : (rest x : Text) → ((b : ℕ) (bs : Text) → any_form (x ++ b ∷ bs) ≡ false) → (m : ℕ) → 0 < m → m ≤ length rest → any_form (x ++ take m rest) ≡ false
    go [] x e m low high = absurd (omega arith)
    go (b ∷ bs) x e zero low high = absurd (omega arith)
    go (b ∷ bs) x e (suc m) low high = e b (take m bs)

some_byte : (k : Kind) (x : Text) → spells k x ≡ true → 0 < length x
some_byte k [] h = let e : any_form [] ≡ true = spells-any k [] h in absurd (cc)
some_byte k (b ∷ bs) h = omega arith

-- ===== tokens

abbrev pub token_at : ℕ → Word → Token
token_at i w = record { kind = w.kind; first = i; last = i + length w.text }

abbrev pub tokens_from : ℕ → List Word → List Token
tokens_from i [] = []
tokens_from i (w ∷ ws) = token_at i w ∷ tokens_from (i + length w.text) ws

module _ (text rest : Text) (i : ℕ) (w : Word) (within : i ≤ length text) (stands : drop i text ≡ w.text ++ rest) where
  token_text : part text i (i + length w.text) ≡ w.text
  token_text =
      let e : (i + length w.text) - i ≡ length w.text = omega arith in
      ap (λ n. take n (drop i text)) e ∙ ap (take (length w.text)) stands ∙ take-append_seam w.text rest

  rest_length : length text - i ≡ length w.text + length rest
  rest_length = omega (arith, length-drop i text, ap length stands, length-append w.text rest)

  longer_text : (j : ℕ) → i + length w.text < j → part text i j ≡ w.text ++ take (j - (i + length w.text)) rest
  longer_text j low =
      let e : j - i ≡ length w.text + (j - (i + length w.text)) = omega arith in
      ap (λ n. take n (drop i text)) e ∙ ap (take (length w.text + (j - (i + length w.text)))) stands ∙ take-append-add w.text rest (j - (i + length w.text))

  is_token : IsFirst w rest → IsTokenOf text (token_at i w)
  is_token f = record {
    some = omega (arith, some_byte w.kind w.text f.spelled);
    within = omega (arith, rest_length);
    spelled = ap (spells w.kind) token_text ∙ f.spelled;
    longest = λ k j low high. has_form-none k (part text i j) (ap any_form (longer_text j low) ∙ f.longest (j - (i + length w.text)) (omega arith) (omega (arith, rest_length)));
  }

  is_word : word_of text (token_at i w) ≡ w
  is_word = ap (word w.kind) token_text

  stands_next : drop (i + length w.text) text ≡ rest
  stands_next = sym (drop-drop (length w.text) i text) ∙ ap (drop (length w.text)) stands ∙ drop-append_seam w.text rest

no_gap : (text : Text) (i : ℕ) → gap_from clear (part text i i) ≡ clear
no_gap text i = let e : i - i ≡ 0 = omega arith in ap (λ n. gap_from clear (take n (drop i text))) e

module _ (text rest : Text) where
  pub are_tokens : (ws : List Word) (i : ℕ) → i ≤ length text → drop i text ≡ text_of ws ++ rest → AreFirst ws rest → AreTokensOf text i (tokens_from i ws) (i + length (text_of ws))
  are_tokens [] i l s f = omega arith
  are_tokens (w ∷ ws) i l s f =
      let e : drop i text ≡ w.text ++ (text_of ws ++ rest) = s ∙ append_assoc w.text (text_of ws) rest in
      let t = is_token text (text_of ws ++ rest) i w l e f.0 in
      let n : i + length w.text + length (text_of ws) ≡ i + length (w.text ++ text_of ws) = omega (arith, length-append w.text (text_of ws)) in
      (omega arith, no_gap text i, t, subst (AreTokensOf text (i + length w.text) (tokens_from (i + length w.text) ws)) n (are_tokens ws (i + length w.text) t.within (stands_next text (text_of ws ++ rest) i w l e) f.1))

  pub words_are : (ws : List Word) (i : ℕ) → i ≤ length text → drop i text ≡ text_of ws ++ rest → AreFirst ws rest → map (word_of text) (tokens_from i ws) ≡ ws
  words_are [] i l s f = refl
  words_are (w ∷ ws) i l s f =
      let e : drop i text ≡ w.text ++ (text_of ws ++ rest) = s ∙ append_assoc w.text (text_of ws) rest in
      let t = is_token text (text_of ws ++ rest) i w l e f.0 in
      ap (λ v. v ∷ map (word_of text) (tokens_from (i + length w.text) ws)) (is_word text (text_of ws ++ rest) i w l e)
      ∙ ap (λ vs. w ∷ vs) (words_are ws (i + length w.text) t.within (stands_next text (text_of ws ++ rest) i w l e) f.1)
