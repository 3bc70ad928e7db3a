-- The token that a term begins with, and atoms without arguments.
use Rattle.std.proofs.Common.{◌≡◌, ℕ, zero, suc, ◌<◌, Bool, true, false, List, [], ◌∷◌, length, drop, get_or, Option, Some, None, refl, ap, sym, subst, ◌∙◌}
use Rattle.std.specs.Prelude.{cond, slice_get, option_map}
use Rattle.std.proofs.lemmas.List.{length-map}
use Rattle.std.proofs.lemmas.Option.{slice_get_within, slice_get-map, slice_get-get_or, same_Some}
use Rattle.pp_row.specs.declared.cell.Cell.{Cell}
use Rattle.pp_row.specs.declared.cell.Cell.TheVariants.{Int, Atom, Compound, Var}
use Rattle.pp_language.specs.declared.token.Token.{Token}
use Rattle.pp_language.specs.Texts.{Text}
use Rattle.pp_language.specs.Words.{Word, word_of}
use Rattle.pp_language.specs.Phrases as phrases
use Rattle.pp_language.specs.Phrases.{integer_phrase, variable_phrase, said, no_phrases, phrase_and, term_part, mark}
use Rattle.pp_parse.specs.declared.parts.Part.{Part}
use Rattle.pp_parse.specs.declared.parts.Part.TheVariants.{Term, Mark}
use Rattle.pp_parse.specs.declared.parts.Phrase.{Phrase}
use Rattle.pp_parse.specs.Words.{words_of}
use Rattle.pp_parse.specs.Seen.{ShowsFirst, ShowsIn, first_word, AreSeen, AreBegun, is_atom}
use Rattle.pp_language.specs.Fronts.{plain_text, atom_in}

-- the term at a place is one of the sentence, and its token is the first word of it
begun_at : (ws : List Word) (qs : List phrases.Part) (ps : List Part) (i : ℕ) (t : Phrase) → AreSeen qs ps → AreBegun ws qs ps → slice_get ps i ≡ Some (Term t)
    → (p : phrases.Phrase) × (drop i qs ≡ term_part p ∷ drop 1 (drop i qs)) × (slice_get ws t.first ≡ Some (first_word p))
begun_at ws [] [] i t s b e = absurd (cc)
begun_at ws [] (p ∷ ps) i t s b e = absurd s
begun_at ws (q ∷ qs) [] i t s b e = absurd s
begun_at ws (term_part p ∷ qs) (Term u ∷ ps) zero t s b e =
    let f : u ≡ t = cc (e) in (p, refl, ap (λ v. slice_get ws v.first) (sym f) ∙ b.0)
begun_at ws (term_part p ∷ qs) (Mark k ∷ ps) zero t s b e = absurd s.0
begun_at ws (mark h ∷ qs) (Term u ∷ ps) zero t s b e = absurd s.0
begun_at ws (mark h ∷ qs) (Mark k ∷ ps) zero t s b e = absurd (cc (e))
begun_at ws (q ∷ qs) (p ∷ ps) (suc i) t s b e = begun_at ws qs ps i t s.1 b.1 e

-- the token at the place of a word
token_of_word : (text : Text) (ts : List Token) (n : ℕ) (w : Word) → slice_get (words_of text ts) n ≡ Some w → (n < length ts) × ((d : Token) → word_of text (get_or ts n d) ≡ w)
token_of_word text ts n w e =
    let l : n < length ts = subst (λ k. n < k) (length-map ts (word_of text)) (slice_get_within (words_of text ts) n w e) in
    (l, λ d. same_Some (word_of text (get_or ts n d)) w (ap (option_map (word_of text)) (sym (slice_get-get_or ts n d l)) ∙ sym (slice_get-map (word_of text) ts n) ∙ e))

-- a term and the token that it begins with
pub term_token : (text : Text) (ts : List Token) (qs : List phrases.Part) (ps : List Part) (i : ℕ) (t : Phrase) → AreSeen qs ps → AreBegun (words_of text ts) qs ps → slice_get ps i ≡ Some (Term t)
    → (p : phrases.Phrase) × (drop i qs ≡ term_part p ∷ drop 1 (drop i qs)) × (t.first < length ts) × ((d : Token) → word_of text (get_or ts t.first d) ≡ first_word p)
term_token text ts qs ps i t s b e =
    let p = begun_at (words_of text ts) qs ps i t s b e in
    let l = token_of_word text ts t.first (first_word p.0) p.2 in
    (p.0, p.1, l.0, l.1)

atom_shown : (p : phrases.Phrase) (qs : List phrases.Part) (c : Option Cell) → ShowsFirst p c → atom_in (term_part p ∷ qs) ≡ cond (is_atom c) (plain_text (first_word p).kind (first_word p).text) None
atom_shown p qs None h = absurd h
atom_shown (integer_phrase bs) qs (Some (Int n)) h = refl
atom_shown (variable_phrase bs) qs (Some (Var v)) h = refl
atom_shown (said w no_phrases) qs (Some (Atom f)) h = refl
atom_shown (said w (phrase_and p ps)) qs (Some (Compound f k)) h = refl
atom_shown p qs (Some c) h = absurd h

module _ (ps qs : List phrases.Part) (p : phrases.Phrase) (front : ps ≡ term_part p ∷ qs) (cs : List Cell) (shows : ShowsIn ps cs) where
  atom_front : (b : Bool) → b ≡ is_atom (slice_get cs 0) → atom_in ps ≡ cond b (plain_text (first_word p).kind (first_word p).text) None
  atom_front b e =
      ap atom_in front ∙ atom_shown p qs (slice_get cs 0) (let S : List phrases.Part → Type 0 = λ us. ShowsIn us cs in subst S front shows)
      ∙ ap (λ x. cond x (plain_text (first_word p).kind (first_word p).text) None) (sym e)

  pub atom_alone : true ≡ is_atom (slice_get cs 0) → atom_in ps ≡ plain_text (first_word p).kind (first_word p).text
  atom_alone = atom_front true

  pub no_atom : false ≡ is_atom (slice_get cs 0) → atom_in ps ≡ None
  no_atom = atom_front false
