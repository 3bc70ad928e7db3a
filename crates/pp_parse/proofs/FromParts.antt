-- What is read of a sentence shows its parts: their first cells, their first words, and the name of the first.
use Rattle.std.proofs.Common.{◌≡◌, ℕ, suc, ◌+◌, List, [], ◌∷◌, ◌++◌, length, length-append, true, Some, ap, sym, subst, refl, ◌∙◌, append_assoc, arith}
use Rattle.std.specs.Prelude.{All, slice_get}
use Rattle.std.proofs.lemmas.Bool.{and_parts}
use Rattle.pp_algebra.specs.Canon.{has, place}
use Rattle.pp_row.specs.Cells.{head_of, cells_of}
use Rattle.pp_language.specs.declared.token.Kind.{Kind}
use Rattle.pp_language.specs.declared.token.Kind.TheVariants.{Atom, Quoted}
use Rattle.pp_language.specs.Texts.{Text}
use Rattle.pp_algebra.specs.Texts.{same_text}
use Rattle.pp_language.specs.Kinds.{unquoted}
use Rattle.pp_language.specs.Words.{Word, is_name_kind, atom_of}
use Rattle.pp_language.specs.Phrases as phrases
use Rattle.pp_language.specs.Phrases.{integer_phrase, variable_phrase, said, no_phrases, phrase_and, group_words, phrase_words, is_phrase, are_phrases, term_part, mark, part_words, parts_words}
use Rattle.pp_language.specs.PartsOf.{are_parts}
use Rattle.pp_language.specs.Meanings.{blanks, texts_by}
use Rattle.pp_language.proofs.PartsSpelled.{AreSpelled}
use Rattle.pp_parse.specs.declared.parts.Part.{Part}
use Rattle.pp_parse.specs.declared.parts.Part.TheVariants.{Term, Mark}
use Rattle.pp_parse.specs.Words.{texts_in}
use Rattle.pp_parse.specs.Terms.{term_of}
use Rattle.pp_parse.specs.Parts.{IsPart, AreParts, part_blanks}
use Rattle.pp_parse.specs.Seen.{ShowsFirst, IsSeen, AreSeen, first_word, IsBegun, AreBegun, IsNamed}
use Rattle.pp_parse.proofs.KnownTexts.{Known, all_first}
use Rattle.pp_parse.proofs.Spelled.{spelled_second, integer_legal}
use Rattle.pp_parse.proofs.ReadingLeaves.{terms-count}

-- ===== first cells

shows_term : (names named : List Text) (n : ℕ) (p : phrases.Phrase) (us : List Word) → AreSpelled (phrase_words p ++ us) → ShowsFirst p (slice_get (cells_of (term_of names named n p)) 0)
shows_term names named n (integer_phrase bs) us h = (refl, integer_legal bs h.0)
shows_term names named n (variable_phrase bs) us h = tt
shows_term names named n (said w no_phrases) us h = tt
shows_term names named n (said w (phrase_and p ps)) us h = ap suc (terms-count names named (n + blanks p) ps)

part_seen : (names named : List Text) (n i : ℕ) (q : phrases.Part) (p : Part) (us : List Word) → AreSpelled (part_words q ++ us) → IsPart names named n i q p → IsSeen q p
part_seen names named n i (term_part p) (Term t) us s h = subst (λ cs. ShowsFirst p (slice_get cs 0)) (sym h.0) (shows_term names named n p us s)
part_seen names named n i (term_part p) (Mark k) us s h = absurd h
part_seen names named n i (mark k) (Term t) us s h = absurd h
part_seen names named n i (mark k) (Mark l) us s h = h

pub parts_seen : (names named : List Text) (n i : ℕ) (qs : List phrases.Part) (ps : List Part) → AreSpelled (parts_words qs) → AreParts names named n i qs ps → AreSeen qs ps
parts_seen names named n i [] [] s h = tt
parts_seen names named n i [] (p ∷ ps) s h = absurd h
parts_seen names named n i (q ∷ qs) [] s h = absurd h
parts_seen names named n i (q ∷ qs) (p ∷ ps) s h =
    (part_seen names named n i q p (parts_words qs) s h.0, parts_seen names named (n + part_blanks q) (i + length (part_words q)) qs ps (spelled_second (part_words q) (parts_words qs) s) h.1)

-- ===== first words

get_middle : {X : Type 0} (xs : List X) (x : X) (ys : List X) → slice_get (xs ++ x ∷ ys) (length xs) ≡ Some x
get_middle [] x ys = refl
get_middle (y ∷ xs) x ys = get_middle xs x ys

first_of : (p : phrases.Phrase) → (us : List Word) × (phrase_words p ≡ first_word p ∷ us)
first_of (integer_phrase bs) = ([], refl)
first_of (variable_phrase bs) = ([], refl)
first_of (said w ps) = (group_words ps, refl)

part_begun : (names named : List Text) (n : ℕ) (ws : List Word) (q : phrases.Part) (p : Part) (us : List Word) → IsPart names named n (length ws) q p → IsBegun (ws ++ (part_words q ++ us)) q p
part_begun names named n ws (term_part p) (Term t) us h =
    let f = first_of p in
    ap (slice_get (ws ++ (phrase_words p ++ us))) h.1 ∙ ap (λ vs. slice_get (ws ++ (vs ++ us)) (length ws)) f.1 ∙ get_middle ws (first_word p) (f.0 ++ us)
part_begun names named n ws (term_part p) (Mark k) us h = absurd h
part_begun names named n ws (mark k) (Term t) us h = absurd h
part_begun names named n ws (mark k) (Mark l) us h = tt

pub parts_begun : (names named : List Text) (n : ℕ) (ws : List Word) (qs : List phrases.Part) (ps : List Part) → AreParts names named n (length ws) qs ps → AreBegun (ws ++ parts_words qs) qs ps
parts_begun names named n ws [] [] h = tt
parts_begun names named n ws [] (p ∷ ps) h = absurd h
parts_begun names named n ws (q ∷ qs) [] h = absurd h
parts_begun names named n ws (q ∷ qs) (p ∷ ps) h =
    let rest = subst (λ i. AreParts names named (n + part_blanks q) i qs ps) (sym (length-append ws (part_words q))) h.1 in
    let later = parts_begun names named (n + part_blanks q) (ws ++ part_words q) qs ps rest in
    (part_begun names named n ws q p (parts_words qs) h.0, subst (λ us. AreBegun us qs ps) (append_assoc ws (part_words q) (parts_words qs)) later)

-- ===== the name of the first part

first_name : (names : List Text) (k : Kind) (bs : Text) → is_name_kind k ≡ true → All (Known names) (texts_by k bs) → has same_text names (atom_of k bs) ≡ true
first_name names Atom bs e h = h 0 bs (omega arith)
first_name names Quoted bs e h = h 0 (unquoted bs) (omega arith)
first_name names k bs e h = absurd (cc (e))

pub first_named : (names named : List Text) (n i : ℕ) (qs : List phrases.Part) (ps : List Part) → are_parts qs ≡ true → All (Known names) (texts_in (parts_words qs)) → AreParts names named n i qs ps → IsNamed names qs ps
first_named names named n i [] ps f a h = tt
first_named names named n i (mark k ∷ qs) ps f a h = tt
first_named names named n i (term_part (integer_phrase bs) ∷ qs) ps f a h = tt
first_named names named n i (term_part (variable_phrase bs) ∷ qs) ps f a h = tt
first_named names named n i (term_part (said w us) ∷ qs) [] f a h = tt
first_named names named n i (term_part (said w us) ∷ qs) (Mark k ∷ ps) f a h = tt
first_named names named n i (term_part (said w us) ∷ qs) (Term t ∷ ps) f a h = (
  ap (λ cs. slice_get cs 0) h.0.0 ∙ ap (λ k. Some (head_of (place same_text names (atom_of w.kind w.text)) k)) (terms-count names named n us),
  first_name names w.kind w.text (and_parts (is_name_kind w.kind) (are_phrases us) (and_parts (is_phrase (said w us)) (are_parts qs) f).0).0
      (all_first (Known names) (texts_by w.kind w.text) (texts_in (group_words us ++ parts_words qs)) a),
)
