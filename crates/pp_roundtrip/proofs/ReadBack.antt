-- A printed term is read as the same term.
use Rattle.std.proofs.Common.{◌≡◌, ℕ, zero, suc, ◌+◌, ◌≤◌, true, List, [], ◌∷◌, ◌++◌, map, length, take, drop, ◌-◌, refl, ap, sym, ◌∙◌, subst, arith, append_assoc, append-nil, length-append}
use Rattle.std.specs.Fmt.{decimal}
use Rattle.std.specs.Prelude.{codes}
use Rattle.std.proofs.Math.Seq.{drop-append_seam}
use Rattle.std.proofs.lemmas.List.{drop-drop, take-append-drop}
use Rattle.pp_algebra.specs.Terms.{Tree, int, node, variable}
use Rattle.pp_language.specs.declared.token.Kind.TheVariants.{Left}
use Rattle.pp_language.specs.declared.token.Token.{Token}
use Rattle.pp_language.specs.Texts.{Text, part}
use Rattle.pp_language.specs.Kinds.{value_of, spells}
use Rattle.pp_language.specs.Tokens.{clear, ends_gap, gap_from, IsGap, IsLastGap, AreTokensOf}
use Rattle.pp_language.specs.Words.{Word, word_of}
use Rattle.pp_language.specs.Phrases.{phrase_words}
use Rattle.pp_language.specs.Printing.{term_text}
use Rattle.pp_language.proofs.OneToken.{same_token}
use Rattle.pp_language.proofs.OneReading.{one_list}
use Rattle.pp_roundtrip.specs.Laws.{AreNames, IsOver, by_name, Mean, ends_tokens, EndsTerm, OpensNone, ReadAlone, ReadAmong, OwnNames}
use Rattle.pp_roundtrip.proofs.Spelled.{decimal-writes}
use Rattle.pp_roundtrip.proofs.WordTokens.{text_of, AreFirst, tokens_from, are_tokens, words_are}
use Rattle.pp_roundtrip.proofs.Phrased.{phrase_of, phrase_text, phrase_first, is_phrase-of, phrase_means}
use Rattle.pp_algebra.proofs.SameText.{same_text-is}

up_to : (text : Text) (i j : ℕ) (ts : List Token) → AreTokensOf text i ts j → i ≤ j
up_to text i j [] h = omega (arith, h)
up_to text i j (t ∷ ts) h = omega (arith, h.0, h.2.some, up_to text t.last j ts h.3)

-- tokens after others
tokens-append : (text : Text) (i j k : ℕ) (ts us : List Token) → AreTokensOf text i ts j → AreTokensOf text j us k → AreTokensOf text i (ts ++ us) k
tokens-append text i j k [] us h g = subst (λ n. AreTokensOf text n us k) (sym h) g
tokens-append text i j k (t ∷ ts) us h g = (h.0, h.1, h.2, tokens-append text t.last j k ts us h.3 g)

-- a list of tokens that goes on to place j and further begins with the tokens up to place j
pub record GoesOn (text : Text) (ts us : List Token) (j k : ℕ) : Type 0 where
  pub more : List Token
  pub whole : us ≡ ts ++ more
  pub are_tokens : AreTokensOf text j more k

goes_on : (text : Text) (i j k : ℕ) (ts us : List Token) → AreTokensOf text i ts j → AreTokensOf text i us k → j ≤ k → GoesOn text ts us j k
goes_on text i j k [] us h g l = record { more = us; whole = refl; are_tokens = subst (λ n. AreTokensOf text n us k) h g }
goes_on text i j k (t ∷ ts) [] h g l = absurd (omega (arith, g, h.0, h.2.some, up_to text t.last j ts h.3, l))
goes_on text i j k (t ∷ ts) (u ∷ us) h g l =
    let e = same_token text i u t g.0 h.0 g.1 h.1 g.2 h.2 in
    let r = goes_on text t.last j k ts us h.3 (subst (λ x. AreTokensOf text x.last us k) e g.3) l in
    record { more = r.more; whole = ap (λ x. x ∷ us) e ∙ ap (λ xs. t ∷ xs) r.whole; are_tokens = r.are_tokens }

-- white space and comments may stand in front of the first token
after_gap : (text : Text) (p i j : ℕ) (ws : List Word) → (ws ≡ [] → ⊥) → p ≤ i → IsGap (part text p i) → AreTokensOf text i (tokens_from i ws) j → AreTokensOf text p (tokens_from i ws) j
after_gap text p i j [] n l g h = absurd (n refl)
after_gap text p i j (w ∷ ws) n l g h = (l, g, h.2, h.3)

some_words : (names : List Text) (t : Tree ℕ) → phrase_words (phrase_of names t) ≡ [] → ⊥
some_words names (int n) e = cc e
some_words names (node f ts) e = cc e
some_words names (variable v) e = cc e

-- a text whose first bytes are only `(`
opening : (n : ℕ) (bs : Text) → take n bs ≡ 40 ∷ [] → (rest : Text) × (bs ≡ 40 ∷ rest)
opening zero bs e = absurd (cc e)
opening (suc n) [] e = absurd (cc e)
opening (suc n) (b ∷ bs) e = let f : b ≡ 40 = cc e in (bs, ap (λ c. c ∷ bs) f)

opens_none : (text behind : Text) (j k : ℕ) (ts : List Token) → EndsTerm behind → drop j text ≡ behind → AreTokensOf text j ts k → OpensNone ts
opens_none text behind j k [] ended left h = tt
opens_none text behind j k (t ∷ ts) ended left h = λ e.
    let n = t.first - j in
    let spelled : spells Left (part text t.first t.last) ≡ true = subst (λ x. spells x (part text t.first t.last) ≡ true) e h.2.spelled in
    let o = opening (t.last - t.first) (drop t.first text) (same_text-is (part text t.first t.last) (codes "(") spelled) in
    let place : j + n ≡ t.first = omega (arith, h.0) in
    let rest : drop n behind ≡ 40 ∷ o.0 = ap (drop n) (sym left) ∙ drop-drop n j text ∙ ap (λ m. drop m text) place ∙ o.1 in
    let gap : IsGap (take n behind) = subst (λ x. IsGap (take n x)) left h.1 in
    ended.no_arguments (take n behind) o.0 gap (sym (take-append-drop n behind) ∙ ap (λ x. take n behind ++ x) rest)

module _ (names : List Text) (known : AreNames names) (t : Tree ℕ) (over : IsOver names t) where
  abbrev pub words : List Word
  words = phrase_words (phrase_of names t)

  pub text_is : text_of words ≡ term_text names t
  text_is = ap text_of (sym (append-nil words)) ∙ phrase_text names known t [] over ∙ append-nil (term_text names t)

  pub first_is : (rest : Text) → ends_tokens rest ≡ true → AreFirst words rest
  first_is rest e = subst (λ ws. AreFirst ws rest) (append-nil words) (phrase_first names known t [] rest over e tt)

  module _ (text rest : Text) (i : ℕ) (within : i ≤ length text) (stands : drop i text ≡ term_text names t ++ rest) (ended : ends_tokens rest ≡ true) where
    stand : drop i text ≡ text_of words ++ rest
    stand = stands ∙ ap (λ x. x ++ rest) (sym text_is)

    pub words_of_text : map (word_of text) (tokens_from i words) ≡ words
    words_of_text = words_are text rest words i within stand (first_is rest ended)

    pub tokens_of_text : (j : ℕ) → i + length (term_text names t) ≡ j → AreTokensOf text i (tokens_from i words) j
    tokens_of_text j e = subst (AreTokensOf text i (tokens_from i words)) (ap (λ x. i + length x) text_is ∙ e) (are_tokens text rest words i within stand (first_is rest ended))

    pub mean : Mean names text (tokens_from i words) (by_name t)
    mean = record {
      phrase = phrase_of names t;
      words = words_of_text;
      is_phrase = is_phrase-of names known t over;
      means = λ n. phrase_means names known n t over;
    }

pub last_gap : (text : Text) → IsLastGap (part text (length text) (length text))
last_gap text = let e : length text - length text ≡ 0 = omega arith in ap (λ n. ends_gap (gap_from clear (take n (drop (length text) text)))) e

pub read_alone : ReadAlone
read_alone names t known over =
    let text = term_text names t in
    let stands : drop 0 text ≡ text ++ [] = sym (append-nil text) in
    let e : 0 + length text ≡ length text = omega arith in
    let tokens = tokens_of_text names known t over text [] 0 (omega arith) stands refl (length text) e in
    record {
      tokens = tokens_from 0 (words names known t over);
      are_tokens = tokens;
      only = λ us j h g. sym (one_list text (length text) j (tokens_from 0 (words names known t over)) us (last_gap text) g tokens h);
      mean = mean names known t over text [] 0 (omega arith) stands refl;
    }

pub read_among : ReadAmong
read_among names t before behind us known over ended upto =
    let text = before ++ term_text names t ++ behind in
    let i = length before in
    let j = length before + length (term_text names t) in
    let ws = words names known t over in
    let stands : drop i text ≡ term_text names t ++ behind = ap (drop i) (append_assoc before (term_text names t) behind) ∙ drop-append_seam before (term_text names t ++ behind) in
    let within : i ≤ length text = omega (arith, length-append (before ++ term_text names t) behind, length-append before (term_text names t)) in
    let left : drop j text ≡ behind = sym (drop-drop (length (term_text names t)) i text) ∙ ap (drop (length (term_text names t))) stands ∙ drop-append_seam (term_text names t) behind in
    let tokens : AreTokensOf text i (tokens_from i ws) j = tokens_of_text names known t over text behind i within stands ended.token j refl in
    let whole : AreTokensOf text 0 (us ++ tokens_from i ws) j = tokens-append text 0 upto.last j us (tokens_from i ws) upto.are_tokens (after_gap text upto.last i j ws (some_words names t) upto.within upto.gap tokens) in
    record {
      tokens = tokens_from i ws;
      are_tokens = whole;
      only = λ vs k h l. let r = goes_on text 0 j k (us ++ tokens_from i ws) vs whole h l in (r.more, r.whole, opens_none text behind j k r.more ended left r.are_tokens);
      mean = mean names known t over text behind i within stands ended.token;
    }

pub own_names : OwnNames
own_names v w l k e =
    let f : decimal v ≡ decimal w = cc in
    sym (decimal-writes v l).value ∙ ap (value_of 0) f ∙ (decimal-writes w k).value
