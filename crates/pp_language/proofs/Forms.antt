-- Which texts have the form of a token, by their first byte.
use Rattle.std.proofs.Common.{◌≡◌, ℕ, zero, suc, Bool, true, false, ◌&&◌, ◌||◌, nat_eq, List, [], ◌∷◌, refl, sym, ◌∙◌, subst, lit<, arith}
use Rattle.std.specs.Prelude.{codes, All}
use Rattle.std.specs.List.{list_all, list_any}
use Rattle.std.proofs.lemmas.Bool.{and_left, or_from, or_parts, both_ways, false_from_ne_true, true_from_ne_false}
use Rattle.pp_language.specs.declared.token.Kind.{Kind}
use Rattle.pp_language.specs.declared.token.Kind.TheVariants.{Integer, Atom, Quoted, Infers, Variable, Left, Right, OpenSquare, CloseSquare, Comma, Point, Range, Neck, Ask, Equals, InDomain, Less, AtMost, Equal, Differ}
use Rattle.pp_language.specs.Texts.{Text, is_digit, is_lower, is_word}
use Rattle.pp_algebra.specs.Texts.{same_text}
use Rattle.pp_language.specs.Kinds.{are_digits, is_number_text, is_word_from, is_variable_text, is_quoted_rest, is_quoted, spells, has_form, begins_variable}
use Rattle.pp_language.proofs.Bytes.{mark_bytes, begins_mark, Begins, digit_begins, lower_begins, variable_begins, minus_begins, quote_begins}
use Rattle.pp_algebra.proofs.SameText.{same_text-is}
use Rattle.std.proofs.Math.Bool.{or-false}

-- the texts of the tokens that have only one
abbrev pub marks : List Text
marks = codes "(" ∷ codes ")" ∷ codes "[" ∷ codes "]" ∷ codes "," ∷ codes "." ∷ codes ".." ∷ codes ":-" ∷ codes "?-" ∷ codes "=" ∷ codes "::" ∷ codes "#<" ∷ codes "#=<" ∷ codes "#=" ∷ codes "#\\=" ∷ []

abbrev pub is_mark : Text → Bool
is_mark bs = list_any (same_text bs) marks

-- the text has the form of some kind of token
abbrev pub any_form : Text → Bool
any_form bs = is_number_text bs || is_word_from is_lower bs || is_quoted bs || is_variable_text bs || is_mark bs

list_any-false : {A : Type 0} (f : A → Bool) (xs : List A) → list_any f xs ≡ false → All (λ x. f x ≡ false) xs
list_any-false f [] h k d l = absurd (omega arith)
list_any-false f (x ∷ xs) h zero d l = (or_parts (f x) (list_any f xs) h).0
list_any-false f (x ∷ xs) h (suc k) d l = list_any-false f xs (or_parts (f x) (list_any f xs) h).1 k d (omega arith)

record NoForm (bs : Text) : Type 0 where
  number : is_number_text bs ≡ false
  lower : is_word_from is_lower bs ≡ false
  quoted : is_quoted bs ≡ false
  variable : is_variable_text bs ≡ false
  mark : All (λ m. same_text bs m ≡ false) marks

no_form : (bs : Text) → any_form bs ≡ false → NoForm bs
no_form bs h =
    let p = or_parts (is_number_text bs || is_word_from is_lower bs || is_quoted bs || is_variable_text bs) (is_mark bs) h in
    let q = or_parts (is_number_text bs || is_word_from is_lower bs || is_quoted bs) (is_variable_text bs) p.0 in
    let r = or_parts (is_number_text bs || is_word_from is_lower bs) (is_quoted bs) q.0 in
    let s = or_parts (is_number_text bs) (is_word_from is_lower bs) r.0 in
    record {
      number = s.0;
      lower = s.1;
      quoted = r.1;
      variable = q.1;
      mark = list_any-false (same_text bs) marks p.1;
    }

no_infers : (bs : Text) → is_word_from is_lower bs ≡ false → same_text bs (codes "infers") ≡ false
no_infers bs h = false_from_ne_true _ (λ e. both_ways _ h (subst (λ t. is_word_from is_lower t ≡ true) (sym (same_text-is bs (codes "infers") e)) refl))

spells-none : (k : Kind) (bs : Text) → NoForm bs → spells k bs ≡ false
spells-none Integer bs h = and_left (is_number_text bs) _ h.number
spells-none Atom bs h = and_left (is_word_from is_lower bs) _ h.lower
spells-none Quoted bs h = h.quoted
spells-none Infers bs h = no_infers bs h.lower
spells-none Variable bs h = h.variable
spells-none Left bs h = h.mark 0 [] (lit< tt)
spells-none Right bs h = h.mark 1 [] (lit< tt)
spells-none OpenSquare bs h = h.mark 2 [] (lit< tt)
spells-none CloseSquare bs h = h.mark 3 [] (lit< tt)
spells-none Comma bs h = h.mark 4 [] (lit< tt)
spells-none Point bs h = h.mark 5 [] (lit< tt)
spells-none Range bs h = h.mark 6 [] (lit< tt)
spells-none Neck bs h = h.mark 7 [] (lit< tt)
spells-none Ask bs h = h.mark 8 [] (lit< tt)
spells-none Equals bs h = h.mark 9 [] (lit< tt)
spells-none InDomain bs h = h.mark 10 [] (lit< tt)
spells-none Less bs h = h.mark 11 [] (lit< tt)
spells-none AtMost bs h = h.mark 12 [] (lit< tt)
spells-none Equal bs h = h.mark 13 [] (lit< tt)
spells-none Differ bs h = h.mark 14 [] (lit< tt)

-- what has no form has the form of no kind
pub has_form-none : (k : Kind) (bs : Text) → any_form bs ≡ false → has_form k bs ≡ false
has_form-none k bs h = let n = no_form bs h in or_from (spells k bs) (is_number_text bs) (spells-none k bs n) n.number

pub spells-any : (k : Kind) (bs : Text) → spells k bs ≡ true → any_form bs ≡ true
spells-any k bs h = true_from_ne_false (any_form bs) (λ f. both_ways _ (spells-none k bs (no_form bs f)) h)

-- the form of a text by its first byte
abbrev shape : (digit minus lower quote variable mark digits number word rest : Bool) → Bool
shape digit minus lower quote variable mark digits number word rest =
    ((digit && digits) || (minus && number)) || (lower && word) || (quote && rest) || (variable && word) || mark

shape_at : (d m l q v k d' m' l' q' v' k' ds ns ws rs : Bool) → d ≡ d' → m ≡ m' → l ≡ l' → q ≡ q' → v ≡ v' → k ≡ k' → shape d m l q v k ds ns ws rs ≡ shape d' m' l' q' v' k' ds ns ws rs
shape_at d m l q v k d' m' l' q' v' k' ds ns ws rs e1 e2 e3 e4 e5 e6 = cc

is_mark-none : (b : ℕ) (bs : Text) → begins_mark b ≡ false → is_mark (b ∷ bs) ≡ false
is_mark-none b bs h =
    let at = list_any-false (nat_eq b) mark_bytes h in
    simp (at 0 0 (lit< tt), at 1 0 (lit< tt), at 2 0 (lit< tt), at 3 0 (lit< tt), at 4 0 (lit< tt), at 5 0 (lit< tt), at 6 0 (lit< tt), at 7 0 (lit< tt), at 8 0 (lit< tt), at 9 0 (lit< tt))

form_begins : {d m l q v : Bool} (b : ℕ) (bs : Text) → Begins d m l q v false b → any_form (b ∷ bs) ≡ shape d m l q v false (list_all is_digit bs) (are_digits bs) (list_all is_word bs) (is_quoted_rest bs)
form_begins b bs g = shape_at _ _ _ _ _ _ _ _ _ _ _ _ (list_all is_digit bs) (are_digits bs) (list_all is_word bs) (is_quoted_rest bs) g.number_is g.minus_is g.lower_is g.quote_is g.variable_is (is_mark-none b bs g.mark_is)

pub form_of_digit : (b : ℕ) (bs : Text) → is_digit b ≡ true → any_form (b ∷ bs) ≡ list_all is_digit bs
form_of_digit b bs h = form_begins b bs (digit_begins b h) ∙ simp or-false

pub form_of_minus : (bs : Text) → any_form (45 ∷ bs) ≡ are_digits bs
form_of_minus bs = form_begins 45 bs minus_begins ∙ simp or-false

pub form_of_lower : (b : ℕ) (bs : Text) → is_lower b ≡ true → any_form (b ∷ bs) ≡ list_all is_word bs
form_of_lower b bs h = form_begins b bs (lower_begins b h) ∙ simp or-false

pub form_of_quote : (bs : Text) → any_form (39 ∷ bs) ≡ is_quoted_rest bs
form_of_quote bs = form_begins 39 bs quote_begins ∙ simp or-false

pub form_of_variable : (b : ℕ) (bs : Text) → begins_variable b ≡ true → any_form (b ∷ bs) ≡ list_all is_word bs
form_of_variable b bs h = form_begins b bs (variable_begins b h) ∙ simp or-false

pub form_of_other : (b : ℕ) (bs : Text) → Begins false false false false false false b → any_form (b ∷ bs) ≡ false
form_of_other b bs g = form_begins b bs g
