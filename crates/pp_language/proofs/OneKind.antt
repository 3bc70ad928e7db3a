-- A text spells a token of one kind at most.
use Rattle.std.proofs.Common.{◌≡◌, ℕ, true, not, ◌&&◌, cond, nat_eq, [], ◌∷◌, refl, sym, ◌∙◌, subst, ⊎_elim}
use Rattle.std.specs.Prelude.{codes}
use Rattle.std.specs.List.{list_all}
use Rattle.std.proofs.lemmas.Bool.{and_parts, or_cases, or_from, or_left, or_right, eqb-true, not-true, cond-true, cond-false}
use Rattle.pp_language.specs.declared.token.Kind.{Kind}
use Rattle.pp_language.specs.declared.token.Kind.TheVariants.{Integer, Atom, Quoted, Infers, Variable, Left, Right, OpenSquare, CloseSquare, Comma, Point, Range, Neck, Ask, Equals, InDomain, Less, AtMost, Equal, Differ}
use Rattle.pp_language.specs.Texts.{Text, is_digit, is_lower, is_word}
use Rattle.pp_algebra.specs.Texts.{same_text}
use Rattle.pp_language.specs.Kinds.{are_digits, is_number_text, is_word_from, is_quoted_rest, spells, begins_number, begins_variable}
use Rattle.pp_language.proofs.Bytes.{lower_begins, variable_begins}
use Rattle.pp_algebra.proofs.SameText.{same_text-is}

mark_kind : Text → Kind
mark_kind bs =
    cond (same_text bs (codes "(")) Left (cond (same_text bs (codes ")")) Right (cond (same_text bs (codes "[")) OpenSquare (cond (same_text bs (codes "]")) CloseSquare
    (cond (same_text bs (codes ",")) Comma (cond (same_text bs (codes ".")) Point (cond (same_text bs (codes "..")) Range (cond (same_text bs (codes ":-")) Neck
    (cond (same_text bs (codes "?-")) Ask (cond (same_text bs (codes "=")) Equals (cond (same_text bs (codes "::")) InDomain (cond (same_text bs (codes "#<")) Less
    (cond (same_text bs (codes "#=<")) AtMost (cond (same_text bs (codes "#=")) Equal Differ)))))))))))))

-- the kind of a token's text
kind_of : Text → Kind
kind_of [] = Point
kind_of (b ∷ bs) =
    cond (begins_number b) Integer
    (cond (is_lower b) (cond (same_text (b ∷ bs) (codes "infers")) Infers Atom)
    (cond (nat_eq b 39) Quoted
    (cond (begins_variable b) Variable
    (mark_kind (b ∷ bs)))))

pub begins_if_number : (b : ℕ) (bs : Text) → is_number_text (b ∷ bs) ≡ true → begins_number b ≡ true
begins_if_number b bs h = ⊎_elim
    (λ e. or_left (is_digit b) (nat_eq b 45) (and_parts (is_digit b) (list_all is_digit bs) e).0)
    (λ e. or_right (is_digit b) (nat_eq b 45) (and_parts (nat_eq b 45) (are_digits bs) e).0)
    (or_cases (are_digits (b ∷ bs)) (nat_eq b 45 && are_digits bs) h)

number_is : (bs : Text) → is_number_text bs ≡ true → kind_of bs ≡ Integer
unfolding kind_of
number_is [] h = cc
number_is (b ∷ bs) h = cond-true (begins_number b) _ _ (begins_if_number b bs h)

kind_is : (k : Kind) (bs : Text) → spells k bs ≡ true → kind_of bs ≡ k
unfolding kind_of mark_kind
kind_is Integer bs h = number_is bs (and_parts (is_number_text bs) _ h).0
kind_is Atom [] h = cc
kind_is Atom (b ∷ bs) h =
    let p = and_parts (is_word_from is_lower (b ∷ bs)) (not (same_text (b ∷ bs) (codes "infers"))) h in
    let l = (and_parts (is_lower b) (list_all is_word bs) p.0).0 in
    let g = lower_begins b l in
    cond-false (begins_number b) _ _ (or_from (is_digit b) (nat_eq b 45) g.number_is g.minus_is)
    ∙ cond-true (is_lower b) _ _ l
    ∙ cond-false (same_text (b ∷ bs) (codes "infers")) _ _ (not-true _ p.1)
kind_is Quoted [] h = cc
kind_is Quoted (b ∷ bs) h = subst (λ c. kind_of (c ∷ bs) ≡ Quoted) (sym (eqb-true b 39 (and_parts (nat_eq b 39) (is_quoted_rest bs) h).0)) refl
kind_is Variable [] h = cc
kind_is Variable (b ∷ bs) h =
    let v = (and_parts (begins_variable b) (list_all is_word bs) h).0 in
    let g = variable_begins b v in
    cond-false (begins_number b) _ _ (or_from (is_digit b) (nat_eq b 45) g.number_is g.minus_is)
    ∙ cond-false (is_lower b) _ _ g.lower_is
    ∙ cond-false (nat_eq b 39) _ _ g.quote_is
    ∙ cond-true (begins_variable b) _ _ v
kind_is Infers bs h = subst (λ t. kind_of t ≡ Infers) (sym (same_text-is bs (codes "infers") h)) refl
kind_is Left bs h = subst (λ t. kind_of t ≡ Left) (sym (same_text-is bs (codes "(") h)) refl
kind_is Right bs h = subst (λ t. kind_of t ≡ Right) (sym (same_text-is bs (codes ")") h)) refl
kind_is OpenSquare bs h = subst (λ t. kind_of t ≡ OpenSquare) (sym (same_text-is bs (codes "[") h)) refl
kind_is CloseSquare bs h = subst (λ t. kind_of t ≡ CloseSquare) (sym (same_text-is bs (codes "]") h)) refl
kind_is Comma bs h = subst (λ t. kind_of t ≡ Comma) (sym (same_text-is bs (codes ",") h)) refl
kind_is Point bs h = subst (λ t. kind_of t ≡ Point) (sym (same_text-is bs (codes ".") h)) refl
kind_is Range bs h = subst (λ t. kind_of t ≡ Range) (sym (same_text-is bs (codes "..") h)) refl
kind_is Neck bs h = subst (λ t. kind_of t ≡ Neck) (sym (same_text-is bs (codes ":-") h)) refl
kind_is Ask bs h = subst (λ t. kind_of t ≡ Ask) (sym (same_text-is bs (codes "?-") h)) refl
kind_is Equals bs h = subst (λ t. kind_of t ≡ Equals) (sym (same_text-is bs (codes "=") h)) refl
kind_is InDomain bs h = subst (λ t. kind_of t ≡ InDomain) (sym (same_text-is bs (codes "::") h)) refl
kind_is Less bs h = subst (λ t. kind_of t ≡ Less) (sym (same_text-is bs (codes "#<") h)) refl
kind_is AtMost bs h = subst (λ t. kind_of t ≡ AtMost) (sym (same_text-is bs (codes "#=<") h)) refl
kind_is Equal bs h = subst (λ t. kind_of t ≡ Equal) (sym (same_text-is bs (codes "#=") h)) refl
kind_is Differ bs h = subst (λ t. kind_of t ≡ Differ) (sym (same_text-is bs (codes "#\\=") h)) refl

pub same_kind : (k h : Kind) (bs : Text) → spells k bs ≡ true → spells h bs ≡ true → k ≡ h
same_kind k h bs p q = sym (kind_is k bs p) ∙ kind_is h bs q

pub number_kind : (k : Kind) (bs : Text) → is_number_text bs ≡ true → spells k bs ≡ true → k ≡ Integer
number_kind k bs n h = sym (kind_is k bs h) ∙ number_is bs n
