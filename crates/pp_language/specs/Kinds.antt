-- How each kind of token is spelled.
use Rattle.std.specs.Prelude.{ℕ, ◌+◌, ◌*◌, ◌-◌, Bool, true, false, not, ◌&&◌, ◌||◌, cond, nat_eq, nat_le, [], ◌∷◌, codes}
use Rattle.std.specs.List.{list_all}
use Rattle.pp_language.specs.declared.token.Kind.{Kind}
use Rattle.pp_language.specs.declared.token.Kind.TheVariants.{Integer, Atom, Quoted, Infers, Variable, Left, Right, OpenSquare, CloseSquare, Comma, Point, Range, Neck, Ask, Equals, InDomain, Less, AtMost, Equal, Differ}
use Rattle.pp_language.specs.Texts.{Text, is_between, is_digit, is_upper, is_lower, is_underscore, is_word}
use Rattle.pp_algebra.specs.Texts.{same_text}

-- the number that digits write
abbrev pub value_of : ℕ → Text → ℕ
value_of n [] = n
value_of n (b ∷ bs) = value_of (10 * n + (b - 48)) bs

abbrev pub are_digits : Text → Bool
are_digits [] = false
are_digits (b ∷ bs) = is_digit b && list_all is_digit bs

-- digits, with or without `-` directly before them; leading zeros are allowed
abbrev pub is_number_text : Text → Bool
is_number_text [] = false
is_number_text (b ∷ bs) = are_digits (b ∷ bs) || (nat_eq b 45 && are_digits bs)

-- the digits of a number, without its sign
abbrev pub digits_of : Text → Text
digits_of [] = []
digits_of (b ∷ bs) = cond (nat_eq b 45) bs (b ∷ bs)

abbrev pub greatest_size : ℕ
greatest_size = 1000000000000

-- a number from -1,000,000,000,000 to 1,000,000,000,000
abbrev pub is_integer_text : Text → Bool
is_integer_text bs = is_number_text bs && nat_le (value_of 0 (digits_of bs)) greatest_size

-- a byte that begins a number; one that begins a variable
abbrev pub begins_number : ℕ → Bool
begins_number b = is_digit b || nat_eq b 45

abbrev pub begins_variable : ℕ → Bool
begins_variable b = is_upper b || is_underscore b

-- a letter of the first kind, and then letters, digits and `_`
abbrev pub is_word_from : (ℕ → Bool) → Text → Bool
is_word_from begins [] = false
is_word_from begins (b ∷ bs) = begins b && list_all is_word bs

abbrev pub is_plain_atom : Text → Bool
is_plain_atom bs = is_word_from is_lower bs && not (same_text bs (codes "infers"))

abbrev pub is_variable_text : Text → Bool
is_variable_text bs = is_word_from (λ b. is_upper b || is_underscore b) bs

-- what stands between quotes as it is: not `'` and not `\`
abbrev pub is_plain_byte : ℕ → Bool
is_plain_byte b = is_between 32 126 b && not (nat_eq b 39) && not (nat_eq b 92)

-- the rest of a quoted atom: plain bytes and pairs of quotes, and the closing quote
abbrev mutual
  pub is_quoted_rest : Text → Bool
  is_quoted_rest [] = false
  is_quoted_rest (b ∷ bs) = (is_plain_byte b && is_quoted_rest bs) || (nat_eq b 39 && is_after_quote bs)

  -- behind a quote nothing comes, or the second quote of a pair and more
  pub is_after_quote : Text → Bool
  is_after_quote [] = true
  is_after_quote (b ∷ bs) = nat_eq b 39 && is_quoted_rest bs

abbrev pub is_quoted : Text → Bool
is_quoted [] = false
is_quoted (b ∷ bs) = nat_eq b 39 && is_quoted_rest bs

-- the text spells a token of this kind
abbrev pub spells : Kind → Text → Bool
spells Integer bs = is_integer_text bs
spells Atom bs = is_plain_atom bs
spells Quoted bs = is_quoted bs
spells Infers bs = same_text bs (codes "infers")
spells Variable bs = is_variable_text bs
spells Left bs = same_text bs (codes "(")
spells Right bs = same_text bs (codes ")")
spells OpenSquare bs = same_text bs (codes "[")
spells CloseSquare bs = same_text bs (codes "]")
spells Comma bs = same_text bs (codes ",")
spells Point bs = same_text bs (codes ".")
spells Range bs = same_text bs (codes "..")
spells Neck bs = same_text bs (codes ":-")
spells Ask bs = same_text bs (codes "?-")
spells Equals bs = same_text bs (codes "=")
spells InDomain bs = same_text bs (codes "::")
spells Less bs = same_text bs (codes "#<")
spells AtMost bs = same_text bs (codes "#=<")
spells Equal bs = same_text bs (codes "#=")
spells Differ bs = same_text bs (codes "#\\=")

-- the text has the form of this kind: a number of any size has the form of an integer
abbrev pub has_form : Kind → Text → Bool
has_form k bs = spells k bs || is_number_text bs

-- the text of the atom that a quoted atom writes, without its first quote: a pair stands for one quote
abbrev mutual
  pub unquoted_rest : Text → Text
  unquoted_rest [] = []
  unquoted_rest (b ∷ bs) = cond (nat_eq b 39) (unquoted_pair bs) (b ∷ unquoted_rest bs)

  pub unquoted_pair : Text → Text
  unquoted_pair [] = []
  unquoted_pair (b ∷ bs) = 39 ∷ unquoted_rest bs

abbrev pub unquoted : Text → Text
unquoted [] = []
unquoted (b ∷ bs) = unquoted_rest bs
