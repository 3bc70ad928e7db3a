-- Texts as lists of bytes: which bytes are letters, digits or white space, and parts of a text.
use Rattle.std.specs.Prelude.{ℕ, ◌-◌, Bool, ◌&&◌, ◌||◌, nat_eq, nat_le, List, take, drop}

abbrev pub Text : Type 0
Text = List ℕ

abbrev pub is_between : ℕ → ℕ → ℕ → Bool
is_between low high b = nat_le low b && nat_le b high

abbrev pub is_digit : ℕ → Bool
is_digit b = is_between 48 57 b

abbrev pub is_upper : ℕ → Bool
is_upper b = is_between 65 90 b

abbrev pub is_lower : ℕ → Bool
is_lower b = is_between 97 122 b

abbrev pub is_underscore : ℕ → Bool
is_underscore b = nat_eq b 95

-- a letter, a digit or `_`
abbrev pub is_word : ℕ → Bool
is_word b = is_lower b || is_upper b || is_digit b || is_underscore b

-- space, tab, line feed, carriage return
abbrev pub is_white : ℕ → Bool
is_white b = nat_eq b 32 || nat_eq b 9 || nat_eq b 10 || nat_eq b 13

-- the bytes from place i up to but not including place j
abbrev pub part : Text → ℕ → ℕ → Text
part text i j = take (j - i) (drop i text)
