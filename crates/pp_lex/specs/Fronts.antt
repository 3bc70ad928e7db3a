-- The token that a text begins with.
use Rattle.std.specs.Prelude.{◌≡◌, ℕ, ◌<◌, ◌≤◌, Bool, false, not, IsTrue, ◌&&◌, nat_eq, length, take}
use Rattle.pp_language.specs.declared.token.Kind.{Kind}
use Rattle.pp_language.specs.Texts.{Text, is_lower}
use Rattle.pp_language.specs.Kinds.{is_quoted_rest, spells, has_form, begins_number, begins_variable}

-- the first n bytes of the text are a token of kind k
pub record IsFront (text : Text) (k : Kind) (n : ℕ) : Type 0 where
  pub some : 0 < n
  pub within : n ≤ length text
  pub spelled : IsTrue (spells k (take n text))
  pub longest : (h : Kind) (m : ℕ) → n < m → m ≤ length text → has_form h (take m text) ≡ false

-- the text begins with no token
abbrev pub HasNoFront : Text → Type 0
HasNoFront text = (k : Kind) (n : ℕ) → IsFront text k n → ⊥

-- the first n bytes are the longest rest of a quoted atom, behind its first quote
pub record IsLongestRest (text : Text) (n : ℕ) : Type 0 where
  pub within : n ≤ length text
  pub spelled : IsTrue (is_quoted_rest (take n text))
  pub longest : (m : ℕ) → n < m → m ≤ length text → is_quoted_rest (take m text) ≡ false

abbrev pub HasNoRest : Text → Type 0
HasNoRest text = (m : ℕ) → m ≤ length text → is_quoted_rest (take m text) ≡ false

-- a byte that begins no number, no variable and no atom
abbrev pub begins_other : ℕ → Bool
begins_other b = not (begins_number b) && not (is_lower b) && not (begins_variable b) && not (nat_eq b 39)
