-- The tokens of a text: at each place the longest one, with white space and comments between them.
use Rattle.std.specs.Prelude.{◌≡◌, ℕ, ◌<◌, ◌≤◌, Bool, true, false, IsTrue, cond, nat_eq, List, [], ◌∷◌, length}
use Rattle.pp_language.specs.declared.token.Kind.{Kind}
use Rattle.pp_language.specs.declared.token.Token.{Token}
use Rattle.pp_language.specs.Texts.{Text, is_white, part}
use Rattle.pp_language.specs.Kinds.{spells, has_form}

-- where a run over white space and comments stands: between tokens, in a comment from `%` to a line feed, behind the `/` that
-- may open a comment, in a comment from `/*` to `*/`, behind a `*` in such a comment, or at what is no white space and no comment
pub data Gap : Type 0 where
  clear in_line at_slash in_block at_star broken : Gap

abbrev pub after_clear : ℕ → Gap
after_clear b = cond (is_white b) clear (cond (nat_eq b 37) in_line (cond (nat_eq b 47) at_slash broken))

abbrev pub gap_step : Gap → ℕ → Gap
gap_step clear b = after_clear b
gap_step in_line b = cond (nat_eq b 10) clear in_line
gap_step at_slash b = cond (nat_eq b 42) in_block broken
gap_step in_block b = cond (nat_eq b 42) at_star in_block
gap_step at_star b = cond (nat_eq b 47) clear (cond (nat_eq b 42) at_star in_block)
gap_step broken b = broken

abbrev pub gap_from : Gap → Text → Gap
gap_from g [] = g
gap_from g (b ∷ bs) = gap_from (gap_step g b) bs

-- white space and whole comments
abbrev pub IsGap : Text → Type 0
IsGap bs = gap_from clear bs ≡ clear

-- at the end of the text a comment from `%` needs no line feed
abbrev pub ends_gap : Gap → Bool
ends_gap clear = true
ends_gap in_line = true
ends_gap at_slash = false
ends_gap in_block = false
ends_gap at_star = false
ends_gap broken = false

abbrev pub IsLastGap : Text → Type 0
IsLastGap bs = IsTrue (ends_gap (gap_from clear bs))

-- a token of the text: it is spelled as its kind, and nothing longer at its place has the form of a token. So an integer
-- out of range is no token, and none of its first digits is
pub record IsTokenOf (text : Text) (t : Token) : Type 0 where
  pub some : t.first < t.last
  pub within : t.last ≤ length text
  pub spelled : IsTrue (spells t.kind (part text t.first t.last))
  pub longest : (k : Kind) (j : ℕ) → t.last < j → j ≤ length text → has_form k (part text t.first j) ≡ false

-- these tokens stand from place i on, one after another, and the last one ends at place j
abbrev pub AreTokensOf : Text → ℕ → List Token → ℕ → Type 0
AreTokensOf text i [] j = i ≡ j
AreTokensOf text i (t ∷ ts) j = (i ≤ t.first) × IsGap (part text i t.first) × IsTokenOf text t × AreTokensOf text t.last ts j

-- behind a gap from place i on stands a place where neither white space, nor a comment, nor a token begins
pub record IsBadAfter (text : Text) (i : ℕ) : Type 0 where
  pub place : ℕ
  pub before : i ≤ place
  pub within : place < length text
  pub gap : IsGap (part text i place)
  pub no_gap : (j : ℕ) → place < j → j ≤ length text → IsGap (part text place j) → ⊥
  pub no_last_gap : IsLastGap (part text place (length text)) → ⊥
  pub no_token : (t : Token) → t.first ≡ place → IsTokenOf text t → ⊥
