-- The sentences of a text: its tokens up to each point, and what follows the last point.
use Rattle.std.specs.Prelude.{◌≡◌, ℕ, ◌≤◌, List, [], ◌∷◌, ◌++◌, length}
use Rattle.pp_language.specs.declared.token.Kind.TheVariants.{Point}
use Rattle.pp_language.specs.declared.token.Token.{Token}
use Rattle.pp_language.specs.Texts.{Text, part}
use Rattle.pp_language.specs.Tokens.{IsLastGap, AreTokensOf, IsBadAfter}

-- nothing follows but white space and comments; tokens follow and no point; a place was met where no token begins
pub data Ending : Type 0 where
  clean cut bad : Ending

abbrev pub NoPoint : List Token → Type 0
NoPoint [] = Unit {0}
NoPoint (t ∷ ts) = (t.kind ≡ Point → ⊥) × NoPoint ts

-- the tokens fall into these sentences, each ended by a point that it does not hold, and the tokens that are left
abbrev pub FallInto : List Token → List (List Token) → List Token → Type 0
FallInto ts [] left = (ts ≡ left) × NoPoint left
FallInto ts (s ∷ ss) left = (p : Token) × (p.kind ≡ Point) × (rest : List Token) × (ts ≡ s ++ p ∷ rest) × NoPoint s × FallInto rest ss left

-- how the text ends behind its last token, at place j
abbrev pub EndsAs : Text → ℕ → List Token → Ending → Type 0
EndsAs text j left clean = (left ≡ []) × IsLastGap (part text j (length text))
EndsAs text j left cut = (left ≡ [] → ⊥) × IsLastGap (part text j (length text))
EndsAs text j left bad = IsBadAfter text j

-- the text is these sentences, with this ending
pub record AreSentences (text : Text) (sentences : List (List Token)) (ending : Ending) : Type 0 where
  pub tokens : List Token
  pub last : ℕ
  pub left : List Token
  pub within : last ≤ length text
  pub are_tokens : AreTokensOf text 0 tokens last
  pub fall_into : FallInto tokens sentences left
  pub ends : EndsAs text last left ending
