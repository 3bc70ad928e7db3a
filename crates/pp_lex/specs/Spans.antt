-- Spans one behind another.
use Rattle.std.specs.Prelude.{ℕ, ◌<◌, ◌≤◌, List, [], ◌∷◌}
use Rattle.pp_language.specs.declared.token.Token.{Token}

-- the tokens stand from place i to place j, each one behind the one before it
abbrev pub AreSpans : ℕ → List Token → ℕ → Type 0
AreSpans i [] j = i ≤ j
AreSpans i (t ∷ ts) j = (i ≤ t.first) × (t.first < t.last) × AreSpans t.last ts j
