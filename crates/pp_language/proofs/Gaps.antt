-- Runs over gaps: over two parts of a text one after another, and where a run is broken.
use Rattle.std.proofs.Common.{◌≡◌, ℕ, ◌+◌, ◌<◌, ◌≤◌, [], ◌∷◌, ◌++◌, length, take, drop, get_or, refl, ap, ◌∙◌}
use Rattle.std.proofs.lemmas.List.{take_more}
use Rattle.pp_language.specs.Texts.{Text, part}
use Rattle.pp_language.specs.Tokens.{Gap, clear, broken, gap_step, gap_from, IsGap}
use Rattle.pp_language.proofs.Parts.{take-split, part-split}

pub gap_from-append : (g : Gap) (bs cs : Text) → gap_from g (bs ++ cs) ≡ gap_from (gap_from g bs) cs
gap_from-append g [] cs = refl
gap_from-append g (b ∷ bs) cs = gap_from-append (gap_step g b) bs cs

pub gap_from-broken : (bs : Text) → gap_from broken bs ≡ broken
gap_from-broken [] = refl
gap_from-broken (b ∷ bs) = gap_from-broken bs

pub gap_from-take_more : (g : Gap) (text : Text) (i d : ℕ) → i < length text → gap_from g (take (i + 1) text) ≡ gap_step (gap_from g (take i text)) (get_or text i d)
gap_from-take_more g text i d l = ap (gap_from g) (take_more text i d l) ∙ gap_from-append g (take i text) (get_or text i d ∷ [])

pub gap_from-take_add : (g : Gap) (text : Text) (i m : ℕ) → gap_from g (take (i + m) text) ≡ gap_from (gap_from g (take i text)) (take m (drop i text))
gap_from-take_add g text i m = ap (gap_from g) (take-split text i m) ∙ gap_from-append g (take i text) (take m (drop i text))

-- behind a gap the run begins anew
pub gap_from-part : (text : Text) (i j k : ℕ) → i ≤ j → j ≤ k → IsGap (part text i j) → gap_from clear (part text i k) ≡ gap_from clear (part text j k)
gap_from-part text i j k low high gap =
    ap (gap_from clear) (part-split text i j k low high)
    ∙ gap_from-append clear (part text i j) (part text j k)
    ∙ ap (λ g. gap_from g (part text j k)) gap
