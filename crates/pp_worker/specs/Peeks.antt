-- The peeks of a desk, one by one, and where a task comes from.
use Rattle.std.specs.Prelude.{◌≡◌, ◌⊎◌, List, [], ◌∷◌, ◌++◌, map}
use Rattle.pp_deal.specs.Hands.{IsSamePeek, stolen, taken}
use Rattle.pp_deal.specs.declared.hand.Hand.{Hand}
use Rattle.pp_deal.specs.declared.hand.Peek.{Peek}

module _ {T : Type 0} where
  -- as many peeks, each at the same deque
  abbrev pub AreSamePeeks : List (Peek T) → List (Peek T) → Type 0
  AreSamePeeks [] [] = Unit {0}
  AreSamePeeks [] (q ∷ qs) = ⊥
  AreSamePeeks (p ∷ ps) [] = ⊥
  AreSamePeeks (p ∷ ps) (q ∷ qs) = IsSamePeek p q × AreSamePeeks ps qs

  -- none of them stole anything
  abbrev pub StoleNothing : List (Peek T) → List (Peek T) → Type 0
  StoleNothing ps qs = map stolen qs ≡ map stolen ps

  -- one of them stole this item, and the others nothing
  pub record StoleOne (item : T) (ps qs : List (Peek T)) : Type 0 where
    pub before : List (List T)
    pub items : List T
    pub after : List (List T)
    pub old : map stolen ps ≡ before ++ items ∷ after
    pub new : map stolen qs ≡ before ++ (items ++ item ∷ []) ∷ after

  -- the hand took this item and nothing was stolen, or one peek stole it and the hand took nothing
  abbrev pub WasTaken : T → Hand T → Hand T → List (Peek T) → List (Peek T) → Type 0
  WasTaken item h k ps qs = ((taken k ≡ taken h ++ item ∷ []) × StoleNothing ps qs) ⊎ ((taken k ≡ taken h) × StoleOne item ps qs)
