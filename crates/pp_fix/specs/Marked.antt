-- The numbers of flags that are up.
use Rattle.std.specs.Prelude.{ℕ, suc, Bool, cond, List, [], ◌∷◌}

-- ascending, where the first flag has this number
abbrev pub marked : ℕ → List Bool → List ℕ
marked k [] = []
marked k (b ∷ bs) = cond b (k ∷ marked (suc k) bs) (marked (suc k) bs)
