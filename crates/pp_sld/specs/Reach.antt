-- Where the choices of a path lead.
use Rattle.std.specs.Prelude.{◌≡◌, ℕ, zero, suc, List, [], ◌∷◌, Some}
use Rattle.std.specs.List.{slice_get}
use Rattle.pp_sld.specs.Goals.{Program, Config}
use Rattle.pp_sld.specs.Ways.{Way, Leads, one, choices, next}

-- so many built-ins were performed
abbrev pub Passes : Program → ℕ → Config → Config → Type 0
Passes clauses zero c d = c ≡ d
Passes clauses (suc n) c d = (w : Way) × (next clauses c ≡ one w) × (e : Config) × Leads w e × Passes clauses n e d

-- the alternative at this place of the choice leads to a configuration
abbrev pub Chosen : Program → Config → ℕ → Config → Type 0
Chosen clauses b k e = (ws : List Way) × (next clauses b ≡ choices ws) × (w : Way) × (slice_get ws k ≡ Some w) × Leads w e

-- the places of a path in turn, past built-ins
abbrev pub Reaches : Program → Config → List ℕ → Config → Type 0
Reaches clauses c [] d = c ≡ d
Reaches clauses c (k ∷ ks) d = (n : ℕ) × (b : Config) × Passes clauses n c b × (e : Config) × Chosen clauses b k e × Reaches clauses e ks d

-- the path leads to a configuration, and from it so many built-ins lead here
abbrev pub Stands : Program → Config → List ℕ → Config → Type 0
Stands clauses c ks e = (d : Config) × (n : ℕ) × Reaches clauses c ks d × Passes clauses n d e

-- one of the choices fails or isn't there
abbrev pub Misses : Program → Config → List ℕ → Type 0
Misses clauses c ks = (d : Config) → Reaches clauses c ks d → ⊥
