-- Where the walker of a goal's search stands.
use Rattle.std.specs.Prelude.{◌≡◌, ℕ, List}
use Rattle.pp_sld.specs.Goals.{Program, Config}
use Rattle.pp_walk.specs.Places.{Place}
use Rattle.pp_explore.specs.Standing.{StandsOver}

-- a walker of its own program that has taken this path stands over this root of the search
abbrev pub IsOver : Program → Config → Program → Place → List ℕ → Type 0
IsOver clauses root own p ks = (own ≡ clauses) × StandsOver own root p ks
