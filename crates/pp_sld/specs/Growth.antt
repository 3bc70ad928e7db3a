-- Deepening: what more depth may change of the answers and loose ends of a search.
use Rattle.std.specs.Prelude.{ℕ, ◌⊎◌, List}
use Rattle.pp_algebra.specs.Rows.{Row}
use Rattle.pp_algebra.specs.Covers.{IsIn, RowCovers}
use Rattle.pp_sld.specs.Goals.{Config}

-- the configuration with this depth left
abbrev pub at_depth : Config → ℕ → Config
at_depth c n = record { goals = c.goals; columns = c.columns; domains = c.domains; depth = n }

-- one of the rows covers it
abbrev pub CoveredByOne : Row → List Row → Type 0
CoveredByOne r qs = (q : Row) × IsIn q qs × RowCovers q r

-- answers A and loose ends C have become B and D: the answers stay, and each new answer, and each loose end, is covered by an old loose end
abbrev pub Grown : List Row → List Row → List Row → List Row → Type 0
Grown A C B D =
    ((r : Row) → IsIn r A → IsIn r B)
    × ((r : Row) → IsIn r B → IsIn r A ⊎ CoveredByOne r C)
    × ((r : Row) → IsIn r D → CoveredByOne r C)
