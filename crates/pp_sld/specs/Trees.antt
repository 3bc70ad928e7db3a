-- Search trees, and which tree a configuration has.
use Rattle.std.specs.Prelude.{◌≡◌, ◌⊎◌, List, [], ◌∷◌}
use Rattle.pp_sld.specs.Goals.{Program, Config}
use Rattle.pp_sld.specs.Ways.{Way, Leads, IsDead, finished, left_loose, fails, one, choices, next}

-- the end of a branch is an answer, a loose end or a refusal; a built-in is passed; a choice has a child, or a failure, for each alternative
mutual
  pub data Search : Type 0 where
    answer : Config → Search
    loose : Config → Search
    refused : Search
    passed : Search → Search
    choice : Searches → Search

  pub data Searches : Type 0 where
    no_more : Searches
    child : Search → Searches → Searches
    failed : Searches → Searches

module _ (clauses : Program) where
  abbrev mutual
    pub IsSearch : Config → Search → Type 0
    IsSearch c (answer d) = (next clauses c ≡ finished) × (c ≡ d)
    IsSearch c (loose d) = (next clauses c ≡ left_loose) × (c ≡ d)
    IsSearch c refused = (next clauses c ≡ fails) ⊎ ((w : Way) × (next clauses c ≡ one w) × IsDead w)
    IsSearch c (passed t) = (w : Way) × (next clauses c ≡ one w) × (d : Config) × Leads w d × IsSearch d t
    IsSearch c (choice ts) = (ws : List Way) × (next clauses c ≡ choices ws) × AreSearches ws ts

    pub AreSearches : List Way → Searches → Type 0
    AreSearches ws no_more = ws ≡ []
    AreSearches ws (child t ts) = (w : Way) × (later : List Way) × (ws ≡ w ∷ later) × (d : Config) × Leads w d × IsSearch d t × AreSearches later ts
    AreSearches ws (failed ts) = (w : Way) × (later : List Way) × (ws ≡ w ∷ later) × IsDead w × AreSearches later ts
