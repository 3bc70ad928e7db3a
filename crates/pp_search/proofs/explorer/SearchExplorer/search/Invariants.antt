use Rattle.pp_search.proofs.explorer.SearchExplorer.search.Given as goal

abbrev pub ghosts-search_open : goal.ghosts-search_open
ghosts-search_open a = record { name = a.blank.name; parts = a.blank.parts }
