use Rattle.pp_explore.proofs.walker.Walker.go_to.Given as goal

abbrev pub ghosts-descend_again : goal.ghosts-descend_again
ghosts-descend_again g a = record { name = a.blank.name; parts = a.blank.parts }
