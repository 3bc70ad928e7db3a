use Rattle.pp_explore.proofs.walker.Walker.go_above.Given as goal

abbrev pub ghosts-pass_again : goal.ghosts-pass_again
ghosts-pass_again g a = record { name = a.blank.name; parts = a.blank.parts }
