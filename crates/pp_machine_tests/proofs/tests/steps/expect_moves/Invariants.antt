use Rattle.pp_machine_tests.proofs.tests.steps.expect_moves.Given as goal

abbrev pub ghosts-walk : goal.ghosts-walk
ghosts-walk g a = record { name = a.blank.name; parts = a.blank.parts }
